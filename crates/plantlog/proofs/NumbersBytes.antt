-- Numbers one after the other.
use Rattle.std.proofs.Common.{◌≡◌, ℕ, ◌+◌, ◌*◌, ◌<◌, ◌≤◌, List, [], ◌∷◌, ◌++◌, length, get_or, take, drop, sum_by, sym, refl, ap, ◌∙◌, append_assoc, arith}
use Rattle.std.proofs.lemmas.List.{append-nil, length-append, take-append-drop, take_more, at_drop_more}
use Rattle.std.proofs.lemmas.List.Recursion.{is_sum_by}
use Rattle.plantlog.specs.Numbers.{number_bytes}
use Rattle.plantlog.specs.Format.{numbers_bytes}
use Rattle.plantlog.proofs.Groups.{bytes_few}

pub bytes_append : (xs ys : List ℕ) → numbers_bytes (xs ++ ys) ≡ numbers_bytes xs ++ numbers_bytes ys
bytes_append [] ys = refl
bytes_append (x ∷ xs) ys = ap (λ l. number_bytes x ++ l) (bytes_append xs ys) ∙ sym (append_assoc (number_bytes x) (numbers_bytes xs) (numbers_bytes ys))

pub bytes_more : (ns : List ℕ) (i : ℕ) → i < length ns → numbers_bytes (take (i + 1) ns) ≡ numbers_bytes (take i ns) ++ number_bytes (get_or ns i 0)
bytes_more ns i h =
    ap numbers_bytes (take_more ns i 0 h)
    ∙ bytes_append (take i ns) (get_or ns i 0 ∷ [])
    ∙ ap (λ l. numbers_bytes (take i ns) ++ l) (append-nil (number_bytes (get_or ns i 0)))

-- one number more, of those that are still to come
pub size_more : (ns : List ℕ) (i : ℕ) → i < length ns → length (numbers_bytes (drop i ns)) ≡ length (number_bytes (get_or ns i 0)) + length (numbers_bytes (drop (i + 1) ns))
size_more ns i h =
    at_drop_more (λ l. length (numbers_bytes l)) ns i 0 h
    ∙ length-append (number_bytes (get_or ns i 0)) (numbers_bytes (drop (i + 1) ns))

pub size_parts : (ns : List ℕ) (i : ℕ) → length (numbers_bytes ns) ≡ length (numbers_bytes (take i ns)) + length (numbers_bytes (drop i ns))
size_parts ns i =
    ap (λ l. length (numbers_bytes l)) (sym (take-append-drop i ns))
    ∙ ap length (bytes_append (take i ns) (drop i ns))
    ∙ length-append (numbers_bytes (take i ns)) (numbers_bytes (drop i ns))

-- the numbers take as many bytes as each of them, summed
pub size_sum : (ns : List ℕ) → sum_by (λ n. length (number_bytes n)) ns ≡ length (numbers_bytes ns)
size_sum ns =
    sym (is_sum_by (λ l. length (numbers_bytes l)) (λ n. length (number_bytes n)) refl (λ n ns. length-append (number_bytes n) (numbers_bytes ns)) ns)

pub size_few : (ns : List ℕ) → length (numbers_bytes ns) ≤ 5 * length ns
size_few [] = omega arith
size_few (n ∷ ns) = omega (arith, bytes_few n, size_few ns, length-append (number_bytes n) (numbers_bytes ns))
