-- Numbers written one after the other.
use Rattle.std.proofs.Common.{◌≡◌, ℕ, ◌+◌, ◌-◌, ◌<◌, ◌≤◌, List, [], ◌++◌, length, get_or, take, drop, sym, ap, ◌∙◌, append_assoc, arith}
use borrow.Rule.Slice.PartMut.{put_mid}
use Rattle.std.proofs.lemmas.List.{append-nil, length-append, length-drop, take_at, drop_at, take_rest, drop-drop, drop_all}
use Rattle.plantlog.specs.Numbers.{number_bytes}
use Rattle.plantlog.specs.Format.{numbers_bytes}
use Rattle.plantlog.proofs.NumbersBytes.{bytes_more, size_more, size_parts}

-- i numbers are written, in so many bytes
pub record Put (ns old : List ℕ) (i at : ℕ) (out : List ℕ) : Type 0 where
  pub done : out ≡ numbers_bytes (take i ns) ++ drop at old
  pub long : at ≡ length (numbers_bytes (take i ns))

module _ (ns old : List ℕ) (i at : ℕ) (out : List ℕ) (fits : length (numbers_bytes ns) ≤ length old) (p : Put ns old i at out) where
  front : take at out ≡ numbers_bytes (take i ns)
  front = ap (take at) p.done ∙ take_at (numbers_bytes (take i ns)) (drop at old) at (sym p.long)

  back : drop at out ≡ drop at old
  back = ap (drop at) p.done ∙ drop_at (numbers_bytes (take i ns)) (drop at old) at (sym p.long)

  total : length out ≡ length old
  total =
      let a = length-append (numbers_bytes (take i ns)) (drop at old) in
      let b = length-drop at old in
      let e = ap length p.done in
      let s = size_parts ns i in
      omega (arith, a, b, e, s, p.long)

  module _ (more : i < length ns) where
    pub next_fits : length (number_bytes (get_or ns i 0)) ≤ length (take (length out - at) (drop at out))
    next_fits =
        let s = size_parts ns i in
        let m = size_more ns i more in
        let t = ap length (take_rest out at) in
        let d = length-drop at out in
        omega (arith, s, m, t, d, total, p.long)

    pub put_more : (r : ℕ) (put : List ℕ) → r ≡ length (number_bytes (get_or ns i 0)) → put ≡ number_bytes (get_or ns i 0) ++ drop (length (number_bytes (get_or ns i 0))) (take (length out - at) (drop at out)) → Put ns old (i + 1) (at + r) (put_mid at (length out - at) out put)
    put_more r put size e =
        let n = number_bytes (get_or ns i 0) in
        let a = numbers_bytes (take i ns) in
        let behind : drop (length n) (take (length out - at) (drop at out)) ≡ drop (at + length n) old = ap (drop (length n)) (take_rest out at ∙ back) ∙ drop-drop (length n) at old in
        let none : drop (length out - at) (drop at out) ≡ [] = drop_all (length out - at) (drop at out) (omega (arith, length-drop at out)) in
        let put_is : put ≡ n ++ drop (at + length n) old = e ∙ ap (λ l. n ++ l) behind in
        let grown = bytes_more ns i more in
        rw size (record {
          done =
              (λ j. front j ++ (put_is j ++ none j))
              ∙ ap (λ l. a ++ l) (append-nil (n ++ drop (at + length n) old))
              ∙ sym (append_assoc a n (drop (at + length n) old))
              ∙ ap (λ l. l ++ drop (at + length n) old) (sym grown);
          long = ap (λ k. k + length n) p.long ∙ sym (length-append a n) ∙ ap length (sym grown);
        })
