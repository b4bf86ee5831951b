-- The body in front of some bytes.
use Rattle.std.proofs.Common.{◌≡◌, ℕ, ◌+◌, ◌-◌, ◌<◌, ◌≤◌, ◌⊎◌, List, [], ◌∷◌, length, get_or, take, drop, Ok, Err, refl, ap, ◌∙◌, add-one, arith}
use Rattle.std.specs.List.{slice_range}
use Rattle.std.proofs.lemmas.List.{take_rest, length-take-le}
use Rattle.std.proofs.lemmas.Slice.{between_from_start}
use Rattle.std.proofs.lemmas.Bool.{le-leb, lt-leb}
use Rattle.plantlog.specs.declared.fault.FrontFault.TheVariants.{NoneLeft, LengthByte, Truncated}
use Rattle.plantlog.specs.FirstRecord.{front}
use Rattle.plantlog.proofs.Limits.{inside, outside}

-- the bytes behind the length byte, as a pattern gives them
abbrev behind : List ℕ → List ℕ
behind xs = take (length xs - 1) (drop 1 xs)

pub none_in_front : (xs : List ℕ) → length xs < 1 → Err NoneLeft ≡ front xs
unfolding front
none_in_front [] none = refl
none_in_front (x ∷ xs) none = absurd (omega arith)

pub bad_length : (xs : List ℕ) → 0 < length xs → (get_or xs 0 0 < 1) ⊎ (63 < get_or xs 0 0) → Err LengthByte ≡ front xs
unfolding front
bad_length [] some out = absurd (omega arith)
bad_length (l ∷ xs) some out = let a = outside 1 63 l out in rw a refl

pub cut_short : (xs : List ℕ) → 0 < length xs → 1 ≤ get_or xs 0 0 → get_or xs 0 0 ≤ 63 → length (behind xs) < get_or xs 0 0 → Err Truncated ≡ front xs
unfolding front
cut_short [] some low high cut = absurd (omega arith)
cut_short (l ∷ xs) some low high cut =
    let a = inside 1 63 l low high in
    let t : length (behind (l ∷ xs)) ≡ length xs = ap length (take_rest (l ∷ xs) 1) in
    let b = lt-leb l (length xs) (omega (arith, t)) in
    rw (a, b) refl

pub whole : (xs body : List ℕ) → 0 < length xs → 1 ≤ get_or xs 0 0 → get_or xs 0 0 ≤ 63 → get_or xs 0 0 ≤ length (behind xs) → body ≡ slice_range (behind xs) 0 (get_or xs 0 0) → Ok (body, drop (length body + 1) xs) ≡ front xs
unfolding front
whole [] body some low high fits is = absurd (omega arith)
whole (l ∷ xs) body some low high fits is =
    let t : behind (l ∷ xs) ≡ xs = take_rest (l ∷ xs) 1 in
    let h : l ≤ length xs = omega (arith, ap length t) in
    let a = inside 1 63 l low high in
    let b = le-leb l (length xs) h in
    let front : body ≡ take l xs = is ∙ between_from_start (behind (l ∷ xs)) l ∙ ap (take l) t in
    let rest : drop (length body + 1) (l ∷ xs) ≡ drop l xs = ap (λ j. drop j (l ∷ xs)) (ap (λ b. length b + 1) front ∙ ap (λ j. j + 1) (length-take-le l xs h) ∙ add-one l) in
    rw (a, b) (λ j. Ok (front j, rest j))
