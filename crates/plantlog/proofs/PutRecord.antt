-- A record written at the front of a buffer.
use Rattle.std.proofs.Common.{◌≡◌, ℕ, suc, ◌+◌, ◌-◌, ◌≤◌, List, [], ◌∷◌, ◌++◌, length, take, drop, set, Ok, ap, ◌∙◌, arith}
use borrow.Rule.Slice.PartMut.{put_mid}
use Rattle.std.proofs.lemmas.List.{append-nil, take_rest, drop_all}
use Rattle.std.proofs.lemmas.Bool.{le-leb}
use Rattle.plantlog.specs.Format.{framed}
use Rattle.plantlog.specs.Written.{room_judged}

put_answer_at : (long size room : ℕ) → size ≡ long → size ≤ room → Ok size ≡ room_judged long room
put_answer_at long size room e h = let a = le-leb long room (omega (arith, e)) in rw a (ap Ok e)

pub put_answer : (kind : ℕ) (bytes old : List ℕ) (size : ℕ) → size ≡ length bytes + 1 → size + 1 ≤ length old → Ok (size + 1) ≡ room_judged (length (framed (kind ∷ bytes))) (length old)
put_answer kind bytes old size is fits = put_answer_at (length (framed (kind ∷ bytes))) (size + 1) (length old) (omega (arith, is)) fits

-- the two front bytes set, and the numbers put behind them
pub put_after : (kind : ℕ) (bytes old : List ℕ) (size : ℕ) → size ≡ length bytes + 1 → size + 1 ≤ length old → (put : List ℕ) → put ≡ bytes ++ drop (length bytes) (take (length (set (set old 0 size) 1 kind) - 2) (drop 2 (set (set old 0 size) 1 kind))) → put_mid 2 (length (set (set old 0 size) 1 kind) - 2) (set (set old 0 size) 1 kind) put ≡ framed (kind ∷ bytes) ++ drop (size + 1) old
put_after kind bytes [] size is fits put e = absurd (omega arith)
put_after kind bytes (x ∷ []) size is fits put e = absurd (omega (arith, is))
put_after kind bytes (x ∷ y ∷ rest) size is fits put e =
    let part : take (length (size ∷ kind ∷ rest) - 2) rest ≡ rest = take_rest (size ∷ kind ∷ rest) 2 in
    let none : drop (length (size ∷ kind ∷ rest) - 2) rest ≡ [] = drop_all (length (size ∷ kind ∷ rest) - 2) rest (omega arith) in
    let put_is : put ≡ bytes ++ drop (length bytes) rest = e ∙ ap (λ l. bytes ++ drop (length bytes) l) part in
    let head : size ≡ suc (length bytes) = omega (arith, is) in
    let behind : drop (length bytes) rest ≡ drop (size + 1) (x ∷ y ∷ rest) = let k : suc (suc (length bytes)) ≡ size + 1 = omega (arith, is) in ap (λ j. drop j (x ∷ y ∷ rest)) k in
    (λ j. head j ∷ kind ∷ (put_is j ++ none j))
    ∙ ap (λ l. suc (length bytes) ∷ kind ∷ l) (append-nil (bytes ++ drop (length bytes) rest) ∙ ap (λ l. bytes ++ l) behind)
