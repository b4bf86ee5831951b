-- No record that the writer accepts is longer than a length byte may say.
use Rattle.std.proofs.Common.{◌≡◌, ℕ, suc, ◌+◌, ◌*◌, ◌/◌, ◌<◌, ◌≤◌, true, List, [], ◌∷◌, length, None, ap, ⊎_elim, arith}
use Rattle.std.proofs.lemmas.List.{length-append}
use Rattle.std.proofs.lemmas.Bool.{lt-ltb, le-ltb, cases_lt, and_parts}
use Rattle.edetector.specs.Tables.{fewest_classes, most_classes, most_weight, is_within, weights_within}
use Rattle.plantlog.specs.Numbers.{groups, number_bytes}
use Rattle.plantlog.specs.declared.record.RecordKind.{RecordKind}
use Rattle.plantlog.specs.declared.record.RecordKind.TheVariants.{Table, Setup, Alternative, Count, Rearm, End}
use Rattle.plantlog.specs.Layouts.{Field, AnyNumber, NumberWithin, TableWeights, Said, AllSaid, layout, field_numbers, all_numbers, field_fault, first_fault}
use Rattle.plantlog.specs.Format.{Fields, kind_of, said_in, numbers_bytes, body, fields_fault}
use Rattle.plantlog.proofs.Limits.{within}
use Rattle.plantlog.proofs.Groups.{bytes_few}
use Rattle.plantlog.proofs.NumbersBytes.{bytes_append}
use Rattle.plantlog.proofs.WriteFacts.{Unbroken, unbroken, both_none}

one_less : (m n k : ℕ) → length (groups m (n / 128)) ≤ k → length (groups (suc m) n) ≤ suc k
one_less m n k h =
    ⊎_elim
    (λ small. let a = lt-ltb n 128 small in rw a (omega arith))
    (λ big. let a = le-ltb n 128 big in rw a (omega arith))
    (cases_lt n 128)

one_group : (m n : ℕ) → n < 128 → length (groups (suc m) n) ≤ 1
one_group m n h = let a = lt-ltb n 128 h in rw a (omega arith)

-- a weight takes at most three groups
weight_few : (n : ℕ) → n ≤ most_weight → length (number_bytes n) ≤ 3
unfolding number_bytes
weight_few n h = one_less 3 n 2 (one_less 2 (n / 128) 1 (one_group 1 (n / 128 / 128) (omega arith)))

weights_few : (low : ℕ) (ws : List ℕ) → weights_within low ws ≡ true → length (numbers_bytes ws) ≤ 3 * length ws
weights_few low [] e = omega arith
weights_few low (w ∷ ws) e =
    let p = and_parts (is_within low most_weight w) (weights_within low ws) e in
    let here = weight_few w (within low most_weight w p.0).1 in
    let rest = weights_few low ws p.1 in
    let sum = length-append (number_bytes w) (numbers_bytes ws) in
    omega (arith, here, rest, sum)

table_few : (low : ℕ) (ws : List ℕ) → Unbroken low ws → length (numbers_bytes (length ws ∷ ws)) ≤ 53
table_few low ws u =
    let sum = length-append (number_bytes (length ws)) (numbers_bytes ws) in
    let few = (within fewest_classes most_classes (length ws) u.classes).1 in
    omega (arith, sum, few, bytes_few (length ws), weights_few low ws u.each)

-- the most bytes that a field takes
abbrev room : Field → ℕ
room AnyNumber = 5
room (NumberWithin low high fault) = 5
room (TableWeights least) = 53

abbrev all_room : List Field → ℕ
all_room [] = 0
all_room (f ∷ fs) = room f + all_room fs

one_few : (n : ℕ) → length (numbers_bytes (n ∷ [])) ≤ 5
one_few n = let sum = length-append (number_bytes n) [] in omega (arith, sum, bytes_few n)

field_few : (f : Field) (said : Said f) → field_fault f said ≡ None → length (numbers_bytes (field_numbers f said)) ≤ room f
field_few AnyNumber n e = one_few n
field_few (NumberWithin low high fault) n e = one_few n
field_few (TableWeights least) ws e = table_few least ws (unbroken least ws e)

fields_few : (fs : List Field) (said : AllSaid fs) → first_fault fs said ≡ None → length (numbers_bytes (all_numbers fs said)) ≤ all_room fs
fields_few [] said e = omega arith
fields_few (f ∷ fs) said e =
    let p = both_none (field_fault f said.0) (first_fault fs said.1) e in
    let here = field_few f said.0 p.0 in
    let ih = fields_few fs said.1 p.1 in
    let split = ap length (bytes_append (field_numbers f said.0) (all_numbers fs said.1)) in
    let sum = length-append (numbers_bytes (field_numbers f said.0)) (numbers_bytes (all_numbers fs said.1)) in
    omega (arith, here, ih, split, sum)

layout_few : (k : RecordKind) → all_room (layout k) ≤ 62
layout_few Table = omega arith
layout_few Setup = omega arith
layout_few Alternative = omega arith
layout_few Count = omega arith
layout_few Rearm = omega arith
layout_few End = omega arith

pub body_few : (f : Fields) → fields_fault f ≡ None → length (body f) ≤ 63
body_few f e = omega (arith, fields_few (layout (kind_of f)) (said_in f) e, layout_few (kind_of f))
