use Rattle.std.proofs.Common.{arith, rules}
use Rattle.plantlog.specs.Numbers.{first_number}
use Rattle.plantlog.proofs.NumberLaws.{examples}
use Rattle.plantlog.proofs.ReadGroups.{none, one_group, two_groups}
use Rattle.plantlog.proofs.NumberReads.{reads, reads_only}
use Rattle.plantlog.proofs.number.read_number.Goals as goal

pub returns-in_default : goal.returns-in_default
returns-in_default c =
    let bytes = c.args.bytes.now in
    let e = none bytes (search rules) in
    record { value = e; read = reads bytes _ (λ i. omega (arith, c.type_inv.bytes i)) e; only = reads_only bytes _ e; figures = examples }

pub returns-then-first-lt128 : goal.returns-then-first-lt128
returns-then-first-lt128 c =
    let bytes = c.args.bytes.now in
    let e = one_group bytes c.from.result (search rules) (search rules) (search rules) in
    record { value = e; read = reads bytes _ (λ i. omega (arith, c.type_inv.bytes i)) e; only = reads_only bytes _ e; figures = examples }

pub returns-then-second-lt128 : goal.returns-then-second-lt128
returns-then-second-lt128 c =
    let bytes = c.args.bytes.now in
    let e =
    two_groups bytes c.from-then-second-lt128.result c.from-then-second-lt128-2.result
    (search rules) (search rules) (search rules) (search rules) (search rules) (search rules) (search rules) in
    record { value = e; read = reads bytes _ (λ i. omega (arith, c.type_inv.bytes i)) e; only = reads_only bytes _ e; figures = examples }

pub returns : goal.returns
unfolding first_number
returns c =
    let bytes = c.args.bytes.now in
    let e = c.read_groups.ensures.value in
    record { value = e; read = reads bytes _ (λ i. omega (arith, c.type_inv.bytes i)) e; only = reads_only bytes _ e; figures = examples }
