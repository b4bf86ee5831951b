use Rattle.std.proofs.Common.{arith}
use Rattle.plantlog.proofs.Groups.{groups_from_zeros, bytes_few}
use Rattle.plantlog.proofs.number.group_count.Goals as goal

pub returns : goal.returns
returns c =
    let groups = groups_from_zeros c.args.n (omega arith) in
    record { value = omega (arith, groups); few = omega (arith, groups, bytes_few c.args.n) }
