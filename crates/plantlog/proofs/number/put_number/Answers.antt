use Rattle.std.proofs.Common.{◌-◌, arith}
use Rattle.std.proofs.lemmas.List.{length-take-le}
use Rattle.plantlog.proofs.Groups.{bytes_some}
use Rattle.plantlog.proofs.PutGroups.{sofar_start, sofar_more, sofar_low, sofar_done}
use Rattle.plantlog.proofs.number.put_number.Goals as goal

pub overflow_sub-last : goal.overflow_sub-last
overflow_sub-last c = omega (arith, bytes_some c.args.n)

pub loop-group-init : goal.loop-group-init
loop-group-init c = sofar_start c.args.n _ _ (omega arith) (omega arith)

pub loop-group-preserved : goal.loop-group-preserved
loop-group-preserved c =
    let long = length-take-le (c.group_count-last.result - 1) c.args.out.now (omega arith) in
    sofar_more _ _ _ _ _ (omega arith) (omega arith) (omega arith) c.loop-group.invariant

pub overflow_cast-out : goal.overflow_cast-out
overflow_cast-out c =
    let long = length-take-le (c.group_count-last.result - 1) c.args.out.now (omega arith) in
    let low = sofar_low _ _ c.loop-group.group-index _ _ (omega arith) c.loop-group.invariant in
    omega (arith, low)

pub returns : goal.returns
returns c =
    let some = bytes_some c.args.n in
    let long = length-take-le (c.group_count-last.result - 1) c.args.out.now (omega arith) in
    record {
      value = omega (arith, some);
      after = sofar_done _ _ c.loop-group.group-index _ _ _ (omega arith) (omega (arith, some)) (omega arith) (omega arith) c.loop-group.invariant;
    }
