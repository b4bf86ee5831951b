use Rattle.std.proofs.Common.{arith}
use Rattle.std.proofs.lemmas.Result.{err_from_is_err_and}
use Rattle.plantlog.proofs.WeightsRead.{sofar_more, refused}
use Rattle.plantlog.proofs.field.FieldsLeft.weights.Goals as goal

pub returns-in_err-within : goal.returns-in_err-within
returns-in_err-within c =
    let p = err_from_is_err_and c.from_residual.result c.from_residual.ensures.1 in
    rw (p.1, p.2) (refused _ _ _ _ _ _ (omega arith) c.loop-weight.invariant _ c.in_err-within.ensures.value)

pub loop-weight-preserved : goal.loop-weight-preserved
loop-weight-preserved c = sofar_more _ _ _ _ _ _ (omega arith) c.loop-weight.invariant _ _ c.in_ok-within.ensures.value
