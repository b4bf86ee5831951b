use Rattle.std.proofs.Common.{length}
use Rattle.plantlog.proofs.WeightsRead.{Sofar}
use Rattle.plantlog.proofs.field.FieldsLeft.weights.Given as goal

abbrev pub invariant-loop-weight : goal.invariant-loop-weight
invariant-loop-weight l = Sofar l.low (length l.fn.weights) l.fn.self.bytes.now l.weight-index l.weights l.self.bytes.now
