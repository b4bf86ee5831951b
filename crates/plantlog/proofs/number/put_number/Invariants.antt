use Rattle.plantlog.proofs.PutGroups.{Sofar}
use Rattle.plantlog.proofs.number.put_number.Given as goal

abbrev pub invariant-loop-group : goal.invariant-loop-group
invariant-loop-group l = Sofar l.n l.last l.group-index l.rest l.more
