use Rattle.plantlog.proofs.PutNumbers.{Put}
use Rattle.plantlog.proofs.writer.put.put_numbers.Given as goal

abbrev pub invariant-loop-n : goal.invariant-loop-n
invariant-loop-n l = Put l.numbers l.initial.out l.n-index l.at l.out
