use Rattle.plantlog.proofs.TableNumbers.{Listed}
use Rattle.plantlog.proofs.writer.numbers.table_numbers.Given as goal

abbrev pub invariant-loop-k : goal.invariant-loop-k
invariant-loop-k l = Listed l.weights l.k l.numbers
