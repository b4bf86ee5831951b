use Rattle.std.proofs.Common.{refl, arith}
use Rattle.plantlog.proofs.TableNumbers.{listed_start, listed_more}
use Rattle.plantlog.proofs.writer.numbers.table_numbers.Goals as goal

pub loop-k-init : goal.loop-k-init
loop-k-init c = listed_start c.args.weights.now _ c.requires.room

pub loop-k-preserved : goal.loop-k-preserved
loop-k-preserved c = listed_more _ _ _ _ (omega arith) refl c.loop-k.invariant
