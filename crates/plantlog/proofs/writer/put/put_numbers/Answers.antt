use Rattle.std.proofs.Common.{arith}
use Rattle.plantlog.proofs.PutNumbers.{next_fits, put_more}
use Rattle.plantlog.proofs.writer.put.put_numbers.Goals as goal

pub put_number-at-requires : goal.put_number-at-requires
put_number-at-requires c = next_fits _ _ _ _ _ c.requires c.loop-n.invariant (omega arith)

pub loop-n-preserved : goal.loop-n-preserved
loop-n-preserved c =
    put_more _ _ _ _ _ c.requires c.loop-n.invariant (omega arith) _ _ c.put_number-at.ensures.value c.put_number-at.ensures.after
