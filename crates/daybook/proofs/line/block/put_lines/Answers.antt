use Rattle.daybook.proofs.Listing.{one_more}
use Rattle.daybook.proofs.line.block.put_lines.Goals as goal

pub loop-line-preserved : goal.loop-line-preserved
loop-line-preserved g c =
    one_more _ _ g.L.Display.output _ c.args.lines.now c.loop-line.line-index c.line-item.result c.line-item.is c.loop-line-test.true c.loop-line.invariant c.in_ok-put_line.ensures.put
