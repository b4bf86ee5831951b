use Rattle.std.proofs.Common.{length, rules}
use Rattle.plantlog.proofs.LeftAfter.{left_counted}
use Rattle.plantlog.proofs.reader.Reader.next_count.Goals as goal

pub returns-clause-left : goal.returns-clause-left
returns-clause-left c =
    left_counted c.args.self.now c.next.new.self c.next.ensures.same (length c.args.buf.now) c.next.result (search rules) c.next.ensures.moved
