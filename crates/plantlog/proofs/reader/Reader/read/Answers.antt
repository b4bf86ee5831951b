use Rattle.std.proofs.Common.{length, rules}
use Rattle.plantlog.specs.Views.{record_said}
use Rattle.plantlog.proofs.LeftAfter.{left_read}
use Rattle.plantlog.proofs.reader.Reader.read.Goals as goal

pub returns-clause-left : goal.returns-clause-left
returns-clause-left c =
    left_read c.args.self.now c.next.new.self c.next.ensures.same record_said (length c.args.buf.now) c.next.result (search rules) c.next.ensures.moved
