use Rattle.std.proofs.Common.{rules}
use Rattle.daybook.proofs.LastKey.{entered_rises}
use Rattle.daybook.proofs.book.Book.enter.Goals as goal

pub invariant_of-self-clause-rising : goal.invariant_of-self-clause-rising
invariant_of-self-clause-rising g c =
    entered_rises g.E.Keyed.key c.args.self.now.places.now c.args.self.now.used c.args.e (search rules) c.args.self.now.rising (search rules)
