use Rattle.std.proofs.Common.{rules}
use Rattle.daybook.specs.Books.{entries_of}
use Rattle.daybook.proofs.LastKey.{above_last}
use Rattle.daybook.proofs.book.Book.may_follow.Goals as goal

pub returns : goal.returns
returns g c = above_last g.E.Keyed.key c.last.result (entries_of c.args.self.now) (g.E.Keyed.key c.args.e.now) c.is_none_or.result (search rules) c.is_none_or.ensures (λ r p. search rules)
