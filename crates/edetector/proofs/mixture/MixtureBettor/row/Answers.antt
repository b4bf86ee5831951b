use Rattle.std.proofs.Common.{cond, [], sym, ◌∙◌, ap, ap₂}
use Rattle.edetector.specs.Bettors.{averages}
use Rattle.edetector.specs.Tables.{padded_row}
use Rattle.edetector.specs.Lemmas.Mixtures.{same_length}
use Rattle.edetector.proofs.Copying.{padded_averages}
use Rattle.edetector.proofs.mixture.MixtureBettor.row.Goals as goal

pub returns-then-self : goal.returns-then-self
returns-then-self g c =
    let m = c.self.inside in
    let f = g.F.Bettor.meaning m.first in
    let s = g.S.Bettor.meaning m.second in
    let same = sym c.self.invariant ∙ c.if-self.true in
    let same-length = same_length f.nulls s.nulls (f.strategy []) (s.strategy []) ((g.met.F.Bettor.law m.first).factors []) ((g.met.S.Bettor.law m.second).factors []) same in
    rw (← c.self.view_is) (c.average_row.ensures ∙ ap₂ averages c.row-row.ensures c.row.ensures
    ∙ padded_averages (f.strategy []) (s.strategy []) same-length
    ∙ sym (ap (λ b. padded_row (cond b (averages (f.strategy []) (s.strategy [])) (f.strategy []))) same))
