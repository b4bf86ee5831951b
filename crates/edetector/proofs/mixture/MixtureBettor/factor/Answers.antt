use Rattle.std.proofs.Common.{◌+◌, ◌/◌, [], sym, ◌∙◌, ap₂}
use Rattle.edetector.proofs.MixedReads.{mixed_at}
use Rattle.edetector.proofs.mixture.MixtureBettor.factor.Goals as goal

pub returns : goal.returns
returns g c =
    let m = c.self.inside in
    let same = sym c.self.invariant ∙ c.if-not-self.false in
    rw (← c.self.view_is) (c.average.ensures ∙ ap₂ (λ x y. (x + y) / 2) c.factor-f.ensures c.factor.ensures
    ∙ sym (mixed_at _ _ _ _ ((g.met.F.Bettor.law m.first).factors []) ((g.met.S.Bettor.law m.second).factors []) c.args.class same))
