use Rattle.std.proofs.Common.{refl, sym, ap, ◌∙◌}
use Rattle.edetector.specs.Bettors.{same_table}
use Rattle.edetector.specs.Lemmas.Mixtures.{same_from}
use Rattle.edetector.proofs.SameTables.{same_self}
use Rattle.edetector.proofs.mixture.Mixture.check.Goals as goal

pub returns-then-self-clause-equal : goal.returns-then-self-clause-equal
returns-then-self-clause-equal g c =
    let alike = ap (λ p. same_table (g.F.Bettor.meaning p.first).nulls (g.S.Bettor.meaning p.second).nulls) (sym c.self.view_is) ∙ sym c.self.invariant ∙ c.if-self.true in
    (λ _. same_from _ _ alike, λ _. refl)

pub returns-else-self-clause-equal : goal.returns-else-self-clause-equal
returns-else-self-clause-equal g c =
    let apart = ap (λ p. same_table (g.F.Bettor.meaning p.first).nulls (g.S.Bettor.meaning p.second).nulls) (sym c.self.view_is) ∙ sym c.self.invariant ∙ c.if-self.false in
    let ws = (g.F.Bettor.meaning c.args.self.now.first).nulls in
    (λ e. absurd cc, λ same. sym apart ∙ ap (same_table ws) (sym same) ∙ same_self ws)
