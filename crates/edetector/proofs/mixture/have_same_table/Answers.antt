use Rattle.std.proofs.Common.{◌≡◌, ◌≢◌, get_or, refl, sym, ◌∙◌, arith, rules}
use Rattle.std.proofs.lemmas.Iterator.{cases_from_all, YieldsList-from_range}
use borrow.Author.Tests.{tests}
use Rattle.edetector.proofs.SameTables.{apart_long, compared}
use Rattle.edetector.proofs.mixture.have_same_table.Goals as goal

pub returns-then-n-classes : goal.returns-then-n-classes
returns-then-n-classes g c =
    sym (apart_long (g.F.Bettor.meaning c.args.first.now).nulls (g.S.Bettor.meaning c.args.second.now).nulls (λ e. c.if-n-classes.true (c.classes-n.ensures ∙ e ∙ sym c.classes.ensures)))

pub returns : goal.returns
returns g c =
    let xs = (g.F.Bettor.meaning c.args.first.now).nulls in
    let ys = (g.S.Bettor.meaning c.args.second.now).nulls in
    let n = c.classes-n.result in
    compared xs ys n (sym c.classes-n.ensures) (sym (c.if-n-classes.false ∙ c.classes.ensures)) c.all.result
    (cases_from_all _ _ _ (λ k. get_or xs k 0 ≡ get_or ys k 0) (λ k. get_or xs k 0 ≢ get_or ys k 0) c.all.ensures.ran (YieldsList-from_range 0 n n refl (omega arith))
    (λ k q called. search (rules, tests)) (λ k q called. search (rules, tests)))
