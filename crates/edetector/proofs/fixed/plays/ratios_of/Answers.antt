-- Each of sixteen calls gives a likelihood ratio, and there is none past them.
use Rattle.std.proofs.Common.{◌≡◌, [], get_or, refl, arith, rules}
use Rattle.std.specs.List.{sum}
use Rattle.edetector.specs.Bettors.{fixed_meaning}
use Rattle.edetector.specs.Lemmas.Limits.{table_limits}
use Rattle.edetector.specs.Lemmas.Ratios.{ratios_long}
use Rattle.edetector.proofs.Copying.{row_padded}
use Rattle.edetector.proofs.FromFn.{made_each}
use Rattle.edetector.proofs.fixed.plays.ratios_of.Goals as goal

pub returns : goal.returns
returns c =
    let null = c.args.null.now in
    let alternative = c.args.alternative.now in
    let row = (fixed_meaning null alternative).strategy [] in
    let made = c.from_fn.ensures.items in
    row_padded c.from_fn.result row made.long (omega (arith, (table_limits 1 null c.requires.null).few, ratios_long (sum null) (sum alternative) null alternative c.requires.same_classes))
    (made_each _ (λ f. (f.0.now ≡ null) × (f.1.now ≡ alternative)) (λ k y. y.0 ≡ get_or row k 0) (λ f k y q same called. search rules) _ c.from_fn.result 0 16 (refl, refl) made.each)
