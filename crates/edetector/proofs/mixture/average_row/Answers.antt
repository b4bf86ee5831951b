-- Each of sixteen calls gives half the sum of two factors.
use Rattle.std.proofs.Common.{◌≡◌, ◌+◌, ◌/◌, length, get_or, refl, sym, ap₂, ◌∙◌, arith, rules}
use Rattle.std.proofs.lemmas.List.{length-map, ext_get_or}
use Rattle.edetector.specs.Tables.{factors_in}
use Rattle.edetector.specs.Bettors.{averages}
use Rattle.edetector.specs.Lemmas.Mixtures.{averages_at, averages_long}
use Rattle.edetector.proofs.Copying.{factor_at}
use Rattle.edetector.proofs.FromFn.{made_each}
use Rattle.edetector.proofs.mixture.average_row.Goals as goal

pub returns : goal.returns
returns c =
    let f = c.args.f in
    let g = c.args.g in
    let row = c.from_fn.result in
    let made = c.from_fn.ensures.items in
    let long-f : length (factors_in f) ≡ 16 = omega (arith, length-map f (λ e. e.0)) in
    let long-g : length (factors_in g) ≡ 16 = omega (arith, length-map g (λ e. e.0)) in
    let long-row : length (factors_in row) ≡ 16 = omega (arith, length-map row (λ e. e.0), made.long) in
    let same-length : length (factors_in f) ≡ length (factors_in g) = omega arith in
    let each =
    made_each _ (λ s. (s.0.now ≡ f) × (s.1.now ≡ g)) (λ k y. y.0 ≡ ((get_or f k (record { 0 = 0 })).0 + (get_or g k (record { 0 = 0 })).0) / 2)
    (λ s k y q same called. search rules) _ row 0 16 (refl, refl) made.each in
    ext_get_or 0 (factors_in row) (averages (factors_in f) (factors_in g)) (omega (arith, averages_long (factors_in f) (factors_in g) same-length))
    (λ k h. sym (factor_at row k) ∙ each k (record { 0 = 0 }) (omega arith) (omega arith) ∙ ap₂ (λ x y. (x + y) / 2) (factor_at f k) (factor_at g k) ∙ sym (averages_at (factors_in f) (factors_in g) same-length k))
