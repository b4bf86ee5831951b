-- Rows of sixteen factors, read place by place.
use Rattle.std.proofs.Common.{◌≡◌, ℕ, zero, suc, ◌+◌, ◌-◌, ◌/◌, ◌<◌, ◌≤◌, List, [], ◌∷◌, ◌++◌, length, replicate, get_or, slice_index_or, sym, refl, ap, ◌∙◌, ⊎_elim, arith, length-append}
use Rattle.std.proofs.lemmas.List.{length-map, length-replicate, get_or_past, get_or_append_left, get_or-append_right, get_or-replicate, ext_get_or}
use Rattle.std.proofs.lemmas.Bool.{cases_lt}
use Rattle.edetector.specs.declared.units.Factor.{Factor}
use Rattle.edetector.specs.Tables.{factors_in, padded_row}
use Rattle.edetector.specs.Bettors.{averages}
use Rattle.edetector.specs.Lemmas.Mixtures.{averages_long}
use Rattle.edetector.proofs.Lists.{number_at}

zeros_at : (n k : ℕ) → get_or (replicate {A = ℕ} n 0) k 0 ≡ 0
zeros_at n k =
    ⊎_elim (λ h. get_or-replicate n k 0 0 h) (λ h. get_or_past (replicate {A = ℕ} n 0) k 0 (omega (arith, h, length-replicate {A = ℕ} n 0))) (cases_lt k n)

-- a factor read at a place
pub factor_at : (row : List Factor) (k : ℕ) → (get_or row k (record { 0 = 0 })).0 ≡ get_or (factors_in row) k 0
factor_at row k = number_at (λ e. e.0) (record { 0 = 0 }) refl row k

-- a row with zeros behind it, read at a place
pub padded_at : (es : List ℕ) (k : ℕ) → get_or (padded_row es) k 0 ≡ get_or es k 0
padded_at es k =
    ⊎_elim (λ h. get_or_append_left es (replicate (16 - length es) 0) 0 k h)
    (λ h. get_or-append_right es (replicate (16 - length es) 0) (length es) k 0 refl h ∙ zeros_at (16 - length es) (k - length es) ∙ sym (get_or_past es k 0 h))
    (cases_lt k (length es))

-- a row of sixteen whose factors are those of es, and none past them
pub row_padded : (row : List Factor) (es : List ℕ) → length row ≡ 16 → length es ≤ 16 → ((k : ℕ) (d : Factor) → 0 ≤ k → k < 16 → (slice_index_or row k d).0 ≡ get_or es k 0) → factors_in row ≡ padded_row es
row_padded row es long few each =
    let numbers = length-map row (λ e. e.0) in
    let wide : length (padded_row es) ≡ 16 = omega (arith, length-append es (replicate (16 - length es) 0), length-replicate {A = ℕ} (16 - length es) 0, few) in
    ext_get_or 0 (factors_in row) (padded_row es) (omega (arith, numbers, wide, long))
    (λ k h. sym (factor_at row k) ∙ each k (record { 0 = 0 }) (omega arith) (omega (arith, h, numbers, long)) ∙ sym (padded_at es k))

-- half the sum of two rows that have zeros behind them
averages_zeros : (n : ℕ) → averages (replicate n 0) (replicate n 0) ≡ replicate n 0
averages_zeros zero = refl
averages_zeros (suc n) = ap (λ l. 0 ∷ l) (averages_zeros n)

averages_behind : (n : ℕ) (f g : List ℕ) → length f ≡ length g → averages (f ++ replicate n 0) (g ++ replicate n 0) ≡ averages f g ++ replicate n 0
averages_behind n [] [] e = averages_zeros n
averages_behind n [] (y ∷ g) e = absurd (omega arith)
averages_behind n (x ∷ f) [] e = absurd (omega arith)
averages_behind n (x ∷ f) (y ∷ g) e = ap (λ l. (x + y) / 2 ∷ l) (averages_behind n f g (omega arith))

pub padded_averages : (f g : List ℕ) → length f ≡ length g → averages (padded_row f) (padded_row g) ≡ padded_row (averages f g)
padded_averages f g e =
    ap (λ n. averages (padded_row f) (g ++ replicate (16 - n) 0)) (sym e)
    ∙ averages_behind (16 - length f) f g e
    ∙ ap (λ n. averages f g ++ replicate (16 - n) 0) (sym (averages_long f g e))
