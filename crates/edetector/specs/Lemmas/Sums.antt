-- Sums over the classes of a table.
use Rattle.std.specs.Prelude.{◌≡◌, ℕ, suc, ◌+◌, ◌*◌, ◌≤◌, List, [], ◌∷◌, length, sum, sum_by, zip, slice_index, refl}
use Rattle.std.proofs.Common.{sym, ap, ◌∙◌, add-zero, mul-add, mul_left_comm, mul-zero, mul-le-mul_left, arith}
use Rattle.std.proofs.lemmas.List.Sums.{sum_by-cons}
use Rattle.edetector.specs.Tables.{unit_factor, IsFair}

pub sum_cons : (w : ℕ) (ws : List ℕ) → sum (w ∷ ws) ≡ w + sum ws
sum_cons w ws = sum_by-cons (λ x. x) w ws

-- the sum of all weight × f, where ws has the weights of the classes from i on
abbrev pub weigh : List ℕ → ℕ → (ℕ → ℕ) → ℕ
weigh [] i f = 0
weigh (w ∷ ws) i f = w * f i + weigh ws (suc i) f

pub weigh_mono : (ws : List ℕ) (i : ℕ) (f g : ℕ → ℕ) → ((k : ℕ) → f k ≤ g k) → weigh ws i f ≤ weigh ws i g
weigh_mono [] i f g h = omega arith
weigh_mono (w ∷ ws) i f g h = omega (arith, mul-le-mul_left w (h i), weigh_mono ws (suc i) f g h)

pub weigh_add : (ws : List ℕ) (i : ℕ) (f g : ℕ → ℕ) → weigh ws i (λ k. f k + g k) ≡ weigh ws i f + weigh ws i g
weigh_add [] i f g = refl
weigh_add (w ∷ ws) i f g = omega (arith, mul-add w (f i) (g i), weigh_add ws (suc i) f g)

pub weigh_scale : (ws : List ℕ) (i c : ℕ) (f : ℕ → ℕ) → weigh ws i (λ k. c * f k) ≡ c * weigh ws i f
weigh_scale [] i c f = sym (mul-zero c)
weigh_scale (w ∷ ws) i c f =
    omega (arith, mul_left_comm w c (f i), mul-add c (w * f i) (weigh ws (suc i) f), weigh_scale ws (suc i) c f)

-- the sum over a row is that over the classes
zip_weighs : (ws row : List ℕ) (i : ℕ) (f : ℕ → ℕ) → length row ≡ length ws → ((j : ℕ) → f (i + j) ≡ slice_index row j) → sum_by (λ p. p.0 * p.1) (zip ws row) ≡ weigh ws i f
zip_weighs [] row i f e at = refl
zip_weighs (w ∷ ws) [] i f e at = absurd (omega arith)
zip_weighs (w ∷ ws) (x ∷ row) i f e at =
    let here : f i ≡ x = ap f (sym (add-zero i)) ∙ at 0 in
    let rest = zip_weighs ws row (suc i) f (omega arith) (λ j. ap f (omega arith) ∙ at (suc j)) in
    sum_by-cons (λ p. p.0 * p.1) (w, x) (zip ws row) ∙ ap (λ n. w * x + n) rest ∙ ap (λ n. w * n + weigh ws (suc i) f) (sym here)

module _ (ws row : List ℕ) (long : length row ≡ length ws) where
  row_weighs : sum_by (λ p. p.0 * p.1) (zip ws row) ≡ weigh ws 0 (λ k. slice_index row k)
  row_weighs = zip_weighs ws row 0 (λ k. slice_index row k) long (λ j. ap (slice_index row) (omega arith))

  pub fair_by_class : IsFair ws row → weigh ws 0 (λ k. slice_index row k) ≤ unit_factor * sum ws
  fair_by_class fair = omega (arith, fair, row_weighs)

  pub fair_from_class : weigh ws 0 (λ k. slice_index row k) ≤ unit_factor * sum ws → IsFair ws row
  fair_from_class fair = omega (arith, fair, row_weighs)
