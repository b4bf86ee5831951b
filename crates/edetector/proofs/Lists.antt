-- Lists of units read as numbers, and sums.
use Rattle.std.specs.Prelude.{◌≡◌, ℕ, zero, suc, ◌≤◌, List, [], ◌∷◌, map, sum, slice_index, slice_index_or, refl}
use Rattle.std.proofs.Common.{arith}
use Rattle.edetector.specs.Lemmas.Sums.{sum_cons}

pub index_le_sum : (ws : List ℕ) (k : ℕ) → slice_index ws k ≤ sum ws
index_le_sum [] k = omega arith
index_le_sum (w ∷ ws) zero = omega (arith, sum_cons w ws)
index_le_sum (w ∷ ws) (suc k) = omega (arith, index_le_sum ws k, sum_cons w ws)

-- a unit read at a place is the number at that place
pub number_at : {X : Type 0} (f : X → ℕ) (d : X) → f d ≡ 0 → (xs : List X) (k : ℕ) → f (slice_index_or xs k d) ≡ slice_index (map f xs) k
number_at f d z [] k = z
number_at f d z (x ∷ xs) zero = refl
number_at f d z (x ∷ xs) (suc k) = number_at f d z xs k
