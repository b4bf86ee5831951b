-- The keys of a book's entries, and which key may come next.
use Rattle.std.specs.Prelude.{ℕ, Bool, true, List, [], ◌∷◌, map, nat_lt}
use Rattle.std.specs.List.Sorted.{IsStrictlyIncreasing}

-- each entry's key is above that of the entry before it
abbrev pub KeysRise : {X : Type 0} → (X → ℕ) → List X → Type 0
KeysRise key xs = IsStrictlyIncreasing (map key xs)

-- whether a key is above that of the last entry, if there is one
abbrev pub above_in : {X : Type 0} → (X → ℕ) → List X → ℕ → Bool
above_in key [] k = true
above_in key (x ∷ []) k = nat_lt (key x) k
above_in key (x ∷ y ∷ xs) k = above_in key (y ∷ xs) k
