-- How a table holds its weights: in sixteen places, with zeros behind them, and their total beside them.
use Rattle.std.specs.Prelude.{◌≡◌, ℕ, ◌-◌, ◌≤◌, List, [], ◌∷◌, ◌++◌, length, map, take, drop, replicate, sum, None, refl}
use Rattle.std.proofs.Common.{sym, ap, ap₂, ◌∙◌, arith, take-append-drop}
use Rattle.std.proofs.lemmas.List.{length-take-le, length-map, take-map}
use Rattle.edetector.specs.declared.units.Weight.{Weight}
use Rattle.edetector.specs.Tables.{most_classes, table_fault, weights_in}

pub record IsTable (least classes : ℕ) (weights : List Weight) (total : ℕ) : Type 0 where
  pub unbroken : table_fault least (take classes (weights_in weights)) ≡ None
  pub sums : sum (take classes (weights_in weights)) ≡ total
  pub room : length weights ≡ most_classes
  pub fits : classes ≤ most_classes
  pub behind : drop classes weights ≡ replicate (most_classes - classes) (record { 0 = 0 })

-- the places that hold the weights ws
unfoldable pub places_for : List ℕ → List Weight
places_for ws = map (λ w. record { 0 = w }) ws ++ replicate (most_classes - length ws) (record { 0 = 0 })

weights_back : (ws : List Weight) → ◌≡◌ {A = List Weight} (map (λ w. record { 0 = w }) (weights_in ws)) ws
weights_back [] = refl
weights_back (w ∷ ws) = ap (λ (l : List Weight). w ∷ l) (weights_back ws)

module _ (least classes : ℕ) (weights : List Weight) (total : ℕ) (table : IsTable least classes weights total) where
  pub held_long : length (take classes (weights_in weights)) ≡ classes
  held_long = length-take-le classes (weights_in weights) (omega (arith, table.room, table.fits, length-map weights (λ w. w.0)))

  pub held_back : places_for (take classes (weights_in weights)) ≡ weights
  unfolding places_for
  held_back =
      let front : ◌≡◌ {A = List Weight} (map (λ w. record { 0 = w }) (take classes (weights_in weights))) (take classes weights) =
      ap (map (λ (w : ℕ). let u : Weight = record { 0 = w } in u)) (take-map (λ w. w.0) classes weights) ∙ weights_back (take classes weights) in
      let end : ◌≡◌ {A = List Weight} (replicate (most_classes - length (take classes (weights_in weights))) (record { 0 = 0 })) (drop classes weights) =
      ap (λ n. replicate (most_classes - n) (record { 0 = 0 })) held_long ∙ sym table.behind in
      ap₂ (λ (xs ys : List Weight). xs ++ ys) front end ∙ take-append-drop classes weights
