-- A table's numbers, one by one.
use Rattle.std.proofs.Common.{◌≡◌, ℕ, ◌+◌, ◌<◌, List, [], ◌∷◌, ◌++◌, length, get_or, take, set, sym, refl, ap, ◌∙◌, arith, length-set}
use Rattle.std.proofs.lemmas.List.{take_more, take_more_set, length-map, get_or-map}
use Rattle.edetector.specs.declared.units.Weight.{Weight}
use Rattle.edetector.specs.Tables.{weights_in}

-- the number of weights and the first k of them are in the list
pub record Listed (ws : List Weight) (k : ℕ) (list : List ℕ) : Type 0 where
  pub room : length list ≡ length ws + 1
  pub front : take (k + 1) list ≡ length ws ∷ take k (weights_in ws)

module _ (ws : List Weight) where
  pub listed_start : (list : List ℕ) → length list ≡ length ws + 1 → Listed ws 0 (set list 0 (length ws))
  listed_start [] h = absurd (omega (arith, h))
  listed_start (x ∷ xs) h = record { room = h; front = refl }

  pub listed_more : (k : ℕ) (list : List ℕ) (w : ℕ) → k < length ws → w ≡ (get_or ws k (record { 0 = 0 })).0 → Listed ws k list → Listed ws (k + 1) (set list (k + 1) w)
  listed_more k list w more is l =
      let h : k + 1 < length list = omega (arith, l.room) in
      let m : k < length (weights_in ws) = omega (arith, length-map ws (λ w. w.0)) in
      let here : w ≡ get_or (weights_in ws) k 0 = is ∙ sym (get_or-map (λ w. w.0) ws k (record { 0 = 0 }) 0 more) in
      record {
        room = length-set list (k + 1) w ∙ l.room;
        front =
            take_more_set list (k + 1) w h
            ∙ (λ j. l.front j ++ (here j ∷ []))
            ∙ ap (λ r. length ws ∷ r) (sym (take_more (weights_in ws) k 0 m));
      }
