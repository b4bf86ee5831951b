-- What a table holds, by its weights.
use Rattle.std.specs.Prelude.{◌≡◌, ℕ, Bool, true, false, ◌&&◌, List, length, take, sum, refl}
use Rattle.std.proofs.Common.{sym, ap, ◌∙◌}
use Rattle.edetector.specs.declared.units.Weight.{Weight}
use Rattle.edetector.specs.Tables.{weights_in}
use Rattle.edetector.specs.Lemmas.Places.{IsTable, places_for, held_long, held_back}

-- what is held of the weights ws
pub record IsHeld (ws : List ℕ) (classes : ℕ) (weights : List Weight) (total : ℕ) : Type 0 where
  pub classes_are : classes ≡ length ws
  pub weights_are : ◌≡◌ {A = List Weight} weights (places_for ws)
  pub total_is : total ≡ sum ws

pub is_held : (least classes : ℕ) (weights : List Weight) (total : ℕ) (ws : List ℕ) → IsTable least classes weights total → take classes (weights_in weights) ≡ ws → IsHeld ws classes weights total
is_held least classes weights total ws table seen =
    record {
      classes_are = sym (held_long least classes weights total table) ∙ ap length seen;
      weights_are = sym (held_back least classes weights total table) ∙ ap places_for seen;
      total_is = sym table.sums ∙ ap sum seen;
    }

pub last_first : (p q r : Bool) → (p && q) && r ≡ q && (r && p)
last_first true true true = refl
last_first true true false = refl
last_first true false r = refl
last_first false true true = refl
last_first false true false = refl
last_first false false r = refl
