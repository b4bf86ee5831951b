-- What the writer may take for granted once the fields are judged.
use Rattle.std.proofs.Common.{◌≡◌, ℕ, suc, ◌^◌, ◌<◌, true, List, [], ◌∷◌, length, get_or, Some, None, Ok, Option, Result, refl, arith}
use Rattle.std.specs.List.{sum}
use Rattle.edetector.specs.declared.value.ValueFault.{ValueFault}
use Rattle.edetector.specs.Tables.{fewest_classes, most_classes, most_total, is_within, weights_within, table_fault, unless_fault}
use Rattle.edetector.specs.Lemmas.Limits.{by_tests}
use Rattle.plantlog.specs.declared.fault.RecordFault.{RecordFault}
use Rattle.plantlog.specs.Layouts.{of_value, first_of}
use Rattle.plantlog.specs.Format.{Sayable}
use Rattle.plantlog.proofs.ResultFacts.{unless_ok}

-- the limits of an unbroken table, one by one
pub record Unbroken (low : ℕ) (ws : List ℕ) : Type 0 where
  pub classes : is_within fewest_classes most_classes (length ws) ≡ true
  pub each : weights_within low ws ≡ true
  pub sum : is_within 1 most_total (sum ws) ≡ true

no_value : (o : Option ValueFault) → of_value o ≡ None → o ≡ None
no_value None e = refl
no_value (Some f) e = cc

pub unbroken : (low : ℕ) (ws : List ℕ) → of_value (table_fault low ws) ≡ None → Unbroken low ws
unbroken low ws e =
    let p = by_tests (is_within fewest_classes most_classes (length ws)) (weights_within low ws) (is_within 1 most_total (sum ws)) (no_value (table_fault low ws) e) in
    record { classes = p.0; each = p.1; sum = p.2 }

pub not_refused : (o : Option RecordFault) → ◌≡◌ {A = Result (Unit {0}) RecordFault} (Ok tt) (unless_fault o tt) → o ≡ None
not_refused o e = (unless_ok o tt tt e).0

-- numbers of 32 bits each
pub sayable : (ns : List ℕ) → ((i : ℕ) → get_or ns i 0 < 2 ^ 32) → Sayable ns
sayable [] h = tt
sayable (n ∷ ns) h = (h 0, sayable ns (λ i. h (suc i)))

pub some_is : {T : Type 0} {x y : T} → Some x ≡ Some y → x ≡ y
some_is e = cc

pub some_none : {T : Type 0} {x : T} → Some x ≡ None → ⊥
some_none e = let z : ◌≡◌ {A = ℕ} 0 1 = cc in omega (arith, z)

pub both_none : (o p : Option RecordFault) → first_of o p ≡ None → (o ≡ None) × (p ≡ None)
both_none None p e = (refl, e)
both_none (Some f) p e = (cc, cc)

-- a record of one field breaks the limits of that field
pub first_alone : (o : Option RecordFault) → first_of o None ≡ o
first_alone None = refl
first_alone (Some f) = refl
