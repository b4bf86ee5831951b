-- Weights read one by one.
use Rattle.std.proofs.Common.{◌≡◌, ℕ, zero, suc, true, ◌+◌, ◌-◌, ◌<◌, List, [], ◌∷◌, ◌++◌, length, take, set, Ok, Err, Result, sym, refl, ap, ◌∙◌, append_assoc, arith, length-set}
use Rattle.std.proofs.lemmas.List.{length-map, map-set, take_more_set}
use Rattle.edetector.specs.declared.units.Weight.{Weight}
use Rattle.edetector.specs.declared.value.ValueFault.TheVariants.{Weight as WeightFault}
use Rattle.std.proofs.lemmas.Bool.{and_from}
use Rattle.edetector.specs.Tables.{most_weight, weights_in, weights_within}
use Rattle.plantlog.proofs.ResultFacts.{ok_is, then_was, of_ok_was}
use Rattle.plantlog.proofs.FieldFacts.{within_was}
use Rattle.plantlog.specs.declared.fault.RecordFault.{RecordFault}
use Rattle.plantlog.specs.declared.fault.RecordFault.TheVariants.{Value}
use Rattle.plantlog.specs.Results.{of_ok, and_then}
use Rattle.plantlog.specs.FirstRecord.{number_within, weights}

-- the weights read behind those that were read before
abbrev pub after : List ℕ → Result (List ℕ × List ℕ) RecordFault → Result (List ℕ × List ℕ) RecordFault
after before r = of_ok (λ p. (before ++ p.0, p.1)) r

after_one : (before : List ℕ) (w : ℕ) (r : Result (List ℕ × List ℕ) RecordFault) → after (before ++ (w ∷ [])) r ≡ after before (of_ok (λ ws. (w ∷ ws.0, ws.1)) r)
after_one before w (Ok p) = ap (λ l. Ok (l, p.1)) (append_assoc before (w ∷ []) p.0)
after_one before w (Err e) = refl

-- k weights are read, and rest is what is left of the bytes
pub record Sofar (low classes : ℕ) (bytes : List ℕ) (k : ℕ) (list : List Weight) (rest : List ℕ) : Type 0 where
  pub room : length list ≡ classes
  pub left : after (take k (weights_in list)) (weights low (classes - k) rest) ≡ weights low classes bytes

module _ (low classes : ℕ) (bytes : List ℕ) where
  module _ (k : ℕ) (list : List Weight) (rest : List ℕ) (more : k < classes) (s : Sofar low classes bytes k list rest) where
    step : weights low (classes - k) rest ≡ weights low (suc (classes - (k + 1))) rest
    step = let e : classes - k ≡ suc (classes - (k + 1)) = omega arith in ap (λ j. weights low j rest) e

    pub sofar_more : (w : ℕ) (behind : List ℕ) → Ok (w, behind) ≡ number_within low most_weight (Value WeightFault) rest → Sofar low classes bytes (k + 1) (set list k (record { 0 = w })) behind
    sofar_more w behind read =
        let j = classes - (k + 1) in
        let h : k < length (weights_in list) = omega (arith, length-map list (λ w. w.0), s.room) in
        let grown : take (k + 1) (weights_in (set list k (record { 0 = w }))) ≡ take k (weights_in list) ++ (w ∷ []) = ap (take (k + 1)) (map-set (λ w. w.0) list k (record { 0 = w })) ∙ take_more_set (weights_in list) k w h in
        let here : weights low (suc j) rest ≡ of_ok (λ ws. (w ∷ ws.0, ws.1)) (weights low j behind) = ap (λ f. and_then f (λ w. of_ok (λ ws. (w.0 ∷ ws.0, ws.1)) (weights low j w.1))) (sym read) in
        record {
          room = length-set list k (record { 0 = w }) ∙ s.room;
          left = ap (λ l. after l (weights low j behind)) grown ∙ after_one (take k (weights_in list)) w (weights low j behind) ∙ ap (after (take k (weights_in list))) (sym (step ∙ here)) ∙ s.left;
        }

    pub refused : (e : RecordFault) → Err e ≡ number_within low most_weight (Value WeightFault) rest → Err e ≡ weights low classes bytes
    refused e read =
        let j = classes - (k + 1) in
        let here : weights low (suc j) rest ≡ Err e = ap (λ f. and_then f (λ w. of_ok (λ ws. (w.0 ∷ ws.0, ws.1)) (weights low j w.1))) (sym read) in
        sym (ap (after (take k (weights_in list))) (step ∙ here)) ∙ s.left

-- as many weights as were asked for, each within its limits
pub weights_were : (low k : ℕ) (bs : List ℕ) (ws rest : List ℕ) → weights low k bs ≡ Ok (ws, rest) → (length ws ≡ k) × (weights_within low ws ≡ true)
weights_were low zero bs ws rest e =
    let l : [] ≡ ws = ap (λ p. p.0) (ok_is e) in (ap length (sym l), ap (weights_within low) (sym l))
weights_were low (suc k) bs ws rest e =
    let w = then_was (number_within low most_weight (Value WeightFault) bs) _ _ e in
    let v = of_ok_was _ (weights low k w.0.1) _ w.2 in
    let l : w.0.0 ∷ v.0.0 ≡ ws = ap (λ p. p.0) v.2 in
    let ih = weights_were low k w.0.1 v.0.0 v.0.1 v.1 in
    let here = (within_was low most_weight (Value WeightFault) bs w.0.0 w.0.1 w.1).1 in
    (ap length (sym l) ∙ ap suc ih.0, ap (weights_within low) (sym l) ∙ and_from _ _ here ih.1)
