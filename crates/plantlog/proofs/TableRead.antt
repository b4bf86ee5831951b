-- A table taken from a body: its weights keep their limits, so that only the total is left to judge.
use Rattle.std.proofs.Common.{◌≡◌, ℕ, Bool, true, false, cond, not, List, [], ◌∷◌, length, Some, None, Ok, Err, Option, Result, sym, refl, ap, ◌∙◌}
use borrow.Author.Tests.{clash}
use Rattle.std.specs.List.{sum}
use Rattle.edetector.specs.declared.value.ValueFault.{ValueFault}
use Rattle.edetector.specs.declared.value.ValueFault.TheVariants.{Classes, Weight, Total}
use Rattle.edetector.specs.Tables.{fewest_classes, most_classes, most_total, is_within, weights_within, table_fault, unless_fault}
use Rattle.plantlog.specs.declared.fault.RecordFault.{RecordFault}
use Rattle.plantlog.specs.declared.fault.RecordFault.TheVariants.{Value}
use Rattle.plantlog.specs.Results.{of_ok, and_then}
use Rattle.plantlog.specs.Layouts.{TableWeights}
use Rattle.plantlog.specs.FirstRecord.{number_within, weights, all_weights, no_more, read_fields}
use Rattle.plantlog.proofs.ResultFacts.{then_was, unless_ok, unless_err}
use Rattle.plantlog.proofs.FieldFacts.{tested, within_was}
use Rattle.plantlog.proofs.TableReads.{by_total, by_classes}
use Rattle.plantlog.proofs.WeightsRead.{weights_were}
use Rattle.plantlog.proofs.FieldsRead.{behind}

pub table_were : (least : ℕ) (bs ws rest : List ℕ) → all_weights least bs ≡ Ok (ws, rest) → (is_within fewest_classes most_classes (length ws) ≡ true) × (weights_within least ws ≡ true)
unfolding all_weights
table_were least bs ws rest e =
    let k = then_was (number_within fewest_classes most_classes (Value Classes) bs) _ _ e in
    let w = weights_were least k.0.0 k.0.1 ws rest k.2 in
    (ap (is_within fewest_classes most_classes) w.0 ∙ (within_was fewest_classes most_classes (Value Classes) bs k.0.0 k.0.1 k.1).1, w.1)

-- the fields of a record that holds a table
abbrev pub alone : ℕ → List ℕ → Result (List ℕ × Unit {0}) RecordFault
alone least bs = read_fields (TableWeights least ∷ []) bs

abbrev after : ℕ → Result (List ℕ × List ℕ) RecordFault → Result (List ℕ × Unit {0}) RecordFault
after least r = and_then (and_then r by_total) (behind (TableWeights least) [])

-- what is left to say once a table is judged
abbrev pub judged : {X : Type 0} → Option ValueFault → Result X RecordFault → Result X RecordFault
judged None r = r
judged (Some f) r = Err (Value f)

abbrev ended : List ℕ → List ℕ → Result (List ℕ × Unit {0}) RecordFault
ended ws rest = of_ok (λ u. (ws, u)) (no_more rest)

by_tests : (a b t : Bool) (least : ℕ) (ws rest : List ℕ) → a ≡ true → b ≡ true → and_then (tested t (Value Total) (ws, rest)) (behind (TableWeights least) []) ≡ judged (cond (not a) (Some Classes) (cond (not b) (Some Weight) (cond (not t) (Some Total) None))) (ended ws rest)
by_tests true true true least ws rest p q = refl
by_tests true true false least ws rest p q = refl
by_tests true false t least ws rest p q = absurd (clash q)
by_tests false b t least ws rest p q = absurd (clash p)

table_judged : (least : ℕ) (bs ws rest : List ℕ) → Ok (ws, rest) ≡ all_weights least bs → alone least bs ≡ judged (table_fault least ws) (ended ws rest)
table_judged least bs ws rest e =
    let t = table_were least bs ws rest (sym e) in
    ap (after least) (sym e)
    ∙ by_tests (is_within fewest_classes most_classes (length ws)) (weights_within least ws) (is_within 1 most_total (sum ws)) least ws rest t.0 t.1

module _ (least : ℕ) (bs : List ℕ) where
  pub refused_count : (f : RecordFault) → Err f ≡ number_within fewest_classes most_classes (Value Classes) bs → Err f ≡ alone least bs
  unfolding all_weights
  refused_count f e = ap (λ r. after least (and_then r (by_classes least))) e

  module _ (k : ℕ) (rest_of : List ℕ) (counted : Ok (k, rest_of) ≡ number_within fewest_classes most_classes (Value Classes) bs) where
    reads : {r : Result (List ℕ × List ℕ) RecordFault} (places : ℕ) → places ≡ k → r ≡ weights least places rest_of → r ≡ all_weights least bs
    unfolding all_weights
    reads places same e = e ∙ ap (λ j. weights least j rest_of) same ∙ ap (λ r. and_then r (by_classes least)) counted

    pub refused_weight : (f : RecordFault) (places : ℕ) → places ≡ k → Err f ≡ weights least places rest_of → Err f ≡ alone least bs
    refused_weight f places same e = ap (after least) (reads places same e)

    module _ (ws rest : List ℕ) (places : ℕ) (same : places ≡ k) (read : Ok (ws, rest) ≡ weights least places rest_of) where
      whole : Ok (ws, rest) ≡ all_weights least bs
      whole = reads places same read

      by_fault : (o : Option ValueFault) → table_fault least ws ≡ o → alone least bs ≡ judged o (ended ws rest)
      by_fault o e = table_judged least bs ws rest whole ∙ ap (λ f. judged f (ended ws rest)) e

      pub refused_whole : (f : ValueFault) → Err f ≡ unless_fault (table_fault least ws) ws → Err (Value f) ≡ alone least bs
      refused_whole f e = sym (by_fault (Some f) (unless_err _ ws f e))

      module _ (table : List ℕ) (made : Ok table ≡ unless_fault (table_fault least ws) ws) where
        pub refused_more : (f : RecordFault) → Err f ≡ no_more rest → Err f ≡ alone least bs
        refused_more f e = ap (of_ok (λ u. (ws, u))) e ∙ sym (by_fault None (unless_ok _ ws table made).0)

        pub accepted : Ok tt ≡ no_more rest → Ok (table, tt) ≡ alone least bs
        accepted e =
            let m = unless_ok _ ws table made in
            ap (λ t. Ok (t, tt)) m.1 ∙ ap (of_ok (λ u. (ws, u))) e ∙ sym (by_fault None m.0)
