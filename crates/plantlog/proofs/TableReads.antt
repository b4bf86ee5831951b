-- The weights of a table, read and refused.
use Rattle.std.proofs.Common.{◌≡◌, ℕ, zero, suc, ◌<◌, Bool, true, false, cond, not, ◌&&◌, List, [], ◌∷◌, ◌++◌, length, Some, None, Ok, Err, Result, sym, refl, ap, ◌∙◌, subst, inl, inr, ⊎_elim, arith}
use Rattle.std.specs.List.{sum}
use Rattle.std.proofs.lemmas.Bool.{and_from, and_parts}
use Rattle.edetector.specs.declared.value.ValueFault.TheVariants.{Classes, Weight, Total}
use Rattle.edetector.specs.Tables.{fewest_classes, most_classes, most_weight, most_total, is_within, weights_within, table_fault, unless_fault}
use Rattle.plantlog.specs.declared.fault.RecordFault.{RecordFault}
use Rattle.plantlog.specs.declared.fault.RecordFault.TheVariants.{Value}
use Rattle.plantlog.specs.Bytes.{Bytes}
use Rattle.plantlog.specs.Results.{of_ok, and_then}
use Rattle.plantlog.specs.RecordFaults.{record_fault_number}
use Rattle.plantlog.specs.Layouts.{TableWeights, of_value, limit_fault}
use Rattle.plantlog.specs.Format.{numbers_bytes}
use Rattle.plantlog.specs.FirstRecord.{number_within, weights, all_weights, read_field}
use Rattle.plantlog.specs.Refusals.{BeginsWith, LimitRefused, FieldRefused}
use Rattle.plantlog.proofs.ResultFacts.{ok_is, err_no_ok, then_was, then_refused, of_ok_was, of_ok_refused}
use Rattle.plantlog.proofs.Holding.{Refuses, nothing_held, both_held, first_held, held_bytes}
use Rattle.plantlog.proofs.FieldFacts.{tested, kept, dropped, within_held, within_judged, within_back, within_refused, refused_within}

-- weights that were read: as many as asked for, each within its limits
pub record Read (least k : ℕ) (bs ws rest : List ℕ) : Type 0 where
  pub long : length ws ≡ k
  pub each : weights_within least ws ≡ true
  pub holds : BeginsWith bs ws rest

pub weights_held : (least k : ℕ) (bs ws rest : List ℕ) → Bytes bs → weights least k bs ≡ Ok (ws, rest) → Read least k bs ws rest
weights_held least zero bs ws rest b e =
    let p = ok_is e in
    let w : [] ≡ ws = ap (λ q. q.0) p in
    let r : bs ≡ rest = ap (λ q. q.1) p in
    subst (λ l. Read least zero bs l rest) w (subst (λ l. Read least zero bs [] l) r (record { long = refl; each = refl; holds = nothing_held bs }))
weights_held least (suc k) bs ws rest b e =
    let w = then_was (number_within least most_weight (Value Weight) bs) _ _ e in
    let v = of_ok_was _ (weights least k w.0.1) _ w.2 in
    let l : w.0.0 ∷ v.0.0 ≡ ws = ap (λ p. p.0) v.2 in
    let r : v.0.1 ≡ rest = ap (λ p. p.1) v.2 in
    let here = within_held least most_weight (Value Weight) bs w.0.0 w.0.1 b w.1 in
    let ih = weights_held least k w.0.1 v.0.0 v.0.1 (held_bytes bs (w.0.0 ∷ []) w.0.1 here.0 b) v.1 in
    subst (λ l. Read least (suc k) bs l rest) l (subst (λ r. Read least (suc k) bs (w.0.0 ∷ v.0.0) r) r (record {
      long = ap suc ih.long;
      each = and_from _ _ here.1 ih.each;
      holds = both_held bs (w.0.0 ∷ []) w.0.1 v.0.0 v.0.1 here.0 ih.holds;
    }))

-- weights that stand there are judged one by one
pub weights_judged : (least : ℕ) (bs ws rest : List ℕ) → BeginsWith bs ws rest → weights least (length ws) bs ≡ cond (weights_within least ws) (Ok (ws, rest)) (Err (Value Weight))
weights_judged least bs [] rest h = ap (λ l. Ok ([], l)) h.0
weights_judged least bs (w ∷ ws) rest h =
    let behind = numbers_bytes ws ++ rest in
    let here = within_judged least most_weight (Value Weight) bs w behind (first_held bs (w ∷ []) ws rest h) in
    let ih = weights_judged least behind ws rest (refl, h.1.1) in
    ap (λ (r : Result (ℕ × List ℕ) RecordFault). and_then r (λ w. of_ok (λ l. (w.0 ∷ l.0, l.1)) (weights least (length ws) w.1))) here
    ∙ by_first (is_within least most_weight w) (weights_within least ws) w ws rest behind ih
  where
    by_first : (a b : Bool) (w : ℕ) (ws rest behind : List ℕ) → weights least (length ws) behind ≡ cond b (Ok (ws, rest)) (Err (Value Weight)) → and_then {T = ℕ × List ℕ} {U = List ℕ × List ℕ} (tested a (Value Weight) (w, behind)) (λ w. of_ok (λ l. (w.0 ∷ l.0, l.1)) (weights least (length ws) w.1)) ≡ cond (a && b) (Ok (w ∷ ws, rest)) (Err (Value Weight))
    by_first true true w ws rest behind e = ap (of_ok (λ l. (w ∷ l.0, l.1))) e
    by_first true false w ws rest behind e = ap (of_ok (λ l. (w ∷ l.0, l.1))) e
    by_first false b w ws rest behind e = refl

-- a weight was refused behind some that were not
pub record Before (least k : ℕ) (bs : List ℕ) (n : ℕ) : Type 0 where
  pub before : List ℕ
  pub rest : List ℕ
  pub holds : BeginsWith bs before rest
  pub each : weights_within least before ≡ true
  pub fewer : length before < k
  pub next : LimitRefused least most_weight 2 rest n

pub weights_refused : (least k : ℕ) (bs : List ℕ) (e : RecordFault) → Bytes bs → weights least k bs ≡ Err e → Before least k bs (record_fault_number e)
weights_refused least zero bs e b h = absurd (err_no_ok (sym h))
weights_refused least (suc k) bs e b h =
    ⊎_elim
    (λ z. record { before = []; rest = bs; holds = nothing_held bs; each = refl; fewer = omega arith; next = within_refused least most_weight (Value Weight) bs e b z })
    (λ z.
    let here = within_held least most_weight (Value Weight) bs z.0.0 z.0.1 b z.1 in
    let ih = weights_refused least k z.0.1 e (held_bytes bs (z.0.0 ∷ []) z.0.1 here.0 b) (of_ok_refused _ (weights least k z.0.1) e z.2) in
    record {
      before = z.0.0 ∷ ih.before;
      rest = ih.rest;
      holds = both_held bs (z.0.0 ∷ []) z.0.1 ih.before ih.rest here.0 ih.holds;
      each = and_from _ _ here.1 ih.each;
      fewer = let f = ih.fewer in omega (arith, f);
      next = ih.next;
    })
    (then_refused (number_within least most_weight (Value Weight) bs) _ e h)

pub refused_weights : (least k : ℕ) (bs before rest : List ℕ) (n : ℕ) → BeginsWith bs before rest → weights_within least before ≡ true → length before < k → LimitRefused least most_weight 2 rest n → Refuses (weights least k bs) n
refused_weights least zero bs before rest n h a l r = absurd (omega (arith, l))
refused_weights least (suc k) bs [] rest n h a l r =
    let w = refused_within least most_weight (Value Weight) bs n (subst (λ l. LimitRefused least most_weight 2 l n) (sym h.0) r) in
    (w.0, ap (λ (r : Result (ℕ × List ℕ) RecordFault). and_then r (λ w. of_ok (λ l. (w.0 ∷ l.0, l.1)) (weights least k w.1))) w.1, w.2)
refused_weights least (suc k) bs (w ∷ ws) rest n h a l r =
    let p = and_parts (is_within least most_weight w) (weights_within least ws) a in
    let behind = numbers_bytes ws ++ rest in
    let here = within_back least most_weight (Value Weight) bs w behind (first_held bs (w ∷ []) ws rest h) p.0 in
    let ih = refused_weights least k behind ws rest n (refl, h.1.1) p.1 (omega (arith, l)) r in
    (ih.0, ap (λ (r : Result (ℕ × List ℕ) RecordFault). and_then r (λ w. of_ok (λ l. (w.0 ∷ l.0, l.1)) (weights least k w.1))) here ∙ ap (of_ok (λ l. (w ∷ l.0, l.1))) ih.1, ih.2)

abbrev pub by_total : List ℕ × List ℕ → Result (List ℕ × List ℕ) RecordFault
by_total ws = unless_fault (limit_fault 1 most_total (Value Total) (sum ws.0)) ws

abbrev pub by_classes : ℕ → ℕ × List ℕ → Result (List ℕ × List ℕ) RecordFault
by_classes least k = weights least k.0 k.1

-- all weights that were read, and their number
pub record AllRead (least : ℕ) (bs ws rest : List ℕ) : Type 0 where
  pub some : is_within fewest_classes most_classes (length ws) ≡ true
  pub each : weights_within least ws ≡ true
  pub holds : BeginsWith bs (length ws ∷ ws) rest

module _ (least : ℕ) (bs : List ℕ) where
  pub all_held : (ws rest : List ℕ) → Bytes bs → all_weights least bs ≡ Ok (ws, rest) → AllRead least bs ws rest
  unfolding all_weights
  all_held ws rest b e =
      let k = then_was (number_within fewest_classes most_classes (Value Classes) bs) _ _ e in
      let here = within_held fewest_classes most_classes (Value Classes) bs k.0.0 k.0.1 b k.1 in
      let w = weights_held least k.0.0 k.0.1 ws rest (held_bytes bs (k.0.0 ∷ []) k.0.1 here.0 b) k.2 in
      record {
        some = ap (is_within fewest_classes most_classes) w.long ∙ here.1;
        each = w.each;
        holds = subst (λ j. BeginsWith bs (j ∷ ws) rest) (sym w.long) (both_held bs (k.0.0 ∷ []) k.0.1 ws rest here.0 w.holds);
      }

  by_tests : (a b t : Bool) (ws rest : List ℕ) (k : ℕ) (behind : List ℕ) → weights least k behind ≡ cond b (Ok (ws, rest)) (Err (Value Weight)) → (sums : is_within 1 most_total (sum ws) ≡ t) → and_then (and_then (tested a (Value Classes) (k, behind)) (by_classes least)) by_total ≡ of_ok (λ s. (s, rest)) (unless_fault (of_value (cond (not a) (Some Classes) (cond (not b) (Some Weight) (cond (not t) (Some Total) None)))) ws)
  by_tests true true true ws rest k behind e s = ap (λ r. and_then r by_total) e ∙ ap (λ t. tested t (Value Total) (ws, rest)) s
  by_tests true true false ws rest k behind e s = ap (λ r. and_then r by_total) e ∙ ap (λ t. tested t (Value Total) (ws, rest)) s
  by_tests true false t ws rest k behind e s = ap (λ r. and_then r by_total) e
  by_tests false b t ws rest k behind e s = refl

  -- weights that stand there are judged as a table
  pub table_judged : (ws rest : List ℕ) → BeginsWith bs (length ws ∷ ws) rest → read_field (TableWeights least) bs ≡ of_ok (λ s. (s, rest)) (unless_fault (of_value (table_fault least ws)) ws)
  unfolding all_weights
  table_judged ws rest h =
      let behind = numbers_bytes ws ++ rest in
      let k = within_judged fewest_classes most_classes (Value Classes) bs (length ws) behind (first_held bs (length ws ∷ []) ws rest h) in
      let w = weights_judged least behind ws rest (refl, h.1.1) in
      ap (λ r. and_then (and_then r (by_classes least)) by_total) k
      ∙ by_tests (is_within fewest_classes most_classes (length ws)) (weights_within least ws) (is_within 1 most_total (sum ws)) ws rest (length ws) behind w refl

  pub table_held : (ws rest : List ℕ) → Bytes bs → read_field (TableWeights least) bs ≡ Ok (ws, rest) → BeginsWith bs (length ws ∷ ws) rest × (of_value (table_fault least ws) ≡ None)
  table_held ws rest b e =
      let t = then_was (all_weights least bs) by_total (ws, rest) e in
      let k = kept (is_within 1 most_total (sum t.0.0)) (Value Total) t.0 (ws, rest) t.2 in
      let u : AllRead least bs ws rest = subst (λ p. AllRead least bs p.0 p.1) k.1 (all_held t.0.0 t.0.1 b t.1) in
      let s : is_within 1 most_total (sum ws) ≡ true = subst (λ p. is_within 1 most_total (sum p.0) ≡ true) k.1 k.0 in
      (u.holds, no_fault ws u.some u.each s)
    where
      no_fault : (ws : List ℕ) → is_within fewest_classes most_classes (length ws) ≡ true → weights_within least ws ≡ true → is_within 1 most_total (sum ws) ≡ true → of_value (table_fault least ws) ≡ None
      no_fault ws a b t = rw (a, b, t) refl

  pub table_refused : (e : RecordFault) → Bytes bs → read_field (TableWeights least) bs ≡ Err e → FieldRefused (TableWeights least) bs (record_fault_number e)
  unfolding all_weights
  table_refused e b h =
      ⊎_elim
      (λ y.
      ⊎_elim
      (λ z. inl (within_refused fewest_classes most_classes (Value Classes) bs e b z))
      (λ z.
      let here = within_held fewest_classes most_classes (Value Classes) bs z.0.0 z.0.1 b z.1 in
      let w = weights_refused least z.0.0 z.0.1 e (held_bytes bs (z.0.0 ∷ []) z.0.1 here.0 b) z.2 in
      inr (inl (record {
        classes = z.0.0;
        before = w.before;
        rest = w.rest;
        holds = both_held bs (z.0.0 ∷ []) z.0.1 w.before w.rest here.0 w.holds;
        classes_within = here.1;
        each = w.each;
        fewer = w.fewer;
        next = w.next;
      })))
      (then_refused (number_within fewest_classes most_classes (Value Classes) bs) (by_classes least) e y))
      (λ z.
      let u = all_held z.0.0 z.0.1 b z.1 in
      let d = dropped (is_within 1 most_total (sum z.0.0)) (Value Total) e z.0 z.2 in
      inr (inr (record {
        weights = z.0.0;
        rest = z.0.1;
        holds = u.holds;
        classes_within = u.some;
        each = u.each;
        total = d.0;
        number = ap record_fault_number (sym d.1);
      })))
      (then_refused (all_weights least bs) by_total e h)

  pub refused_table : (n : ℕ) → FieldRefused (TableWeights least) bs n → Refuses (read_field (TableWeights least) bs) n
  unfolding all_weights
  refused_table n (inl h) =
      let r = refused_within fewest_classes most_classes (Value Classes) bs n h in
      (r.0, ap (λ r. and_then (and_then r (by_classes least)) by_total) r.1, r.2)
  refused_table n (inr (inl h)) =
      let behind = numbers_bytes h.before ++ h.rest in
      let k = within_back fewest_classes most_classes (Value Classes) bs h.classes behind (first_held bs (h.classes ∷ []) h.before h.rest h.holds) h.classes_within in
      let r = refused_weights least h.classes behind h.before h.rest n (refl, h.holds.1.1) h.each h.fewer h.next in
      (r.0, ap (λ r. and_then (and_then r (by_classes least)) by_total) k ∙ ap (λ r. and_then r by_total) r.1, r.2)
  refused_table n (inr (inr h)) =
      (Value Total, table_judged h.weights h.rest h.holds ∙ by_fault h.weights h.classes_within h.each h.total, sym h.number)
    where
      by_fault : (ws : List ℕ) → is_within fewest_classes most_classes (length ws) ≡ true → weights_within least ws ≡ true → is_within 1 most_total (sum ws) ≡ false → of_ok {U = List ℕ × List ℕ} (λ s. (s, h.rest)) (unless_fault (of_value (table_fault least ws)) ws) ≡ Err (Value Total)
      by_fault ws a b t = rw (a, b, t) refl
