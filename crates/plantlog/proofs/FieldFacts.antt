-- One field of a record.
use Rattle.std.proofs.Common.{◌≡◌, ℕ, Bool, true, false, cond, List, [], ◌∷◌, Some, None, Ok, Err, Result, sym, refl, ap, ◌∙◌, inl, inr, ⊎_elim}
use Rattle.edetector.specs.Tables.{is_within, unless_fault}
use Rattle.plantlog.specs.declared.fault.RecordFault.{RecordFault}
use Rattle.plantlog.specs.Bytes.{Bytes}
use Rattle.plantlog.specs.Results.{and_then}
use Rattle.plantlog.specs.RecordFaults.{record_fault_number}
use Rattle.plantlog.specs.Layouts.{limit_fault}
use Rattle.plantlog.specs.FirstRecord.{any_number, number_within}
use Rattle.plantlog.specs.Refusals.{BeginsWith, LimitRefused}
use Rattle.plantlog.proofs.ResultFacts.{ok_is, err_is, err_no_ok, then_was, then_refused}
use Rattle.plantlog.proofs.Holding.{Refuses, any_held, any_back, any_refused, refused_any}

-- whether a test kept a value
abbrev pub tested : {X : Type 0} → Bool → RecordFault → X → Result X RecordFault
tested b fault x = unless_fault (cond b None (Some fault)) x

pub kept : {X : Type 0} (b : Bool) (fault : RecordFault) (p q : X) → tested b fault p ≡ Ok q → (b ≡ true) × (p ≡ q)
kept true fault p q e = (refl, ok_is e)
kept false fault p q e = absurd (err_no_ok e)

pub dropped : {X : Type 0} (b : Bool) (fault e : RecordFault) (p : X) → tested b fault p ≡ Err e → (b ≡ false) × (fault ≡ e)
dropped true fault e p h = absurd (err_no_ok (sym h))
dropped false fault e p h = (refl, err_is h)

module _ (low high : ℕ) (fault : RecordFault) (bs : List ℕ) where
  -- a field that was accepted is a number within its limits
  pub within_was : (n : ℕ) (rest : List ℕ) → number_within low high fault bs ≡ Ok (n, rest) → (any_number bs ≡ Ok (n, rest)) × (is_within low high n ≡ true)
  unfolding number_within
  within_was n rest e =
      let w = then_was (any_number bs) _ _ e in
      let k = kept (is_within low high w.0.0) fault w.0 (n, rest) w.2 in
      (w.1 ∙ ap (λ p. Ok p) k.1, ap (λ p. is_within low high p.0) (sym k.1) ∙ k.0)

  pub within_held : (n : ℕ) (rest : List ℕ) → Bytes bs → number_within low high fault bs ≡ Ok (n, rest) → BeginsWith bs (n ∷ []) rest × (is_within low high n ≡ true)
  within_held n rest b e = let w = within_was n rest e in (any_held bs n rest b w.0, w.1)

  -- a number that stands there is judged by its limits
  pub within_judged : (n : ℕ) (rest : List ℕ) → BeginsWith bs (n ∷ []) rest → number_within low high fault bs ≡ unless_fault (limit_fault low high fault n) (n, rest)
  unfolding number_within
  within_judged n rest h = ap (λ r. and_then r (λ n. unless_fault (limit_fault low high fault n.0) n)) (any_back bs n rest h)

  pub within_back : (n : ℕ) (rest : List ℕ) → BeginsWith bs (n ∷ []) rest → is_within low high n ≡ true → number_within low high fault bs ≡ Ok (n, rest)
  within_back n rest h e = within_judged n rest h ∙ ap (λ b. tested b fault (n, rest)) e

  pub within_refused : (e : RecordFault) → Bytes bs → number_within low high fault bs ≡ Err e → LimitRefused low high (record_fault_number fault) bs (record_fault_number e)
  unfolding number_within
  within_refused e b h =
      ⊎_elim
      (λ z. inl (any_refused bs e b z))
      (λ z.
      let d = dropped (is_within low high z.0.0) fault e z.0 z.2 in
      inr (z.0.0, z.0.1, any_held bs z.0.0 z.0.1 b z.1, d.0, ap record_fault_number (sym d.1)))
      (then_refused (any_number bs) _ e h)

  pub refused_within : (n : ℕ) → LimitRefused low high (record_fault_number fault) bs n → Refuses (number_within low high fault bs) n
  unfolding number_within
  refused_within n (inl h) =
      let r = refused_any bs n h in (r.0, ap (λ r. and_then r (λ n. unless_fault (limit_fault low high fault n.0) n)) r.1, r.2)
  refused_within n (inr h) =
      (fault, within_judged h.0 h.1 h.2 ∙ ap (λ b. tested b fault (h.0, h.1)) h.3, sym h.4)
