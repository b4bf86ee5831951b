-- Bytes are the writing of one list of records at most.
use Rattle.std.proofs.Common.{◌≡◌, ℕ, zero, suc, List, [], ◌∷◌, length, Ok, Err, Result, sym, ap, ◌∙◌, ap₂}
use Rattle.std.proofs.lemmas.List.{append-nil}
use Rattle.plantlog.specs.declared.fault.RecordFault.{RecordFault}
use Rattle.plantlog.specs.declared.fault.FrontFault.TheVariants.{NoneLeft}
use Rattle.plantlog.specs.declared.fault.RecordFault.TheVariants.{Front}
use Rattle.plantlog.specs.Format.{Fields}
use Rattle.plantlog.specs.FirstRecord.{first_record}
use Rattle.plantlog.specs.Laws.{AllWritable, log_bytes, records_in}
use Rattle.plantlog.proofs.LogLaws.{log_read_back}
use Rattle.plantlog.proofs.ResultFacts.{ok_is, then_was, of_ok_was}
use Rattle.playback.proofs.Fronts.{none_in_front}

-- records that are read with nothing left, behind the first
record Tail (bs : List ℕ) (k : ℕ) (fs : List Fields) : Type 0 where
  pub first : Fields
  pub rest : List ℕ
  pub others : List Fields
  pub front : first_record bs ≡ Ok (first, rest)
  pub behind : records_in k rest ≡ Ok (others, [])
  pub all : first ∷ others ≡ fs

tail : (bs : List ℕ) (k : ℕ) (fs : List Fields) → records_in (suc k) bs ≡ Ok (fs, []) → Tail bs k fs
tail bs k fs e =
    let p = then_was (first_record bs) _ (fs, []) e in
    let q = of_ok_was _ (records_in k p.0.1) (fs, []) p.2 in
    record {
      first = p.0.0;
      rest = p.0.1;
      others = q.0.0;
      front = p.1;
      behind = q.1 ∙ ap (λ (r : List ℕ). Ok (q.0.0, r)) (ap (λ x. x.1) q.2);
      all = ap (λ x. x.0) q.2;
    }

-- of no bytes no record is read
none_read : (bs : List ℕ) (k : ℕ) (fs : List Fields) → bs ≡ [] → records_in (suc k) bs ≡ Ok (fs, []) → ⊥
none_read bs k fs none e =
    let t = tail bs k fs e in
    let no : ◌≡◌ {A = Result (Fields × List ℕ) RecordFault} (Err (Front NoneLeft)) (Ok (t.first, t.rest)) = sym none_in_front ∙ sym (ap first_record none) ∙ t.front in
    cc

same_read : (j k : ℕ) (bs : List ℕ) (fs gs : List Fields) → records_in j bs ≡ Ok (fs, []) → records_in k bs ≡ Ok (gs, []) → fs ≡ gs
same_read zero zero bs fs gs e d = sym (ap (λ q. q.0) (ok_is e)) ∙ ap (λ q. q.0) (ok_is d)
same_read zero (suc k) bs fs gs e d = absurd (none_read bs k gs (ap (λ q. q.1) (ok_is e)) d)
same_read (suc j) zero bs fs gs e d = absurd (none_read bs j fs (ap (λ q. q.1) (ok_is d)) e)
same_read (suc j) (suc k) bs fs gs e d =
    let t = tail bs j fs e in
    let u = tail bs k gs d in
    let same : ◌≡◌ {A = Fields × List ℕ} (t.first, t.rest) (u.first, u.rest) = ok_is (sym t.front ∙ u.front) in
    let others = same_read j k t.rest t.others u.others t.behind (ap (λ x. records_in k x.1) same ∙ u.behind) in
    sym t.all ∙ ap₂ (λ f l. f ∷ l) (ap (λ x. x.0) same) others ∙ u.all

-- the records that were read are the only ones that are written so
pub only_records : (k : ℕ) (log : List ℕ) (fs : List Fields) → records_in k log ≡ Ok (fs, []) → (others : List Fields) → AllWritable others → log_bytes others ≡ log → others ≡ fs
only_records k log fs read others writable is =
    let back = ap (records_in (length others)) (sym is ∙ sym (append-nil (log_bytes others))) ∙ log_read_back others [] writable in
    same_read (length others) k log others fs back read
