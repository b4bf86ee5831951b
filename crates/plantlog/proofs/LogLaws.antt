-- The laws of whole logs.
use Rattle.std.proofs.Common.{◌≡◌, zero, suc, [], ◌∷◌, ◌++◌, length, sym, refl, ap, ◌∙◌, subst, append_assoc}
use Rattle.plantlog.specs.Results.{of_ok, and_then}
use Rattle.plantlog.specs.Format.{record_bytes}
use Rattle.plantlog.specs.FirstRecord.{first_record}
use Rattle.plantlog.specs.Laws.{AllWritable, log_bytes, records_in, LogReadBack, LogWrittenSo, OneWriting}
use Rattle.plantlog.proofs.ResultFacts.{ok_is, then_was, of_ok_was}
use Rattle.plantlog.proofs.ReadBack.{read_back}
use Rattle.plantlog.proofs.WrittenSo.{written_so, rest_bytes}

pub log_read_back : LogReadBack
log_read_back [] rest w = refl
log_read_back (f ∷ fs) rest w =
    let behind = log_bytes fs ++ rest in
    let here = ap first_record (append_assoc (record_bytes f) (log_bytes fs) rest) ∙ read_back f behind w.0 in
    ap (λ r. and_then r (λ p. of_ok (λ q. (p.0 ∷ q.0, q.1)) (records_in (length fs) p.1))) here
    ∙ ap (of_ok (λ q. (f ∷ q.0, q.1))) (log_read_back fs rest w.1)

pub log_written_so : LogWrittenSo
log_written_so zero bs fs rest h e =
    let p = ok_is e in
    let none : [] ≡ fs = ap (λ q. q.0) p in
    let all : bs ≡ rest = ap (λ q. q.1) p in
    (all ∙ ap (λ l. log_bytes l ++ rest) none, subst AllWritable none tt)
log_written_so (suc k) bs fs rest h e =
    let p = then_was (first_record bs) _ (fs, rest) e in
    let q = of_ok_was _ (records_in k p.0.1) (fs, rest) p.2 in
    let f = p.0.0 in
    let gs = q.0.0 in
    let list : f ∷ gs ≡ fs = ap (λ x. x.0) q.2 in
    let last : q.0.1 ≡ rest = ap (λ x. x.1) q.2 in
    let here = written_so bs f p.0.1 h p.1 in
    let behind = log_written_so k p.0.1 gs q.0.1 (rest_bytes bs f p.0.1 h p.1) q.1 in (
      here.0
          ∙ ap (λ l. record_bytes f ++ l) (behind.0 ∙ ap (λ l. log_bytes gs ++ l) last)
          ∙ sym (append_assoc (record_bytes f) (log_bytes gs) rest)
          ∙ ap (λ l. log_bytes l ++ rest) list,
      subst AllWritable list (here.1, behind.1),
    )

pub one_writing : OneWriting
one_writing j k bs cs fs h g e d = (log_written_so j bs fs [] h e).0 ∙ sym (log_written_so k cs fs [] g d).0
