-- The next record, from its front and its body.
use Rattle.std.proofs.Common.{◌≡◌, ℕ, ◌≤◌, List, Ok, Err, Result, refl, ap, ◌∙◌}
use Rattle.std.proofs.lemmas.Bool.{le-leb}
use Rattle.plantlog.specs.declared.fault.FrontFault.{FrontFault}
use Rattle.plantlog.specs.declared.fault.RecordFault.{RecordFault}
use Rattle.plantlog.specs.declared.fault.RecordFault.TheVariants.{Front}
use Rattle.plantlog.specs.Results.{of_ok}
use Rattle.plantlog.specs.Format.{Fields}
use Rattle.plantlog.specs.FirstRecord.{front, body_fields, first_record}
use Rattle.plantlog.specs.Calls.{next_in}
use Rattle.plantlog.proofs.ReadBack.{of_front}

module _ (room : ℕ) (left : List ℕ) (wide : 63 ≤ room) where
  roomy : first_record left ≡ next_in room left
  roomy = let a = le-leb 63 room wide in rw a refl

  pub refused_front : (e : FrontFault) → Err e ≡ front left → Err (Front e) ≡ next_in room left
  unfolding first_record
  refused_front e f = ap of_front f ∙ roomy

  module _ (body rest : List ℕ) (whole : Ok (body, rest) ≡ front left) where
    pub judged : (r : Result Fields RecordFault) → r ≡ body_fields body → of_ok (λ f. (f, rest)) r ≡ next_in room left
    unfolding first_record
    judged r e = ap (of_ok (λ f. (f, rest))) e ∙ ap of_front whole ∙ roomy
