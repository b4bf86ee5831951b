-- What asking tells of the next record.
use Rattle.std.proofs.Common.{◌≡◌, ℕ, ◌≤◌, true, leb, arith, List, [], ◌∷◌, Some, None, Ok, Err, Option, Result, refl}
use Rattle.std.proofs.lemmas.Bool.Decides.{nat_tests}
use Rattle.std.specs.Option.{ok_or}
use Rattle.plantlog.specs.declared.fault.RecordFault.{RecordFault}
use Rattle.plantlog.specs.declared.fault.FrontFault.TheVariants.{NoneLeft}
use Rattle.plantlog.specs.declared.fault.RecordFault.TheVariants.{Front}
use Rattle.plantlog.specs.Results.{of_ok}
use Rattle.plantlog.specs.Format.{Fields}
use Rattle.plantlog.specs.FirstRecord.{first_record, front}
use Rattle.plantlog.specs.Calls.{asked}
use Rattle.plantlog.specs.declared.record.Announced.{Announced}
use Rattle.playback.specs.declared.stop.ReplayFault.{ReplayFault}
use Rattle.plantlog.specs.Format.{announced}
use Rattle.playback.specs.declared.stop.ReplayFault.TheVariants.{Record}
use Rattle.playback.specs.Front.{of_record, next_fields}

pub none_in_front : first_record [] ≡ Err (Front NoneLeft)
unfolding first_record front
none_in_front = refl

-- what asking tells, with the refusals of a replay
abbrev pub told : Result (Option Announced) RecordFault → Result Announced ReplayFault
told (Ok (Some kind)) = Ok kind
told (Ok None) = Err (Record (Front NoneLeft))
told (Err e) = Err (Record e)

-- an option told as a kind or the refusal that none is left
pub told_option : (o : Option Announced) → ok_or o (Record (Front NoneLeft)) ≡ told (Ok o)
told_option (Some kind) = refl
told_option None = refl

told_by : (r : Result (Fields × List ℕ) RecordFault) → told (of_ok (λ p. Some (announced p.0)) r) ≡ of_ok announced (of_record (of_ok (λ p. p.0) r))
told_by (Ok p) = refl
told_by (Err e) = refl

pub asked_told : (room : ℕ) (left : List ℕ) → 63 ≤ room → told (asked room left) ≡ of_ok announced (next_fields left)
asked_told room [] h = let fits : leb 63 room ≡ true = grind (arith, nat_tests) in rw (none_in_front, fits) refl
asked_told room (b ∷ bs) h = let fits : leb 63 room ≡ true = grind (arith, nat_tests) in rw fits (told_by (first_record (b ∷ bs)))
