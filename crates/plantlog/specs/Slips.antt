-- What showing a count to an open slip gives.
use Rattle.std.specs.Prelude.{ℕ, Ok, Err, Result}
use Rattle.edetector.specs.declared.slip.OpenSlip.{OpenSlip}
use Rattle.edetector.specs.declared.slip.ShownSlip.{ShownSlip}
use Rattle.edetector.specs.Monitors.{shown_slip}
use Rattle.plantlog.specs.declared.fault.RecordFault.{RecordFault}
use Rattle.plantlog.specs.declared.reader.Unshown.{Unshown}

-- the slip with its count, or the fault and the slip as it was handed over
abbrev pub shown_to : OpenSlip → Result ℕ RecordFault → Result ShownSlip Unshown
shown_to slip (Ok n) = Ok (shown_slip slip n)
shown_to slip (Err e) = Err (record { fault = e; slip = slip })
