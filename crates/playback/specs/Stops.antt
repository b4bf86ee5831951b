-- The number and the place of each cause that stops a replay.
use Rattle.std.specs.Prelude.{ℕ}
use Rattle.edetector.specs.Tables.{value_number}
use Rattle.edetector.specs.Monitors.{monitor_number}
use Rattle.plantlog.specs.declared.fault.Layer.TheVariants.{Value as OfValue}
use Rattle.plantlog.specs.RecordFaults.{record_fault_number, record_fault_layer}
use Rattle.daybook.specs.declared.line.fault.Layer.{Layer}
use Rattle.daybook.specs.declared.line.fault.Layer.TheVariants.{Log as OfLog, Monitor as OfMonitor, Book as OfBook, Replay as OfReplay}
use Rattle.daybook.specs.Faults.{book_number}
use Rattle.playback.specs.declared.stop.ReplayFault.{ReplayFault}
use Rattle.playback.specs.declared.stop.ReplayFault.TheVariants.{Record, Value, Monitor, Book, NotAllowed, DayNotAbove, CountsDiffer, Trailing, TooLong}

abbrev pub stop_number : ReplayFault → ℕ
stop_number (Record cause) = record_fault_number cause
stop_number (Value cause) = value_number cause
stop_number (Monitor cause) = monitor_number cause
stop_number (Book cause) = book_number cause
stop_number NotAllowed = 41
stop_number DayNotAbove = 43
stop_number CountsDiffer = 44
stop_number Trailing = 46
stop_number TooLong = 48

abbrev pub stop_layer : ReplayFault → Layer
stop_layer (Record cause) = OfLog (record_fault_layer cause)
stop_layer (Value cause) = OfLog OfValue
stop_layer (Monitor cause) = OfMonitor
stop_layer (Book cause) = OfBook
stop_layer _ = OfReplay
