-- The listing of a replay, line by line.
use Rattle.std.specs.Prelude.{ℕ, List, [], ◌++◌, length, Some, None, Ok, Err, Option, Result}
use Rattle.edetector.specs.declared.monitor.Reading.{Reading}
use Rattle.daybook.specs.Lines.{monitor_line, alarm_line, unwatched_line, end_line, fault_line, ended_line, lines}
use Rattle.daybook.specs.declared.line.ending.EndLine.{EndLine}
use Rattle.daybook.specs.declared.line.fault.FaultLine.{FaultLine}
use Rattle.daybook.specs.declared.line.setup.MonitorLine.{MonitorLine}
use Rattle.playback.specs.declared.report.Run.{Run}
use Rattle.playback.specs.declared.stop.Fault.{Fault}
use Rattle.playback.specs.Stops.{stop_number, stop_layer}
use Rattle.playback.specs.Replayed.{Replay}

-- the lines' values: of a monitor that was made, of a fault, and of an end behind so many unwatched days
abbrev pub monitor_line_of : Run → MonitorLine
monitor_line_of run = record { classes = run.classes; total = run.total; threshold = run.threshold; rule = run.rule }

abbrev pub fault_line_of : Fault → FaultLine
fault_line_of f = record { number = stop_number f.cause; «record» = f.«record»; byte = f.byte; layer = stop_layer f.cause }

abbrev pub end_line_of : Reading → ℕ → EndLine
end_line_of last unwatched = record { rounds = last.rounds; alarms = last.alarms; unwatched = unwatched }

-- the line of the monitor, once it is made
abbrev pub monitor_part : Result Run Fault → List ℕ
monitor_part (Err f) = []
monitor_part (Ok run) = ended_line (monitor_line (monitor_line_of run))

-- how a log ends whose monitor was made
abbrev pub ending : Reading → ℕ → Option Fault → List ℕ
ending last unwatched None = end_line (end_line_of last unwatched)
ending last unwatched (Some f) = fault_line (fault_line_of f)

-- the last line: the end, or the fault
abbrev pub last_part : Result Run Fault → ℕ → List ℕ
last_part (Err f) unwatched = ended_line (fault_line (fault_line_of f))
last_part (Ok run) unwatched = ended_line (ending run.last unwatched run.fault)

abbrev pub listing_of : Replay → List ℕ
listing_of r =
    monitor_part r.said ++ (lines alarm_line r.alarms ++ (lines unwatched_line r.unwatched ++ last_part r.said (length r.unwatched)))
