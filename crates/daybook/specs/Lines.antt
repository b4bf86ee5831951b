-- The bytes of each line of a listing, without its newline, and of a list of lines.
use Rattle.std.specs.Prelude.{◌≡◌, ℕ, ◌<◌, ◌*◌, ◌/◌, ◌%◌, List, [], ◌∷◌, ◌++◌, length, take, Option, Some, IfSome, option_map, codes, decimal}
use Rattle.std.specs.Fmt.{option_append}
use Rattle.std.specs.List.{flat_map}
use Rattle.edetector.specs.Rules.{bet}
use Rattle.plantlog.specs.declared.fault.Layer.TheVariants.{Value, Number, Record}
use Rattle.plantlog.specs.declared.record.RuleChoice.{RuleChoice}
use Rattle.plantlog.specs.declared.record.RuleChoice.TheVariants.{ShiryaevRoberts, Page}
use Rattle.daybook.specs.declared.entry.alarm.Alarm.{Alarm}
use Rattle.daybook.specs.declared.entry.unwatched.Unwatched.{Unwatched}
use Rattle.daybook.specs.declared.line.ending.EndLine.{EndLine}
use Rattle.daybook.specs.declared.line.fault.FaultLine.{FaultLine}
use Rattle.daybook.specs.declared.line.fault.Layer.{Layer}
use Rattle.daybook.specs.declared.line.fault.Layer.TheVariants.{Log, Monitor, Book, Replay}
use Rattle.daybook.specs.declared.line.setup.MonitorLine.{MonitorLine}

-- the hundredths of a bet in so many parts
abbrev pub hundredths_in : ℕ → ℕ
hundredths_in parts = parts * 100 / bet

-- hundredths as bets: the whole bets, a point, and two digits for what is left
abbrev pub pointed : ℕ → List ℕ
pointed h = decimal (h / 100) ++ (codes "." ++ (decimal (h / 10 % 10) ++ decimal (h % 10)))

-- how a wealth is printed
abbrev pub wealth_text : ℕ → List ℕ
wealth_text parts = pointed (hundredths_in parts)

-- a rule by its letter
abbrev pub rule_text : RuleChoice → List ℕ
rule_text ShiryaevRoberts = codes "S"
rule_text Page = codes "P"

-- the place of a check by its name
abbrev pub layer_text : Layer → List ℕ
layer_text (Log Value) = codes "value"
layer_text (Log Number) = codes "number"
layer_text (Log Record) = codes "record"
layer_text Monitor = codes "monitor"
layer_text Book = codes "book"
layer_text Replay = codes "replay"

-- labels, each with its value behind it, a space between any two words
abbrev pub labelled : List (List ℕ × List ℕ) → List ℕ
labelled [] = []
labelled ((label, value) ∷ []) = label ++ (codes " " ++ value)
labelled ((label, value) ∷ next ∷ more) = label ++ (codes " " ++ (value ++ (codes " " ++ labelled (next ∷ more))))

-- the line of a monitor that was made
abbrev pub monitor_line : MonitorLine → List ℕ
monitor_line m =
    codes "monitor " ++ labelled ((codes "classes", decimal m.classes) ∷ (codes "total", decimal m.total) ∷ (codes "threshold", decimal m.threshold) ∷ (codes "rule", rule_text m.rule) ∷ [])

-- the line of an alarm
abbrev pub alarm_line : Alarm → List ℕ
alarm_line a =
    codes "alarm " ++ labelled ((codes "round", decimal a.round) ∷ (codes "day", decimal a.day) ∷ (codes "wealth", wealth_text a.ledger) ∷ [])

-- the line of a day whose count was passed over
abbrev pub unwatched_line : Unwatched → List ℕ
unwatched_line u = codes "unwatched " ++ labelled ((codes "day", decimal u.day) ∷ (codes "record", decimal u.«record») ∷ [])

-- the line of a log that was read to its end
abbrev pub end_line : EndLine → List ℕ
end_line e =
    codes "end " ++ labelled ((codes "rounds", decimal e.rounds) ∷ (codes "alarms", decimal e.alarms) ∷ (codes "unwatched", decimal e.unwatched) ∷ [])

-- the line of a fault
abbrev pub fault_line : FaultLine → List ℕ
fault_line f =
    labelled ((codes "fault", decimal f.number) ∷ (codes "record", decimal f.«record») ∷ (codes "byte", decimal f.byte) ∷ (codes "layer", layer_text f.layer) ∷ [])

-- a line and its newline
abbrev pub ended_line : List ℕ → List ℕ
ended_line text = text ++ (10 ∷ [])

-- the lines of values of a kind that prints each as output says, if it says so of all
abbrev pub printed_lines : {X : Type 0} → (X → Option (List ℕ)) → List X → Option (List ℕ)
printed_lines output [] = Some []
printed_lines output (x ∷ xs) = option_append (option_map ended_line (output x)) (printed_lines output xs)

-- behind a text stand the lines of the first so many of the values, not of all, and nothing else
pub record FirstLinesPut {X : Type 0} (output : X → Option (List ℕ)) (xs : List X) (before after : List ℕ) : Type 0 where
  pub count : ℕ
  pub not_all : count < length xs
  pub text : IfSome (printed_lines output (take count xs)) (λ bs. after ≡ before ++ bs)

-- the lines of the text of each
abbrev pub lines : {X : Type 0} → (X → List ℕ) → List X → List ℕ
lines text xs = flat_map (λ x. ended_line (text x)) xs
