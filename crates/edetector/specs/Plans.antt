-- Plans of calls, their runs, and the bound on alarms over every sequence that a sound line could send.
use Rattle.std.specs.Prelude.{ℕ, zero, suc, ◌*◌, ◌≤◌, Bool, false, if◌then◌else◌, List, [], ◌∷◌, ◌++◌, map, length, replicate, slice_index, sum_by, count_by}
use Rattle.std.specs.List.{flat_map, range_with_len}
use Rattle.edetector.specs.States.{is_staked}
use Rattle.edetector.specs.Bettors.{Meaning}
use Rattle.edetector.specs.Monitors.{Terms, Standing, Call, Settle, Answer, terms, first_standing, shown_slip, next_slip, is_fitting, next_outcome, call_outcome, calls_outcome, is_round, is_alarm}

-- what a host means to call between two settlements, by the classes that were settled up to then. It knows the tag and the
-- number of rounds, and so each slip: it may withdraw the one that is out
abbrev pub Plan : Type 0
Plan = List ℕ → List Call

-- whether a call would settle the slip that is out
abbrev pub is_settling : Standing → Call → Bool
is_settling s (Settle slip) = is_fitting s slip.stake
is_settling s _ = false

-- the calls of a plan, but none that would settle the slip that is out: the counts are not the plan's to choose
abbrev pub plan_calls : Terms → Standing → List Call → List Call
plan_calls t s [] = []
plan_calls t s (c ∷ cs) = if is_settling s c then plan_calls t s cs else c ∷ plan_calls t (call_outcome t s c).after cs

-- the calls of a plan's run on a sequence of classes, where those of past are settled already. Whenever the plan's calls
-- leave a slip out, the sequence's next class settles it; without a slip, or without a class, nothing more is called
abbrev pub run_calls : Terms → Plan → Standing → List ℕ → List ℕ → List Call
run_calls t plan s past [] = plan_calls t s (plan past)
run_calls t plan s past (k ∷ classes) =
    let first = plan_calls t s (plan past) in
    let staked = (calls_outcome t s first).after in
    if is_staked staked.state then first ++ (Settle (shown_slip (next_slip staked) k) ∷ run_calls t plan (next_outcome t staked k).after (past ++ (k ∷ [])) classes)
    else first

-- a run is what its calls answer
abbrev pub run : Terms → Plan → Standing → List ℕ → List Answer
run t plan s classes = (calls_outcome t s (run_calls t plan s [] classes)).answer

-- all sequences of h classes out of n
abbrev pub sequences : ℕ → ℕ → List (List ℕ)
sequences n zero = [] ∷ []
sequences n (suc h) = flat_map (λ k. map (λ ks. k ∷ ks) (sequences n h)) (range_with_len 0 n)

-- how much a sequence weighs: its classes' weights multiplied, each from the table of its place, or 1 past the last table
abbrev pub weight_of : List (List ℕ) → List ℕ → ℕ
weight_of (ws ∷ tables) (k ∷ classes) = slice_index ws k * weight_of tables classes
weight_of _ _ = 1

-- summed over all sequences of h classes: weight by the null table × how many answers of the plan's run from s pass a test
abbrev pub weighted_count : (Answer → Bool) → Terms → Standing → Plan → ℕ → ℕ
weighted_count test t s plan h =
    sum_by (λ classes. weight_of (replicate h t.nulls) classes * count_by test (run t plan s classes)) (sequences (length t.nulls) h)

-- the bound, of a monitor just made: for every horizon and plan, threshold × weighted alarms ≤ weighted settled rounds
abbrev pub Bound : Meaning → (ℕ → ℕ) → ℕ → ℕ → Type 0
Bound m base threshold tag = (h : ℕ) (plan : Plan) →
    let t = terms m base threshold in
    let s = first_standing t tag m in
    threshold * weighted_count is_alarm t s plan h ≤ weighted_count is_round t s plan h
