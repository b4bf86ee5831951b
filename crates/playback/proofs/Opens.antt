-- The header on plain data.
use Rattle.std.proofs.Common.{◌≡◌, ℕ, true, List, [], Ok, Err, Result, sym, refl, ap, ◌∙◌}
use Rattle.edetector.specs.Bettors.{Meaning, adaptive_meaning}
use Rattle.plantlog.specs.declared.record.BettorChoice.TheVariants.{Adaptive}
use Rattle.plantlog.specs.declared.record.Setup.{Setup}
use Rattle.plantlog.specs.Results.{and_then}
use Rattle.plantlog.specs.Format.{Fields}
use Rattle.playback.specs.declared.books.Books.{Books}
use Rattle.playback.specs.declared.report.Run.{Run}
use Rattle.playback.specs.declared.stop.Fault.{Fault}
use Rattle.playback.specs.declared.stop.ReplayFault.{ReplayFault}
use Rattle.playback.specs.Front.{next_fields, only_table, only_setup, only_alternative}
use Rattle.playback.specs.Held.{NothingYet}
use Rattle.playback.specs.Stream.{Stream, stream_of}
use Rattle.playback.specs.Watch.{Places}
use Rattle.playback.specs.Replaying.{Spot, behind, fault_in}
use Rattle.playback.specs.Rest.{Rest, at_spot, behind_record}
use Rattle.playback.specs.Replayed.{Replay, replay_told, head_of, taken_of, tail_of, with_record, monitored, meaning_of, has_alternative, as_many, alternative_of, alternative_for, after_setup, after_table, replayed}
use Rattle.playback.proofs.Steps.{streams, head_is}

-- a fault before there is a monitor, with empty books
abbrev pub unmade : Fault → Replay
unmade f = record { said = Err f; alarms = []; unwatched = [] }

pub unmade_told : (r : Result Run Fault) (rest : Rest) (books : Books) (f : Fault) → r ≡ Err f → NothingYet rest books → replay_told r books.alarms.now books.unwatched.now ≡ unmade f
unmade_told r rest books f is none = let a = none.alarms in let u = none.unwatched in rw (is, a, u) refl

at_spot_ok : {X : Type 0} (at : Spot) (r : Result X ReplayFault) (x : X) → Ok x ≡ at_spot at r → Ok x ≡ r
at_spot_ok at (Ok y) x e = let same : x ≡ y = cc in ap Ok same
at_spot_ok at (Err c) x e = cc

-- where a record of the header is refused the replay is over
refused_by : {X : Type 0} (s : Stream) (at : Spot) (go : X → Stream → Spot → Replay) (r : Result X ReplayFault) (f : Fault) → Err f ≡ at_spot at r → unmade f ≡ with_record r s at go
refused_by s at go (Ok y) f e = cc
refused_by s at go (Err c) f e = let same : f ≡ fault_in at c = cc in ap unmade same

accepted_by : {X Y : Type 0} (r : Result X ReplayFault) (go : X → Result Y ReplayFault) (y : Y) → Ok y ≡ and_then r go → (x : X) × (r ≡ Ok x)
accepted_by (Ok x) go y e = (x, refl)
accepted_by (Err f) go y e = cc

-- a record of the header, by what the next record says
module _ {X : Type 0} (rest : Rest) (of : Result Fields ReplayFault → Result X ReplayFault) (go : X → Stream → Spot → Replay) where
  by_next : with_record (of (next_fields rest.left)) (stream_of rest.left) rest.at go ≡ with_record (of (head_of (stream_of rest.left))) (stream_of rest.left) rest.at go
  by_next = ap (λ r. with_record (of r) (stream_of rest.left) rest.at go) (sym (head_is rest.left))

  refused : (f : Fault) → Err f ≡ at_spot rest.at (of (next_fields rest.left)) → unmade f ≡ with_record (of (head_of (stream_of rest.left))) (stream_of rest.left) rest.at go
  refused f e = refused_by (stream_of rest.left) rest.at go (of (next_fields rest.left)) f e ∙ by_next

  goes_on : (rest' : Rest) → rest' ≡ behind_record rest → (x : X) (f : Fields) → next_fields rest.left ≡ Ok f → Ok x ≡ of (next_fields rest.left) →
      go x (stream_of rest'.left) rest'.at ≡ with_record (of (head_of (stream_of rest.left))) (stream_of rest.left) rest.at go
  goes_on rest' past x f said read =
      let next = streams rest.left f said in
      ap (λ r. go x (stream_of r.left) r.at) past ∙ ap (λ s. go x (tail_of s) (behind rest.at (taken_of s))) (sym next)
      ∙ ap (λ r. with_record r (stream_of rest.left) rest.at go) read ∙ by_next

module _ (p : Places) (rest : Rest) where
  abbrev plays_by : List ℕ → Setup → List ℕ → Stream → Spot → Replay
  plays_by ws x alts = monitored p x (meaning_of x.bettor ws alts)

  is_third : (ws : List ℕ) (x : Setup) → has_alternative x.bettor ≡ true →
      with_record (alternative_of ws (head_of (stream_of rest.left))) (stream_of rest.left) rest.at (plays_by ws x) ≡ after_setup p ws x (stream_of rest.left) rest.at
  is_third ws x other = rw other refl

  pub first_refused : (f : Fault) → Err f ≡ at_spot rest.at (and_then (next_fields rest.left) only_table) → unmade f ≡ replayed p (stream_of rest.left) rest.at
  first_refused f e = refused rest (λ r. and_then r only_table) (after_table p) f e

  pub second_refused : (ws : List ℕ) (f : Fault) → Err f ≡ at_spot rest.at (and_then (next_fields rest.left) only_setup) → unmade f ≡ after_table p ws (stream_of rest.left) rest.at
  second_refused ws f e = refused rest (λ r. and_then r only_setup) (after_setup p ws) f e

  pub third_refused : (ws : List ℕ) (x : Setup) (f : Fault) → has_alternative x.bettor ≡ true → Err f ≡ at_spot rest.at (alternative_for ws rest.left) → unmade f ≡ after_setup p ws x (stream_of rest.left) rest.at
  third_refused ws x f other e = refused rest (alternative_of ws) (plays_by ws x) f e ∙ is_third ws x other

  -- the adaptive bettor needs no alternative
  pub goes_adaptive : (ws : List ℕ) (x : Setup) (m : Meaning) → x.bettor ≡ Adaptive → m ≡ adaptive_meaning ws [] → monitored p x m (stream_of rest.left) rest.at ≡ after_setup p ws x (stream_of rest.left) rest.at
  goes_adaptive ws x m is plays = rw (is, plays) refl

  module _ (rest' : Rest) (past : rest' ≡ behind_record rest) where
    pub first_taken : (ws : List ℕ) → Ok ws ≡ at_spot rest.at (and_then (next_fields rest.left) only_table) → after_table p ws (stream_of rest'.left) rest'.at ≡ replayed p (stream_of rest.left) rest.at
    first_taken ws e =
        let read = at_spot_ok rest.at _ ws e in
        let f = accepted_by (next_fields rest.left) only_table ws read in
        goes_on rest (λ r. and_then r only_table) (after_table p) rest' past ws f.0 f.1 read

    pub second_taken : (ws : List ℕ) (x : Setup) → Ok x ≡ at_spot rest.at (and_then (next_fields rest.left) only_setup) → after_setup p ws x (stream_of rest'.left) rest'.at ≡ after_table p ws (stream_of rest.left) rest.at
    second_taken ws x e =
        let read = at_spot_ok rest.at _ x e in
        let f = accepted_by (next_fields rest.left) only_setup x read in
        goes_on rest (λ r. and_then r only_setup) (after_setup p ws) rest' past x f.0 f.1 read

    -- an alternative with as many classes
    pub third_taken : (ws : List ℕ) (x : Setup) (alts : List ℕ) (m : Meaning) → has_alternative x.bettor ≡ true → Ok alts ≡ at_spot rest.at (alternative_for ws rest.left) → m ≡ meaning_of x.bettor ws alts →
        monitored p x m (stream_of rest'.left) rest'.at ≡ after_setup p ws x (stream_of rest.left) rest.at
    third_taken ws x alts m other e plays =
        let read = at_spot_ok rest.at _ alts e in
        let said = accepted_by (and_then (next_fields rest.left) only_alternative) (as_many ws) alts read in
        let f = accepted_by (next_fields rest.left) only_alternative said.0 (sym said.1) in
        ap (λ q. monitored p x q (stream_of rest'.left) rest'.at) plays
        ∙ goes_on rest (alternative_of ws) (plays_by ws x) rest' past alts f.0 f.1 read ∙ is_third ws x other

-- behind a table and a setup
pub header_taken : (p : Places) (rest rest1 rest2 : Rest) → rest1 ≡ behind_record rest → rest2 ≡ behind_record rest1 → (ws : List ℕ) (x : Setup) →
    Ok ws ≡ at_spot rest.at (and_then (next_fields rest.left) only_table) → Ok x ≡ at_spot rest1.at (and_then (next_fields rest1.left) only_setup) →
    after_setup p ws x (stream_of rest2.left) rest2.at ≡ replayed p (stream_of rest.left) rest.at
header_taken p rest rest1 rest2 past past1 ws x e e1 = second_taken p rest1 rest2 past1 ws x e1 ∙ first_taken p rest rest1 past ws e
