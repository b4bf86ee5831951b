-- One record of a log: how the rest of the replay follows from it.
use Rattle.std.specs.Prelude.{◌≡◌, ◌<◌, Bool, true, false, length, Ok, Err, Result}
use Rattle.edetector.specs.Monitors.{Terms}
use Rattle.playback.specs.declared.stop.ReplayFault.{ReplayFault}
use Rattle.playback.specs.Stream.{stream_of}
use Rattle.playback.specs.Watch.{Watch, Places}
use Rattle.playback.specs.Rest.{Rest}
use Rattle.playback.specs.Rising.{Rising}
use Rattle.playback.specs.Replaying.{Finish, stopped, fault_at, at_end, watching}

-- what the replay of the rest comes to, or the rest behind an end
abbrev pub comes_to : Terms → Places → Rest → Watch → Finish
comes_to t p rest w = watching t p (stream_of rest.left) rest.at w

abbrev pub ends_as : Rest → Watch → Finish
ends_as rest w = at_end (stream_of rest.left) rest.at w

-- the same of the rest behind a record that was taken, behind an end, or at a fault
abbrev pub Stepped : Terms → Places → Rest → Watch → Result Bool ReplayFault → Rest → Watch → Type 0
Stepped t p rest w (Ok true) rest' w' = comes_to t p rest w ≡ comes_to t p rest' w'
Stepped t p rest w (Ok false) rest' w' = comes_to t p rest w ≡ ends_as rest' w'
Stepped t p rest w (Err f) rest' w' = comes_to t p rest w ≡ stopped w' (fault_at rest.at f)

-- a replay can go on: days rise, and fewer bytes are left than before
pub record GoesOn (rest rest' : Rest) (w : Watch) : Type 0 where
  pub rising : Rising w
  pub shorter : length rest'.left < length rest.left

abbrev pub IfOn : Result Bool ReplayFault → Type 0 → Type 0
IfOn (Ok true) P = P
IfOn (Ok false) P = Unit {0}
IfOn (Err f) P = Unit {0}
