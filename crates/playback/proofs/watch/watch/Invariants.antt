use Rattle.std.proofs.Common.{◌≡◌, length}
use Rattle.edetector.specs.Monitors.{view, terms_of}
use Rattle.playback.specs.Held.{watch_of, places_lent, KeepsBooks}
use Rattle.playback.specs.Rising.{Rising}
use Rattle.playback.specs.Stepping.{comes_to}
use Rattle.playback.proofs.watch.watch.Given as goal

-- what is left gives what the whole gives
abbrev pub invariant-loop-records : goal.invariant-loop-records
invariant-loop-records g l =
    (comes_to (terms_of g.B.Bettor.meaning g.R.RestartRule.base l.monitor) (places_lent l.books) l.records (watch_of (view g.B.Bettor.meaning l.monitor) l.records l.books)
    ≡ comes_to (terms_of g.B.Bettor.meaning g.R.RestartRule.base l.initial.monitor) (places_lent l.initial.books) l.initial.records (watch_of (view g.B.Bettor.meaning l.initial.monitor) l.initial.records l.initial.books))
    × Rising (watch_of (view g.B.Bettor.meaning l.monitor) l.records l.books)
    × KeepsBooks l.initial.books l.books

abbrev pub decreases-loop-records : goal.decreases-loop-records
decreases-loop-records g l = length l.records.left
