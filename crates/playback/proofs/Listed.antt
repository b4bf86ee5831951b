-- The listing of a log, by what its replay came to.
use Rattle.std.proofs.Common.{◌≡◌, ℕ, List, [], ◌++◌, Result, IfOk, length, sym, ap, ap₂, ◌∙◌, subst}
use Rattle.std.proofs.lemmas.List.{take-append-drop}
use Rattle.daybook.specs.declared.book.Book.{Book}
use Rattle.daybook.specs.declared.entry.Keyed.{Ghosts as Keyed}
use Rattle.daybook.specs.declared.entry.alarm.Alarm.{Alarm}
use Rattle.daybook.specs.declared.entry.unwatched.Unwatched.{Unwatched}
use Rattle.daybook.specs.Books.{entries_of, unused_of, places_of}
use Rattle.playback.specs.declared.report.Run.{Run}
use Rattle.playback.specs.declared.stop.Fault.{Fault}
use Rattle.playback.specs.Held.{places_in}
use Rattle.playback.specs.Replayed.{Replay, replay_told, replay_of}
use Rattle.playback.specs.Listing.{listing_of}

-- an empty book has as many places as were handed over
pub places_handed : {X : Type 0} {K : Keyed X} (b : Book X K) (places : List X) → entries_of b ≡ [] → unused_of b ≡ places → places_of b ≡ length places
places_handed {X = X} b places none all =
    ap (λ (xs : List X). length xs) (sym (take-append-drop b.used b.places.now) ∙ ap₂ (λ (xs ys : List X). xs ++ ys) none all)

pub listed_text : {S E : Type 0} {K : Keyed Alarm} {L : Keyed Unwatched} (bytes : S → List ℕ) (r : Result S E) (report : Result Run Fault) (alarms : List Alarm) (unwatched : List Unwatched) (a a' : Book Alarm K) (u u' : Book Unwatched L) (m n : ℕ) (log : List ℕ) →
    alarms ≡ entries_of a' → unwatched ≡ entries_of u' → places_of a ≡ m → places_of u ≡ n → replay_told report a' u' ≡ replay_of (places_in a u) log →
    IfOk r (λ s. bytes s ≡ listing_of (record { said = report; alarms = alarms; unwatched = unwatched })) →
    IfOk r (λ s. bytes s ≡ listing_of (replay_of (record { alarms = m; unwatched = n }) log))
listed_text bytes r report alarms unwatched a a' u u' m n log ea eu pa pu told text =
    let same : ◌≡◌ {A = Replay} (record { said = report; alarms = alarms; unwatched = unwatched }) (replay_of (record { alarms = m; unwatched = n }) log) =
    ap₂ (λ (xs : List Alarm) (ys : List Unwatched). record { said = report; alarms = xs; unwatched = ys }) ea eu
    ∙ told ∙ ap₂ (λ (x y : ℕ). replay_of (record { alarms = x; unwatched = y }) log) pa pu in
    subst (λ (x : Replay). IfOk r (λ s. bytes s ≡ listing_of x)) same text
