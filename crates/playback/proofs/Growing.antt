-- Books to which entries are added, and then more.
use Rattle.std.proofs.Common.{◌≡◌, ℕ, ◌≤◌, ◌-◌, ◌+◌, Bool, true, List, length, drop, Ok, Result, sym, ap, ap₂, ◌∙◌, subst, arith}
use Rattle.std.proofs.lemmas.List.{length-take-le, drop-drop}
use Rattle.daybook.specs.declared.book.Book.{Book}
use Rattle.daybook.specs.declared.entry.Keyed.{Ghosts as Keyed}
use Rattle.daybook.specs.Books.{entries_of, Keeps}
use Rattle.edetector.specs.Monitors.{Terms}
use Rattle.playback.specs.declared.stop.ReplayFault.{ReplayFault}
use Rattle.playback.specs.declared.books.Books.{Books}
use Rattle.playback.specs.Rest.{Rest}
use Rattle.playback.specs.Replaying.{Finish}
use Rattle.playback.specs.Rising.{Rising}
use Rattle.playback.specs.Stepping.{comes_to, Stepped, GoesOn, IfOn}
use Rattle.playback.specs.Watch.{Watch}
use Rattle.playback.specs.Held.{places_lent, Grows, KeepsBooks}

keeps_on : {X : Type 0} {K : Keyed X} (a b c : Book X K) → Keeps a b → Keeps b c → length (entries_of b) ≤ length (entries_of c) → Keeps a c
keeps_on {X = X} a b c k1 k2 h =
    let k : ℕ = length (entries_of b) in
    let n : ℕ = length (entries_of c) in
    let more : k + (n - k) ≡ n = omega (arith, h) in
    let shift : (xs : List X) → drop (n - k) (drop k xs) ≡ drop n xs = λ xs. drop-drop (n - k) k xs ∙ ap (λ i. drop i xs) more in
    let behind : drop k b.places.now ≡ drop k a.places.now = ap (λ i. drop i b.places.now) (length-take-le b.used b.places.now b.within) ∙ k1.unused in
    record {
      lender = k2.lender ∙ k1.lender;
      places = k2.places ∙ k1.places;
      unused = k2.unused ∙ sym (shift b.places.now) ∙ ap (drop (n - k)) behind ∙ shift a.places.now;
    }

grows_on : {X : Type 0} {K : Keyed X} (a b c : Book X K) → Grows a b → Grows b c → Grows a c
grows_on a b c g h = record { kept = keeps_on a b c g.kept h.kept h.more; more = omega (arith, g.more, h.more) }

pub books_kept : (a b c : Books) → KeepsBooks a b → KeepsBooks b c → KeepsBooks a c
books_kept a b c g h = record {
  alarms_lender = h.alarms_lender ∙ g.alarms_lender;
  unwatched_lender = h.unwatched_lender ∙ g.unwatched_lender;
  alarms = grows_on a.alarms.now b.alarms.now c.alarms.now g.alarms h.alarms;
  unwatched = grows_on a.unwatched.now b.unwatched.now c.unwatched.now g.unwatched h.unwatched;
}

places_stay : (a b : Books) → KeepsBooks a b → places_lent b ≡ places_lent a
places_stay a b g = ap₂ (λ (x y : ℕ). record { alarms = x; unwatched = y }) g.alarms.kept.places g.unwatched.kept.places

-- a record that was taken, with what the whole comes to
pub went_on : (t t' : Terms) (first a b : Books) (rest rest' : Rest) (w w' : Watch) (whole : Finish) (r : Result Bool ReplayFault) → r ≡ Ok true → t' ≡ t →
    Stepped t (places_lent a) rest w r rest' w' → IfOn r (GoesOn rest rest' w') → KeepsBooks a b →
    (comes_to t (places_lent a) rest w ≡ whole) × Rising w × KeepsBooks first a →
    (comes_to t' (places_lent b) rest' w' ≡ whole) × Rising w' × KeepsBooks first b
went_on t t' first a b rest rest' w w' whole r on terms does goes kept was =
    let step : comes_to t (places_lent a) rest w ≡ comes_to t (places_lent a) rest' w' = subst (λ (x : Result Bool ReplayFault). Stepped t (places_lent a) rest w x rest' w') on does in
    let more : GoesOn rest rest' w' = subst (λ (x : Result Bool ReplayFault). IfOn x (GoesOn rest rest' w')) on goes in
    (ap₂ (λ x p. comes_to x p rest' w') terms (places_stay a b kept) ∙ sym step ∙ was.0, more.rising, books_kept first a b was.2 kept)
