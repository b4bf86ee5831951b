-- Days go on rising.
use Rattle.std.proofs.Common.{◌≡◌, ℕ, Bool, true, false, cond, ltb, ◌⊎◌, List, [], ◌∷◌, ◌++◌, Some, None, Ok, Err, Option, Result, sym, refl, ap, ◌∙◌, subst, inl, inr, arith}
use Rattle.std.proofs.lemmas.Bool.Decides.{nat_tests}
use Rattle.edetector.specs.declared.state.State.{State}
use Rattle.edetector.specs.declared.state.State.TheVariants.{Armed, Staked, Rung}
use Rattle.edetector.specs.declared.slip.OpenSlip.{OpenSlip}
use Rattle.edetector.specs.declared.slip.ShownSlip.{ShownSlip}
use Rattle.edetector.specs.declared.fault.MonitorFault.{MonitorFault}
use Rattle.edetector.specs.declared.fault.Refused.{Refused}
use Rattle.edetector.specs.Monitors.{Terms, Standing, stake_outcome, settle_outcome}
use Rattle.playback.specs.declared.stop.ReplayFault.{ReplayFault}
use Rattle.playback.specs.declared.stop.ReplayFault.TheVariants.{Book, DayNotAbove}
use Rattle.daybook.specs.declared.fault.BookFault.TheVariants.{Full}
use Rattle.daybook.specs.declared.entry.unwatched.Unwatched.{Unwatched}
use Rattle.daybook.specs.Books.{all_used}
use Rattle.daybook.specs.Keys.{above_in}
use Rattle.playback.specs.Days.{is_after}
use Rattle.daybook.specs.declared.entry.alarm.Alarm.{Alarm}
use Rattle.playback.specs.Rising.{Later, Rising}
use Rattle.playback.specs.Watch.{Watch, Places, Done, done, faulted, counted, round_of, shown, watched, round_done, by_state, count_read}

above_push : {X : Type 0} (key : X → ℕ) (xs : List X) (v : X) (d : ℕ) → above_in key (xs ++ (v ∷ [])) d ≡ ltb (key v) d
above_push key [] v d = refl
above_push key (x ∷ []) v d = refl
above_push key (x ∷ y ∷ xs) v d = above_push key (y ∷ xs) v d

-- what is after a later day is after an earlier one
still_after : (last : Option ℕ) (day d : ℕ) → is_after last day ≡ true → ltb day d ≡ true → is_after last d ≡ true
still_after None day d h l = refl
still_after (Some x) day d h l = grind (arith, nat_tests)

later_same : {X : Type 0} (key : X → ℕ) (last : Option ℕ) (day : ℕ) (xs : List X) → is_after last day ≡ true → Later key last xs → Later key (Some day) xs
later_same key last day xs h all d l = all d (still_after last day d h l)

later_push : {X : Type 0} (key : X → ℕ) (day : ℕ) (xs : List X) (v : X) → key v ≡ day → Later key (Some day) (xs ++ (v ∷ []))
later_push key day xs v e d l = above_push key xs v d ∙ ap (λ n. ltb n d) e ∙ l

-- a book as it was, or with one entry of the day more
abbrev Grown : {X : Type 0} → (X → ℕ) → ℕ → List X → List X → Type 0
Grown {X} key day xs ys = (ys ≡ xs) ⊎ ((v : X) × (key v ≡ day) × (ys ≡ xs ++ (v ∷ [])))

grown_later : {X : Type 0} (key : X → ℕ) (last : Option ℕ) (day : ℕ) (xs ys : List X) → is_after last day ≡ true → Later key last xs → Grown key day xs ys → Later key (Some day) ys
grown_later key last day xs ys h all (inl e) = rw e (later_same key last day xs h all)
grown_later key last day xs ys h all (inr g) = let e = g.2 in rw e (later_push key day xs g.0 g.1)

settle_grown : (x : Result Bool (Refused ShownSlip)) (day : ℕ) (s : Standing) (ents : List Alarm) → Grown (λ a. a.day) day ents (round_of x day s ents).alarms
settle_grown (Ok true) day s ents = inr (record { day = day; round = s.rounds; ledger = s.ledger }, refl, refl)
settle_grown (Ok false) day s ents = inl refl
settle_grown (Err r) day s ents = inl refl

shown_grown : (t : Terms) (ents : List Alarm) (day count : ℕ) (x : Result OpenSlip MonitorFault) (s : Standing) → Grown (λ a. a.day) day ents (shown t ents day count x s).alarms
shown_grown t ents day count (Ok slip) s =
    let o = settle_outcome t s (record { stake = slip; count = count }) in settle_grown o.answer day o.after ents
shown_grown t ents day count (Err f) s = inl refl

watched_grown : (t : Terms) (s : Standing) (ents : List Alarm) (day count : ℕ) → Grown (λ a. a.day) day ents (watched t s ents day count).alarms
watched_grown t s ents day count = let o = stake_outcome t s in shown_grown t ents day count o.answer o.after

-- a count that was taken is dealt with, and each book grows by its day at most
abbrev Taken : Watch → ℕ → Watch → Type 0
Taken w day w' =
    (s : Standing) × (ents : List Alarm) × (us : List Unwatched)
    × (w' ≡ counted w day s ents us) × Grown (λ a. a.day) day w.alarms ents × Grown (λ u. u.day) day w.unwatched us

taken_not_faulted : (w w' : Watch) (f : ReplayFault) → done (Ok tt) w' ≡ faulted w f → ⊥
taken_not_faulted w w' f e =
    let told : ◌≡◌ {A = Result (Unit {0}) ReplayFault} (Ok tt) (Err f) = ap (λ d. d.answer) e in
    cc

by_answer : (w w' : Watch) (day : ℕ) (x : Result (Unit {0}) ReplayFault) (s : Standing) (ents : List Alarm) → Grown (λ a. a.day) day w.alarms ents → done (Ok tt) w' ≡ round_done w day x s ents → Taken w day w'
by_answer w w' day (Ok u) s ents g e = (s, ents, w.unwatched, ap (λ d. d.after) e, g, inl refl)
by_answer w w' day (Err f) s ents g e = absurd (taken_not_faulted w w' f e)

by_places : (w w' : Watch) (b : Bool) (x : Done) → done (Ok tt) w' ≡ cond b (faulted w (Book Full)) x → done (Ok tt) w' ≡ x
by_places w w' true x e = absurd (taken_not_faulted w w' (Book Full) e)
by_places w w' false x e = e

in_state : (st : State) (t : Terms) (p : Places) (w w' : Watch) (number day count : ℕ) → done (Ok tt) w' ≡ by_state st t p w number day count → Taken w day w'
in_state Armed t p w w' number day count e =
    let r = watched t w.standing w.alarms day count in
    by_answer w w' day r.answer r.standing r.alarms (watched_grown t w.standing w.alarms day count) (by_places w w' (all_used p.alarms w.alarms) _ e)
in_state Staked t p w w' number day count e =
    let r = watched t w.standing w.alarms day count in
    by_answer w w' day r.answer r.standing r.alarms (watched_grown t w.standing w.alarms day count) (by_places w w' (all_used p.alarms w.alarms) _ e)
in_state Rung t p w w' number day count e =
    (w.standing, w.alarms, _, ap (λ d. d.after) (by_places w w' (all_used p.unwatched w.unwatched) _ e), inl refl, inr (record { day = day; «record» = number }, refl, refl))

by_day : (w w' : Watch) (b : Bool) (x : Done) → done (Ok tt) w' ≡ cond b x (faulted w DayNotAbove) → (b ≡ true) × (done (Ok tt) w' ≡ x)
by_day w w' true x e = (refl, e)
by_day w w' false x e = absurd (taken_not_faulted w w' DayNotAbove e)

pub count_rises : (t : Terms) (p : Places) (w w' : Watch) (number day count : ℕ) → done (Ok tt) w' ≡ count_read t p w number day count → Rising w → Rising w'
count_rises t p w w' number day count e rises =
    let d = by_day w w' (is_after w.last day) (by_state w.standing.state t p w number day count) e in
    let k = in_state w.standing.state t p w w' number day count d.1 in
    subst Rising (sym k.3) (record { alarms = grown_later (λ a. a.day) w.last day w.alarms k.1 d.0 rises.alarms k.4; unwatched = grown_later (λ u. u.day) w.last day w.unwatched k.2 d.0 rises.unwatched k.5 })
