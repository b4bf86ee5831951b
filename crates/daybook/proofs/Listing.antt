-- Lines put one after the other.
use Rattle.std.proofs.Common.{◌≡◌, ℕ, ◌+◌, ◌<◌, List, [], ◌∷◌, ◌++◌, length, get_or, take, Option, Some, None, IfSome, option_map, sym, refl, ap, ◌∙◌}
use Rattle.std.specs.Fmt.{option_append}
use Rattle.std.proofs.lemmas.List.{append_assoc, append-nil, take_more}
use Rattle.daybook.specs.declared.entry.alarm.Alarm.{Alarm}
use Rattle.daybook.specs.declared.entry.unwatched.Unwatched.{Unwatched}
use Rattle.daybook.specs.Lines.{ended_line, printed_lines, lines, alarm_line, unwatched_line}

-- what stands behind `old`, with the text of o put before that of p
joined : (old w t : List ℕ) (p : Option (List ℕ)) → IfSome p (λ bs. w ≡ (old ++ t) ++ bs) → IfSome (option_append (Some t) p) (λ bs. w ≡ old ++ bs)
joined old w t None h = h
joined old w t (Some bs) h = h ∙ append_assoc old t bs

parted : (old w t : List ℕ) (p : Option (List ℕ)) → IfSome (option_append (Some t) p) (λ bs. w ≡ old ++ bs) → IfSome p (λ bs. w ≡ (old ++ t) ++ bs)
parted old w t None h = h
parted old w t (Some bs) h = h ∙ sym (append_assoc old t bs)

module _ (was next : List ℕ) where
  behind : (old : List ℕ) (o p q : Option (List ℕ)) → ((t : List ℕ) → IfSome p (λ bs. was ≡ (old ++ t) ++ bs) → IfSome q (λ bs. next ≡ (old ++ t) ++ bs)) → IfSome (option_append o p) (λ bs. was ≡ old ++ bs) → IfSome (option_append o q) (λ bs. next ≡ old ++ bs)
  behind old None p q k h = h
  behind old (Some t) p q k h = joined old next t q (k t (parted old was t p h))

  first_line : (old : List ℕ) (o : Option (List ℕ)) → was ≡ old ++ [] → IfSome o (λ bs. next ≡ was ++ ended_line bs) → IfSome (option_append (option_map ended_line o) (Some [])) (λ bs. next ≡ old ++ bs)
  first_line old None w n = n
  first_line old (Some bs) w n = n ∙ ap (λ l. l ++ ended_line bs) w ∙ simp append-nil

  module _ {X : Type 0} (output : X → Option (List ℕ)) where
    -- the line of x is put after those of xs
    put_next : (old : List ℕ) (xs : List X) (x : X) → IfSome (printed_lines output xs) (λ bs. was ≡ old ++ bs) → IfSome (output x) (λ bs. next ≡ was ++ ended_line bs) → IfSome (printed_lines output (xs ++ x ∷ [])) (λ bs. next ≡ old ++ bs)
    put_next old [] x w n = first_line old (output x) w n
    put_next old (y ∷ ys) x w n =
        behind old (option_map ended_line (output y)) (printed_lines output ys) (printed_lines output (ys ++ x ∷ [])) (λ t h. put_next (old ++ t) ys x h n) w

    pub one_more : (old : List ℕ) (xs : List X) (i : ℕ) (x : X) → x ≡ get_or xs i x → i < length xs → IfSome (printed_lines output (take i xs)) (λ bs. was ≡ old ++ bs) → IfSome (output x) (λ bs. next ≡ was ++ ended_line bs) → IfSome (printed_lines output (take (i + 1) xs)) (λ bs. next ≡ old ++ bs)
    one_more old xs i x is h w n =
        let more : take (i + 1) xs ≡ take i xs ++ x ∷ [] = take_more xs i x h ∙ ap (λ y. take i xs ++ y ∷ []) (sym is) in
        rw more (put_next old (take i xs) x w n)

-- where each is printed as its text, the lines are those of the texts
printed_lines-some : {X : Type 0} (text : X → List ℕ) (xs : List X) → printed_lines (λ x. Some (text x)) xs ≡ Some (lines text xs)
printed_lines-some text [] = refl
printed_lines-some text (x ∷ xs) = ap (option_append (Some (ended_line (text x)))) (printed_lines-some text xs)

-- what the lines of alarms, and those of unwatched days, put behind a text
module _ (old new : List ℕ) where
  pub alarms_put : (xs : List Alarm) → IfSome (printed_lines (λ a. Some (alarm_line a)) xs) (λ bs. new ≡ old ++ bs) → new ≡ old ++ lines alarm_line xs
  alarms_put xs h = rw (printed_lines-some alarm_line xs) at h

  pub unwatched_put : (xs : List Unwatched) → IfSome (printed_lines (λ u. Some (unwatched_line u)) xs) (λ bs. new ≡ old ++ bs) → new ≡ old ++ lines unwatched_line xs
  unwatched_put xs h = rw (printed_lines-some unwatched_line xs) at h
