-- A mixture's row read at a class, and what one class learned does.
use Rattle.std.specs.Prelude.{◌≡◌, ℕ, ◌+◌, ◌/◌, ◌<◌, ◌≤◌, Bool, true, false, cond, List, ◌∷◌, length, nat_lt, slice_index, refl}
use Rattle.std.proofs.Common.{sym, ap, ◌∙◌, arith, ⊎_elim}
use Rattle.std.proofs.lemmas.Bool.{cases_lt, cond-false, cond-true, cond_both}
use Rattle.std.proofs.lemmas.Bool.Decides.{nat_tests}
use Rattle.edetector.specs.Bettors.{Meaning, meaning_after, same_table, averages, mixed_row, mixture_meaning}
use Rattle.edetector.specs.Lemmas.Mixtures.{same_from, averages_at, same_length}

module _ (ws vs f g : List ℕ) (long-f : length f ≡ length ws) (long-g : length g ≡ length vs) where
  pub mixed_at : (k : ℕ) → same_table ws vs ≡ true → slice_index (mixed_row ws vs f g) k ≡ (slice_index f k + slice_index g k) / 2
  mixed_at k h = ap (λ b. slice_index (cond b (averages f g) f) k) h ∙ averages_at f g (same_length ws vs f g long-f long-g h) k

-- the meaning once k, which is a class, is learned
abbrev after : Meaning → ℕ → Meaning
after m k = record m { strategy = λ later. m.strategy (k ∷ later) }

after_class : (m : Meaning) (k : ℕ) → k < length m.nulls → meaning_after m k ≡ after m k
after_class m k h = cond-true (nat_lt k (length m.nulls)) (after m k) m (grind (arith, nat_tests))

pub after_none : (m : Meaning) (k : ℕ) → length m.nulls ≤ k → meaning_after m k ≡ m
after_none m k h = cond-false (nat_lt k (length m.nulls)) (after m k) m (grind (arith, nat_tests))

pub nulls_after : (m : Meaning) (k : ℕ) → (meaning_after m k).nulls ≡ m.nulls
nulls_after m k = cond_both (nat_lt k (length m.nulls)) (after m k) m (λ x. x.nulls ≡ m.nulls) (λ h. refl) (λ h. refl)

-- where the tables differ, a mixture means what its first bettor means
mixture_apart : (p q : Meaning) → same_table p.nulls q.nulls ≡ false → mixture_meaning p q ≡ p
mixture_apart p q apart =
    ap (λ (b : Bool). let m : Meaning = record { nulls = p.nulls; strategy = λ later. cond b (averages (p.strategy later) (q.strategy later)) (p.strategy later) } in m) apart

-- a mixture of two bettors that have learned a class of the first's table has learned it
pub mixture_after : (p q : Meaning) (k : ℕ) → k < length p.nulls → mixture_meaning (meaning_after p k) (meaning_after q k) ≡ meaning_after (mixture_meaning p q) k
mixture_after p q k h =
    ap (λ x. mixture_meaning x (meaning_after q k)) (after_class p k h)
    ∙ cond_both (same_table p.nulls q.nulls) true false (λ b. mixture_meaning (after p k) (meaning_after q k) ≡ after (mixture_meaning p q) k)
    (λ same. ap (mixture_meaning (after p k)) (after_class q k (omega (arith, h, ap length (same_from p.nulls q.nulls same)))))
    (λ apart. mixture_apart (after p k) (meaning_after q k) (ap (same_table p.nulls) (nulls_after q k) ∙ apart) ∙ sym (ap (λ m. after m k) (mixture_apart p q apart)))
    ∙ sym (after_class (mixture_meaning p q) k h)

-- a mixture takes a step where both bettors take one at a class of the first's table, and nothing changes at any other number
pub mixture_steps : (p q p' q' : Meaning) (k : ℕ) → (k < length p.nulls → p' ≡ meaning_after p k) → (k < length p.nulls → q' ≡ meaning_after q k) → (length p.nulls ≤ k → mixture_meaning p' q' ≡ mixture_meaning p q) →
    mixture_meaning p' q' ≡ meaning_after (mixture_meaning p q) k
mixture_steps p q p' q' k first second same =
    ⊎_elim
    (λ below. let one = first below in let two = second below in rw (one, two) (mixture_after p q k below))
    (λ past. same past ∙ sym (after_none (mixture_meaning p q) k past))
    (cases_lt k (length p.nulls))
