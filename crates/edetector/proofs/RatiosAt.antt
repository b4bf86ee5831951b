-- Likelihood ratios and tallied weights, read at a class.
use Rattle.std.specs.Prelude.{◌≡◌, ℕ, zero, suc, ◌+◌, ◌*◌, ◌/◌, ◌<◌, List, [], ◌∷◌, length, slice_index, refl}
use Rattle.std.proofs.Common.{ap, ◌∙◌, add-zero, le_of_suc-le-suc, not-suc-le-zero, arith}
use Rattle.edetector.specs.Bettors.{ratios, times}
use Rattle.edetector.specs.Lemmas.Tallies.{tallied_from}

pub ratios_at : (n v : ℕ) (ws alts : List ℕ) → length alts ≡ length ws → (k : ℕ) → k < length ws → slice_index (ratios n v ws alts) k ≡ (4096 * slice_index alts k * n) / (v * slice_index ws k)
ratios_at n v [] alts e k h = absurd (not-suc-le-zero h)
ratios_at n v (x ∷ ws) [] e k h = absurd (omega arith)
ratios_at n v (x ∷ ws) (a ∷ alts) e zero h = refl
ratios_at n v (x ∷ ws) (a ∷ alts) e (suc k) h = ratios_at n v ws alts (omega arith) k (le_of_suc-le-suc h)

pub tallied_at : (i : ℕ) (ws tally : List ℕ) (k : ℕ) → k < length ws → slice_index (tallied_from i ws tally) k ≡ slice_index ws k + times (i + k) tally
tallied_at i [] tally k h = absurd (not-suc-le-zero h)
tallied_at i (w ∷ ws) tally zero h = rw add-zero refl
tallied_at i (w ∷ ws) tally (suc k) h =
    let same : i + 1 + k ≡ i + suc k = omega arith in
    tallied_at (i + 1) ws tally k (le_of_suc-le-suc h) ∙ ap (λ n. slice_index ws k + times n tally) same
