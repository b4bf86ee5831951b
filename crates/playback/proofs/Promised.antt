-- The bound of the plan of a replay is that of every plan: by the laws of the rules and of the bettors.
use Rattle.std.specs.Prelude.{ℕ, ◌+◌, ◌^◌, ◌≤◌, max, List, [], nat_lt, refl}
use Rattle.std.proofs.Common.{arith}
use Rattle.std.proofs.lemmas.Bool.{cond_both}
use Rattle.edetector.specs.Rules.{bet}
use Rattle.edetector.specs.Bettors.{IsBettor, fixed_meaning, adaptive_meaning}
use Rattle.edetector.specs.Monitors.{terms, first_standing}
use Rattle.edetector.specs.Lemmas.Mixtures.{mixture_law}
use Rattle.edetector.specs.Lemmas.Ratios.{fixed_law}
use Rattle.edetector.specs.Lemmas.Tallies.{adaptive_law}
use Rattle.edetector.proofs.Bounded.{bound}
use Rattle.plantlog.specs.declared.record.BettorChoice.{BettorChoice}
use Rattle.plantlog.specs.declared.record.BettorChoice.TheVariants.{Fixed, Adaptive, Mixture}
use Rattle.plantlog.specs.declared.record.RuleChoice.{RuleChoice}
use Rattle.plantlog.specs.declared.record.RuleChoice.TheVariants.{ShiryaevRoberts, Page}
use Rattle.playback.specs.Replayed.{rule_base, meaning_of}
use Rattle.playback.specs.Planned.{calls_before}
use Rattle.playback.specs.Promised.{WithinLimits, Promised}

at_most_a_bet : (rule : RuleChoice) (m : ℕ) → rule_base rule m ≤ m + bet
at_most_a_bet ShiryaevRoberts m = cond_both (nat_lt (2 ^ 32) m) m (m + bet) (λ b. b ≤ m + bet) (λ over. omega arith) (λ begun. omega arith)
at_most_a_bet Page m = cond_both (nat_lt (2 ^ 32) m) m (max m bet) (λ b. b ≤ m + bet) (λ over. omega arith) (λ begun. omega arith)

bettor_law : (bettor : BettorChoice) (ws alts : List ℕ) → WithinLimits ws bettor alts → IsBettor (meaning_of bettor ws alts)
bettor_law Fixed ws alts ok = fixed_law ws alts ok.null (ok.alternative refl) (ok.level refl)
bettor_law Adaptive ws alts ok = adaptive_law ws [] ok.null
bettor_law Mixture ws alts ok =
    mixture_law (fixed_meaning ws alts) (adaptive_meaning ws []) (fixed_law ws alts ok.null (ok.alternative refl) (ok.level refl)) (adaptive_law ws [] ok.null)

pub promised : Promised
promised ws x alts ok =
    let m = meaning_of x.bettor ws alts in
    let t = terms m (rule_base x.rule) x.threshold in
    let every = bound m (rule_base x.rule) x.threshold 1 (record { at_most_a_bet = at_most_a_bet x.rule }) (bettor_law x.bettor ws alts ok) in
    ((λ turns h. every h (calls_before t (first_standing t 1 m) turns)), every)
