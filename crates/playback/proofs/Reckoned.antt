-- The worked figures, by computing them.
use Rattle.std.proofs.Common.{refl, arith}
use Rattle.plantlog.specs.Numbers.{number_bytes, first_number, NumberExamples}
use Rattle.playback.specs.Figures.{Figures}

examples : NumberExamples
unfolding number_bytes first_number
examples = (refl, refl, refl, refl, refl)

pub reckoned : Figures
reckoned = record {
  bets = record {
    fixed_row = refl;
    nearest_is_unfair = λ h. omega (arith, h);
    adaptive_row = refl;
    mixture_row = refl;
    shiryaev_roberts_ledgers = refl;
    shiryaev_roberts_alarms = refl;
    page_ledgers = refl;
    page_alarms = refl;
    alarms_of_two_rounds = refl;
    rounds_of_two_rounds = refl;
    rearms_of_two_rounds = refl;
  };
  numbers = examples;
}
