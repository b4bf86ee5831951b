use Rattle.std.proofs.Common.{refl, arith}
use Rattle.edetector.specs.Lemmas.Limits.{table_limits}
use Rattle.edetector.proofs.TallyReads.{sum_zeros, tally_zeros}
use Rattle.edetector.proofs.adaptive.Adaptive.new.Goals as goal

pub invariant_of-result : goal.invariant_of-result
invariant_of-result c =
    let null = c.args.null in
    record {
      null_unbroken = c.classes.ensures.unbroken;
      room = refl;
      counted = sum_zeros _ (table_limits 1 null c.classes.ensures.unbroken).few;
      within = omega arith;
    }

pub returns : goal.returns
returns c =
    let null = c.args.null in
    record { table = refl; tally = tally_zeros _ (table_limits 1 null c.classes.ensures.unbroken).few }
