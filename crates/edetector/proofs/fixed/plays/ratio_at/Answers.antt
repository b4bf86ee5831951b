use Rattle.std.proofs.Common.{◌∙◌, arith}
use Rattle.edetector.specs.Lemmas.Limits.{table_limits}
use Rattle.edetector.proofs.Lists.{index_le_sum}
use Rattle.edetector.proofs.FixedReads.{weight_within, weight_some, factor_is, factor_past}
use Rattle.edetector.proofs.fixed.plays.ratio_at.Goals as goal

pub returns-then-class-classes : goal.returns-then-class-classes
returns-then-class-classes c = factor_past c.args.null.now c.args.alternative.now c.requires.same_classes c.args.class (omega arith)

pub likelihood_ratio-requires : goal.likelihood_ratio-requires
likelihood_ratio-requires c =
    let null = table_limits 1 c.args.null.now c.requires.null in
    let alternative = table_limits 0 c.args.alternative.now c.requires.alternative in
    let w = weight_within c.args.null.now c.requires.null c.args.class in
    let some = weight_some c.args.null.now c.requires.null c.args.class (omega arith) in
    let part = index_le_sum c.args.alternative.now c.args.class in
    record {
      total = omega (arith, null.within);
      within = (omega (arith, alternative.within), omega arith);
      part = omega arith;
      some = (omega (arith, alternative.positive), omega arith);
    }

pub returns : goal.returns
returns c =
    c.likelihood_ratio.ensures ∙ rw (c.total.ensures, c.total-2.ensures, c.weight-w.ensures, c.weight-a.ensures) (factor_is c.args.null.now c.args.alternative.now c.requires.same_classes c.args.class (omega arith))
