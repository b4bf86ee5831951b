use Rattle.std.proofs.Common.{◌∙◌, arith}
use Rattle.edetector.proofs.Lists.{index_le_sum}
use Rattle.edetector.proofs.TallyReads.{null_limits, count_part, factor_is, factor_past}
use Rattle.edetector.proofs.adaptive.plays.AdaptiveBettor.factor.Goals as goal

pub returns-then-class-classes : goal.returns-then-class-classes
returns-then-class-classes c = factor_past c.args.self.now c.args.class (omega arith)

pub likelihood_ratio-requires : goal.likelihood_ratio-requires
likelihood_ratio-requires c =
    let b = c.args.self.now in
    let k = c.args.class in
    let limits = null_limits b in
    let w = index_le_sum b.null k in
    let n = count_part b k (omega arith) in
    let some = limits.each k (omega arith) in
    record {
      total = omega (arith, limits.within);
      within = (omega (arith, limits.within, b.within), omega (arith, limits.within));
      part = omega arith;
      some = (omega (arith, limits.positive), omega arith);
    }

pub returns : goal.returns
returns c =
    c.likelihood_ratio.ensures ∙ rw (c.total-total.ensures, c.weight-w.ensures) (factor_is c.args.self.now c.args.class (omega arith))

pub overflow_add-a : goal.overflow_add-a
overflow_add-a c =
    let b = c.args.self.now in
    omega (arith, index_le_sum b.null c.args.class, count_part b c.args.class (omega arith), (null_limits b).within, b.within)
