use Rattle.std.proofs.Common.{ap, ◌∙◌, arith}
use Rattle.edetector.specs.Bettors.{adaptive_meaning}
use Rattle.edetector.specs.NamedBettors.{tally_of}
use Rattle.edetector.proofs.TallyReads.{tally_long, adaptive_learns}
use Rattle.edetector.proofs.adaptive.plays.AdaptiveBettor.TheImpl.Goals as goal

pub learn-tells : goal.learn-tells
learn-tells c =
    let b = c.args.self.now in
    let after = c.new.self.now in
    record {
      step = ap (λ ws. adaptive_meaning ws (tally_of after)) c.ensures.table ∙ adaptive_learns b.null (tally_of b) (tally_of after) c.args.class (omega (arith, tally_long after, after.within)) (record { long = c.ensures.tallied; each = c.ensures.times });
      same = c.ensures.same;
    }
