use Rattle.std.proofs.Common.{ap}
use Rattle.edetector.specs.Bettors.{mixture_meaning}
use Rattle.edetector.proofs.MixedReads.{mixture_steps}
use Rattle.edetector.proofs.mixture.MixtureBettor.TheImpl.Goals as goal

pub learn-tells : goal.learn-tells
learn-tells g c =
    record {
      step = mixture_steps (g.F.Bettor.meaning c.args.self.now.first) (g.S.Bettor.meaning c.args.self.now.second) (g.F.Bettor.meaning c.new.self.now.first) (g.S.Bettor.meaning c.new.self.now.second) c.args.class c.ensures.first c.ensures.second
          (λ past. ap (λ m. mixture_meaning (g.F.Bettor.meaning m.first) (g.S.Bettor.meaning m.second)) (c.ensures.same past));
      same = c.ensures.same;
    }
