use Rattle.std.proofs.Common.{arith}
use Rattle.edetector.proofs.mixture.MixtureBettor.learn.Goals as goal

pub returns-then-class-classes : goal.returns-then-class-classes
returns-then-class-classes g c =
    rw (← c.self.view_is) (record {
      first = λ below. c.learn.ensures.step;
      second = λ below. c.learn-then-class-classes.ensures.step;
      same = λ past. absurd (omega (arith, past, c.classes.ensures, c.if-class-classes.true));
    })
