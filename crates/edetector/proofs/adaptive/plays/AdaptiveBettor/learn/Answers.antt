use Rattle.std.proofs.Common.{◌+◌, length, get_or, refl, ◌∙◌, arith, length-set}
use Rattle.edetector.specs.NamedBettors.{tally_of, tally_after}
use Rattle.edetector.proofs.TallyReads.{SameCounts, tally_long, count_part, tallied_more, tally_moves, tally_stays, tally_full}
use Rattle.edetector.proofs.adaptive.plays.AdaptiveBettor.learn.Goals as goal
use Rattle.edetector.proofs.adaptive.plays.AdaptiveBettor.learn.Goals.{Joined-else-class-classes, else-class-classes-via-then-class-classes+else-self-lt-MOST_TALLIED, else-class-classes-via-else-class-classes}

pub overflow_add-self : goal.overflow_add-self
overflow_add-self c = let h = c.if-class-classes.true in omega (arith, count_part c.args.self.now c.args.class (omega arith), c.args.self.now.within)

pub invariant_of-self : goal.invariant_of-self
invariant_of-self c =
    let b = c.args.self.now in
    let k = c.args.class in
    record {
      null_unbroken = b.null_unbroken;
      room = length-set b.counts k (get_or b.counts k 0 + 1) ∙ b.room;
      counted = tallied_more b k (omega arith);
      within = omega arith;
    }

pub returns-then-self-lt-MOST_TALLIED : goal.returns-then-self-lt-MOST_TALLIED
returns-then-self-lt-MOST_TALLIED c =
    let b = c.args.self.now in
    let room = c.if-self-lt-MOST_TALLIED.true in
    let counts = tally_moves b c.args.class (omega arith) room in
    record {
      table = refl;
      times = counts.each;
      tallied = counts.long;
      same = λ past. absurd (omega arith);
      full = λ all. absurd (omega (arith, tally_long b));
    }

stays : (c : Joined-else-class-classes) → let b = c.args.self.now in SameCounts (tally_of b) (tally_after (length b.null) (tally_of b) c.args.class)
stays c =
    let b = c.args.self.now in
    elim c.else-class-classes.branch [ else-class-classes-via-then-class-classes+else-self-lt-MOST_TALLIED w ↦ tally_full b c.args.class (omega arith) | else-class-classes-via-else-class-classes w ↦ tally_stays b c.args.class (omega arith) ]

pub returns-else-class-classes-clause-times : goal.returns-else-class-classes-clause-times
returns-else-class-classes-clause-times c = (stays c).each

pub returns-else-class-classes-clause-tallied : goal.returns-else-class-classes-clause-tallied
returns-else-class-classes-clause-tallied c = (stays c).long
