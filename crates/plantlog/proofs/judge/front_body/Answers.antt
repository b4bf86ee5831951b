use Rattle.std.proofs.Common.{⊎_elim, arith, rules}
use Rattle.std.proofs.lemmas.Grind.{common_steps}
use Rattle.plantlog.proofs.Front.{none_in_front, bad_length, cut_short, whole}
use Rattle.plantlog.proofs.judge.front_body.Goals as goal

pub returns-in_default : goal.returns-in_default
returns-in_default c = record { value = none_in_front c.args.left.now (search rules); room = tt }

pub returns-then-not-contains : goal.returns-then-not-contains
returns-then-not-contains c = record { value = bad_length c.args.left.now (search rules) (grind (arith, common_steps)); room = tt }

pub returns-in_default-get-clause-value : goal.returns-in_default-get-clause-value
returns-in_default-get-clause-value c =
    cut_short c.args.left.now (search rules) (grind (arith, common_steps)) (grind (arith, common_steps)) (⊎_elim (λ z. omega (arith, z)) (λ h. h) c.in_default-get.ensures.lookup.0)

pub returns-clause-value : goal.returns-clause-value
returns-clause-value c =
    let h = c.in-Some.ensures.lookup.0 in whole c.args.left.now _ (search rules) (grind (arith, common_steps)) (grind (arith, common_steps)) h.1 h.2
