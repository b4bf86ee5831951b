use Rattle.std.proofs.Common.{◌-◌, sym, ◌∙◌, inl, inr, ⊎_elim, arith, rules}
use borrow.Author.Tests.{clash}
use Rattle.plantlog.proofs.ReadGroups.{ended, limit_le}
use Rattle.plantlog.proofs.number.+read_groups.Goals as goal

pub returns-then-more-eq0-2 : goal.returns-then-more-eq0-2
returns-then-more-eq0-2 t c =
    let e = ended c.args.more c.args.several c.args.bytes.now c.from-b.result (search rules) (search rules)
    (λ e. ⊎_elim (λ w. w.1) (λ w. absurd (w e)) c.else-more-eq0.either)
    (⊎_elim (λ w. inl w) (λ w. inr w.1) c.then-more-eq0-2.either)
    (λ e. ⊎_elim (λ w. omega (arith, w.1)) (λ w. absurd (clash (sym w ∙ e))) c.else-several.either) in
    record { value = e.0; small = e.1 }

pub overflow_mul-result : goal.overflow_mul-result
overflow_mul-result t c = omega (arith, c.in_ok-n.ensures.small, limit_le (c.args.more - 1) (omega arith))

pub overflow_add-result : goal.overflow_add-result
overflow_add-result t c = omega (arith, c.in_ok-n.ensures.small, limit_le (c.args.more - 1) (omega arith), c.from-b.ensures, c.type_inv.bytes 0)
