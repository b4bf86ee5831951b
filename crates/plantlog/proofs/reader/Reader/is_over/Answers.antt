use Rattle.std.proofs.Common.{◌≡◌, ◌↔◌, ◌≤◌, ℕ, List, [], length, drop, IsTrue, nat_eq, sym, ap, ◌∙◌, arith, length-drop}
use Rattle.std.proofs.lemmas.Bool.{eqb-true, eq-eqb}
use Rattle.std.proofs.lemmas.List.{drop_all}
use Rattle.plantlog.specs.Position.{Reading, left_in}
use Rattle.plantlog.proofs.reader.Reader.is_over.Goals as goal

-- no byte is left at the end, and only there
none_left : (place : ℕ) (log left : List ℕ) → drop place log ≡ left → place ≤ length log → IsTrue (nat_eq (length log) place) ↔ (left ≡ [])
none_left place log left is inside = (
  (λ e. sym is ∙ drop_all place log (omega (arith, eqb-true (length log) place e))),
  (λ none. eq-eqb (length log) place (omega (arith, length-drop place log, ap length (is ∙ none), inside))),
)

pub returns : goal.returns
returns c =
    none_left c.self.inside.place c.self.inside.log.now (left_in c.args.self.now) (ap (λ (r : Reading). left_in r) c.self.view_is) c.self.invariant.within
