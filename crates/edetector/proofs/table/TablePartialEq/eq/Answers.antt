-- The fields are those that `inverse` gives, and are compared in another order than they are declared in.
use Rattle.std.proofs.Common.{refl}
use Rattle.edetector.proofs.HeldEqual.{is_held, last_first}
use Rattle.edetector.proofs.table.TablePartialEq.eq.Goals as goal

pub returns : goal.returns
returns g c =
    let a = is_held g.row.LEAST _ _ _ c.args.self.now c.t1-1.invariant c.t1-1.view_is in
    let b = is_held g.row.LEAST _ _ _ c.args.other.now c.t2-1.invariant c.t2-1.view_is in
    rw (c.and_eq-2.ensures, c.and_eq.ensures, c.eq.ensures, a.classes_are, b.classes_are, a.weights_are, b.weights_are, a.total_is, b.total_is, last_first) refl
