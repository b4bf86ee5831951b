-- Each of sixteen calls names a factor of the strategy's row now, which has none past them.
use Rattle.std.proofs.Common.{◌≡◌, [], get_or, refl, arith, rules}
use Rattle.edetector.specs.Lemmas.Limits.{table_limits}
use Rattle.edetector.proofs.Copying.{row_padded}
use Rattle.edetector.proofs.FromFn.{made_each}
use Rattle.edetector.proofs.bettor.Bettor.row.Goals as goal

pub returns : goal.returns
returns g c =
    let b = c.args.self.now in
    let m = g.Self.Bettor.meaning b in
    let law = g.met.Self.Bettor.law b in
    let row = m.strategy [] in
    let made = c.from_fn.ensures.items in
    row_padded c.from_fn.result row made.long (omega (arith, (table_limits 1 m.nulls law.table).few, law.factors []))
    (made_each _ (λ f. f.0.now ≡ b) (λ k y. y.0 ≡ get_or row k 0) (λ f k y q same called. search rules) _ c.from_fn.result 0 16 refl made.each)
