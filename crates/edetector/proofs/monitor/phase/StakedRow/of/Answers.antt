-- A fair row of as many factors as there are classes has only small ones.
use Rattle.std.proofs.Common.{◌≡◌, [], get_or, ap, ◌∙◌, arith}
use Rattle.edetector.specs.Tables.{factors_in}
use Rattle.edetector.proofs.Copying.{padded_at}
use Rattle.edetector.proofs.Rows.{small_row, row_copied}
use Rattle.edetector.proofs.monitor.phase.StakedRow.of.Goals as goal

pub invariant_of-result : goal.invariant_of-result
invariant_of-result g c =
    let m = g.B.Bettor.meaning c.args.bettor.now in
    let law = g.met.B.Bettor.law c.args.bettor.now in
    record {
      small = λ k.
          let same : get_or (factors_in c.row.result) k 0 ≡ get_or (m.strategy []) k 0 = ap (λ l. get_or l k 0) c.row.ensures ∙ padded_at (m.strategy []) k in
          omega (arith, same, small_row m.nulls (m.strategy []) law.table (law.fair []) (law.factors []) k);
    }

pub returns : goal.returns
returns g c =
    let m = g.B.Bettor.meaning c.args.bettor.now in
    let law = g.met.B.Bettor.law c.args.bettor.now in
    row_copied c.row.result m.nulls (m.strategy []) law.table (law.factors []) c.row.ensures
