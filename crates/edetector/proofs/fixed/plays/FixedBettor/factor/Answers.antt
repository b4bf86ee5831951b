use Rattle.std.proofs.Common.{◌≡◌, ap, ◌∙◌, get_or, arith}
use Rattle.std.proofs.lemmas.Grind.{common_steps}
use Rattle.edetector.specs.Tables.{factors_in}
use Rattle.edetector.proofs.Copying.{factor_at, padded_at}
use Rattle.edetector.proofs.fixed.plays.FixedBettor.factor.Goals as goal

pub returns : goal.returns
returns c =
    let b = c.args.self.now in
    let k = c.args.class in
    let at : c.unwrap_or_default.result.0 ≡ get_or (factors_in b.row) k 0 = grind (arith, common_steps, factor_at) in
    at ∙ ap (λ l. get_or l k 0) b.played ∙ padded_at _ k
