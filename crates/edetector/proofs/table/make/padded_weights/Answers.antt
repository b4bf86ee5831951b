use Rattle.std.proofs.Common.{length, replicate, ap, ◌∙◌, arith, rules}
use Rattle.std.proofs.lemmas.List.{drop-replicate}
use Rattle.std.proofs.lemmas.Slice.{drop-append-drop}
use Rattle.edetector.specs.declared.units.Weight.{Weight}
use Rattle.edetector.proofs.table.make.padded_weights.Goals as goal

pub returns-clause-behind : goal.returns-clause-behind
returns-clause-behind c =
    let n = length c.args.weights.now in
    let nought : Weight = record { 0 = 0 } in
    drop-append-drop n (replicate 16 nought) c.copy_from_slice.new.self n (omega arith) (ap length (search rules)) ∙ drop-replicate n 16 nought
