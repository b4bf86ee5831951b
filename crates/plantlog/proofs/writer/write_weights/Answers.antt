use Rattle.std.proofs.Common.{Some, sym, ap, ◌∙◌}
use Rattle.std.proofs.lemmas.Result.{err_from_is_err_and}
use Rattle.plantlog.specs.Layouts.{kind_byte, of_value}
use Rattle.edetector.specs.Tables.{unless_fault}
use Rattle.plantlog.proofs.ResultFacts.{unless_ok, unless_err}
use Rattle.plantlog.proofs.WriteBack.{wrote, refused}
use Rattle.plantlog.proofs.writer.write_weights.Goals as goal

pub returns : goal.returns
returns g c =
    let said = c.requires.1 in
    let put = c.put_record.ensures in
    wrote g.said _ _ c.put_record.result c.put_record.new.out c.args.out.now
    (ap kind_byte (sym said.kind))
    (c.table_numbers.ensures ∙ sym said.numbers)
    (sym (ap (λ f. unless_fault {X = Unit {0}} f tt) (said.limits ∙ ap of_value (unless_ok _ _ _ c.in_ok-new.ensures).0)))
    put.small put.value put.after

pub returns-in_err-new : goal.returns-in_err-new
returns-in_err-new g c =
    let p = err_from_is_err_and c.from_residual.result c.from_residual.ensures.1 in
    let broken = unless_err _ _ _ c.in_err-new.ensures in
    refused g.said _ _ c.from_residual.result (c.requires.1.limits ∙ ap of_value broken ∙ ap Some (sym p.2)) p.1
