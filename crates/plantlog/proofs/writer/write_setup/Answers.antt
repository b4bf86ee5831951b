use Rattle.std.proofs.Common.{[], ◌∷◌, Some, sym, refl, ◌∙◌, ap}
use Rattle.std.proofs.lemmas.Result.{err_from_is_err_and}
use Rattle.plantlog.specs.Format.{Setup}
use Rattle.plantlog.proofs.WriteBack.{wrote, refused}
use Rattle.plantlog.proofs.ResultFacts.{unless_err}
use Rattle.plantlog.proofs.writer.write_setup.Goals as goal

pub returns : goal.returns
returns c =
    let put = c.put_record.ensures in
    let a = c.args in
    wrote (Setup (record { threshold = a.threshold; rule = a.rule; bettor = a.bettor })) _ (a.threshold ∷ a.rule ∷ a.bettor ∷ []) c.put_record.result c.put_record.new.out a.out.now refl refl c.in_ok-judge_setup.ensures put.small put.value put.after

pub returns-in_err-judge_setup : goal.returns-in_err-judge_setup
returns-in_err-judge_setup c =
    let p = err_from_is_err_and c.from_residual.result c.from_residual.ensures.1 in
    let a = c.args in
    let f = Setup (record { threshold = a.threshold; rule = a.rule; bettor = a.bettor }) in
    let broken = unless_err _ _ _ c.in_err-judge_setup.ensures in
    refused f _ _ c.from_residual.result (broken ∙ ap (λ e. Some e) (sym p.2)) p.1
