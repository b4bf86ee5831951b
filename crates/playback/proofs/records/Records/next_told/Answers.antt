use Rattle.std.proofs.Common.{sym, ap, ◌∙◌, arith}
use Rattle.std.proofs.lemmas.Result.{err_from_is_err_and}
use Rattle.plantlog.specs.Format.{announced}
use Rattle.plantlog.specs.Position.{left_in}
use Rattle.plantlog.specs.Results.{of_ok}
use Rattle.playback.specs.Front.{next_fields}
use Rattle.playback.specs.Rest.{Rest}
use Rattle.playback.proofs.Fronts.{told, told_option, asked_told}
use Rattle.playback.proofs.records.Records.next_told.Goals as goal

pub returns-in_err-told-clause-value : goal.returns-in_err-told-clause-value
returns-in_err-told-clause-value c =
    let x = err_from_is_err_and c.from_residual.result c.from_residual.ensures.1 in
    rw (x.1, x.2) (ap told (sym c.in_err-told.was ∙ c.ask.ensures.value) ∙ asked_told _ (left_in c.self.inside.reader) (omega arith) ∙ ap (λ (r : Rest). of_ok announced (next_fields r.left)) c.self.view_is)

pub returns-clause-value : goal.returns-clause-value
returns-clause-value c =
    c.ok_or.ensures.value ∙ told_option c.in_ok-told.told
    ∙ ap told (sym c.in_ok-told.was ∙ c.ask.ensures.value) ∙ asked_told _ (left_in c.self.inside.reader) (omega arith) ∙ ap (λ (r : Rest). of_ok announced (next_fields r.left)) c.self.view_is
