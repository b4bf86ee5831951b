use Rattle.std.proofs.Common.{Ok, ap, ◌∙◌}
use Rattle.playback.proofs.Growing.{books_kept, went_on}
use Rattle.playback.proofs.watch.watch.Goals as goal

pub loop-records-preserved : goal.loop-records-preserved
loop-records-preserved g c =
    went_on _ _ c.args.books.now c.loop-records.books c.step.new.books c.loop-records.records c.step.new.records _ _ _ c.step.result (c.in-Ok-true.is ∙ ap Ok c.in-Ok-true.field-0-test) c.step.ensures.terms c.step.ensures.does c.step.ensures.goes c.step.ensures.kept c.loop-records.invariant

pub returns-in-Ok-false-clause-kept : goal.returns-in-Ok-false-clause-kept
returns-in-Ok-false-clause-kept g c = books_kept c.args.books.now c.loop-records.books c.step.new.books c.loop-records.invariant.2 c.step.ensures.kept

pub returns-in-Err-clause-kept : goal.returns-in-Err-clause-kept
returns-in-Err-clause-kept g c = books_kept c.args.books.now c.loop-records.books c.step.new.books c.loop-records.invariant.2 c.step.ensures.kept
