-- Each record by its kind; the records stand as before once the kind is known.
use Rattle.std.proofs.Common.{Ok, sym, ap, ◌∙◌}
use Rattle.std.proofs.lemmas.Result.{err_from_is_err_and}
use Rattle.edetector.specs.Monitors.{view, terms_of}
use Rattle.playback.specs.Front.{next_fields}
use Rattle.playback.specs.Held.{watch_of, places_lent}
use Rattle.plantlog.specs.declared.record.Announced.TheVariants.{Other as OtherAhead}
use Rattle.playback.proofs.Steps.{refused_next, count_stepped, count_goes, rearm_stepped, rearm_goes, end_stepped, header_stepped, kind_refused}
use Rattle.playback.proofs.watch.step.Goals as goal

pub returns-in_err-head-clause-does : goal.returns-in_err-head-clause-does
returns-in_err-head-clause-does g c =
    let rest = c.args.records.now in
    let x = err_from_is_err_and c.from_residual.result c.from_residual.ensures.1 in
    rw (x.1, x.2, c.next_told.ensures.same) (refused_next _ _ rest.left rest.at _ _ (kind_refused (next_fields rest.left) _ (sym c.next_told.ensures.value ∙ c.in_err-head.was)))

pub returns-in-Count-clause-does : goal.returns-in-Count-clause-does
returns-in-Count-clause-does g c =
    let rest = c.args.records.now in
    let kind = sym c.next_told.ensures.value ∙ c.in_ok-head.was ∙ ap Ok c.in-Count.is in
    let moved = rw c.next_told.ensures.same at c.count.ensures.moved in
    let does = rw c.next_told.ensures.same at c.count.ensures.does in
    rw c.and.ensures (count_stepped _ _ rest _ _ _ c.count.result c.in-Count.head.day kind moved does)

pub returns-in-Count-clause-goes : goal.returns-in-Count-clause-goes
returns-in-Count-clause-goes g c =
    let rest = c.args.records.now in
    let t = terms_of g.B.Bettor.meaning g.R.RestartRule.base c.args.monitor.now in
    let w = watch_of (view g.B.Bettor.meaning c.args.monitor.now) rest c.args.books.now in
    let kind = sym c.next_told.ensures.value ∙ c.in_ok-head.was ∙ ap Ok c.in-Count.is in
    let moved = rw c.next_told.ensures.same at c.count.ensures.moved in
    let does = rw c.next_told.ensures.same at c.count.ensures.does in
    rw c.and.ensures (count_goes t (places_lent c.args.books.now) rest w _ _ c.count.result c.in-Count.head.day kind moved does (record { alarms = c.requires.alarms; unwatched = c.requires.unwatched }))

pub returns-in-Rearm-clause-does : goal.returns-in-Rearm-clause-does
returns-in-Rearm-clause-does g c =
    let kind = sym c.next_told.ensures.value ∙ c.in_ok-head.was ∙ ap Ok (c.in-Other.is ∙ ap OtherAhead c.in-Rearm.is) in
    let moved = rw c.next_told.ensures.same at c.rearm.ensures.moved in
    let t = terms_of g.B.Bettor.meaning g.R.RestartRule.base c.args.monitor.now in
    let s = view g.B.Bettor.meaning c.args.monitor.now in
    rw c.and-in-Rearm.ensures (rearm_stepped t _ c.args.records.now _ c.args.books.now s _ c.rearm.result moved kind c.rearm.ensures.does)

pub returns-in-Rearm-clause-goes : goal.returns-in-Rearm-clause-goes
returns-in-Rearm-clause-goes g c =
    let kind = sym c.next_told.ensures.value ∙ c.in_ok-head.was ∙ ap Ok (c.in-Other.is ∙ ap OtherAhead c.in-Rearm.is) in
    let moved = rw c.next_told.ensures.same at c.rearm.ensures.moved in
    let s = view g.B.Bettor.meaning c.args.monitor.now in
    rw c.and-in-Rearm.ensures (rearm_goes c.args.records.now _ c.args.books.now s _ c.rearm.result kind moved (record { alarms = c.requires.alarms; unwatched = c.requires.unwatched }))

pub returns-in-End-clause-does : goal.returns-in-End-clause-does
returns-in-End-clause-does g c =
    let kind = sym c.next_told.ensures.value ∙ c.in_ok-head.was ∙ ap Ok (c.in-Other.is ∙ ap OtherAhead c.in-End.is) in
    let moved = rw c.next_told.ensures.same at c.end.ensures.moved in
    let value = rw c.next_told.ensures.same at c.end.ensures.value in
    let s = view g.B.Bettor.meaning c.args.monitor.now in
    rw c.and-in-End.ensures (end_stepped _ _ c.args.records.now _ c.args.books.now s s c.end.result moved kind value)

pub returns-in_default-clause-does : goal.returns-in_default-clause-does
returns-in_default-clause-does g c =
    let rest = c.args.records.now in
    rw c.next_told.ensures.same (header_stepped _ _ rest.left rest.at _ c.in-Other.kind (sym c.next_told.ensures.value ∙ c.in_ok-head.was ∙ ap Ok c.in-Other.is) c.in_default.not-Rearm c.in_default.not-End)
