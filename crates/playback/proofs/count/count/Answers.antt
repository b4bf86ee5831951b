use Rattle.std.proofs.Common.{sym, ap, ◌∙◌}
use Rattle.edetector.specs.Monitors.{view, terms_of}
use Rattle.daybook.specs.Books.{entries_of}
use Rattle.playback.specs.Front.{next_fields, count_next}
use Rattle.playback.specs.Held.{places_lent}
use Rattle.playback.proofs.Counting.{armed_done, reading_of}
use Rattle.playback.proofs.count.count.Goals as goal

pub watch_count-requires : goal.watch_count-requires
watch_count-requires g c =
    let later = sym c.is_above_last.ensures ∙ c.if-not-is_above_last.false in
    record {
      count = c.requires.count;
      room = sym c.is_full-in_default.ensures ∙ c.if-is_full-2.false;
      rises = c.requires.rises.alarms c.args.day later;
    }

pub returns-else-is_full-2-clause-does : goal.returns-else-is_full-2-clause-does
returns-else-is_full-2-clause-does g c =
    let m = c.args.monitor.now in
    let meaning = g.B.Bettor.meaning in
    let books = c.args.books.now in
    let told = c.watch_count.ensures in
    let room = sym c.is_full-in_default.ensures ∙ c.if-is_full-2.false in
    let read = reading_of _ _ (ap (λ o. o.answer) c.read.ensures.0) in
    armed_done (terms_of meaning g.R.RestartRule.base m) (places_lent books) (view meaning m) c.args.records.now (entries_of books.alarms.now) (entries_of books.unwatched.now) _ c.args.day (count_next (next_fields c.args.records.now.left)) c.read.result.state c.watch_count.result (view meaning c.watch_count.new.monitor) (entries_of c.watch_count.new.alarms) c.watch_count.new.records (ap (λ r. r.state) read) c.in_default.not-Rung (sym c.is_above_last.ensures ∙ c.if-not-is_above_last.false) room told.does told.moved
