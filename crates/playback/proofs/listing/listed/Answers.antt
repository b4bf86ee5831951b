use Rattle.std.specs.String.{string_bytes}
use Rattle.playback.proofs.Listed.{places_handed, listed_text}
use Rattle.playback.proofs.listing.listed.Goals as goal

pub returns : goal.returns
returns c =
    listed_text string_bytes c.listing.result c.replay-report.result _ _ c.new-alarms.result c.replay-report.new.alarms c.new-unwatched.result c.replay-report.new.unwatched 64 64 c.args.log.now
    c.entries.ensures.value c.entries-2.ensures.value
    (places_handed c.new-alarms.result _ c.new-alarms.ensures.entries c.new-alarms.ensures.unused)
    (places_handed c.new-unwatched.result _ c.new-unwatched.ensures.entries c.new-unwatched.ensures.unused)
    c.replay-report.ensures.value c.listing.ensures
