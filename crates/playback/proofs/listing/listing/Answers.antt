use Rattle.daybook.proofs.Listing.{alarms_put, unwatched_put}
use Rattle.playback.proofs.Appends.{four_parts}
use Rattle.playback.proofs.listing.listing.Goals as goal

pub returns : goal.returns
returns c = four_parts _ _ _ _ _ _ _ _ _ c.new-out.ensures.bytes c.in_ok-put_monitor.ensures (alarms_put _ _ c.args.alarms.now c.in_ok-put_lines.ensures.put) (unwatched_put _ _ c.args.unwatched.now c.in_ok-put_lines-2.ensures.put) c.in_ok-put_last.ensures
