use Rattle.playback.proofs.Accepts.{accepted}
use Rattle.playback.proofs.Courses.{has_whole_course}
use Rattle.playback.proofs.Only.{one_finish}
use Rattle.playback.proofs.Planned.{planned}
use Rattle.playback.proofs.Promised.{promised}
use Rattle.playback.proofs.Reckoned.{reckoned}
use Rattle.playback.proofs.Takes.{takes}
use Rattle.playback.proofs.replay.replay.Goals as goal

pub returns-in_err-new-clause-whole_course : goal.returns-in_err-new-clause-whole_course
returns-in_err-new-clause-whole_course c = has_whole_course

pub returns-in_err-new-clause-figures : goal.returns-in_err-new-clause-figures
returns-in_err-new-clause-figures c = reckoned

pub returns-clause-whole_course : goal.returns-clause-whole_course
returns-clause-whole_course c = has_whole_course

pub returns-clause-figures : goal.returns-clause-figures
returns-clause-figures c = reckoned

pub returns-in_err-new-clause-one_finish : goal.returns-in_err-new-clause-one_finish
returns-in_err-new-clause-one_finish c = one_finish

pub returns-clause-one_finish : goal.returns-clause-one_finish
returns-clause-one_finish c = one_finish

pub returns-clause-accepts : goal.returns-clause-accepts
returns-clause-accepts c = accepted c.open.result c.open.new.books.alarms.now c.open.new.books.unwatched.now _ c.args.log.now c.in_ok-new.field-0 c.in_ok-new.ensures c.type_inv.log c.open.ensures.value

pub returns-in_err-new-clause-takes : goal.returns-in_err-new-clause-takes
returns-in_err-new-clause-takes c = takes

pub returns-clause-takes : goal.returns-clause-takes
returns-clause-takes c = takes

pub returns-in_err-new-clause-is_run : goal.returns-in_err-new-clause-is_run
returns-in_err-new-clause-is_run c = planned

pub returns-clause-is_run : goal.returns-clause-is_run
returns-clause-is_run c = planned

pub returns-in_err-new-clause-bound : goal.returns-in_err-new-clause-bound
returns-in_err-new-clause-bound c = promised

pub returns-clause-bound : goal.returns-clause-bound
returns-clause-bound c = promised
