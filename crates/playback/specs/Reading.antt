-- How far a log was read.
use Rattle.std.specs.Prelude.{◌≤◌, length, ◌+◌}
use Rattle.plantlog.specs.Position.{position, log_of, left_in}
use Rattle.playback.specs.declared.records.Records.TheInside.{Inside}
use Rattle.playback.specs.Replaying.{longest}
use Rattle.playback.specs.Rest.{Rest}

abbrev pub rest_of : Inside → Rest
rest_of r = record { left = left_in r.reader; at = record { number = (position r.reader).records + 1; byte = (position r.reader).place }; last = r.progress.last; counts = r.progress.counts }

-- the log is not too long, and no more counts than records were moved past
pub record IsLog (r : Inside) : Type 0 where
  pub short : length (log_of r.reader) ≤ longest
  pub fewer : r.progress.counts ≤ (position r.reader).records
