use Rattle.std.proofs.Common.{refl}
use Rattle.plantlog.proofs.ReadBack.{read_back}
use Rattle.plantlog.proofs.WrittenSo.{written_so}
use Rattle.plantlog.proofs.CallsRefused.{calls_refused_so, so_calls_refused}
use Rattle.plantlog.proofs.Worked.{worked}
use Rattle.plantlog.proofs.Refusing.{refused_so, so_refused}
use Rattle.plantlog.proofs.LogLaws.{log_read_back, log_written_so, one_writing}
use Rattle.plantlog.proofs.reader.Reader.new.Goals as goal

pub returns : goal.returns
returns c = record {
  value = refl;
  log = refl;
  written = written_so;
  all_written = log_written_so;
  one_writing = one_writing;
  back = read_back;
  all_back = log_read_back;
  refused = (refused_so, so_refused);
  calls_refused = (calls_refused_so, so_calls_refused);
  figures = worked;
}
