use Rattle.edetector.specs.Tables.{weights_in}
use Rattle.plantlog.specs.Format.{Table}
use Rattle.plantlog.proofs.writer.write_table.Given as goal

abbrev pub ghost-write_weights : goal.ghost-write_weights
ghost-write_weights a = Table (weights_in a.weights.now)
