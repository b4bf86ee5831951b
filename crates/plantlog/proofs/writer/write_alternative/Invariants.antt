use Rattle.edetector.specs.Tables.{weights_in}
use Rattle.plantlog.specs.Format.{Alternative}
use Rattle.plantlog.proofs.writer.write_alternative.Given as goal

abbrev pub ghost-write_weights : goal.ghost-write_weights
ghost-write_weights a = Alternative (weights_in a.weights.now)
