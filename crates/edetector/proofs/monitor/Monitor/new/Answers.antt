-- The laws of the bettor and of the rule are all that the bound takes.
use Rattle.edetector.proofs.Bounded.{bound}
use Rattle.edetector.proofs.AnyCalls.{after_calls}
use Rattle.edetector.proofs.monitor.Monitor.new.Goals as goal

pub returns-then-not-contains-clause-bound : goal.returns-then-not-contains-clause-bound
returns-then-not-contains-clause-bound g c = bound _ _ _ _ (g.met.R.RestartRule.law c.args.rule) (g.met.B.Bettor.law c.args.bettor)

pub returns-then-not-contains-clause-calls : goal.returns-then-not-contains-clause-calls
returns-then-not-contains-clause-calls g c = after_calls g.B.Bettor.meaning g.R.RestartRule.base

pub returns-clause-bound : goal.returns-clause-bound
returns-clause-bound g c = bound _ _ _ _ (g.met.R.RestartRule.law c.args.rule) (g.met.B.Bettor.law c.args.bettor)

pub returns-clause-calls : goal.returns-clause-calls
returns-clause-calls g c = after_calls g.B.Bettor.meaning g.R.RestartRule.base
