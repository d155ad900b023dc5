use Rattle.heuristic.proofs.OfRuns.{picks_are_those_of_runs_lem}
use Rattle.heuristic.proofs.laws.picks_are_those_of_runs.Goals as goal

pub returns : goal.returns
returns c = picks_are_those_of_runs_lem
