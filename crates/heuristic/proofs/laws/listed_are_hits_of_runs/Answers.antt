use Rattle.heuristic.proofs.OfRuns.{listed_are_hits_of_runs_lem}
use Rattle.heuristic.proofs.laws.listed_are_hits_of_runs.Goals as goal

pub returns : goal.returns
returns c = listed_are_hits_of_runs_lem
