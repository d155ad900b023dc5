use Rattle.heuristic.proofs.OfRuns.{runs_can_be_picked_lem}
use Rattle.heuristic.proofs.laws.runs_can_be_picked.Goals as goal

pub returns : goal.returns
returns c = runs_can_be_picked_lem
