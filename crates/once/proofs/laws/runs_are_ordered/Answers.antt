use Rattle.once.proofs.Moments.{runs_are_ordered_lem}
use Rattle.once.proofs.laws.runs_are_ordered.Goals as goal

pub returns : goal.returns
returns c = runs_are_ordered_lem
