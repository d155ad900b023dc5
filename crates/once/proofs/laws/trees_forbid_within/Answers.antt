use Rattle.once.proofs.Forbidding.{trees_forbid_within_lem}
use Rattle.once.proofs.laws.trees_forbid_within.Goals as goal

pub returns : goal.returns
returns c = trees_forbid_within_lem
