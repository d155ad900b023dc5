use Rattle.once.proofs.Forbidding.{trees_forbid_lem}
use Rattle.once.proofs.laws.trees_forbid.Goals as goal

pub returns : goal.returns
returns c = trees_forbid_lem
