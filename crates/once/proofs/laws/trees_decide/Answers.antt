use Rattle.once.proofs.Classical.{trees_decide_lem}
use Rattle.once.proofs.laws.trees_decide.Goals as goal

pub returns : goal.returns
returns c = trees_decide_lem
