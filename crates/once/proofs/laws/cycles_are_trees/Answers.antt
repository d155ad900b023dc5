use Rattle.once.proofs.Classical.{cycles_are_trees_lem}
use Rattle.once.proofs.laws.cycles_are_trees.Goals as goal

pub returns : goal.returns
returns c = cycles_are_trees_lem
