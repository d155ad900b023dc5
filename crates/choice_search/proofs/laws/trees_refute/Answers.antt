use Rattle.choice_search.proofs.Trees.{trees_refute_lem}
use Rattle.choice_search.proofs.laws.trees_refute.Goals as goal

pub returns : goal.returns
returns c = trees_refute_lem
