use Rattle.once.proofs.Examples.{trees_are_needed_lem}
use Rattle.once.proofs.laws.trees_are_needed.Goals as goal

pub returns : goal.returns
returns c = trees_are_needed_lem
