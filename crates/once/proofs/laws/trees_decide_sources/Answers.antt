use Rattle.once.proofs.Sourced.{trees_decide_sources_lem}
use Rattle.once.proofs.laws.trees_decide_sources.Goals as goal

pub returns : goal.returns
returns c = trees_decide_sources_lem
