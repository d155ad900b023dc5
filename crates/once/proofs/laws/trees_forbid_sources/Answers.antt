use Rattle.once.proofs.Sourced.{trees_forbid_sources_lem}
use Rattle.once.proofs.laws.trees_forbid_sources.Goals as goal

pub returns : goal.returns
returns c = trees_forbid_sources_lem
