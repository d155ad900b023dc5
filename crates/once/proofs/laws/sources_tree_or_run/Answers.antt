use Rattle.once.proofs.Sourced.{sources_tree_or_run_lem}
use Rattle.once.proofs.laws.sources_tree_or_run.Goals as goal

pub returns : goal.returns
returns c = sources_tree_or_run_lem
