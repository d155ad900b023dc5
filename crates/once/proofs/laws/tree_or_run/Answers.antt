use Rattle.once.proofs.Conjoined.{tree_or_run_lem}
use Rattle.once.proofs.laws.tree_or_run.Goals as goal

pub returns : goal.returns
returns c = tree_or_run_lem
