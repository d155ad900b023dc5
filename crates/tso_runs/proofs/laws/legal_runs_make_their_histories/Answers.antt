use Rattle.tso_runs.proofs.Runs.{makes_its_history}
use Rattle.tso_runs.proofs.laws.legal_runs_make_their_histories.Goals as goal

pub returns : goal.returns
returns c = makes_its_history
