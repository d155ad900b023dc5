use Rattle.run_text.proofs.RunsBack.{runs_back}
use Rattle.run_text.proofs.laws.runs_are_read_back.Goals as goal

pub returns : goal.returns
returns c = runs_back
