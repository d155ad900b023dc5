use Rattle.run_judge.proofs.Judged.{legal_is_run_with_lem}
use Rattle.run_judge.proofs.laws.legal_is_run_with.Goals as goal

pub returns : goal.returns
returns c = legal_is_run_with_lem
