use Rattle.forbidden_runs.proofs.Reports.{runs_give_no_other_text}
use Rattle.forbidden_runs.proofs.laws.forbidden_runs_give_no_other_text.Goals as goal

pub returns : goal.returns
returns c = runs_give_no_other_text
