use Rattle.forbidden_runs.proofs.Reports.{runs_report_nothing}
use Rattle.forbidden_runs.proofs.laws.forbidden_runs_report_nothing.Goals as goal

pub returns : goal.returns
returns c = runs_report_nothing
