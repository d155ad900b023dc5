use Rattle.reported_outcomes.proofs.Calls.{runs_report_what_is_allowed_lem}
use Rattle.reported_outcomes.proofs.laws.runs_report_what_is_allowed.Goals as goal

pub returns : goal.returns
returns c = runs_report_what_is_allowed_lem
