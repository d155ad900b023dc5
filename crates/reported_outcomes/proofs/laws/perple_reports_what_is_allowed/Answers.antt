use Rattle.reported_outcomes.proofs.Calls.{perple_reports_what_is_allowed_lem}
use Rattle.reported_outcomes.proofs.laws.perple_reports_what_is_allowed.Goals as goal

pub returns : goal.returns
returns c = perple_reports_what_is_allowed_lem
