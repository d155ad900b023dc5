use Rattle.forbidden_runs.proofs.Calls.{perple_reports_nothing}
use Rattle.forbidden_runs.proofs.laws.perple_reports_nothing_forbidden.Goals as goal

pub returns : goal.returns
returns c = perple_reports_nothing
