use Rattle.forbidden_runs.proofs.Reports.{reasons_forbid}
use Rattle.forbidden_runs.proofs.laws.reasons_forbid.Goals as goal

pub returns : goal.returns
returns c = reasons_forbid
