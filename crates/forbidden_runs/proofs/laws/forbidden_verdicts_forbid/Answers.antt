use Rattle.forbidden_runs.proofs.Reports.{verdicts_forbid}
use Rattle.forbidden_runs.proofs.laws.forbidden_verdicts_forbid.Goals as goal

pub returns : goal.returns
returns c = verdicts_forbid
