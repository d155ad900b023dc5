use Rattle.forbidden_runs.proofs.Reports.{replays_give_no_other_text}
use Rattle.forbidden_runs.proofs.laws.forbidden_replays_give_no_other_text.Goals as goal

pub returns : goal.returns
returns c = replays_give_no_other_text
