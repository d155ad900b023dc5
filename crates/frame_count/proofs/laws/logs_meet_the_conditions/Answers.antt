use Rattle.frame_count.proofs.LogsOfRuns.{logs_meet_the_conditions_lem}
use Rattle.frame_count.proofs.laws.logs_meet_the_conditions.Goals as goal

pub returns : goal.returns
returns c = logs_meet_the_conditions_lem
