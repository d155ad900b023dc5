use Rattle.frame_count.proofs.LogsOfRuns.{logs_give_the_values_lem}
use Rattle.frame_count.proofs.laws.logs_give_the_values.Goals as goal

pub returns : goal.returns
returns c = logs_give_the_values_lem
