use Rattle.frame_count.proofs.LogsOfRuns.{rows_count_hits_lem}
use Rattle.frame_count.proofs.laws.rows_count_hits.Goals as goal

pub returns : goal.returns
returns c = rows_count_hits_lem
