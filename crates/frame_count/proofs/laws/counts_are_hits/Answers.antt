use Rattle.frame_count.proofs.LogsOfRuns.{counts_are_hits_lem}
use Rattle.frame_count.proofs.laws.counts_are_hits.Goals as goal

pub returns : goal.returns
returns c = counts_are_hits_lem
