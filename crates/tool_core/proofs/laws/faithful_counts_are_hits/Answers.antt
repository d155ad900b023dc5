use Rattle.tool_core.proofs.CountLaws.{faithful_counts_are_hits_lem}
use Rattle.tool_core.proofs.laws.faithful_counts_are_hits.Goals as goal

pub returns : goal.returns
returns c = faithful_counts_are_hits_lem
