use Rattle.tool_core.proofs.Repeats.{judgements_are_repeated_lem}
use Rattle.tool_core.proofs.laws.judgements_are_repeated.Goals as goal

pub returns : goal.returns
returns c = judgements_are_repeated_lem
