use Rattle.tool_core.proofs.Repeats.{verdicts_are_repeated_lem}
use Rattle.tool_core.proofs.laws.verdicts_are_repeated.Goals as goal

pub returns : goal.returns
returns c = verdicts_are_repeated_lem
