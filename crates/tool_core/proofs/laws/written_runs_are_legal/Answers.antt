use Rattle.tool_core.proofs.RunJudged.{legal_said}
use Rattle.tool_core.proofs.laws.written_runs_are_legal.Goals as goal

pub returns : goal.returns
returns c = legal_said
