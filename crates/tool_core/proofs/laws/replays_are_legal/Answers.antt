use Rattle.tool_core.proofs.Replayed.{replays_are_legal_lem}
use Rattle.tool_core.proofs.laws.replays_are_legal.Goals as goal

pub returns : goal.returns
returns c = replays_are_legal_lem
