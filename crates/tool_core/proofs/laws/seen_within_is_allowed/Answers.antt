use Rattle.tool_core.proofs.CountLaws.{seen_within_is_allowed_lem}
use Rattle.tool_core.proofs.laws.seen_within_is_allowed.Goals as goal

pub returns : goal.returns
returns c = seen_within_is_allowed_lem
