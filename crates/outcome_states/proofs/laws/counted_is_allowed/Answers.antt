use Rattle.outcome_states.proofs.Counted.{counted_is_allowed_lem}
use Rattle.outcome_states.proofs.laws.counted_is_allowed.Goals as goal

pub returns : goal.returns
returns c = counted_is_allowed_lem
