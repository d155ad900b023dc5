use Rattle.outcome_states.proofs.Counted.{counted_rows_satisfy_lem}
use Rattle.outcome_states.proofs.laws.counted_rows_satisfy.Goals as goal

pub returns : goal.returns
returns c = counted_rows_satisfy_lem
