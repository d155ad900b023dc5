use Rattle.outcome_rows.proofs.Counting.{fronts_are_fewer_lem}
use Rattle.outcome_rows.proofs.laws.fronts_are_fewer.Goals as goal

pub returns : goal.returns
returns c = fronts_are_fewer_lem
