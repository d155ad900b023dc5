use Rattle.outcome_rows.proofs.Fronts.{rows_take_values_lem}
use Rattle.outcome_rows.proofs.laws.rows_take_values.Goals as goal

pub returns : goal.returns
returns c = rows_take_values_lem
