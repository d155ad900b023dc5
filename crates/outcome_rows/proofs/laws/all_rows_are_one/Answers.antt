use Rattle.outcome_rows.proofs.Counting.{all_rows_are_one_lem}
use Rattle.outcome_rows.proofs.laws.all_rows_are_one.Goals as goal

pub returns : goal.returns
returns c = all_rows_are_one_lem
