use Rattle.outcome_rows.proofs.Counting.{rising_are_once_lem}
use Rattle.outcome_rows.proofs.laws.rising_are_once.Goals as goal

pub returns : goal.returns
returns c = rising_are_once_lem
