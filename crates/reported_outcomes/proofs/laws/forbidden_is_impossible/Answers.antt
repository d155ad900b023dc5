use Rattle.reported_outcomes.proofs.Tellings.{forbidden_is_impossible_lem}
use Rattle.reported_outcomes.proofs.laws.forbidden_is_impossible.Goals as goal

pub returns : goal.returns
returns c = forbidden_is_impossible_lem
