use Rattle.reported_outcomes.proofs.Tellings.{shown_is_allowed_lem}
use Rattle.reported_outcomes.proofs.laws.shown_is_allowed.Goals as goal

pub returns : goal.returns
returns c = shown_is_allowed_lem
