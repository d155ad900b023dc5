use Rattle.reported_outcomes.proofs.Replays.{replays_are_reported_lem}
use Rattle.reported_outcomes.proofs.laws.replays_are_reported.Goals as goal

pub returns : goal.returns
returns c = replays_are_reported_lem
