use Rattle.frames_within.proofs.Faithful.{faithful_hits_are_outcomes_lem}
use Rattle.frames_within.proofs.laws.faithful_hits_are_outcomes.Goals as goal

pub returns : goal.returns
returns c = faithful_hits_are_outcomes_lem
