use Rattle.litmus_outcomes.proofs.Framing.{frames_within_are_outcomes_lem}
use Rattle.litmus_outcomes.proofs.laws.frames_within_are_outcomes.Goals as goal

pub returns : goal.returns
returns c = frames_within_are_outcomes_lem
