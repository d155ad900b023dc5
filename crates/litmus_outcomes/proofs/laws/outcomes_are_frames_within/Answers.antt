use Rattle.litmus_outcomes.proofs.Counted.{outcomes_are_frames_within_lem}
use Rattle.litmus_outcomes.proofs.laws.outcomes_are_frames_within.Goals as goal

pub returns : goal.returns
returns c = outcomes_are_frames_within_lem
