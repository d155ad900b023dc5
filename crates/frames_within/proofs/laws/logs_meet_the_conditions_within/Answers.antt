use Rattle.frames_within.proofs.Narrowed.{logs_meet_the_conditions_within_lem}
use Rattle.frames_within.proofs.laws.logs_meet_the_conditions_within.Goals as goal

pub returns : goal.returns
returns c = logs_meet_the_conditions_within_lem
