use Rattle.frames_within.proofs.Counts.{within_is_allowed_lem}
use Rattle.frames_within.proofs.laws.within_is_allowed.Goals as goal

pub returns : goal.returns
returns c = within_is_allowed_lem
