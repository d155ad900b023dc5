use Rattle.frames_within.proofs.Counts.{counts_are_within_lem}
use Rattle.frames_within.proofs.laws.counts_are_within.Goals as goal

pub returns : goal.returns
returns c = counts_are_within_lem
