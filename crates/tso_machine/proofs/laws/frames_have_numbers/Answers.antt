use Rattle.tso_machine.proofs.Frames.{frames_have_numbers_lem}
use Rattle.tso_machine.proofs.laws.frames_have_numbers.Goals as goal

pub returns : goal.returns
returns c = frames_have_numbers_lem
