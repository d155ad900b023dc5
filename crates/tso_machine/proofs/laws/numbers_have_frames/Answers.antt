use Rattle.tso_machine.proofs.Frames.{numbers_have_frames_lem}
use Rattle.tso_machine.proofs.laws.numbers_have_frames.Goals as goal

pub returns : goal.returns
returns c = numbers_have_frames_lem
