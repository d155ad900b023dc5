use Rattle.std.proofs.Common.{leb}
use Rattle.frame_count.proofs.Masks.{compared_mask}
use Rattle.frame_count.proofs.lanes.at_least_bits.Goals as goal

pub returns : goal.returns
returns c = compared_mask leb c.args.bound c.args.value c.requires.bound c.requires.value
