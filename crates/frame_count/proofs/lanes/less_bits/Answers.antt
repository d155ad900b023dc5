use Rattle.std.proofs.Common.{ltb}
use Rattle.frame_count.proofs.Masks.{compared_mask}
use Rattle.frame_count.proofs.lanes.less_bits.Goals as goal

pub returns : goal.returns
returns c = compared_mask ltb c.args.value c.args.bound c.requires.value c.requires.bound
