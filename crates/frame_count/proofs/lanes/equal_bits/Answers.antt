use Rattle.std.proofs.Common.{eqb}
use Rattle.frame_count.proofs.Masks.{compared_mask}
use Rattle.frame_count.proofs.lanes.equal_bits.Goals as goal

pub returns : goal.returns
returns c = compared_mask eqb c.args.value c.args.bound c.requires.value c.requires.bound
