use Rattle.std.proofs.Common.{refl}
use Rattle.frame_count.proofs.BlockCounts.{none_remembered}
use Rattle.frame_count.proofs.block.Block.nothing.Goals as goal

pub returns : goal.returns
returns c conds logs n = none_remembered conds logs n _ refl refl refl
