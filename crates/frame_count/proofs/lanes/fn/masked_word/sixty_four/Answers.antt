use Rattle.std.proofs.Common.{◌∙◌}
use Rattle.frame_count.proofs.Along.{along_lanes}
use Rattle.frame_count.proofs.lanes.fn.masked_word.sixty_four.Goals as goal

pub returns : goal.returns
returns c = c.masked_bits.ensures ∙ along_lanes _ _ _ _ c.value_lanes.ensures
