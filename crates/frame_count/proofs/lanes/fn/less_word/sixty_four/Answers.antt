use Rattle.std.proofs.Common.{ltb, ap, ◌∙◌}
use Rattle.std.proofs.lemmas.Simd.{zip2_splat}
use lib.Lanes.{mask_l}
use Rattle.frame_count.proofs.Along.{along_lanes, eight_lanes}
use Rattle.frame_count.proofs.lanes.fn.less_word.sixty_four.Goals as goal

pub returns : goal.returns
returns c =
    let long = eight_lanes c.captures.values.now c.value_lanes.result c.args.i c.value_lanes.ensures in
    c.less_bits.ensures ∙ ap mask_l (zip2_splat ltb c.value_lanes.result 8 c.captures.bound long)
    ∙ along_lanes (λ v. ltb v c.captures.bound) c.captures.values.now c.value_lanes.result c.args.i
    c.value_lanes.ensures
