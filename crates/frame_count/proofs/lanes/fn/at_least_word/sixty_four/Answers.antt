use Rattle.std.proofs.Common.{leb, nat_le, ap, ◌∙◌}
use Rattle.std.proofs.lemmas.Simd.{zip2_splat_left}
use lib.Lanes.{mask_l}
use Rattle.frame_count.proofs.Along.{along_lanes, eight_lanes}
use Rattle.frame_count.proofs.lanes.fn.at_least_word.sixty_four.Goals as goal

pub returns : goal.returns
returns c =
    let long = eight_lanes c.captures.values.now c.value_lanes.result c.args.i c.value_lanes.ensures in
    c.at_least_bits.ensures ∙ ap mask_l (zip2_splat_left leb c.captures.bound 8 c.value_lanes.result long)
    ∙ along_lanes (λ v. nat_le c.captures.bound v) c.captures.values.now c.value_lanes.result c.args.i
    c.value_lanes.ensures
