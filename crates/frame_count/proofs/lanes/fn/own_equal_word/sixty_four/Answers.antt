use Rattle.std.proofs.Common.{◌+◌, ◌*◌, eqb, slice_index, ap, ◌∙◌}
use Rattle.std.proofs.lemmas.Simd.{zip2_of_maps}
use Rattle.std.specs.List.{range_with_len}
use lib.Lanes.{mask_l}
use Rattle.frame_count.specs.Row.{mask_along}
use Rattle.frame_count.proofs.lanes.fn.own_equal_word.sixty_four.Goals as goal

pub returns : goal.returns
unfolding mask_along
returns c =
    c.equal_bits.ensures ∙ ap mask_l (zip2_of_maps eqb (slice_index c.captures.values.now)
    (λ m. c.captures.k * m + c.captures.a) (range_with_len c.args.i 8) c.value_lanes.ensures c.line_lanes.ensures)
