use Rattle.std.proofs.Common.{◌≡◌, drop, slice_get}
use Rattle.outcome_conv.specs.Holds.{reading_places}
use Rattle.outcome_conv.proofs.convert.place_read.Given as goal

abbrev pub invariant-loop-place : goal.invariant-loop-place
invariant-loop-place l =
    slice_get (reading_places l.place (drop l.place l.body)) l.left ≡ slice_get (reading_places 0 l.body) l.column
