use Rattle.std.proofs.Common.{◌≡◌, ℕ, ◌<◌, length, slice_index}
use Rattle.frame_count.proofs.block.iterations.Given as goal

abbrev pub invariant-loop-t : goal.invariant-loop-t
invariant-loop-t l = (length l.iterations ≡ 8) × ((q : ℕ) → q < l.t → slice_index l.iterations q ≡ slice_index l.frame q)
