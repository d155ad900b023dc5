use Rattle.std.proofs.Common.{ℕ, ◌<◌, ◌≤◌, slice_index}
use Rattle.frame_count.proofs.known.least_and_most.Given as goal

abbrev pub invariant-loop-i : goal.invariant-loop-i
invariant-loop-i l =
    (m : ℕ) → l.at ≤ m → m < l.i → (l.least ≤ slice_index l.values m) × (slice_index l.values m ≤ l.most)
