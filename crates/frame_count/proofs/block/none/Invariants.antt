use Rattle.std.proofs.Common.{◌≡◌, ℕ, ◌<◌, Bool, false, get_or}
use Rattle.frame_count.proofs.block.none.Given as goal

abbrev pub invariant-loop-c : goal.invariant-loop-c
invariant-loop-c l = (j : ℕ) (d : Bool) → j < l.c → get_or l.alive j d ≡ false
