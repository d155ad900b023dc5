use Rattle.std.proofs.Common.{ℕ, ◌<◌, ◌≤◌, Bool}
use Rattle.frame_count.specs.Block.{StayAlike}
use Rattle.frame_count.proofs.until.all_until.Given as goal

abbrev pub invariant-loop-c : goal.invariant-loop-c
invariant-loop-c l = record {
  more : l.i < l.until;
  alike : (m : ℕ) → l.i ≤ m → m < l.until → m < l.n → (j : ℕ) (d : Bool) → j < l.c
      → StayAlike l.conds l.logs.logs l.p l.frame l.i m l.now j d;
}
