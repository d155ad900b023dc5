use Rattle.std.proofs.Common.{◌≡◌, ℕ, ◌+◌, ◌<◌, ◌≤◌, Bool, get_or, length}
use Rattle.std.specs.List.{list_all}
use Rattle.x86_subset.specs.Conjunctions.{conjunction_of}
use Rattle.frame_count.specs.Block.{so_far}
use Rattle.frame_count.proofs.so_far.left.Given as goal

abbrev pub invariant-loop-c : goal.invariant-loop-c
invariant-loop-c l = record {
  long : length l.alive ≡ 8;
  tested : (j : ℕ) (d : Bool) → j < l.c → get_or l.alive j d
      ≡ list_all (so_far l.logs.logs (l.p + 1) l.frame) (conjunction_of l.conds.ends l.conds.conds j);
  others : (j : ℕ) (d : Bool) → l.c ≤ j → j < length l.conds.ends → get_or l.alive j d
      ≡ list_all (so_far l.logs.logs l.p l.frame) (conjunction_of l.conds.ends l.conds.conds j);
}
