use Rattle.std.proofs.Common.{◌≡◌, ℕ, ◌<◌, All, Bool, get_or, true}
use Rattle.x86_subset.specs.Conjunctions.{conjunction_of}
use Rattle.frame_count.specs.Block.{IsAlike}
use Rattle.frame_count.proofs.so_far.all_alike.Given as goal

abbrev pub invariant-loop-c : goal.invariant-loop-c
invariant-loop-c l =
    (j : ℕ) (d : Bool) → j < l.c → (get_or l.left j d ≡ get_or l.alive j d)
    × (get_or l.alive j d ≡ true → All (IsAlike l.p l.before l.frame) (conjunction_of l.conds.ends l.conds.conds j))
