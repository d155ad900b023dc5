use Rattle.std.proofs.Common.{◌≡◌, ℕ, ◌<◌, get_or, length}
use Rattle.x86_subset.specs.Conjunctions.{conjunction_of}
use Rattle.frame_count.specs.Row.{Leaves}
use Rattle.frame_count.specs.declared.stretch.Stretch.{Stretch}
use Rattle.frame_count.proofs.reach.reaches.Given as goal

abbrev pub invariant-loop-c : goal.invariant-loop-c
invariant-loop-c l =
    (length l.stretches ≡ 8)
    × ((j : ℕ) (d : Stretch) → j < l.c → Leaves l.n l.logs.logs l.frame (conjunction_of l.conds.ends l.conds.conds j)
    (get_or l.stretches j d))
