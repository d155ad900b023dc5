use Rattle.std.proofs.Common.{◌≡◌, ℕ, ◌<◌, All, get_or, length}
use Rattle.x86_subset.specs.Conjunctions.{conjunction_of}
use Rattle.outcome_conv.specs.declared.cond.Cond.{Cond}
use Rattle.frame_count.proofs.block.settled_by.Given as goal

abbrev pub invariant-loop-c : goal.invariant-loop-c
invariant-loop-c l = (length l.by ≡ 8) × ((j d : ℕ) → j < l.c → All (λ (x : Cond). (x.reader < get_or l.by j d) × (x.writer < get_or l.by j d))
    (conjunction_of l.conds.ends l.conds.conds j))
