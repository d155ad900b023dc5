use Rattle.std.proofs.Common.{ℕ, ◌<◌, get_or}
use Rattle.outcome_conv.specs.declared.cond.Cond.{Cond}
use Rattle.frame_count.specs.Block.{IsAlike}
use Rattle.frame_count.proofs.so_far.are_alike.Given as goal

abbrev pub invariant-loop-cond : goal.invariant-loop-cond
invariant-loop-cond l =
    (j : ℕ) (d : Cond) → j < l.cond-index → IsAlike l.p l.before l.frame (get_or l.conds j d)
