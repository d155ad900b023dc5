use Rattle.std.proofs.Common.{ℕ, ◌<◌, get_or}
use Rattle.outcome_conv.specs.declared.cond.Cond.{Cond}
use Rattle.frame_count.proofs.block.settles.Given as goal

abbrev pub invariant-loop-cond : goal.invariant-loop-cond
invariant-loop-cond l =
    (j : ℕ) (d : Cond) → j < l.cond-index
    → ((get_or l.conds j d).reader < l.most) × ((get_or l.conds j d).writer < l.most)
