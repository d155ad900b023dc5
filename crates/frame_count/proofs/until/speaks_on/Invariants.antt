use Rattle.std.proofs.Common.{ℕ, ◌<◌, get_or}
use Rattle.outcome_conv.specs.declared.cond.Cond.{Cond}
use Rattle.frame_count.specs.Block.{EndsAt}
use Rattle.frame_count.proofs.until.speaks_on.Given as goal

abbrev pub invariant-loop-cond : goal.invariant-loop-cond
invariant-loop-cond l = (j : ℕ) (d : Cond) → j < l.cond-index → EndsAt l.p (get_or l.conds j d)
