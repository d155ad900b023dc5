use Rattle.std.proofs.Common.{sym, ◌∙◌, arith}
use Rattle.std.specs.List.{list_all}
use Rattle.load_log.specs.Values.{value_at}
use Rattle.outcome_conv.specs.Conds.{cond_holds}
use Rattle.frame_count.specs.Count.{with_last}
use Rattle.frame_count.proofs.Conjoining.{any_next}
use Rattle.frame_count.proofs.at_frame.holds_at.Goals as goal

pub loop-c-preserved : goal.loop-c-preserved
loop-c-preserved c =
    any_next (list_all (cond_holds (value_at c.args.logs.now.logs) (with_last c.args.frame.now c.args.m)))
    c.args.conds.now.ends c.args.conds.now.conds c.loop-c.c _ _
    (omega arith) c.group.ensures.value (sym c.all_hold_at.ensures ∙ c.if-all_hold_at.false) c.loop-c.invariant
