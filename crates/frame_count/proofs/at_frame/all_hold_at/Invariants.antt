use Rattle.std.proofs.Common.{◌≡◌, drop}
use Rattle.std.specs.List.{list_all}
use Rattle.load_log.specs.Values.{value_at}
use Rattle.outcome_conv.specs.Conds.{cond_holds}
use Rattle.frame_count.specs.Count.{with_last}
use Rattle.frame_count.proofs.at_frame.all_hold_at.Given as goal

abbrev pub invariant-loop-cond : goal.invariant-loop-cond
invariant-loop-cond l =
    list_all (cond_holds (value_at l.logs.logs) (with_last l.frame l.m)) (drop l.cond-index l.conds)
    ≡ list_all (cond_holds (value_at l.logs.logs) (with_last l.frame l.m)) l.conds
