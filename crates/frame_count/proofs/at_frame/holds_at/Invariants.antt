use Rattle.std.proofs.Common.{◌≡◌}
use Rattle.std.specs.List.{list_all, list_any}
use Rattle.load_log.specs.Values.{value_at}
use Rattle.outcome_conv.specs.Conds.{cond_holds}
use Rattle.frame_count.specs.Count.{frame_holds, with_last}
use Rattle.frame_count.proofs.Conjoining.{rest_of}
use Rattle.frame_count.proofs.at_frame.holds_at.Given as goal

abbrev pub invariant-loop-c : goal.invariant-loop-c
invariant-loop-c l =
    list_any (list_all (cond_holds (value_at l.logs.logs) (with_last l.frame l.m)))
    (rest_of l.conds.ends l.conds.conds l.c)
    ≡ frame_holds l.conds l.logs.logs (with_last l.frame l.m)
