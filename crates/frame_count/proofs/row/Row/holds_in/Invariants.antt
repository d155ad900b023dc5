use Rattle.std.proofs.Common.{◌≡◌}
use Rattle.std.specs.List.{list_all, list_any}
use Rattle.load_log.specs.Values.{value_at}
use Rattle.outcome_conv.specs.Conds.{cond_holds}
use Rattle.frame_count.specs.Count.{frame_holds, with_last}
use Rattle.frame_count.proofs.Conjoining.{rest_of}
use Rattle.frame_count.proofs.row.Row.holds_in.Given as goal

abbrev pub invariant-loop-c : goal.invariant-loop-c
invariant-loop-c l =
    list_any (list_all (cond_holds (value_at l.self.logs.now.logs) (with_last l.self.frame.now l.m)))
    (rest_of l.self.conds.now.ends l.self.conds.now.conds l.c)
    ≡ frame_holds l.self.conds.now l.self.logs.now.logs (with_last l.self.frame.now l.m)
