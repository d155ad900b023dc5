use Rattle.std.proofs.Common.{◌≡◌, drop}
use Rattle.std.specs.List.{list_all}
use Rattle.load_log.specs.Values.{value_at}
use Rattle.outcome_conv.specs.Conds.{cond_holds}
use Rattle.heuristic.proofs.picking.all_hold.Given as goal

abbrev pub invariant-loop-cond : goal.invariant-loop-cond
invariant-loop-cond l =
    list_all (cond_holds (value_at l.logs.logs) l.frame) (drop l.cond-index l.conds)
    ≡ list_all (cond_holds (value_at l.logs.logs) l.frame) l.conds
