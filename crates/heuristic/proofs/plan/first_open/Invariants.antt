use Rattle.std.proofs.Common.{◌≡◌, drop, find}
use Rattle.outcome_conv.specs.Plans.{is_open}
use Rattle.heuristic.specs.Plan.{has_iteration}
use Rattle.heuristic.proofs.plan.first_open.Given as goal

abbrev pub invariant-loop-cond : goal.invariant-loop-cond
invariant-loop-cond l =
    find (is_open (has_iteration l.base l.order)) (drop l.cond-index l.conds)
    ≡ find (is_open (has_iteration l.base l.order)) l.conds
