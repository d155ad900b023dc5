use Rattle.std.proofs.Common.{◌≡◌, ◌-◌, ◌++◌, All, length}
use Rattle.outcome_conv.specs.declared.cond.Cond.{Cond}
use Rattle.outcome_conv.specs.Conditions.{IsKind}
use Rattle.outcome_conv.specs.Plans.{order_of, plan_from}
use Rattle.heuristic.specs.Plan.{has_iteration}
use Rattle.heuristic.proofs.plan.order_from.Given as goal

abbrev pub invariant-loop : goal.invariant-loop
invariant-loop l = record {
  rest : l.order.items ++ order_of (length l.conds - l.counter) l.conds (has_iteration l.base l.order.items)
      ≡ plan_from l.conds l.base;
  kinds : All (λ (c : Cond). IsKind c.kind) l.order.items;
}
