use Rattle.std.proofs.Common.{◌≡◌, ◌==◌, ◌-◌, find}
use Rattle.std.specs.List.{list_any, range_with_len}
use Rattle.outcome_conv.specs.declared.cond.Cond.{Cond}
use Rattle.outcome_conv.specs.Plans.{base_by}
use Rattle.heuristic.proofs.plan.base_of.Given as goal

abbrev pub invariant-loop-thread : goal.invariant-loop-thread
invariant-loop-thread l =
    find (λ t. list_any (λ (c : Cond). c.reader == t) l.conds) (range_with_len l.thread (l.threads - l.thread))
    ≡ base_by l.threads l.conds
