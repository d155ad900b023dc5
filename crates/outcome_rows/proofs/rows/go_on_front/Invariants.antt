use Rattle.std.proofs.Common.{◌≡◌, ℕ, ◌+◌, ◌≤◌, ◌++◌, List, Bool, length, map, take, Ok}
use Rattle.std.specs.Fn.{FnReturnsAt}
use Rattle.outcome_rows.specs.Limits.{KeepsFront}
use Rattle.outcome_rows.proofs.rows.go_on_front.Given as goal

abbrev pub invariant-loop-value : goal.invariant-loop-value
invariant-loop-value g l =
    KeepsFront (λ row r. FnReturnsAt g.F.Fn l.fn.decide row (Ok r)) l.fn.limit l.fn.front (take l.value-index l.fn.values)
    (map (λ row. row.items) l.fn.rows.items) (map (λ row. row.items) l.rows.items)
