use Rattle.std.proofs.Common.{map, take, Ok}
use Rattle.std.specs.Fn.{FnReturnsAt}
use Rattle.outcome_rows.specs.Limits.{KeepsFronts}
use Rattle.outcome_rows.proofs.rows.go_on.Given as goal

abbrev pub invariant-loop-front : goal.invariant-loop-front
invariant-loop-front g l =
    KeepsFronts (λ row r. FnReturnsAt g.F.Fn l.fn.decide row (Ok r)) l.fn.limit
    (map (λ row. row.items) (take l.front-index l.fn.fronts)) l.fn.values (map (λ row. row.items) l.rows.items)
