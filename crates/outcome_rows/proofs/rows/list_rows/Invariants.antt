use Rattle.std.proofs.Common.{◌≡◌, ℕ, ◌≤◌, ◌∷◌, [], List, Bool, Ok, length, map, take}
use Rattle.std.specs.Fn.{FnReturnsAt}
use Rattle.outcome_rows.specs.Listing.{AnswersBy, rows_from}
use Rattle.outcome_rows.proofs.rows.list_rows.Given as goal

abbrev pub invariant-loop-column : goal.invariant-loop-column
invariant-loop-column g l =
    ((p : List ℕ → Bool) → AnswersBy (λ row r. FnReturnsAt g.F.Fn l.fn.decide row (Ok r)) (length l.fn.columns) p
    → map (λ row. row.items) l.rows.items
    ≡ rows_from p (map (λ row. row.items) (take l.column-index l.fn.columns)) ([] ∷ []))
    × (length (map (λ row. row.items) l.rows.items) ≤ l.fn.limit)
