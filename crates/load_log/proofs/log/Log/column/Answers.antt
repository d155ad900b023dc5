use Rattle.std.proofs.Common.{◌≡◌, ◌+◌, ◌*◌, ◌<◌, length, get_or, sym, ap, ◌∙◌, arith}
use Rattle.std.proofs.Math.Nat.{mul_comm}
use Rattle.std.specs.List.{between}
use Rattle.std.proofs.lemmas.List.Edits.{length-between, get_or-between}
use Rattle.load_log.proofs.Columns.{length-by_iteration, get_or-by_iteration, column_within, row_within}
use Rattle.load_log.proofs.log.Log.column.Goals as goal

pub returns-clause-values : goal.returns-clause-values
returns-clause-values c m there =
    let column : c.args.column < c.self.inside.columns = rw (← c.self.view_is) at c.requires.column in
    let below : m * c.self.inside.columns + c.args.column
    < c.self.inside.row * c.self.inside.columns + c.self.inside.at =
    rw length-by_iteration at (rw (← c.self.view_is) at there) in
    let row : m < c.self.inside.rows = row_within c.self.inside.columns c.self.inside.rows m c.args.column
    (omega arith) in
    rw (← c.self.view_is)
    (get_or-between c.deref.result.now (c.args.column * c.self.inside.rows)
    (c.args.column * c.self.inside.rows + c.self.inside.rows) m 0 (omega (arith, row))
    ∙ ap (λ xs. get_or xs (c.args.column * c.self.inside.rows + m) 0) c.deref.ensures.value
    ∙ sym (get_or-by_iteration _ _ _ _ m c.args.column column below))

pub returns-clause-room : goal.returns-clause-room
returns-clause-room c =
    let column : c.args.column < c.self.inside.columns = rw (← c.self.view_is) at c.requires.column in
    let whole : length c.deref.result.now ≡ c.self.inside.columns * c.self.inside.rows = ap length c.deref.ensures.value
    ∙ c.self.invariant.0 in
    let rows : length (between (c.args.column * c.self.inside.rows)
    (c.args.column * c.self.inside.rows + c.self.inside.rows) c.deref.result.now) ≡ c.self.inside.rows =
    length-between c.deref.result.now (c.args.column * c.self.inside.rows) _
    (omega (arith, column_within c.self.inside.columns c.self.inside.rows c.args.column column)) ∙ (omega arith) in
    rw (← c.self.view_is, rows, length-by_iteration) (omega (arith, mul_comm c.self.inside.rows c.self.inside.columns))
