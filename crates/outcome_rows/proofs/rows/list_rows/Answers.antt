use Rattle.std.proofs.Common.{ℕ, List, Bool, Option, Vec, Global, length, Ok}
use Rattle.std.specs.Fn.{FnReturnsAt}
use Rattle.outcome_rows.proofs.Limited.{fronts_each, gives_up, many_columns}
use Rattle.outcome_rows.proofs.Loops.{columns_end, columns_keep, none_of, some_of, stop_more}
use Rattle.outcome_rows.proofs.rows.list_rows.Goals as goal

pub returns-in-Some : goal.returns-in-Some
returns-in-Some g c =
    let items : Vec ℕ Global → List ℕ = λ row. row.items in
    let A : List ℕ → Option Bool → Type 0 = λ row r. FnReturnsAt g.F.Fn c.args.decide row (Ok r) in
    stop_more _ _ _ _ c.in-Some.stop
    (λ many. many_columns items A c.args.limit c.args.columns.now c.loop-column.column-index c.column-item.result
    c.deref-in-loop-column.result.now c.loop-column.rows.items c.deref.result.now c.loop-column-test.true
    c.column-item.is c.deref-in-loop-column.ensures.value c.deref.ensures.value c.loop-column.invariant.0 many)
    (λ gives. gives_up A _ gives)
    (some_of _ _ _ _ c.in-Some.is c.in_ok-stop.ensures)

pub loop-column-preserved : goal.loop-column-preserved
loop-column-preserved g c =
    let items : Vec ℕ Global → List ℕ = λ row. row.items in
    let columns : List (Vec ℕ Global) = c.args.columns.now in
    let i : ℕ = c.loop-column.column-index in
    let keeps = none_of _ _ _ c.in-None.is c.in_ok-stop.ensures in (
      λ p a.
          let kept = c.loop-column.invariant.0 p a in
          columns_keep items p columns i c.column-item.result c.deref-in-loop-column.result.now
          c.loop-column.rows.items c.deref.result.now c.go_on.new.rows.items c.loop-column-test.true c.column-item.is
          c.deref-in-loop-column.ensures.value c.deref.ensures.value kept
          (keeps.0 (length columns) p (fronts_each items p columns c.loop-column.rows.items c.deref.result.now i
          c.loop-column-test.true kept c.deref.ensures.value) a),
      keeps.1,
    )

pub returns : goal.returns
returns g c =
    let items : Vec ℕ Global → List ℕ = λ row. row.items in (
      columns_end items (λ row r. FnReturnsAt g.F.Fn c.args.decide row (Ok r)) c.args.columns.now c.loop-column.column-index
          c.loop-column.rows.items c.loop-column-test.false c.loop-column.invariant.0,
      c.loop-column.invariant.1,
    )
