use Rattle.std.proofs.Common.{◌≡◌, ℕ, ◌∙◌, List, Vec, Global, ap, arith, get_or, map, sym, true, false}
use Rattle.row_decision.specs.Fronts.{register_seen}
use Rattle.outcome_states.specs.Counting.{is_met}
use Rattle.outcome_states.proofs.Written.{counted_more}
use Rattle.outcome_states.proofs.counting.count_met.Goals as goal
use Rattle.outcome_states.proofs.counting.count_met.Goals.{then-is_met, else-is_met}

pub loop-row-preserved : goal.loop-row-preserved
loop-row-preserved c =
    let items : Vec ℕ Global → List ℕ = λ row. row.items in
    let p = is_met c.args.test.now (map register_seen c.args.registers.now) in
    let rows : List (Vec ℕ Global) = c.args.rows.now in
    let i : ℕ = c.loop-row.row-index in
    let r : c.deref.result.now ≡ items (get_or rows i c.row-item.result) = c.deref.ensures.value
    ∙ ap items c.row-item.is in
    elim c.if-is_met.branch [
      | then-is_met w ↦
          counted_more items p rows i c.row-item.result c.deref.result.now c.loop-row.met c.if-is_met.met true
          c.loop-row-test.true r c.loop-row.invariant (sym w.if-is_met.true ∙ c.is_met.ensures) w.met-is
      | else-is_met w ↦
          counted_more items p rows i c.row-item.result c.deref.result.now c.loop-row.met c.if-is_met.met false
          c.loop-row-test.true r c.loop-row.invariant (sym w.if-is_met.false ∙ c.is_met.ensures)
          (let e = w.met-is in omega arith)
    ]
