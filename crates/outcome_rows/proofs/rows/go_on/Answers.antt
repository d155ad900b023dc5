use Rattle.std.proofs.Common.{ℕ, List, Bool, Option, Vec, Global, Ok}
use Rattle.std.specs.Fn.{FnReturnsAt}
use Rattle.outcome_rows.proofs.Loops.{go_ended, go_gives_up, go_keeps_front, go_many, none_of, some_of, stop_more}
use Rattle.outcome_rows.proofs.rows.go_on.Goals as goal

pub returns-in-Some : goal.returns-in-Some
returns-in-Some g c =
    let items : Vec ℕ Global → List ℕ = λ row. row.items in
    let A : List ℕ → Option Bool → Type 0 = λ row r. FnReturnsAt g.F.Fn c.args.decide.now row (Ok r) in
    let i : ℕ = c.loop-front.front-index in
    stop_more _ _ _ _ c.in-Some.stop
    (λ many. go_many items A c.args.limit c.args.values.now c.args.fronts.now i c.front-item.result c.deref.result.now
    c.loop-front.rows.items c.loop-front-test.true c.front-item.is c.deref.ensures.value c.loop-front.invariant many)
    (λ gives. go_gives_up items A c.args.fronts.now i c.front-item.result c.deref.result.now c.loop-front-test.true
    c.front-item.is c.deref.ensures.value gives)
    (some_of _ _ _ _ c.in-Some.is c.in_ok-stop.ensures)

pub loop-front-preserved : goal.loop-front-preserved
loop-front-preserved g c =
    let items : Vec ℕ Global → List ℕ = λ row. row.items in
    let A : List ℕ → Option Bool → Type 0 = λ row r. FnReturnsAt g.F.Fn c.args.decide.now row (Ok r) in
    go_keeps_front items A c.args.limit c.args.values.now c.args.fronts.now c.loop-front.front-index c.front-item.result
    c.deref.result.now c.loop-front.rows.items c.go_on_front.new.rows.items c.loop-front-test.true c.front-item.is
    c.deref.ensures.value c.loop-front.invariant (none_of _ _ _ c.in-None.is c.in_ok-stop.ensures)

pub returns : goal.returns
returns g c =
    let items : Vec ℕ Global → List ℕ = λ row. row.items in
    let A : List ℕ → Option Bool → Type 0 = λ row r. FnReturnsAt g.F.Fn c.args.decide.now row (Ok r) in
    go_ended items A c.args.limit c.args.values.now c.args.fronts.now c.loop-front.front-index c.loop-front.rows.items
    c.loop-front-test.false c.loop-front.invariant
