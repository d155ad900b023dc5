use Rattle.std.proofs.Common.{◌≡◌, ℕ, ◌+◌, ◌<◌, ◌≤◌, ◌++◌, ◌∷◌, [], ◌∙◌, List, Bool, Some, Vec, Global, true, false, ap, arith, sym, get_or, length, map, vec_len, Ok}
use Rattle.std.specs.Fn.{FnReturnsAt}
use Rattle.outcome_rows.proofs.Loops.{answer_at, few_more, front_ends, front_keeps, front_many, pushed}
use Rattle.outcome_rows.proofs.rows.go_on_front.Goals as goal
use Rattle.outcome_rows.proofs.rows.go_on_front.Goals.{then-possible+else-len-limit+in_ok-push-in-Some, else-possible}

pub returns-then-len-limit : goal.returns-then-len-limit
returns-then-len-limit g c n p l a =
    let front : List ℕ = c.args.front.now in
    let values : List ℕ = c.args.values.now in
    let i : ℕ = c.loop-value.value-index in
    let v : ℕ = get_or values i 0 in
    let items : Vec ℕ Global → List ℕ = λ row. row.items in
    let row : c.push.new.self.items ≡ front ++ v ∷ [] =
    c.in_ok-push.ensures.items ∙ ap (λ (z : List ℕ). z ++ v ∷ []) c.in_ok-row.ensures.items in
    let told : c.in-Some.possible ≡ p (front ++ v ∷ []) =
    answer_at (λ row r. FnReturnsAt g.F.Fn c.args.decide.now row (Ok r)) n p front v c.in-Some.possible l a (record {
      shown = c.deref.result;
      shows = c.deref.ensures.value ∙ row;
      says = record { met = rw c.in-Some.is at c.in_ok-possible.ensures };
    }) in
    let old : List (Vec ℕ Global) = c.args.rows.now.items in
    let before : List (Vec ℕ Global) = c.loop-value.rows.items in
    front_many items p front values i c.args.limit old before c.loop-value-test.true
    (let o = c.loop-value.rows.ok in omega arith)
    (c.loop-value.invariant.0 n p l a) (sym c.if-possible.true ∙ told)

pub loop-value-preserved : goal.loop-value-preserved
loop-value-preserved g c = (
  λ n p l a.
      let front : List ℕ = c.args.front.now in
      let values : List ℕ = c.args.values.now in
      let i : ℕ = c.loop-value.value-index in
      let v : ℕ = get_or values i 0 in
      let items : Vec ℕ Global → List ℕ = λ row. row.items in
      let row : c.push.new.self.items ≡ front ++ v ∷ [] =
      c.in_ok-push.ensures.items ∙ ap (λ (z : List ℕ). z ++ v ∷ []) c.in_ok-row.ensures.items in
      let told : c.in-Some.possible ≡ p (front ++ v ∷ []) =
      answer_at (λ row r. FnReturnsAt g.F.Fn c.args.decide.now row (Ok r)) n p front v c.in-Some.possible l a (record {
        shown = c.deref.result;
        shows = c.deref.ensures.value ∙ row;
        says = record { met = rw c.in-Some.is at c.in_ok-possible.ensures };
      }) in
      let old : List (Vec ℕ Global) = c.args.rows.now.items in
      let before : List (Vec ℕ Global) = c.loop-value.rows.items in
      let after : List (Vec ℕ Global) = c.if-possible.rows.items in
      let kept = c.loop-value.invariant.0 n p l a in
      elim c.if-possible.branch [
        | then-possible+else-len-limit+in_ok-push-in-Some w ↦
            front_keeps items p front values i old before after true c.loop-value-test.true kept
            (sym w.if-possible.true ∙ told)
            (pushed items before after c.push.new.self (front ++ v ∷ [])
            (ap (λ (z : Vec (Vec ℕ Global) Global). z.items) w.rows-is ∙ w.in_ok-push-in-Some.ensures.items) row)
        | else-possible w ↦
            front_keeps items p front values i old before after false c.loop-value-test.true kept
            (sym w.if-possible.false ∙ told)
            (ap (λ (z : Vec (Vec ℕ Global) Global). map items z.items) w.rows-is)
      ],
  λ few. elim c.if-possible.branch [
    | then-possible+else-len-limit+in_ok-push-in-Some w ↦ (let items : Vec ℕ Global → List ℕ = λ row. row.items in
        few_more items c.loop-value.rows.items c.if-possible.rows.items c.push.new.self c.args.limit
        (ap (λ (z : Vec (Vec ℕ Global) Global). z.items) w.rows-is ∙ w.in_ok-push-in-Some.ensures.items)
        (let low = w.if-len-limit.false in let l = w.len.ensures in let o = c.loop-value.rows.ok in omega arith))
    | else-possible w ↦ (let items : Vec ℕ Global → List ℕ = λ row. row.items in
        let e = ap (λ (z : Vec (Vec ℕ Global) Global). length (map items z.items)) w.rows-is in
        let h = c.loop-value.invariant.1 few in
        omega arith)
  ],
)

pub returns : goal.returns
returns g c = (
  λ n p l a.
      let items : Vec ℕ Global → List ℕ = λ row. row.items in
      front_ends p c.args.front.now c.args.values.now c.loop-value.value-index (map items c.args.rows.now.items)
      (map items c.loop-value.rows.items) c.loop-value-test.false (c.loop-value.invariant.0 n p l a),
  c.loop-value.invariant.1,
)
