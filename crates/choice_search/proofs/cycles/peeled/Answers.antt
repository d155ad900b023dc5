use Rattle.std.proofs.Common.{◌≡◌, ◌<◌, ℕ, sym, ◌∙◌, ap, length, filter, arith, vec_len, subst, List, Bool}
use Rattle.choice_search.specs.Graph.{edge_among}
use Rattle.choice_search.specs.Search.{KeepsCycles, has_next}
use Rattle.choice_search.proofs.Walks.{all_kept, filter_shrinks, keeps_cycles}
use Rattle.choice_search.proofs.cycles.peeled.Goals as goal

pub returns-then-len-clause-next : goal.returns-then-len-clause-next
returns-then-len-clause-next c =
    let left = c.loop-left.left.items in
    let p : ℕ → Bool = λ a. has_next c.args.edges.now c.args.more.now left a in
    let eq : c.in_ok-next.next.items ≡ filter p left = rw c.deref.ensures.value at c.in_ok-next.ensures in
    let long : length c.in_ok-next.next.items ≡ length left = omega arith in
    all_kept p left (ap length (sym eq) ∙ long)

pub loop-left-smaller : goal.loop-left-smaller
loop-left-smaller c =
    let left = c.loop-left.left.items in
    let p : ℕ → Bool = λ a. has_next c.args.edges.now c.args.more.now left a in
    let eq : c.in_ok-next.next.items ≡ filter p left = rw c.deref.ensures.value at c.in_ok-next.ensures in
    let long : length c.in_ok-next.next.items ≡ length (filter p left) = ap length eq in
    let less = filter_shrinks p left (λ e. c.if-len.false (omega arith)) in
    let goal : vec_len c.in_ok-next.next < vec_len c.loop-left.left = omega arith in
    goal

pub loop-left-preserved : goal.loop-left-preserved
loop-left-preserved c =
    let left = c.loop-left.left.items in
    let edges = c.args.edges.now in
    let more = c.args.more.now in
    let p : ℕ → Bool = λ a. has_next edges more left a in
    let eq : c.in_ok-next.next.items ≡ filter p left = rw c.deref.ensures.value at c.in_ok-next.ensures in
    let P : List ℕ → Type 0 = λ l. KeepsCycles (edge_among edges more) c.args.nodes.items l in
    subst P (sym eq) (keeps_cycles edges more c.args.nodes.items left c.loop-left.invariant)
