use Rattle.std.proofs.Common.{◌≡◌, ◌<◌, ℕ, Some, true, sym, ◌∙◌, ap, subst, drop, slice_get, List}
use Rattle.choice_search.specs.Graph.{edge_among, is_cycle_of}
use Rattle.choice_search.specs.Search.{closed}
use Rattle.std.proofs.lemmas.Bool.{both_ways}
use Rattle.choice_search.proofs.Walks.{next_at, fewer_unseen, if_ok, walk_cycle, walk_push, unseen}
use Rattle.choice_search.proofs.cycles.cycle_from.Goals as goal

pub loop-next-preserved : goal.loop-next-preserved
loop-next-preserved c =
    let edge = edge_among c.args.edges.now c.args.more.now in
    record {
      walk =
          rw c.in_ok-push-in-None-place_of.ensures.items (walk_push edge c.loop-next.path.items c.loop-next.last
          c.in-Some.next c.loop-next.invariant.walk c.in-Some.ensures.1);
      among = c.in-Some.ensures.0;
    }

pub returns-in-Some-place_of : goal.returns-in-Some-place_of
returns-in-Some-place_of c =
    let edge = edge_among c.args.edges.now c.args.more.now in
    let path = c.loop-next.path.items in
    let i = c.in-Some-place_of.i in
    let here : slice_get path i ≡ Some c.in-Some.next = rw c.deref.ensures.value at c.in-Some-place_of.ensures in
    let cycle : is_cycle_of edge (closed (drop i path)) ≡ true = walk_cycle edge path i c.in-Some.next c.loop-next.last
    c.loop-next.invariant.walk here c.in-Some.ensures.1 in
    let P : List ℕ → Type 0 = λ l. is_cycle_of edge l ≡ true in
    if_ok _ _ c.nodes_from.result (λ v h.
    subst P (sym (h ∙ ap (λ l. closed (drop i l)) c.deref-in-Some-place_of.ensures.value)) cycle)
    c.nodes_from.ensures

pub loop-next-smaller : goal.loop-next-smaller
loop-next-smaller c =
    let path = c.loop-next.path.items in
    let left = c.args.nodes.now in
    let less = fewer_unseen left path c.in-Some.next c.in-Some.ensures.0
    (rw c.deref.ensures.value at c.in-None-place_of.ensures) in
    let P : List ℕ → Type 0 = λ l. unseen left l < unseen left path in
    subst P (sym c.in_ok-push-in-None-place_of.ensures.items) less

pub unreachable-requires : goal.unreachable-requires
unreachable-requires c =
    both_ways _ c.in-None.ensures
    (next_at c.args.edges.now c.args.more.now c.args.nodes.now c.loop-next.last c.requires.next
    c.loop-next.invariant.among)
