use Rattle.std.proofs.Common.{◌≡◌, vec_len, sym, ◌∙◌, arith}
use Rattle.std.proofs.lemmas.Bool.{eqb-true}
use Rattle.choice_search.proofs.Walks.{empty_is, no_cycles}
use Rattle.choice_search.proofs.cycles.find_cycle.Goals as goal

pub returns-then-is_empty : goal.returns-then-is_empty
returns-then-is_empty c =
    let none : vec_len c.in_ok-left.left ≡ 0 = eqb-true (vec_len c.in_ok-left.left) 0
    (sym c.is_empty.ensures ∙ c.if-is_empty.true) in
    no_cycles c.args.edges.now c.args.more.now c.add_starts-2.new.nodes.items c.in_ok-left.left.items
    (λ a b h. c.in_ok-add_starts-2.ensures.kept a (c.in_ok-add_starts.ensures.added a b h))
    c.in_ok-add_starts-2.ensures.added c.in_ok-left.ensures.cycles
    (empty_is c.in_ok-left.left.items (omega arith))
