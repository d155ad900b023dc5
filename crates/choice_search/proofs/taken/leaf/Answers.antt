use Rattle.std.proofs.Common.{◌≡◌, ℕ, ◌||◌, Bool, true, List, sym, ◌∙◌, subst, ap}
use Rattle.std.specs.List.{list_all}
use Rattle.choice_search.specs.declared.graph.Pair.{Pair}
use Rattle.choice_search.specs.Graph.{edge_among, has_pair, is_cycle_of, is_pair}
use Rattle.choice_search.specs.Search.{taken_of}
use Rattle.choice_search.proofs.Trees.{within_all}
use Rattle.choice_search.proofs.taken.leaf.Goals as goal

pub returns-then-closes : goal.returns-then-closes
returns-then-closes c =
    let taken = taken_of c.args.choices.now c.args.sides.now in
    let test : Pair → Bool = λ q. is_pair q.first q.second c.args.edge || has_pair taken q.first q.second in
    let all : list_all test c.in_ok-used.used.items ≡ true = ap (list_all test) (sym c.deref-2.ensures.value)
    ∙ sym c.are_taken.ensures ∙ c.if-are_taken.true in
    record {
      refutes =
          ap (λ l. is_cycle_of (edge_among c.args.edges.now l) c.in_ok-cycle.cycle.items)
          (sym c.deref-then-are_taken.ensures.value)
          ∙ ap (is_cycle_of (edge_among c.args.edges.now c.deref-then-are_taken.result.now))
          (sym c.deref-then-are_taken-2.ensures.value) ∙ sym c.closes.ensures ∙ c.if-closes.true;
      within = within_all c.args.edge c.in_ok-used.used.items taken all;
    }
