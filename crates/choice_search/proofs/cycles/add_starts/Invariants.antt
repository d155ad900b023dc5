use Rattle.std.proofs.Common.{◌≡◌, ℕ, true, take}
use Rattle.choice_search.specs.Graph.{has_pair}
use Rattle.choice_search.specs.Search.{is_among}
use Rattle.choice_search.proofs.cycles.add_starts.Given as goal

abbrev pub invariant-loop-edge : goal.invariant-loop-edge
invariant-loop-edge l = record {
  kept : (n : ℕ) → is_among n l.initial.nodes.items ≡ true → is_among n l.nodes.items ≡ true;
  added : (a b : ℕ) → has_pair (take l.edge-index l.edges) a b ≡ true → is_among a l.nodes.items ≡ true;
}
