use Rattle.std.proofs.Common.{◌≡◌, ◌&&◌, ℕ, not, take}
use Rattle.choice_search.specs.Graph.{has_pair, is_pair}
use Rattle.choice_search.proofs.taken.without.Given as goal

abbrev pub invariant-loop-p : goal.invariant-loop-p
invariant-loop-p l =
    (a b : ℕ) → has_pair l.rest.items a b ≡ (not (is_pair a b l.edge) && has_pair (take l.p-index l.used) a b)
