use Rattle.std.proofs.Common.{◌≡◌, ◌||◌, ℕ, take}
use Rattle.choice_search.specs.Graph.{has_pair}
use Rattle.choice_search.proofs.taken.joined.Given as goal

abbrev pub invariant-loop-p : goal.invariant-loop-p
invariant-loop-p l =
    (a b : ℕ) → has_pair l.all.items a b ≡ (has_pair l.initial.all.items a b || has_pair (take l.p-index l.more) a b)
