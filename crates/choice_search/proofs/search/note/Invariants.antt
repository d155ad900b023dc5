use Rattle.std.proofs.Common.{◌≡◌}
use Rattle.choice_search.proofs.search.note.Given as goal

abbrev pub invariant-loop-edge : goal.invariant-loop-edge
invariant-loop-edge l = l.work.steps ≡ l.fn.work.steps
