use Rattle.std.proofs.Common.{◌≡◌, ◌*◌, ◌≤◌, length}
use Rattle.x86_subset.specs.Test.{body_of}
use Rattle.perp_loop.specs.Replaying.{sum_below}
use Rattle.tool_core.proofs.writers.action_count.Given as goal

abbrev pub invariant-loop-t : goal.invariant-loop-t
invariant-loop-t l = (l.actions ≡ sum_below l.t (λ t. length (body_of l.test t))) × (l.actions ≤ l.t * 16)
