use Rattle.tool_core.specs.Showing.{AreReasons}
use Rattle.tool_core.proofs.reasons.reasons_of.Given as goal

abbrev pub invariant-loop-c : goal.invariant-loop-c
invariant-loop-c l = AreReasons l.checked l.c l.reasons.items
