use Rattle.tool_core.specs.Showing.{NoneIsShown}
use Rattle.tool_core.proofs.showing.first_shown.Given as goal

-- of no conjunction so far a run is shown
abbrev pub invariant-loop-c : goal.invariant-loop-c
invariant-loop-c l = NoneIsShown l.checked l.c
