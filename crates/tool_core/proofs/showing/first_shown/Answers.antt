use Rattle.tool_core.proofs.ShowingSaid.{none_more}
use Rattle.tool_core.proofs.showing.first_shown.Goals as goal

pub loop-c-preserved : goal.loop-c-preserved
loop-c-preserved c =
    none_more c.args.checked.now c.loop-c.c c.loop-c.invariant (rw c.in_default.is at c.in_ok-events.ensures)
