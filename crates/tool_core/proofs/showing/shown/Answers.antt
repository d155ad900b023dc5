use Rattle.tool_core.proofs.ShowingSaid.{shown_said}
use Rattle.tool_core.proofs.showing.shown.Goals as goal

pub returns-in-Some : goal.returns-in-Some
returns-in-Some c =
    shown_said c.args.checked.now c.in-Some.events.items c.run_text.result c.test.ensures.checked
    (rw c.in-Some.is at c.in_ok-events.ensures) (rw c.deref.ensures.value at c.run_text.ensures)
