use Rattle.std.proofs.Common.{◌∙◌, sym}
use Rattle.tool_core.proofs.ShowingSaid.{shown_by}
use Rattle.tool_core.proofs.showing.events_at.Goals as goal

pub returns-in-Run : goal.returns-in-Run
returns-in-Run c =
    shown_by c.args.checked.now c.args.conjunction c.in-Run.events.items c.test-test.ensures.checked
    (sym c.is_ordered.ensures ∙ c.if-not-is_ordered.false) (rw c.in-Run.is at c.in_ok-events.ensures)
