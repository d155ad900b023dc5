use Rattle.tool_core.proofs.FaithSaid.{loose_told}
use Rattle.tool_core.proofs.faithful.told.Goals as goal

pub returns-in-Some : goal.returns-in-Some
returns-in-Some c =
    loose_told c.args.checked.now c.in-Some.loose.conjunction c.in-Some.loose.atom c.loose_text.result
    c.test-test.ensures.checked (rw c.in-Some.is at c.first_loose.ensures) c.loose_text.ensures
