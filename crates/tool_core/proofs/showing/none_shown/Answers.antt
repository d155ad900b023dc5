use Rattle.tool_core.proofs.ShowingSaid.{unshown_said}
use Rattle.tool_core.proofs.showing.none_shown.Goals as goal

pub returns : goal.returns
returns c =
    unshown_said c.args.checked.now c.in_ok-unshown.unshown c.unshown_text.result c.test-test.ensures.checked
    c.requires.none c.in_ok-unshown.ensures c.unshown_text.ensures
