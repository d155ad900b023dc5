use Rattle.tool_core.proofs.VerdictSaid.{verdict_said}
use Rattle.tool_core.proofs.verdicts.said.Goals as goal

pub returns : goal.returns
returns c =
    verdict_said c.args.checked.now c.in_ok-verdict.verdict c.verdict_text.result c.test.ensures.checked
    c.in_ok-verdict.ensures c.verdict_text.ensures
