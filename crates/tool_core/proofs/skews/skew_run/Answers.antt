use Rattle.program_edge.specs.Field.{HasRunOn}
use Rattle.tool_core.specs.Texts.{options_of}
use Rattle.tool_core.proofs.SkewOfRuns.{can_tell}
use Rattle.tool_core.proofs.skews.skew_run.Goals as goal

pub logs_text-text-requires-clause-logs : goal.logs_text-text-requires-clause-logs
logs_text-text-requires-clause-logs g c κs within =
    let ran : HasRunOn c.args.test.now (options_of c.args.n) c.run_test-done.result.done c.in-Ok-logs.logs.logs =
    rw (c.in-Ok-logs.is, c.options_of.ensures) at c.run_test-done.ensures.ran in
    can_tell c.args.test.now c.args.n c.run_test-done.result.done c.in-Ok-logs.logs.logs ran c.requires.few
