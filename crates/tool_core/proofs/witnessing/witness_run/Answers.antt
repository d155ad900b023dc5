use Rattle.program_edge.specs.Field.{HasRunOn}
use Rattle.tool_core.specs.Texts.{options_of}
use Rattle.tool_core.proofs.WitnessOfRuns.{witness_of_runs}
use Rattle.tool_core.proofs.witnessing.witness_run.Goals as goal

pub returns-in-Ok-witness_text-clause-text : goal.returns-in-Ok-witness_text-clause-text
returns-in-Ok-witness_text-clause-text g c =
    let ran : HasRunOn c.args.test.now (options_of c.args.n) c.run_test-done.result.done c.in-Ok-logs.logs.logs =
    rw (c.in-Ok-logs.is, c.options_of.ensures) at c.run_test-done.ensures.ran in
    witness_of_runs c.args.test.now c.args.n c.run_test-done.result.done c.in-Ok-logs.logs.logs _ ran
    c.in-Ok-witness_text.ensures
