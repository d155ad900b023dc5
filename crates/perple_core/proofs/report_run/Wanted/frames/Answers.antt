use Rattle.perple_core.proofs.Reporting.{asked_frames}
use Rattle.perple_core.proofs.report_run.Wanted.frames.Goals as goal

pub returns-then-asks_for_exhaustive : goal.returns-then-asks_for_exhaustive
returns-then-asks_for_exhaustive c =
    let both = asked_frames c.args.checked.now.test c.args.self.now.options c.args.self.now.count c.frames.result
    c.threads.result c.asks_for_exhaustive.result c.asks_for_exhaustive.ensures c.if-asks_for_exhaustive.true
    (rw c.test.ensures.is at c.threads.ensures.is) c.requires.wanted.few_frames c.frames.ensures.none
    c.frames.ensures.value in
    record { variant = both.0; frames = both.1 }
