use Rattle.perple_core.proofs.Working.{schedule_text}
use Rattle.perple_core.proofs.work.replayed.Goals as goal

pub returns : goal.returns
returns g c =
    schedule_text c.args.checked.now.test c.args.wanted.now.options c.args.schedule _ _ c.report.result
    (rw c.test.ensures.is at c.in_ok-logs.ensures) c.report.ensures
