use Rattle.std.proofs.Common.{subst}
use Rattle.perp_loop.specs.Crews.{Job as Crew}
use Rattle.program_edge.specs.Field.{HasReplayed}
use Rattle.program_edge.proofs.Runs.{has_replayed}
use Rattle.program_edge.proofs.running.replay_test.Goals as goal

pub returns : goal.returns
returns c =
    let logs = c.replay-traced.result.1.logs in
    let made = c.replay-traced.ensures.made in
    subst (λ (j : Crew). HasReplayed j.test j.options c.args.schedule logs) c.in_ok-crew.ensures
    (has_replayed _ _ c.args.schedule logs (made.0, made.1) (λ run is. (c.replay-traced.ensures.every run is).1)
    c.replay-traced.ensures.whole)
