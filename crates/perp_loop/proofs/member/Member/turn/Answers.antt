use Rattle.std.proofs.Common.{◌∙◌, subst}
use Rattle.perp_loop.specs.Crews.{Enrolled}
use Rattle.perp_loop.specs.Replaying.{SteppedOn}
use Rattle.perp_loop.proofs.Stepping.{stepped_on}
use Rattle.perp_loop.proofs.member.Member.turn.Goals as goal

pub returns-clause-stepped : goal.returns-clause-stepped
returns-clause-stepped c =
    let port = c.port-port.ensures in
    subst (λ (p : Enrolled). SteppedOn c.step-went.result p.walker c.args.traced c.step-went.new.self c.traced.result)
    c.self.view_is
    (stepped_on c.step-went.result c.self.inside.walker c.step-went.new.self c.port-port.result c.step-went.new.port
    c.args.traced c.traced.result
    c.step-went.ensures (port.0 ∙ c.thread.ensures) port.1 c.traced.ensures.same)
