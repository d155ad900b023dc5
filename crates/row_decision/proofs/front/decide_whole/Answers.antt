use Rattle.std.proofs.Common.{◌+◌, ◌-◌, arith, map}
use Rattle.row_decision.specs.Seen.{seen}
use Rattle.row_decision.proofs.front.decide_whole.Goals as goal

pub returns-clause-front : goal.returns-clause-front
returns-clause-front c =
    let low = c.requires.steps in
    let ne = c.if-steps-most.false in
    c.front_of.ensures c.args.test.now (map seen c.args.readings.now) (c.args.most - (c.args.steps.now + 1))
    c.in_ok-decision.decision.steps c.args.most (c.args.steps.now + 1 + c.in_ok-decision.decision.steps)
    (λ e. omega arith) c.in_ok-decision.ensures.answer
