use Rattle.std.proofs.Common.{length}
use Rattle.outcome_states.proofs.Listed.{first_hold, front_told}
use Rattle.outcome_states.proofs.states.tell_front.Goals as goal

pub decide_front-requires-clause-registers : goal.decide_front-requires-clause-registers
decide_front-requires-clause-registers c =
    first_hold c.args.test.now c.args.registers.now (length c.args.row.now) c.min.result c.min.ensures c.requires.reads

pub returns : goal.returns
returns c =
    front_told c.args.test.now c.args.registers.now c.args.row.now c.min.result c.in_ok-answer.answer c.told.result
    c.min.ensures c.in_ok-answer.ensures c.told.ensures
