use Rattle.std.proofs.Common.{◌∙◌}
use Rattle.row_decision.proofs.Adding.{asked_is}
use Rattle.row_decision.proofs.edges.is_asked.Goals as goal

pub returns : goal.returns
returns c = c.some_asks.ensures ∙ asked_is c.args.test.now c.args.a c.args.b c.args.readings.now
