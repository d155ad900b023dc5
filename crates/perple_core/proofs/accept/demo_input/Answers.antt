use Rattle.std.proofs.Common.{arith}
use Rattle.perple_core.proofs.Demos.{demo_is_short}
use Rattle.perple_core.proofs.accept.demo_input.Goals as goal

pub returns-clause-short : goal.returns-clause-short
returns-clause-short c = demo_is_short c.args.k c.demo_text.result (omega arith) c.demo_text.ensures.text
