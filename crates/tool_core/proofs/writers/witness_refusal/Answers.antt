use Rattle.std.proofs.Common.{refl}
use Rattle.tool_core.proofs.writers.witness_refusal.Goals as goal

pub returns-clause-writers : goal.returns-clause-writers
returns-clause-writers c = λ _. c.several_writers.ensures.none.0 (rw c.in_default.is refl)
