use Rattle.outcome_states.proofs.Listed.{texts_are_not_refused_lem}
use Rattle.outcome_states.proofs.laws.texts_are_not_refused.Goals as goal

pub returns : goal.returns
returns c = texts_are_not_refused_lem
