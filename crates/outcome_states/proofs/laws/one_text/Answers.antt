use Rattle.outcome_states.proofs.Listed.{one_text_lem}
use Rattle.outcome_states.proofs.laws.one_text.Goals as goal

pub returns : goal.returns
returns c = one_text_lem
