use Rattle.litmus_outcomes.proofs.Possible.{hits_are_outcomes_lem}
use Rattle.litmus_outcomes.proofs.laws.hits_are_outcomes.Goals as goal

pub returns : goal.returns
returns c = hits_are_outcomes_lem
