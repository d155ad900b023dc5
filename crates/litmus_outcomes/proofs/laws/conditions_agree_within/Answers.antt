use Rattle.litmus_outcomes.proofs.Counted.{conditions_agree_within_lem}
use Rattle.litmus_outcomes.proofs.laws.conditions_agree_within.Goals as goal

pub returns : goal.returns
returns c = conditions_agree_within_lem
