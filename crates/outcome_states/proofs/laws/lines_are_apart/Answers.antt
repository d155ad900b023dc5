use Rattle.outcome_states.proofs.Apart.{lines_are_apart_lem}
use Rattle.outcome_states.proofs.laws.lines_are_apart.Goals as goal

pub returns : goal.returns
returns c = lines_are_apart_lem
