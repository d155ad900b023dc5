use Rattle.litmus_outcomes.proofs.Possible.{once_is_the_test_lem}
use Rattle.litmus_outcomes.proofs.laws.once_is_the_test.Goals as goal

pub returns : goal.returns
returns c = once_is_the_test_lem
