use Rattle.outcome_conv.proofs.Named.{conditions_name_the_test_lem}
use Rattle.outcome_conv.proofs.laws.conditions_name_the_test.Goals as goal

pub returns : goal.returns
returns c = conditions_name_the_test_lem
