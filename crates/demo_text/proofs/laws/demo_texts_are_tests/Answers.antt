use Rattle.demo_text.proofs.Whole.{reads_as_test}
use Rattle.demo_text.proofs.laws.demo_texts_are_tests.Goals as goal

pub returns : goal.returns
returns c = reads_as_test
