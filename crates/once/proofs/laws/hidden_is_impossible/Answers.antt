use Rattle.once.proofs.Classical.{hidden_is_impossible_lem}
use Rattle.once.proofs.laws.hidden_is_impossible.Goals as goal

pub returns : goal.returns
returns c = hidden_is_impossible_lem
