use Rattle.once.proofs.Sourced.{hidden_sources_are_not_read_lem}
use Rattle.once.proofs.laws.hidden_sources_are_not_read.Goals as goal

pub returns : goal.returns
returns c = hidden_sources_are_not_read_lem
