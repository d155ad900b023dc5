use Rattle.once.proofs.Sourced.{sources_are_decided_lem}
use Rattle.once.proofs.laws.sources_are_decided.Goals as goal

pub returns : goal.returns
returns c = sources_are_decided_lem
