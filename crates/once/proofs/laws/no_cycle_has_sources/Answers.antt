use Rattle.once.proofs.Sourced.{no_cycle_has_sources_lem}
use Rattle.once.proofs.laws.no_cycle_has_sources.Goals as goal

pub returns : goal.returns
returns c = no_cycle_has_sources_lem
