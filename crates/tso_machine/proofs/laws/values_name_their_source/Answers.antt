use Rattle.tso_machine.proofs.Sources.{values_name_their_source_lem}
use Rattle.tso_machine.proofs.laws.values_name_their_source.Goals as goal

pub returns : goal.returns
returns c = values_name_their_source_lem
