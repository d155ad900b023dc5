use Rattle.tso_machine.proofs.Rising.{values_rise_lem}
use Rattle.tso_machine.proofs.laws.values_rise.Goals as goal

pub returns : goal.returns
returns c = values_rise_lem
