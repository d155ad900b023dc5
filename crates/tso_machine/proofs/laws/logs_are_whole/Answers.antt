use Rattle.tso_machine.proofs.ReadEvents.{logs_are_whole_lem}
use Rattle.tso_machine.proofs.laws.logs_are_whole.Goals as goal

pub returns : goal.returns
returns c = logs_are_whole_lem
