use Rattle.once.proofs.Conjoined.{no_cycle_is_shown_once_lem}
use Rattle.once.proofs.laws.no_cycle_is_shown_once.Goals as goal

pub returns : goal.returns
returns c = no_cycle_is_shown_once_lem
