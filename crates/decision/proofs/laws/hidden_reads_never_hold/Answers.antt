use Rattle.decision.proofs.HiddenReads.{hidden_reads_never_hold_lem}
use Rattle.decision.proofs.laws.hidden_reads_never_hold.Goals as goal

pub returns : goal.returns
returns c = hidden_reads_never_hold_lem
