use Rattle.run_orders.proofs.Logged.{logs_or_cycle_lem}
use Rattle.run_orders.proofs.laws.logs_or_cycle.Goals as goal

pub returns : goal.returns
returns c = logs_or_cycle_lem
