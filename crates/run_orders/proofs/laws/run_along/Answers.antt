use Rattle.run_orders.proofs.Making.{run_along_lem}
use Rattle.run_orders.proofs.laws.run_along.Goals as goal

pub returns : goal.returns
returns c = run_along_lem
