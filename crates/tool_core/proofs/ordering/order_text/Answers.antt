use Rattle.tool_core.proofs.OrderFound.{order_found}
use Rattle.tool_core.proofs.ordering.order_text.Goals as goal

pub returns : goal.returns
returns c =
    order_found c.args.test.now c.args.n c.args.logs.now.logs c.in_ok-found.found c.found_text.result
    c.in_ok-found.ensures c.found_text.ensures
