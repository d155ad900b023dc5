use Rattle.std.proofs.Common.{◌≡◌, drop}
use Rattle.load_log.specs.Values.{value_at}
use Rattle.frame_count.specs.Count.{IsFrameOf}
use Rattle.heuristic.specs.Steps.{frame_along}
use Rattle.heuristic.proofs.picking.along.Given as goal

abbrev pub invariant-loop-cond : goal.invariant-loop-cond
invariant-loop-cond l = record {
  frame : IsFrameOf l.logs.logs l.n l.frame;
  rest : frame_along (value_at l.logs.logs) l.n (drop l.cond-index l.order) l.frame
      ≡ frame_along (value_at l.logs.logs) l.n l.order l.initial.frame;
}
