use Rattle.std.proofs.Common.{arith, map}
use Rattle.row_decision.specs.Seen.{seen}
use Rattle.row_decision.proofs.Adding.{edges_are, rows_more}
use Rattle.row_decision.proofs.graph.edges_of.Goals as goal

pub loop-first-preserved : goal.loop-first-preserved
loop-first-preserved c = (
  c.in_ok-add_edges.ensures.sound c.loop-first.invariant.0,
  rows_more c.args.test.now (map seen c.args.readings.now) c.loop-first.first c.loop-first.edges.items
      c.add_edges.new.edges.items c.loop-first.invariant.1 c.in_ok-add_edges.ensures.kept
      c.in_ok-add_edges.ensures.complete,
)

pub returns : goal.returns
returns c =
    let t = c.loop-first-test.false in
    edges_are c.args.test.now (map seen c.args.readings.now) c.loop-first.edges.items c.threads-threads.ensures.test
    c.loop-first.invariant.0 (λ a b l m h. c.loop-first.invariant.1 a b (omega arith) m h)
