use Rattle.tool_core.proofs.ColumnCounts.{columns_more, few_more}
use Rattle.tool_core.proofs.ordering.columns_in.Goals as goal

pub loop-t-preserved : goal.loop-t-preserved
loop-t-preserved c = record {
  columns =
      columns_more c.args.test.now c.loop-t.t c.columns.result c.loop-t.columns.items c.push.new.self.items
      c.in_ok-push.ensures.items c.columns.ensures
      c.loop-t.invariant.columns;
  few =
      few_more c.args.test.now c.loop-t.t c.columns.result c.loop-t.columns.items c.push.new.self.items
      c.threads-t-end.ensures.test c.in_ok-push.ensures.items
      c.columns.ensures c.loop-t.invariant.few;
}
