use Rattle.std.proofs.Common.{arith}
use Rattle.convert_rows.specs.Rows.{rows_in_bodies, store_rows_at}
use Rattle.convert_rows.proofs.Walks.{thread_more}
use Rattle.convert_rows.proofs.rows.store_rows.Goals as goal

pub loop-thread-preserved : goal.loop-thread-preserved
loop-thread-preserved c =
    thread_more (store_rows_at c.args.test.now) c.args.test.now c.loop-thread.thread c.loop-thread.rows.items
    c.add_stores.new.rows.items
    (rows_in_bodies (store_rows_at c.args.test.now) 0 c.args.test.now.bodies)
    (omega arith) c.in_ok-add_stores.ensures c.loop-thread.invariant
