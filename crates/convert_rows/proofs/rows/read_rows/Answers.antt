use Rattle.std.proofs.Common.{arith}
use Rattle.convert_rows.specs.Rows.{read_rows_at, rows_in_bodies}
use Rattle.convert_rows.proofs.Walks.{thread_more}
use Rattle.convert_rows.proofs.rows.read_rows.Goals as goal

pub loop-thread-preserved : goal.loop-thread-preserved
loop-thread-preserved c =
    thread_more (read_rows_at c.args.test.now) c.args.test.now c.loop-thread.thread c.loop-thread.rows.items
    c.add_reads.new.rows.items
    (rows_in_bodies (read_rows_at c.args.test.now) 0 c.args.test.now.bodies)
    (omega arith) c.in_ok-add_reads.ensures c.loop-thread.invariant
