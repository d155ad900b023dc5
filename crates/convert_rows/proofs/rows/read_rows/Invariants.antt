use Rattle.std.proofs.Common.{◌≡◌, ◌++◌, drop}
use Rattle.convert_rows.specs.Rows.{read_rows_at, rows_in_bodies}
use Rattle.convert_rows.proofs.rows.read_rows.Given as goal

abbrev pub invariant-loop-thread : goal.invariant-loop-thread
invariant-loop-thread l =
    l.rows.items ++ rows_in_bodies (read_rows_at l.test) l.thread (drop l.thread l.test.bodies)
    ≡ rows_in_bodies (read_rows_at l.test) 0 l.test.bodies
