use Rattle.std.proofs.Common.{◌≡◌, ◌++◌, drop}
use Rattle.convert_rows.specs.Rows.{read_rows_at, rows_in_body}
use Rattle.convert_rows.proofs.rows.add_reads.Given as goal

abbrev pub invariant-loop-place : goal.invariant-loop-place
invariant-loop-place l =
    l.rows.items ++ rows_in_body (read_rows_at l.test) l.thread l.place (drop l.place l.body) ≡ l.fn.rows.items
    ++ rows_in_body (read_rows_at l.test) l.thread 0 l.body
