use Rattle.std.proofs.Common.{◌≡◌, string_bytes, take}
use Rattle.std.specs.List.{flat_map}
use Rattle.skew.specs.Line.{line_of}
use Rattle.tool_core.proofs.skews.rows_text.Given as goal

abbrev pub invariant-loop-row : goal.invariant-loop-row
invariant-loop-row l = string_bytes l.out ≡ flat_map line_of (take l.row-index l.rows)
