use Rattle.std.proofs.Common.{◌≡◌, ◌<◌, All, map, take}
use Rattle.report_text.specs.declared.conversion.AtomRow.{AtomRow}
use Rattle.convert_rows.specs.Rows.{atom_row}
use Rattle.convert_rows.proofs.rows.atom_rows.Given as goal

abbrev pub invariant-loop-i : goal.invariant-loop-i
invariant-loop-i l = record {
  is : l.rows.items ≡ map atom_row (take l.i l.conds.conds);
  steps : All (λ (row : AtomRow). 0 < row.k) l.rows.items;
}
