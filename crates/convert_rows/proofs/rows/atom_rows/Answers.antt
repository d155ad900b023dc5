use Rattle.std.proofs.Common.{◌<◌, All, sym, subst}
use Rattle.std.proofs.lemmas.List.Elements.{All-push}
use Rattle.report_text.specs.declared.conversion.AtomRow.{AtomRow}
use Rattle.convert_rows.specs.Rows.{atom_row}
use Rattle.convert_rows.proofs.Walks.{map_more}
use Rattle.convert_rows.proofs.rows.atom_rows.Goals as goal

pub loop-i-preserved : goal.loop-i-preserved
loop-i-preserved c = record {
  is =
      map_more atom_row c.args.conds.now.conds c.loop-i.i c.at.result c.loop-i.rows.items c.push.new.self.items
      c.atom_row.result
      c.at.ensures.value c.in_ok-push.ensures.items c.atom_row.ensures.is c.loop-i.invariant.is;
  steps = subst (All (λ (row : AtomRow). 0 < row.k)) (sym c.in_ok-push.ensures.items)
      (All-push (λ (row : AtomRow). 0 < row.k) c.loop-i.rows.items c.atom_row.result c.loop-i.invariant.steps
      c.atom_row.ensures.step);
}
