use Rattle.std.proofs.Common.{refl}
use Rattle.report_text.specs.declared.conversion.ReadRow.{ReadRow}
use Rattle.report_text.specs.declared.conversion.StoreRow.{StoreRow}
use Rattle.convert_rows.specs.Rows.{location_taken, location_written, read_row, store_row}
use Rattle.convert_rows.proofs.Walks.{ascii_rows}
use Rattle.convert_rows.proofs.rows.conversion.Goals as goal

pub returns-clause-stores : goal.returns-clause-stores
returns-clause-stores c =
    ascii_rows (λ (row : StoreRow). row.loc) store_row location_written c.in_ok-stores.stores.items
    c.test-test.result.now c.args.checked.now.test (λ s x. refl) c.in_ok-stores.ensures c.test-test.ensures.is
    c.requires.locations

pub returns-clause-reads : goal.returns-clause-reads
returns-clause-reads c =
    ascii_rows (λ (row : ReadRow). row.loc) read_row location_taken c.in_ok-reads.reads.items c.test-test.result.now
    c.args.checked.now.test (λ s x. refl) c.in_ok-reads.ensures c.test-test.ensures.is c.requires.locations
