use Rattle.std.proofs.Common.{◌∙◌}
use Rattle.run_text.specs.Sections.{seen}
use Rattle.tool_core.proofs.SectionLogs.{section_logs_are}
use Rattle.tool_core.proofs.ordering.order_section.Goals as goal

pub order_text-requires-clause-logs : goal.order_text-requires-clause-logs
order_text-requires-clause-logs c =
    section_logs_are c.args.test.now (seen c.args.section.now) _
    (rw (c.deref.ensures.value ∙ c.in_ok-columns.ensures.columns) at c.in-Ok.ensures)
