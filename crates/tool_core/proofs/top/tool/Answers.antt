use Rattle.std.proofs.Common.{◌∙◌}
use Rattle.program_edge.proofs.Endings.{completes_of, due_of, ended_from, memory_of, too_long_of, usage_of, usage_only}
use Rattle.tool_core.proofs.Endings.{ends_of, field_of, fits_of, laws, part_of, suits_of, whole_of}
use Rattle.tool_core.proofs.Requests.{answers_from, leaves_from, refused_from}
use Rattle.tool_core.proofs.top.tool.Goals as goal

pub returns-clause-ended : goal.returns-clause-ended
returns-clause-ended g c =
    let is = c.read_request-request.ensures.request in
    let answer = c.answer_text-text.result.text in
    ended_from answer _ (answers_from _ _ _ _ is _ answer c.answer_text-text.ensures.right)
    (refused_from _ _ _ _ is answer c.answer_text-text.ensures.refused)
    (leaves_from _ _ _ _ is _ answer c.answer_text-text.ensures.left)
    c.deliver-status.ensures.refused c.deliver-status.ensures.text

pub returns-clause-usage : goal.returns-clause-usage
returns-clause-usage g c = usage_of (laws _ _ _ _) _ (returns-clause-ended g c)

pub returns-clause-complete : goal.returns-clause-complete
returns-clause-complete g c =
    λ command input told short none read.
    completes_of (laws _ _ _ _) _ (returns-clause-ended g c) command input told (λ _. short) none (λ _. read)

pub returns-clause-read : goal.returns-clause-read
returns-clause-read g c = ends_of (returns-clause-ended g c)

pub returns-clause-kept : goal.returns-clause-kept
returns-clause-kept g c = λ e. (usage_only (laws _ _ _ _) _ (returns-clause-ended g c) e).1

pub returns-clause-due : goal.returns-clause-due
returns-clause-due g c =
    λ command input refusal told short.
    due_of (laws _ _ _ _) _ (returns-clause-ended g c) command input refusal told (λ _. short)

pub returns-clause-too_long : goal.returns-clause-too_long
returns-clause-too_long g c =
    λ command input told.
    too_long_of (laws _ _ _ _) _ (returns-clause-ended g c) command input told.command_is tt told.told

pub returns-clause-suits : goal.returns-clause-suits
returns-clause-suits g c = suits_of (returns-clause-ended g c)

pub returns-clause-field : goal.returns-clause-field
returns-clause-field g c = field_of (returns-clause-ended g c)

pub returns-clause-memory : goal.returns-clause-memory
returns-clause-memory g c = memory_of (laws _ _ _ _) _ (returns-clause-ended g c)

pub returns-clause-whole : goal.returns-clause-whole
returns-clause-whole g c = whole_of (returns-clause-ended g c)

pub returns-clause-part : goal.returns-clause-part
returns-clause-part g c = part_of (returns-clause-ended g c)

pub returns-clause-fits : goal.returns-clause-fits
returns-clause-fits g c = fits_of (returns-clause-ended g c)

pub returns-clause-line : goal.returns-clause-line
returns-clause-line g c = rw (c.bytes.ensures.value ∙ c.line.ensures) at c.put_line.ensures
