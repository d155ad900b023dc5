use Rattle.std.proofs.Common.{◌∙◌}
use Rattle.program_edge.proofs.Endings.{completes_of, due_of, ended_from, memory_of, too_long_of, usage_of}
use Rattle.perple_core.proofs.Endings.{ends_of, field_of, laws, whole_of, part_of, without_stops}
use Rattle.perple_core.proofs.Headlines.{reads_of, fits_of, texts_of}
use Rattle.perple_core.proofs.Demos.{demo_completes_of}
use Rattle.perple_core.proofs.Requests.{call_answers, call_leaves, call_refused}
use Rattle.perple_core.proofs.top.perple.Goals as goal

pub returns-clause-ended : goal.returns-clause-ended
returns-clause-ended g c =
    let is = c.read_request-request.ensures.request in
    let request = c.read_request-request.result in
    let done = c.answer_text-text.result.done in
    let answer = c.answer_text-text.result.text in
    ended_from answer _ (call_answers _ _ _ request is done answer c.answer_text-text.ensures.right)
    (call_refused _ _ _ request is done answer c.answer_text-text.ensures.refused)
    (call_leaves _ _ _ request is done answer c.answer_text-text.ensures.left)
    c.deliver-status.ensures.refused c.deliver-status.ensures.text

pub returns-clause-memory : goal.returns-clause-memory
returns-clause-memory g c = memory_of (laws _ _ _ _) _ (returns-clause-ended g c)

pub returns-clause-usage : goal.returns-clause-usage
returns-clause-usage g c = usage_of (laws _ _ _ _) _ (returns-clause-ended g c)

pub returns-clause-complete : goal.returns-clause-complete
returns-clause-complete g c =
    λ command text is told short none read still.
    without_stops (completes_of (laws _ _ _ _) _ (returns-clause-ended g c) command text (is, told) short none read still)

pub returns-clause-read : goal.returns-clause-read
returns-clause-read g c = ends_of (returns-clause-ended g c)

pub returns-clause-due : goal.returns-clause-due
returns-clause-due g c =
    λ command text refusal is told. due_of (laws _ _ _ _) _ (returns-clause-ended g c) command text refusal (is, told)

pub returns-clause-field : goal.returns-clause-field
returns-clause-field g c = field_of (returns-clause-ended g c)

pub returns-clause-whole : goal.returns-clause-whole
returns-clause-whole g c = whole_of (returns-clause-ended g c)

pub returns-clause-part : goal.returns-clause-part
returns-clause-part g c = part_of (returns-clause-ended g c)

pub returns-clause-too_long : goal.returns-clause-too_long
returns-clause-too_long g c = too_long_of (laws _ _ _ _) _ (returns-clause-ended g c)

pub returns-clause-reads : goal.returns-clause-reads
returns-clause-reads g c = reads_of (returns-clause-ended g c)

pub returns-clause-fits : goal.returns-clause-fits
returns-clause-fits g c = fits_of (returns-clause-ended g c)

pub returns-clause-text : goal.returns-clause-text
returns-clause-text g c = texts_of (returns-clause-ended g c)

pub returns-clause-demo_complete : goal.returns-clause-demo_complete
returns-clause-demo_complete g c = demo_completes_of _ _ _ _ _ _ _ _ (returns-clause-ended g c)

pub returns-clause-line : goal.returns-clause-line
returns-clause-line g c = rw (c.bytes.ensures.value ∙ c.refusal_text.ensures) at c.put_line.ensures
