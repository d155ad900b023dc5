use Rattle.program_edge.proofs.Requests.{complete_from, due_from}
use Rattle.tool_core.specs.Due.{tool_program}
use Rattle.tool_core.proofs.Dues.{one_due}
use Rattle.tool_core.proofs.Requests.{fits_from, none_due_from, still_from, usage_from}
use Rattle.tool_core.proofs.answer.answer_text.Goals as goal

pub returns-clause-fits : goal.returns-clause-fits
returns-clause-fits g c = fits_from _ _ c.answer_request.result.text c.answer_request.ensures.right

pub returns-clause-usage : goal.returns-clause-usage
returns-clause-usage g c =
    usage_from _ _ c.answer_request.result.text c.answer_request.ensures.right c.answer_request.ensures.refused

pub returns-clause-due : goal.returns-clause-due
returns-clause-due g c =
    due_from tool_program one_due _ c.answer_request.result.text
    (none_due_from _ _ c.answer_request.result.text c.answer_request.ensures.right) c.answer_request.ensures.refused

pub returns-clause-complete : goal.returns-clause-complete
returns-clause-complete g c =
    complete_from tool_program one_due _ c.answer_request.result.text c.answer_request.ensures.refused

pub returns-clause-still : goal.returns-clause-still
returns-clause-still g c =
    still_from _ _ c.answer_request.result.text c.answer_request.ensures.right c.answer_request.ensures.left
