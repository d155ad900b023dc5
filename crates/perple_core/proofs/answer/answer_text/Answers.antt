use Rattle.program_edge.proofs.Requests.{complete_from, due_from}
use Rattle.perple_core.specs.Due.{perple_program}
use Rattle.perple_core.proofs.Answering.{answer_fits, answer_reads, answer_tells, answered_none_due, moves_in_runs}
use Rattle.perple_core.proofs.Endings.{one_due}
use Rattle.perple_core.proofs.answer.answer_text.Goals as goal

pub returns-clause-reads : goal.returns-clause-reads
returns-clause-reads g c =
    answer_reads c.args.request.now c.answer_request.result.done c.answer_request.result.text c.answer_request.ensures.right

pub returns-clause-fits : goal.returns-clause-fits
returns-clause-fits g c =
    answer_fits c.args.request.now c.answer_request.result.done c.answer_request.result.text c.answer_request.ensures.right

pub returns-clause-tells : goal.returns-clause-tells
returns-clause-tells g c =
    answer_tells c.args.request.now c.answer_request.result.done c.answer_request.result.text c.answer_request.ensures.right

pub returns-clause-due : goal.returns-clause-due
returns-clause-due g c =
    due_from perple_program one_due c.args.request.now c.answer_request.result.text
    (answered_none_due c.args.request.now c.answer_request.result.done c.answer_request.result.text c.answer_request.ensures.right)
    c.answer_request.ensures.refused

pub returns-clause-complete : goal.returns-clause-complete
returns-clause-complete g c =
    complete_from perple_program one_due c.args.request.now c.answer_request.result.text c.answer_request.ensures.refused

pub returns-clause-still : goal.returns-clause-still
returns-clause-still g c =
    moves_in_runs c.args.request.now c.answer_request.result.done c.answer_request.result.text c.answer_request.ensures.right
    c.answer_request.ensures.left
