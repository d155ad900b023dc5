use Rattle.std.proofs.lemmas.Result.{err_from_is_err_and}
use Rattle.litmus_reader.specs.Draft.{draft_of}
use Rattle.litmus_reader.proofs.FitLaws.{sections_fit}
use Rattle.litmus_reader.proofs.WholeLaws.{answered_err, answered_made}
use Rattle.litmus_reader.proofs.reader.tested.Goals as goal

pub returns-in_err-draft : goal.returns-in_err-draft
returns-in_err-draft c =
    let p = err_from_is_err_and c.from_residual.result c.from_residual.ensures.1 in
    rw (p.1, p.2) (answered_err c.args.bytes.now c.in_err-draft.field-0.0 c.in_err-draft.ensures)

pub test_of-requires : goal.test_of-requires
test_of-requires c = sections_fit c.args.bytes.now (draft_of c.args.bytes.now c.in_ok-draft.draft) c.in_ok-draft.ensures

pub returns : goal.returns
returns c =
    answered_made c.args.bytes.now (draft_of c.args.bytes.now c.in_ok-draft.draft) c.in_ok-draft.ensures
    c.test_of.result c.test_of.ensures
