use Rattle.std.proofs.Common.{length, take, ap, arith}
use Rattle.std.proofs.lemmas.List.{length-take}
use Rattle.std.proofs.lemmas.Result.{err_from_is_err_and}
use Rattle.x86_subset.specs.Token.{start}
use Rattle.x86_subset.proofs.Places.{line_le, spot_is}
use Rattle.x86_subset.proofs.SpellingLaws.{tokens_few}
use Rattle.litmus_reader.proofs.WholeLaws.{head_refused, sections_answer}
use Rattle.litmus_reader.proofs.reader.read.Goals as goal

pub head-requires-clause-line : goal.head-requires-clause-line
head-requires-clause-line c =
    omega (
      arith,
      c.line_behind-line.ensures,
      line_le start (take c.in_ok-name.from c.args.bytes.now),
      length-take c.in_ok-name.from c.args.bytes.now,
    )

pub head-requires-clause-spot : goal.head-requires-clause-spot
head-requires-clause-spot c =
    spot_is c.args.bytes.now c.in_ok-name.from c.line_behind-line.result c.in_ok-name.ensures.within
    c.line_behind-line.ensures

pub returns-in_err-from : goal.returns-in_err-from
returns-in_err-from c =
    let p = err_from_is_err_and c.from_residual-in_err-from.result c.from_residual-in_err-from.ensures.1 in
    let k = spot_is c.args.bytes.now c.in_ok-name.from c.line_behind-line.result c.in_ok-name.ensures.within
    c.line_behind-line.ensures in
    rw (p.1, p.2) (head_refused c.args.bytes.now _ c.in_ok-name.from c.line_behind-line.result c.in_ok-name.ensures.is k
    c.in_err-from.field-0.0 (rw c.last_line-last.ensures at c.in_err-from.ensures.is))

pub sections-requires : goal.sections-requires
sections-requires c =
    rw c.deref.ensures.value (omega (
      arith,
      ap length c.in_ok-tokens.ensures,
      tokens_few c.args.bytes.now c.in_ok-from.from,
      c.in_ok-from.ensures.some,
      c.requires,
    ))

pub returns : goal.returns
returns c =
    let k = spot_is c.args.bytes.now c.in_ok-name.from c.line_behind-line.result c.in_ok-name.ensures.within
    c.line_behind-line.ensures in
    let a = rw (c.last_line-last.ensures, c.deref.ensures.value, c.in_ok-tokens.ensures) at c.sections.ensures in
    sections_answer c.args.bytes.now c.in_ok-name.name c.in_ok-name.from c.line_behind-line.result
    c.in_ok-name.ensures.is k c.in_ok-from.from c.in_ok-from.field-0-1
    (rw c.last_line-last.ensures at c.in_ok-from.ensures.is) c.in_ok-from.ensures.spot c.in_ok-from.ensures.within
    c.sections.result a
