use Rattle.std.proofs.Common.{◌≡◌, length, ap, ◌∙◌, unwrap_or, arith}
use Rattle.x86_subset.specs.Test.{column_of}
use Rattle.seq_conv.proofs.Numbering.{body_short}
use Rattle.profile_check.proofs.Reading.{read_here}
use Rattle.profile_check.proofs.atoms.reader_of.Goals as goal

pub overflow_cast-result : goal.overflow_cast-result
overflow_cast-result c =
    let r = read_here c.args.test.now c.args.atom.thread c.args.atom.reg c.args.place c.requires.test c.requires.place
    in
    let is : c.unwrap_or-column.result ≡ column_of c.args.test.now c.args.atom.thread c.args.place =
    c.unwrap_or-column.ensures ∙ ap (λ o. unwrap_or o 0) (c.column.ensures ∙ r.column) in
    record { fits = omega (arith, is, r.column_small) }

pub offset_bounds-body-place : goal.offset_bounds-body-place
offset_bounds-body-place c =
    let r = read_here c.args.test.now c.args.atom.thread c.args.atom.reg c.args.place c.requires.test c.requires.place
    in
    record { fits = omega (arith, r.within, body_short c.args.test.now c.args.atom.thread c.requires.test) }

pub bounds-body-place : goal.bounds-body-place
bounds-body-place c =
    let r = read_here c.args.test.now c.args.atom.thread c.args.atom.reg c.args.place c.requires.test c.requires.place
    in
    omega (arith, r.within, ap length c.body.ensures)
