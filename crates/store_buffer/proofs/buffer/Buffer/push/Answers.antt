use Rattle.std.proofs.Common.{ap, ◌∙◌, arith, ◌+◌, ◌%◌, [], ◌∷◌, ◌++◌, set, length, length-set}
use Rattle.arrayvec.proofs.ArrayVecLemmas.{items-with_items}
use Rattle.store_buffer.specs.Contents.{Contents}
use Rattle.store_buffer.specs.Ring.{window}
use Rattle.store_buffer.proofs.Window.{ring_push}
use Rattle.store_buffer.proofs.buffer.Buffer.push.Goals as goal

pub returns-then-self-clause-ok : goal.returns-then-self-clause-ok
returns-then-self-clause-ok c =
    let b = c.self.inside in
    let place = (b.oldest + b.len) % 16 in
    let shown = c.as_mut_slice.ensures.value in
    let written = set c.as_mut_slice.result.now place c.args.entry in
    let slots = items-with_items b.slots written (length-set _ place c.args.entry ∙ ap length shown)
    ∙ ap (λ xs. set xs place c.args.entry) shown in
    ap (λ xs. record { capacity = b.capacity; entries = window b.oldest (b.len + 1) xs }) slots
    ∙ ap (λ entries. record { capacity = b.capacity; entries = entries })
    (ring_push _ _ _ _ c.self.invariant c.args.entry (omega arith))
    ∙ ap (λ (a : Contents). record a { entries = a.entries ++ c.args.entry ∷ [] }) c.self.view_is
