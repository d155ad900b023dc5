use Rattle.std.proofs.Common.{sym, ap, ◌∙◌, drop, slice_get}
use Rattle.store_buffer.specs.Contents.{Contents}
use Rattle.store_buffer.proofs.Window.{ring_drop}
use Rattle.store_buffer.proofs.buffer.Buffer.drain_one.Goals as goal

pub returns-clause-rest : goal.returns-clause-rest
returns-clause-rest c =
    let b = c.self.inside in
    let first = ap (λ (a : Contents). slice_get a.entries 0) c.self.view_is ∙ sym c.oldest.ensures
    ∙ c.in_ok-oldest.was in
    ap (λ entries. record { capacity = b.capacity; entries = entries })
    (ring_drop _ _ _ _ c.self.invariant c.in_ok-oldest.oldest first)
    ∙ ap (λ (a : Contents). record a { entries = drop 1 a.entries }) c.self.view_is
