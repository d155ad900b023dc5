use Rattle.std.proofs.Common.{sym, ap, ◌∙◌, length}
use Rattle.store_buffer.specs.Contents.{Contents}
use Rattle.store_buffer.proofs.Window.{ring_length}
use Rattle.store_buffer.proofs.buffer.Buffer.len.Goals as goal

pub returns-clause-value : goal.returns-clause-value
returns-clause-value c =
    sym (ring_length _ _ _ _ c.self.invariant) ∙ ap (λ (b : Contents). length b.entries) c.self.view_is
