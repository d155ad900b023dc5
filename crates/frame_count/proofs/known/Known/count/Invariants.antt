use Rattle.std.proofs.Common.{◌*◌, slice_index}
use Rattle.frame_count.specs.Row.{kind_test}
use Rattle.frame_count.proofs.Counts.{IsCountedTo}
use Rattle.frame_count.proofs.known.Known.count.Given as goal

abbrev pub invariant-loop-j : goal.invariant-loop-j
invariant-loop-j l =
    IsCountedTo (λ m. kind_test l.self.cond.kind (slice_index l.values m) l.bound) (64 * l.from) (64 * l.j) l.total
