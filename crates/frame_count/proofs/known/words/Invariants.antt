use Rattle.std.proofs.Common.{◌≡◌, ℕ, ◌*◌, ◌<◌, get_or, length}
use Rattle.load_log.specs.Values.{value_at}
use Rattle.frame_count.specs.Known.{Knows}
use Rattle.frame_count.specs.declared.known.Word.{Word}
use Rattle.frame_count.proofs.known.words.Given as goal

abbrev pub invariant-loop-j : goal.invariant-loop-j
invariant-loop-j l =
    (length l.words ≡ 1562)
    × ((j : ℕ) (d : Word) → j < l.j → Knows l.cond.kind (value_at l.logs.logs l.cond.reader l.cond.column) (64 * j)
    (get_or l.words j d))
