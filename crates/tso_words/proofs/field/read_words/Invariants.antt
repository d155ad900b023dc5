use Rattle.std.proofs.Common.{◌≡◌, ℕ, ◌<◌, get_or, length}
use Rattle.std.specs.Slots.{slots_items}
use Rattle.tso_words.specs.History.{word_count}
use Rattle.tso_words.proofs.field.read_words.Given as goal

abbrev pub invariant-loop-i : goal.invariant-loop-i
invariant-loop-i l =
    (length l.words ≡ word_count) × ((k : ℕ) → k < l.i → get_or l.words k 0 ≡ get_or (slots_items l.closed.words) k 0)
