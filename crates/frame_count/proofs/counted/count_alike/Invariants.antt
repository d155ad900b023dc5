use Rattle.std.proofs.Common.{◌≡◌, ℕ, ◌<◌, false, get_or}
use Rattle.frame_count.specs.declared.stretch.Stretch.{Stretch}
use Rattle.frame_count.proofs.counted.count_alike.Given as goal

abbrev pub invariant-loop-c : goal.invariant-loop-c
invariant-loop-c l =
    (j : ℕ) (d : Stretch) → j < l.c → (get_or l.before j d ≡ get_or l.now j d) × ((get_or l.before j d).row ≡ false)
