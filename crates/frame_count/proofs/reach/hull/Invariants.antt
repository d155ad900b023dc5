use Rattle.std.proofs.Common.{◌≡◌, ℕ, ◌<◌, get_or, true}
use Rattle.frame_count.specs.Row.{is_within}
use Rattle.frame_count.specs.declared.stretch.Stretch.{Stretch}
use Rattle.frame_count.proofs.reach.hull.Given as goal

abbrev pub invariant-loop-stretch : goal.invariant-loop-stretch
invariant-loop-stretch l =
    (j m : ℕ) (d : Stretch) → j < l.stretch-index → is_within (get_or l.stretches j d) m ≡ true
    → is_within l.hull m ≡ true
