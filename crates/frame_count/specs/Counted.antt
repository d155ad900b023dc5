-- What a counted row says of other rows (this project's own).
use Rattle.std.specs.Prelude.{◌≡◌, ℕ, ◌-◌, ◌<◌, ◌≤◌, List, count_by, false, length, slice_index_or}
use Rattle.std.specs.List.{range_with_len}
use Rattle.x86_subset.specs.Conjunctions.{conjunction_of}
use Rattle.load_log.specs.Values.{Values}
use Rattle.outcome_conv.specs.Conditions.{Conditions}
use Rattle.frame_count.specs.Count.{IsFrameOf, frame_holds, with_last}
use Rattle.frame_count.specs.Row.{Leaves}
use Rattle.frame_count.specs.declared.counted.Counted.{Counted}
use Rattle.frame_count.specs.declared.stretch.Stretch.{Stretch}

-- the stretches leave a row to the conditions up to n, and to no test that changes from row to row
abbrev pub LeaveSteady : Conditions → List Values → ℕ → List Stretch → List ℕ → Type 0
LeaveSteady c logs n stretches frame =
    (j : ℕ) (d : Stretch) → j < length c.ends → Leaves n logs frame (conjunction_of c.ends c.conds j)
    (slice_index_or stretches j d) × ((slice_index_or stretches j d).row ≡ false)

-- each row that these stretches leave so has as many hits between the bounds
abbrev pub Counts : Conditions → List Values → Counted → Type 0
Counts c logs row =
    (n : ℕ) (frame : List ℕ)
    → row.to ≤ n
    → IsFrameOf logs n frame
    → LeaveSteady c logs row.to row.stretches frame
    → row.hits ≡ count_by (λ m. frame_holds c logs (with_last frame m)) (range_with_len row.from (row.to - row.from))
