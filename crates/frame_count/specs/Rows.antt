-- What the count of a row needs: its stretches leave it to the conditions of each conjunction (this project's own).
use Rattle.std.specs.Prelude.{◌≡◌, ℕ, ◌^◌, ◌<◌, ◌≤◌, All, Bool, List, false, true, length, slice_index_or}
use Rattle.std.specs.List.{list_all}
use Rattle.x86_subset.specs.Conjunctions.{conjunction_of}
use Rattle.load_log.specs.Values.{Values}
use Rattle.outcome_conv.specs.Conditions.{Conditions}
use Rattle.frame_count.specs.Count.{IsFrameOf, IsOfLogs, frame_holds, with_last}
use Rattle.frame_count.specs.Row.{Leaves, holds_along}
use Rattle.frame_count.specs.declared.row.Row.{Row}
use Rattle.frame_count.specs.declared.stretch.Stretch.{Stretch}

-- the stretches leave the row of a frame to the conditions of each conjunction below n
abbrev pub LeaveEach : Conditions → List Values → ℕ → List Stretch → List ℕ → Type 0
LeaveEach c logs n stretches frame =
    (j : ℕ) (d : Stretch) → j < length c.ends → Leaves n logs frame (conjunction_of c.ends c.conds j)
    (slice_index_or stretches j d)

-- below n each conjunction that is not left fails in the row of a frame
abbrev pub OthersFail : Conditions → List Values → ℕ → List ℕ → List Bool → Type 0
OthersFail c logs n frame left =
    (j m : ℕ) → j < length c.ends → slice_index_or left j true ≡ false → m < n
    → list_all (holds_along logs frame m) (conjunction_of c.ends c.conds j) ≡ false

-- a row of a frame of the logs, up to and without this iteration of the last thread
pub record IsRow (r : Row) (to : ℕ) : Type 0 where
  pub frame : (n : ℕ) × (to ≤ n) × IsFrameOf r.logs.now.logs n r.frame.now
  pub few : to ≤ 2 ^ 32
  pub names : All (IsOfLogs r.logs.now.logs) r.conds.now.conds
  pub each : length r.conds.now.ends ≤ length r.stretches.now
  pub leaves : LeaveEach r.conds.now r.logs.now.logs to r.stretches.now r.frame.now

-- whether the conditions of some conjunction hold where the last thread is in iteration m
abbrev pub row_holds : Row → ℕ → Bool
row_holds r m = frame_holds r.conds.now r.logs.now.logs (with_last r.frame.now m)
