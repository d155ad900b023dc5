-- Frames of logs, and the count of frames by pieces. An exhaustive counter after PerpLE's (Melissaris, Markakis, Shaw
-- and Martonosi, MICRO 2020); the cut into pieces is this project's own.
use Rattle.std.specs.Prelude.{◌≡◌, ℕ, ◌<◌, ◌≤◌, ◌+◌, ◌-◌, ◌*◌, ◌/◌, ◌%◌, ◌^◌, ◌==◌, Bool, List, All, cond, count_by, length, slice_set}
use Rattle.std.specs.List.{range_with_len}
use Rattle.perp_base.specs.declared.limits.TheConstants.{MOST_FRAMES, MOST_ITERATIONS, MOST_PIECES}
use Rattle.load_log.specs.Values.{AreWhole, Values, log_at, value_at}
use Rattle.tso_machine.specs.Frame.{frame_of}
use Rattle.outcome_conv.specs.declared.cond.Cond.{Cond}
use Rattle.outcome_conv.specs.Conditions.{Conditions, IsKind}
use Rattle.outcome_conv.specs.Conds.{conds_hold}

-- logs that are whole for n iterations, and a frame of them
pub record IsFrameOf (logs : List Values) (n : ℕ) (frame : List ℕ) : Type 0 where
  pub whole : AreWhole n logs
  pub some : 1 ≤ length logs
  pub one_each : length frame ≡ length logs
  pub below : All (λ i. i < n) frame

-- a condition that names threads of the logs and a column of its reader's
pub record IsOfLogs (logs : List Values) (c : Cond) : Type 0 where
  pub reader : c.reader < length logs
  pub writer : c.writer < length logs
  pub column : c.column < (log_at logs c.reader).columns

-- and whose numbers are those of a location
pub record IsGood (logs : List Values) (c : Cond) : Type 0 where
  pub names : IsOfLogs logs c
  pub kind : IsKind c.kind

-- the frame with the last thread in iteration m
abbrev pub with_last : List ℕ → ℕ → List ℕ
with_last frame m = slice_set frame (length frame - 1) m

-- whether for some conjunction all conditions hold of the logs at a frame
abbrev pub frame_holds : Conditions → List Values → List ℕ → Bool
frame_holds c logs frame = conds_hold (value_at logs) c.ends c.conds frame

-- whether they do at the frame with this number
abbrev pub number_holds : Conditions → List Values → ℕ → ℕ → Bool
number_holds c logs n number = frame_holds c logs (frame_of n (length logs) number)

-- all frames are cut into so many pieces of neighbouring numbers and nearly the same size: the number of the first
-- frame of piece j
abbrev pub cut_at : ℕ → ℕ → ℕ → ℕ
cut_at all cut j = j * all / cut

-- at how many frames of piece j they do
abbrev pub piece_count : Conditions → List Values → ℕ → ℕ → ℕ → ℕ → ℕ
piece_count c logs n all cut j =
    count_by (number_holds c logs n) (range_with_len (cut_at all cut j) (cut_at all cut (j + 1) - cut_at all cut j))

-- the piece that is handed out as number j, from the front and from the back by turns
abbrev pub piece_by_turns : ℕ → ℕ → ℕ
piece_by_turns cut j = cond (j % 2 == 0) (j / 2) (cut - 1 - j / 2)

-- what the count of a piece needs
pub record CanCount (c : Conditions) (logs : List Values) (n all cut : ℕ) : Type 0 where
  pub iteration : 1 ≤ n
  pub iterations : n ≤ MOST_ITERATIONS
  pub thread : 1 ≤ length logs
  pub threads : length logs ≤ 8
  pub all_is : all ≡ n ^ length logs
  pub few : all ≤ MOST_FRAMES
  pub cut_some : 1 ≤ cut
  pub cut_few : cut ≤ MOST_PIECES
  pub whole : AreWhole n logs
  pub names : All (IsOfLogs logs) c.conds
