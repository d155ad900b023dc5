-- Blocks of frames: those with the same iterations of the first p threads are neighbours in the order of their numbers
-- (this project's own).
use Rattle.std.specs.Prelude.{◌≡◌, ℕ, ◌+◌, ◌-◌, ◌^◌, ◌<◌, ◌≤◌, ◌&&◌, ◌||◌, Bool, true, not, List, ◌++◌, All, count_by, length, nat_lt, slice_index, slice_index_or, slice_set, take}
use Rattle.std.specs.List.{list_all, range_with_len}
use Rattle.perp_base.specs.declared.limits.TheConstants.{MOST_FRAMES, MOST_ITERATIONS}
use Rattle.x86_subset.specs.Conjunctions.{conjunction_of}
use Rattle.load_log.specs.Values.{Values, value_at}
use Rattle.tso_machine.specs.Frame.{frame_of}
use Rattle.outcome_conv.specs.declared.cond.Cond.{Cond}
use Rattle.outcome_conv.specs.Conditions.{Conditions}
use Rattle.outcome_conv.specs.Conds.{cond_holds}
use Rattle.frame_count.specs.Count.{IsFrameOf, IsOfLogs, frame_holds}
use Rattle.frame_count.specs.Counted.{Counts}
use Rattle.frame_count.specs.Known.{Tells}
use Rattle.frame_count.specs.declared.block.Block.{Block}
use Rattle.frame_count.specs.declared.block.Place.{Place}
use Rattle.frame_count.specs.declared.block.Task.{Task}

-- whether a condition speaks of the first p threads alone
abbrev pub is_settled : ℕ → Cond → Bool
is_settled p x = nat_lt x.reader p && nat_lt x.writer p

-- whether it holds, if it does so; nothing is asked of the others
abbrev pub so_far : List Values → ℕ → List ℕ → Cond → Bool
so_far logs p frame x = not (is_settled p x) || cond_holds (value_at logs) frame x

-- whether it holds, if it speaks of thread p and of none after it
abbrev pub test_now : List Values → ℕ → List ℕ → Cond → Bool
test_now logs p frame x = is_settled p x || not (is_settled (p + 1) x) || cond_holds (value_at logs) frame x

-- which conjunctions the first p threads leave
abbrev pub Alive : Conditions → List Values → ℕ → List ℕ → List Bool → Type 0
Alive c logs p frame alive =
    (j : ℕ) (d : Bool) → j < length c.ends → slice_index_or alive j d
    ≡ list_all (so_far logs p frame) (conjunction_of c.ends c.conds j)

-- whether frame number r of the block is a hit: that of the first p iterations of the frame, and those of number r
abbrev pub block_holds : Conditions → List Values → ℕ → ℕ → List ℕ → ℕ → Bool
block_holds c logs n p frame r = frame_holds c logs (take p frame ++ frame_of n (length frame - p) r)

-- both have the same iteration of the thread below p of which a condition speaks beside one that is not
abbrev pub IsAlike : ℕ → List ℕ → List ℕ → Cond → Type 0
IsAlike p before frame x =
    (x.reader < p → p ≤ x.writer → slice_index before x.reader ≡ slice_index frame x.reader)
    × (x.writer < p → p ≤ x.reader → slice_index before x.writer ≡ slice_index frame x.writer)

-- both leave the same conjunctions, and that is so of each condition of these
abbrev pub AreAlike : Conditions → ℕ → List Bool → List Bool → List ℕ → List ℕ → Type 0
AreAlike c p left alive before frame =
    (j : ℕ) (d : Bool) → j < length c.ends → (slice_index_or left j d ≡ slice_index_or alive j d)
    × (slice_index_or alive j d ≡ true → All (IsAlike p before frame) (conjunction_of c.ends c.conds j))

-- a condition that speaks of thread p speaks of none after it
abbrev pub EndsAt : ℕ → Cond → Type 0
EndsAt p x = (x.reader ≡ p → x.writer ≤ p) × (x.writer ≡ p → x.reader ≤ p)

-- with thread p in iteration m conjunction j is left as told and, if it is, alike to that with thread p in iteration i
abbrev pub StayAlike : Conditions → List Values → ℕ → List ℕ → ℕ → ℕ → List Bool → ℕ → Bool → Type 0
StayAlike c logs p frame i m now j d =
    (slice_index_or now j d ≡ list_all (so_far logs (p + 1) (slice_set frame p m)) (conjunction_of c.ends c.conds j))
    × (slice_index_or now j d ≡ true
    → All (IsAlike (p + 1) (slice_set frame p i) (slice_set frame p m)) (conjunction_of c.ends c.conds j))

-- so many threads settle each conjunction
abbrev pub SettledBy : Conditions → List ℕ → Type 0
SettledBy c by =
    (j d : ℕ) → j < length c.ends → All (λ (x : Cond). (x.reader < slice_index_or by j d)
    × (x.writer < slice_index_or by j d)) (conjunction_of c.ends c.conds j)

-- each block that is alike has as many hits
abbrev pub BlockTells : Conditions → List Values → ℕ → Block → Type 0
BlockTells c logs n b =
    (frame : List ℕ) (alive : List Bool)
    → 1 ≤ b.fixed
    → b.fixed ≤ length frame
    → IsFrameOf logs n frame
    → Alive c logs b.fixed frame alive
    → AreAlike c b.fixed b.alive alive b.iterations frame
    → b.hits ≡ count_by (block_holds c logs n b.fixed frame) (range_with_len 0 (n ^ (length frame - b.fixed)))

-- a block that is remembered is so
pub record IsRemembered (c : Conditions) (logs : List Values) (n : ℕ) (b : Block) : Type 0 where
  pub iterations : length b.iterations ≡ 8
  pub alive : length b.alive ≡ 8
  pub tells : BlockTells c logs n b

-- what is counted
pub record IsTask (task : Task) : Type 0 where
  pub some : 1 ≤ task.n
  pub iterations : task.n ≤ MOST_ITERATIONS
  pub threads : task.threads ≡ length task.logs.now.logs
  pub most : task.threads ≤ 8
  pub few : task.n ^ task.threads ≤ MOST_FRAMES
  pub names : All (IsOfLogs task.logs.now.logs) task.conds.now.conds
  pub known : Tells task.conds.now task.logs.now.logs task.known.now
  pub conjunctions : length task.conds.now.ends ≤ 8
  pub settled : SettledBy task.conds.now task.settled_by

-- the frame is one of the logs, and what is remembered of a row is so
pub record IsPlace (task : Task) (place : Place) : Type 0 where
  pub frame : IsFrameOf task.logs.now.logs task.n place.frame
  pub row : Counts task.conds.now task.logs.now.logs place.row

-- the hits of the block from one of its numbers on
abbrev pub block_count : Task → ℕ → List ℕ → ℕ → ℕ → ℕ
block_count task p frame from to =
    count_by (block_holds task.conds.now task.logs.now.logs task.n p frame) (range_with_len from (to - from))

-- what is asked of a block: p threads are fixed, some are not, and the conjunctions are those that are left
pub record IsBlock (task : Task) (place : Place) (alive : List Bool) (p : ℕ) (size : ℕ) : Type 0 where
  pub kept : IsPlace task place
  pub more : p < task.threads
  pub size_is : size ≡ task.n ^ (task.threads - p)
  pub alive_is : Alive task.conds.now task.logs.now.logs p place.frame alive
