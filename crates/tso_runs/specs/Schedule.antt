-- The run of a schedule: lawful parts cut into turns, which the threads take one at a time. The machine is x86-TSO
-- (Sewell, Sarkar, Owens, Zappa Nardelli and Myreen, CACM 2010); schedules are this project's own.
use Rattle.std.specs.Prelude.{◌≡◌, ℕ, ◌+◌, ◌<◌, ◌≤◌, ◌%◌, All, Option, Some, List, [], ◌∷◌, drop, filter, find, length, nat_le, nat_lt, slice_get}
use Rattle.std.specs.List.{range_with_len}
use Rattle.std.specs.Option.{option_or}
use Rattle.x86_subset.specs.Test.{LitmusTest}
use Rattle.tso_machine.specs.Event.{Event}
use Rattle.tso_machine.specs.Machine.{IsLegal, updated}
use Rattle.tso_machine.specs.Run.{IsRunOf}
use Rattle.tso_machine.specs.Part.{part_of}
use Rattle.store_buffer.specs.Generator.{generator_word}
use Rattle.perp_base.specs.declared.options.Options.{Options}
use Rattle.perp_base.specs.declared.schedule.Schedule.{Schedule}
use Rattle.perp_base.specs.declared.schedule.Schedule.TheVariants.{Turns, Seeded}
use Rattle.tso_runs.specs.Fits.{IsLawful}
use Rattle.tso_runs.specs.Turns.{joined, turns_of}

-- the threads that have turns left, in rising order
abbrev pub threads_left : ℕ → (ℕ → List (List Event)) → List ℕ
threads_left threads left = filter (λ t. nat_lt 0 (length (left t))) (range_with_len 0 threads)

-- The thread that the schedule names in turn i among these, where `from` is the one after the thread of the turn
-- before: the first one from there on, or else the first; or the one that word i of the generator picks.
abbrev pub named : Schedule → ℕ → ℕ → List ℕ → Option ℕ
named Turns i from threads = option_or (find (nat_le from) threads) (slice_get threads 0)
named (Seeded q) i from threads = slice_get threads (generator_word q i % length threads)

-- from turn i on the threads take their turns as the schedule says, until no thread has one left
abbrev pub Follows : Schedule → ℕ → ℕ → ℕ → (ℕ → List (List Event)) → List (List Event) → Type 0
Follows schedule threads i from left [] = threads_left threads left ≡ []
Follows schedule threads i from left (turn ∷ turns) =
    (t : ℕ) × (named schedule i from (threads_left threads left) ≡ Some t) × (slice_get (left t) 0 ≡ Some turn)
    × Follows schedule threads (i + 1) (t + 1) (updated left t (drop 1 (left t))) turns

-- the run is legal, each part is lawful, and the run is all turns of the parts in the order of the schedule
pub record IsScheduled (test : LitmusTest) (options : Options) (schedule : Schedule) (run : List Event) : Type 0 where
  pub legal : IsLegal test run
  pub threads : All (λ e. e.thread < length test.bodies) run
  pub lawful : (t : ℕ) → t < length test.bodies → IsLawful test options t (part_of t run)
  pub turns : List (List Event)
  pub whole : run ≡ joined turns
  pub follows : Follows schedule (length test.bodies) 0 0 (λ t. turns_of (part_of t run)) turns

-- law: where buffers have room for a write, each schedule has exactly one run
abbrev pub EachScheduleHasOneRun : Type 0
EachScheduleHasOneRun =
    (test : LitmusTest) (options : Options) (schedule : Schedule)
    → 1 ≤ options.buffer
    → (run : List Event) × IsScheduled test options schedule run
    × ((other : List Event) → IsScheduled test options schedule other → other ≡ run)

-- law: the laws on values, conditions and counts hold of the run of a schedule, since each thread performs its body in
-- it
abbrev pub ScheduledRunsPerformTheBodies : Type 0
ScheduledRunsPerformTheBodies =
    (test : LitmusTest) (options : Options) (schedule : Schedule) (run : List Event)
    → IsScheduled test options schedule run
    → IsRunOf test options.iterations run
