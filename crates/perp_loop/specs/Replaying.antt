-- Walkers that take turns on a stored history: this project's own. The generator is Xoshiro256++ (Blackman and Vigna).
use Rattle.std.specs.Prelude.{◌≡◌, ℕ, zero, suc, ◌+◌, ◌*◌, Bool, true, false, List, length, filter, slice_index_or}
use Rattle.rand_core.specs.Steps.{stream_of, steps_u64_high}
use Rattle.rand_xoshiro.specs.Xoshiro256.{plus_plus}
use Rattle.store_buffer.specs.Generator.{generator_after}
use Rattle.x86_subset.specs.Test.{body_of}
use Rattle.tso_words.specs.History.{history_part}
use Rattle.tso_words.specs.Traces.{Trace, Tracing, HasRoom, Continues}
use Rattle.perp_base.specs.declared.schedule.Schedule.{Schedule}
use Rattle.perp_base.specs.declared.schedule.Schedule.TheVariants.{Turns, Seeded}
use Rattle.perp_loop.specs.declared.went.Went.{Went}
use Rattle.perp_loop.specs.declared.went.Went.TheVariants.{Action, Finished}
use Rattle.std.specs.List.{range_with_len}
use Rattle.perp_loop.specs.Crews.{Job}
use Rattle.perp_loop.specs.Walking.{Walking, Stepped}

-- the sum of a function's values below a number
abbrev pub sum_below : ℕ → (ℕ → ℕ) → ℕ
sum_below zero f = 0
sum_below (suc n) f = f n + sum_below n f

-- how many steps a crew takes at most
abbrev pub owed_by : Job → ℕ
owed_by job = sum_below (length job.test.bodies) (λ t. job.options.iterations * length (body_of job.test t))

-- a walker took a step on the stored history
abbrev pub SteppedOn : Went → Walking → Trace → Walking → Trace → Type 0
SteppedOn went old before new after =
    Stepped {P = Tracing} (λ p. history_part p.thread p.trace.history) HasRoom Continues went old
    (record { thread = old.thread; trace = before }) new (record { thread = old.thread; trace = after })

-- the generator answers what the schedule's generator answers from turn i on
abbrev pub IsAtTurn : Schedule → ℕ → List ℕ → Type 0
IsAtTurn Turns i generator = Unit {0}
IsAtTurn (Seeded q) i generator =
    stream_of (steps_u64_high plus_plus) generator ≡ stream_of (steps_u64_high plus_plus) (generator_after q i)

-- whether a step took a turn
abbrev pub goes_on_after : Went → Bool
goes_on_after Action = true
goes_on_after Finished = false

-- the threads below n that these say are playing, in rising order
abbrev pub players_in : List Bool → ℕ → List ℕ
players_in playing n = filter (λ t. slice_index_or playing t false) (range_with_len 0 n)
