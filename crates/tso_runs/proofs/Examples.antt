-- Worked runs of schedules. Each is the only run of its test, options and schedule, by the law. Logs and histories are
-- worked out by hand from the rules.
use Rattle.std.proofs.Common.{◌≡◌, refl, ℕ, zero, suc, ◌+◌, ◌%◌, ◌^◌, ◌<◌, true, false, List, [], ◌∷◌, arith, le-ltb, lt-ltb, lit<}
use Rattle.std.proofs.lemmas.Nat.{mod_below}
use Rattle.std.proofs.lemmas.List.Elements.{All-from_recursion}
use Rattle.x86_subset.specs.Test.{LitmusTest}
use Rattle.x86_subset.specs.declared.instr.Instr.TheVariants as instr
use Rattle.x86_subset.specs.declared.instr.Reg.TheVariants.{Eax}
use Rattle.tso_machine.specs.Event.{Event, Push, Drain, Read}
use Rattle.tso_machine.specs.Log.{log_of}
use Rattle.tso_machine.specs.Machine.{initial}
use Rattle.tso_machine.specs.Part.{part_of}
use Rattle.tso_machine.specs.Run.{IsRunOf}
use Rattle.tso_machine.proofs.Worked.{at, drained_twice, relaxed, run_by, sb, test_of}
use Rattle.store_buffer.specs.Generator.{asks_drain, generator_word}
use Rattle.tso_words.specs.declared.step.Step.{Step}
use Rattle.tso_words.specs.declared.step.Step.TheVariants.{Load, Store}
use Rattle.tso_words.specs.declared.step.TracedStep.{TracedStep}
use Rattle.perp_base.specs.declared.options.Options.{Options}
use Rattle.perp_base.specs.declared.schedule.Schedule.TheVariants.{Turns}
use Rattle.tso_runs.specs.Fits.{IsLawful}
use Rattle.tso_runs.specs.Schedule.{IsScheduled}
use Rattle.tso_runs.specs.SharedSteps.{shared_history, shared_steps}
use Rattle.tso_runs.specs.Turns.{turns_of}

-- at rate 0 no drain is asked for, and at rate 256 each word asks for one

never : (seed t j : ℕ) → asks_drain seed t 0 j ≡ false
never seed t j = le-ltb (generator_word ((seed + t) % 2 ^ 64) j % 256) 0 (omega arith)

always : (seed t j : ℕ) → asks_drain seed t 256 j ≡ true
always seed t j =
    lt-ltb (generator_word ((seed + t) % 2 ^ 64) j % 256) 256 (mod_below (generator_word ((seed + t) % 2 ^ 64) j) 256
    (lit< tt))

abbrev options : ℕ → ℕ → ℕ → Options
options n rate buffer = record { iterations = n; seed = 0; rate = rate; buffer = buffer }

-- One iteration at rate 0.

relaxed_run : IsRunOf sb 1 relaxed
relaxed_run = run_by sb 1 relaxed assumption

relaxed_lawful : (t : ℕ) → t < 2 → IsLawful sb (options 1 0 8) t (part_of t relaxed)
relaxed_lawful zero l = record {
  own = All-from_recursion (λ (e : Event). e.thread ≡ 0) (part_of 0 relaxed) assumption;
  performs = relaxed_run.performs 0 l;
  keeps = assumption;
  drained = (rw (never 0 0 0) refl, (rw (never 0 0 1) refl, tt));
}
relaxed_lawful (suc zero) l = record {
  own = All-from_recursion (λ (e : Event). e.thread ≡ 1) (part_of 1 relaxed) assumption;
  performs = relaxed_run.performs 1 l;
  keeps = assumption;
  drained = (rw (never 0 1 0) refl, (rw (never 0 1 1) refl, tt));
}
relaxed_lawful (suc (suc t)) l = absurd (omega arith)

relaxed_scheduled : IsScheduled sb (options 1 0 8) Turns relaxed
relaxed_scheduled = record {
  legal = relaxed_run.legal;
  threads = relaxed_run.threads;
  lawful = relaxed_lawful;
  turns =
      (at 0 0 0 Push ∷ []) ∷ (at 1 0 0 Push ∷ []) ∷ (at 0 0 1 (Read 0) ∷ []) ∷ (at 1 0 1 (Read 0) ∷ [])
      ∷ (at 0 0 0 Drain ∷ []) ∷ (at 1 0 0 Drain ∷ []) ∷ [] ∷ [] ∷ [];
  whole = refl;
  follows = (
    0,
    refl,
    refl,
    (
      1,
      refl,
      refl,
      (
        0,
        refl,
        refl,
        (1, refl, refl, (0, refl, refl, (1, refl, refl, (0, refl, refl, (1, refl, refl, refl))))),
      ),
    ),
  );
}

-- both threads read 0
relaxed_logs : (log_of 0 relaxed ≡ 0 ∷ []) × (log_of 1 relaxed ≡ 0 ∷ [])
relaxed_logs = (refl, refl)

-- Two iterations at rate 256: each buffer drains before the next action.

twice_run : IsRunOf sb 2 drained_twice
twice_run = run_by sb 2 drained_twice assumption

twice_lawful : (t : ℕ) → t < 2 → IsLawful sb (options 2 256 8) t (part_of t drained_twice)
twice_lawful zero l = record {
  own = All-from_recursion (λ (e : Event). e.thread ≡ 0) (part_of 0 drained_twice) assumption;
  performs = twice_run.performs 0 l;
  keeps = assumption;
  drained = (rw (always 0 0 0) refl, (rw (always 0 0 1) refl, (rw (always 0 0 2) refl, (rw (always 0 0 3) refl, tt))));
}
twice_lawful (suc zero) l = record {
  own = All-from_recursion (λ (e : Event). e.thread ≡ 1) (part_of 1 drained_twice) assumption;
  performs = twice_run.performs 1 l;
  keeps = assumption;
  drained = (rw (always 0 1 0) refl, (rw (always 0 1 1) refl, (rw (always 0 1 2) refl, (rw (always 0 1 3) refl, tt))));
}
twice_lawful (suc (suc t)) l = absurd (omega arith)

twice_scheduled : IsScheduled sb (options 2 256 8) Turns drained_twice
twice_scheduled = record {
  legal = twice_run.legal;
  threads = twice_run.threads;
  lawful = twice_lawful;
  turns =
      (at 0 0 0 Push ∷ []) ∷ (at 1 0 0 Push ∷ []) ∷ (at 0 0 0 Drain ∷ at 0 0 1 (Read 0) ∷ [])
      ∷ (at 1 0 0 Drain ∷ at 1 0 1 (Read 1) ∷ [])
      ∷ (at 0 1 0 Push ∷ []) ∷ (at 1 1 0 Push ∷ []) ∷ (at 0 1 0 Drain ∷ at 0 1 1 (Read 1) ∷ [])
      ∷ (at 1 1 0 Drain ∷ at 1 1 1 (Read 2) ∷ []) ∷ [] ∷ [] ∷ [];
  whole = refl;
  follows = (
    0,
    refl,
    refl,
    (
      1,
      refl,
      refl,
      (
        0,
        refl,
        refl,
        (
          1,
          refl,
          refl,
          (
            0,
            refl,
            refl,
            (
              1,
              refl,
              refl,
              (0, refl, refl, (1, refl, refl, (0, refl, refl, (1, refl, refl, refl)))),
            ),
          ),
        ),
      ),
    ),
  );
}

abbrev traced : ℕ → Step → TracedStep
traced t step = record { thread = t; step = step }

twice_history : shared_history sb initial drained_twice
    ≡ traced 0 (Store 0 1) ∷ traced 0 (Load 1 0) ∷ traced 1 (Store 1 1) ∷ traced 1 (Load 0 1) ∷ traced 0 (Store 0 2)
    ∷ traced 0 (Load 1 1) ∷ traced 1 (Store 1 2) ∷ traced 1 (Load 0 2) ∷ []
twice_history = refl

twice_logs : (log_of 0 drained_twice ≡ 0 ∷ 1 ∷ []) × (log_of 1 drained_twice ≡ 1 ∷ 2 ∷ [])
twice_logs = (refl, refl)

-- A store into a full buffer drains the oldest write, and a read of a location in the own buffer is forwarded.

abbrev buf : LitmusTest
buf = test_of ((instr.Store 0 1 ∷ instr.Store 1 1 ∷ instr.Load Eax 0 ∷ []) ∷ [])

abbrev short_part : List Event
short_part = at 0 0 0 Push ∷ at 0 0 0 Drain ∷ at 0 0 1 Push ∷ at 0 0 2 (Read 1) ∷ at 0 0 1 Drain ∷ []

short_lawful : IsLawful buf (options 1 0 1) 0 short_part
short_lawful = record {
  own = All-from_recursion (λ (e : Event). e.thread ≡ 0) short_part assumption;
  performs = assumption;
  keeps = assumption;
  drained = (rw (never 0 0 0) refl, (rw (never 0 0 1) refl, (rw (never 0 0 2) refl, tt)));
}

short_steps : shared_steps buf [] short_part ≡ Store 0 1 ∷ Load 0 1 ∷ Store 1 1 ∷ []
short_steps = refl

abbrev long_part : List Event
long_part = at 0 0 0 Push ∷ at 0 0 1 Push ∷ at 0 0 2 (Read 1) ∷ at 0 0 0 Drain ∷ at 0 0 1 Drain ∷ []

long_lawful : IsLawful buf (options 1 0 8) 0 long_part
long_lawful = record {
  own = All-from_recursion (λ (e : Event). e.thread ≡ 0) long_part assumption;
  performs = assumption;
  keeps = assumption;
  drained = (rw (never 0 0 0) refl, (rw (never 0 0 1) refl, (rw (never 0 0 2) refl, tt)));
}

long_steps : shared_steps buf [] long_part ≡ Store 0 1 ∷ Store 1 1 ∷ []
long_steps = refl

-- its turns
long_turns : turns_of long_part ≡ (at 0 0 0 Push ∷ []) ∷ (at 0 0 1 Push ∷ []) ∷ (at 0 0 2 (Read 1) ∷ [])
    ∷ (at 0 0 0 Drain ∷ []) ∷ (at 0 0 1 Drain ∷ []) ∷ [] ∷ []
long_turns = refl
