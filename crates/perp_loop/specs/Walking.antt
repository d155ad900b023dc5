-- What contracts see of a walker, and what it does to a lawful part: this project's own, over the events of x86-TSO
-- (Sewell, Sarkar, Owens, Zappa Nardelli and Myreen, CACM 2010).
use Rattle.std.specs.Prelude.{◌≡◌, ℕ, ◌+◌, ◌<◌, ◌≤◌, not, All, List, [], ◌++◌, length, drop, filter, count_by}
use Rattle.std.specs.List.{AllZip, filter_map}
use Rattle.x86_subset.specs.Test.{LitmusTest, body_of}
use Rattle.seq_conv.specs.Numbers.{Table}
use Rattle.tso_machine.specs.Event.{Event, is_drain}
use Rattle.tso_machine.specs.Log.{value_read}
use Rattle.tso_machine.specs.Machine.{Write}
use Rattle.tso_machine.specs.Part.{Slot, slots_of_loop, Fills, KeepsBuffer}
use Rattle.tso_words.specs.declared.step.Step.{Step}
use Rattle.tso_words.specs.Appended.{Appends}
use Rattle.perp_base.specs.declared.options.Options.{Options}
use Rattle.perp_loop.specs.declared.went.Went.{Went}
use Rattle.perp_loop.specs.declared.went.Went.TheVariants.{Action, Finished}
use Rattle.tso_runs.specs.Fits.{IsLawful}
use Rattle.tso_runs.specs.Drained.{DrainsWhereDue}
pub use Rattle.tso_runs.specs.Own.{buffer_after}
use Rattle.tso_runs.specs.SharedSteps.{shared_steps}
use Rattle.tso_runs.specs.Turns.{IsCutBetween, IsTurnBefore, turns_of}

-- what a walker is made of, how many actions it has made, its buffer and its log
pub record Walking : Type 0 where
  pub test : LitmusTest
  pub sequences : Table
  pub options : Options
  pub thread : ℕ
  pub made : ℕ
  pub buffer : List Write
  pub log : List ℕ

-- the slots that remain
abbrev pub slots_left : Walking → List Slot
slots_left w = drop w.made (slots_of_loop (body_of w.test w.thread) w.options.iterations)

-- the events are what a lawful part has after what the walker has done
pub record Finishes (w : Walking) (rest : List Event) : Type 0 where
  pub own : All (λ e. e.thread ≡ w.thread) rest
  pub performs : AllZip (Fills w.thread) (slots_left w) (filter (λ e. not (is_drain e)) rest)
  pub keeps : KeepsBuffer w.test w.buffer rest
  pub drained : DrainsWhereDue w.options w.thread w.made (length w.buffer) (turns_of rest)

-- how many events are no Drains
abbrev pub actions_in : List Event → ℕ
actions_in events = count_by (λ e. not (is_drain e)) events

-- the walker takes these events, and what then finishes a lawful part did so with them in front before
pub record Takes (old : Walking) (events : List Event) (new : Walking) : Type 0 where
  pub same : new ≡ record old { made = new.made; buffer = new.buffer; log = new.log }
  pub made : new.made ≡ old.made + actions_in events
  pub buffer : new.buffer ≡ buffer_after old.test old.buffer events
  pub log : new.log ≡ old.log ++ filter_map value_read events
  pub leads : (rest : List Event) → Finishes new rest → Finishes old (events ++ rest)

-- the walker stands for these events: they are whole turns, from the first one on, of a lawful part
pub record StandsFor (w : Walking) (front : List Event) : Type 0 where
  pub made : w.made ≡ actions_in front
  pub buffer : w.buffer ≡ buffer_after w.test [] front
  pub log : w.log ≡ filter_map value_read front
  pub leads : (rest : List Event) → Finishes w rest → IsLawful w.test w.options w.thread (front ++ rest)
  pub cuts : (rest : List Event) → Finishes w rest → IsCutBetween front rest
  pub ends : (rest : List Event) × Finishes w rest

-- how many steps a walker still makes at most
abbrev pub owed : Walking → ℕ
owed w = length (slots_left w) + length w.buffer

-- all actions are made, and all writes drained
pub record IsFinished (w : Walking) : Type 0 where
  pub made : slots_left w ≡ []
  pub drained : w.buffer ≡ []

-- the walker takes the next turn, whose shared steps the port appends
pub record TakesTurn {P : Type 0} (steps : P → List Step) (ready : P → ℕ → Type 0) (kept : P → P → Type 0)
    (old : Walking) (before : P) (new : Walking) (after : P) : Type 0 where
  pub turn : List Event
  pub is_turn : (rest : List Event) → Finishes new rest → IsTurnBefore turn rest
  pub takes : Takes old turn new
  pub stands : (front : List Event) → StandsFor old front → StandsFor new (front ++ turn)
  pub can_end : (rest : List Event) × Finishes new rest
  pub appends : Appends steps ready kept before after (shared_steps old.test old.buffer turn)
  pub owes_less : owed new + length (shared_steps old.test old.buffer turn) ≤ owed old
  pub ends : length (slots_left new) + owed new < length (slots_left old) + owed old

-- a step takes the next turn, or finds that none is left
abbrev pub Stepped : {P : Type 0} → (P → List Step) → (P → ℕ → Type 0) → (P → P → Type 0) → Went → Walking → P → Walking
    → P → Type 0
Stepped steps ready kept Action old before new after = TakesTurn steps ready kept old before new after
Stepped steps ready kept Finished old before new after = IsFinished old × (new ≡ old) × (after ≡ before)

-- nothing is done yet
abbrev pub IsNew : Walking → Type 0
IsNew w = w ≡ record w { made = 0; buffer = []; log = [] }

-- the walker finishes a lawful part, whose shared steps the port appends
pub record Walks {P : Type 0} (steps : P → List Step) (ready : P → ℕ → Type 0) (kept : P → P → Type 0)
    (old : Walking) (before : P) (new : Walking) (after : P) : Type 0 where
  pub rest : List Event
  pub same : new ≡ record old { made = new.made; buffer = new.buffer; log = new.log }
  pub finishes : Finishes old rest
  pub stands : (front : List Event) → StandsFor old front → StandsFor new (front ++ rest)
  pub log : new.log ≡ old.log ++ filter_map value_read rest
  pub appends : Appends steps ready kept before after (shared_steps old.test old.buffer rest)
