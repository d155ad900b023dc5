-- The x86-TSO machine: a memory, and a first-in first-out store buffer for each thread (Sewell, Sarkar, Owens, Zappa
-- Nardelli and Myreen, "x86-TSO", CACM 2010). XCHG is one step, which needs an empty own buffer.
use Rattle.std.specs.Prelude.{◌≡◌, ℕ, ◌==◌, Option, None, Some, List, [], ◌∷◌, ◌++◌, drop, slice_get, if◌then◌else◌, unwrap_or}
use Rattle.std.specs.Option.{option_or}
use Rattle.x86_subset.specs.Test.{LitmusTest}
use Rattle.tso_machine.specs.Event.{Event, Kind, Push, Drain, Read, Fenced, Exchanged, event_location, written_value}

-- a write that is in a store buffer
pub record Write : Type 0 where
  pub location : ℕ
  pub value : ℕ
  pub iteration : ℕ
  pub place : ℕ

-- the word of each location, and the store buffer of each thread, oldest write first and of any length
pub record State : Type 0 where
  pub memory : ℕ → ℕ
  pub buffer : ℕ → List Write

-- the function with another value at one place
abbrev pub updated : {A : Type 0} → (ℕ → A) → ℕ → A → ℕ → A
updated f i a j = if i == j then a else f j

abbrev pub write_of : LitmusTest → Event → Write
write_of test e = record {
  location = event_location test e;
  value = written_value test e;
  iteration = e.iteration;
  place = e.place;
}

-- the value of the newest write to x in a buffer
abbrev pub newest : ℕ → List Write → Option ℕ
newest x [] = None
newest x (w ∷ ws) = option_or (newest x ws) (if w.location == x then Some w.value else None)

-- what a read finds: it is forwarded from the own store buffer where a write to the location waits there, and else
-- comes from memory
abbrev pub readable : State → ℕ → ℕ → ℕ
readable s t x = unwrap_or (newest x (s.buffer t)) (s.memory x)

-- what an event of this kind needs of the state before it
abbrev pub NeedsAs : Kind → LitmusTest → State → Event → Type 0
NeedsAs Push test s e = Unit {0}
NeedsAs Drain test s e = slice_get (s.buffer e.thread) 0 ≡ Some (write_of test e)
NeedsAs (Read v) test s e = v ≡ readable s e.thread (event_location test e)
NeedsAs Fenced test s e = s.buffer e.thread ≡ []
NeedsAs (Exchanged v) test s e = (s.buffer e.thread ≡ []) × (v ≡ s.memory (event_location test e))

abbrev pub Needs : LitmusTest → State → Event → Type 0
Needs test s e = NeedsAs e.kind test s e

-- the state after an event of this kind
abbrev pub after_as : Kind → LitmusTest → State → Event → State
after_as Push test s e = record s { buffer = updated s.buffer e.thread (s.buffer e.thread ++ write_of test e ∷ []) }
after_as Drain test s e = record {
  memory = updated s.memory (event_location test e) (written_value test e);
  buffer = updated s.buffer e.thread (drop 1 (s.buffer e.thread));
}
after_as (Read v) test s e = s
after_as Fenced test s e = s
after_as (Exchanged v) test s e = record s { memory = updated s.memory (event_location test e) (written_value test e) }

abbrev pub after : LitmusTest → State → Event → State
after test s e = after_as e.kind test s e

-- memory of zeros and empty buffers
abbrev pub initial : State
initial = record { memory = λ x. 0; buffer = λ t. [] }

-- the events lead, step by step, from the state
abbrev pub Steps : LitmusTest → State → List Event → Type 0
Steps test s [] = Unit {0}
Steps test s (e ∷ es) = Needs test s e × Steps test (after test s e) es

-- the state to which the events lead
abbrev pub after_all : LitmusTest → State → List Event → State
after_all test s [] = s
after_all test s (e ∷ es) = after_all test (after test s e) es

-- a legal run leads from the initial state to one with empty buffers
pub record IsLegal (test : LitmusTest) (run : List Event) : Type 0 where
  pub steps : Steps test initial run
  pub drained : (t : ℕ) → (after_all test initial run).buffer t ≡ []
