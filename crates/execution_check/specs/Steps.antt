-- A written execution of a litmus test: a list of events, each of which names its place in the text. Without the places
-- its events are steps of x86-TSO (Sewell, Sarkar, Owens, Zappa Nardelli and Myreen, CACM 2010) with the numbers of the
-- text. This project's own.
use Rattle.std.specs.Prelude.{◌≡◌, ℕ, ◌<◌, All, Bool, true, false, List, filter, length, map}
use Rattle.x86_subset.specs.Test.{LitmusTest}
use Rattle.seq_conv.specs.Sequence.{Origin}
use Rattle.tso_machine.specs.Event.{Event, Kind, Push, Drain, Read, Fenced, Exchanged, event_location, is_drain, site_of}
use Rattle.tso_machine.specs.Part.{Performs, part_of}
use Rattle.run_judge.specs.Written.{text_value}
use Rattle.litmus_outcomes.specs.Machine.{Action, Writes, Drains, Reads, Fences, Exchanges, Step}
use Rattle.litmus_outcomes.specs.Outcome.{IsExecution}

-- what an event of this kind does, by the text
abbrev pub action_as : Kind → LitmusTest → Event → Action
action_as Push test e = Writes (event_location test e) (text_value test (site_of e) e.iteration)
action_as Drain test e = Drains (event_location test e) (text_value test (site_of e) e.iteration)
action_as (Read v) test e = Reads (event_location test e) v
action_as Fenced test e = Fences
action_as (Exchanged v) test e = Exchanges (event_location test e) v (text_value test (site_of e) e.iteration)

abbrev pub action_of : LitmusTest → Event → Action
action_of test e = action_as e.kind test e

-- an event as a step, its place left out
abbrev pub step_of : LitmusTest → Event → Step
step_of test e = record { thread = e.thread; action = action_of test e }

abbrev pub steps_of : LitmusTest → List Event → List Step
steps_of test events = map (step_of test) events

abbrev pub is_push_kind : Kind → Bool
is_push_kind Push = true
is_push_kind Drain = false
is_push_kind (Read v) = false
is_push_kind Fenced = false
is_push_kind (Exchanged v) = false

abbrev pub is_push : Event → Bool
is_push e = is_push_kind e.kind

-- the store that an event names
abbrev pub origin_of : Event → Origin
origin_of e = record { thread = e.thread; place = e.place; iteration = e.iteration }

-- the stores of thread t whose writes enter its store buffer, in order, and those whose writes leave it
abbrev pub stored : ℕ → List Event → List Origin
stored t events = map origin_of (filter is_push (part_of t events))

abbrev pub drained : ℕ → List Event → List Origin
drained t events = map origin_of (filter is_drain (part_of t events))

-- Without their places the events are an execution of the test; drains aside, each thread's events stand at the places
-- of its body, in order; and each drain names the oldest store that waits: a thread's drains name its stores in order.
pub record IsWritten (test : LitmusTest) (events : List Event) : Type 0 where
  pub execution : IsExecution test (steps_of test events)
  pub in_order : (t : ℕ) → t < length test.bodies → Performs test 1 t (part_of t events)
  pub threads : All (λ e. e.thread < length test.bodies) events
  pub drains : (t : ℕ) → drained t events ≡ stored t events
