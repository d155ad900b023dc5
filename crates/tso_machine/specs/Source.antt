-- Where the value of a read comes from, told without values: the rf edges of axiomatic memory models (Alglave, Maranget
-- and Tautschnig, "Herding cats", TOPLAS 2014), read off the order of a run.
use Rattle.std.specs.Prelude.{ℕ, ◌==◌, ◌&&◌, Bool, true, false, not, option_map, Option, None, List}
use Rattle.std.specs.List.{list_any}
use Rattle.std.specs.Option.{option_or}
use Rattle.x86_subset.specs.Test.{LitmusTest}
use Rattle.perp_base.specs.Last.{last_that}
use Rattle.seq_conv.specs.Sequence.{Origin}
use Rattle.tso_machine.specs.Event.{Event, Kind, Push, Drain, Read, Fenced, Exchanged, event_location, is_drain}

abbrev pub origin_of : Event → Origin
origin_of e = record { thread = e.thread; place = e.place; iteration = e.iteration }

abbrev pub same_store : Event → Event → Bool
same_store d e = (d.thread == e.thread) && (d.place == e.place) && (d.iteration == e.iteration)

abbrev pub is_push_kind : Kind → Bool
is_push_kind Push = true
is_push_kind Drain = false
is_push_kind (Read v) = false
is_push_kind Fenced = false
is_push_kind (Exchanged v) = false

abbrev pub is_push : Event → Bool
is_push e = is_push_kind e.kind

-- the kinds that change memory
abbrev pub is_memory_kind : Kind → Bool
is_memory_kind Push = false
is_memory_kind Drain = true
is_memory_kind (Read v) = false
is_memory_kind Fenced = false
is_memory_kind (Exchanged v) = true

-- whether the event changes the memory at x
abbrev pub is_memory_write : LitmusTest → ℕ → Event → Bool
is_memory_write test x e = is_memory_kind e.kind && (event_location test e == x)

-- a Push of thread t to x that still waits in the store buffer: its Drain is not among the events
abbrev pub is_pending : LitmusTest → ℕ → ℕ → List Event → Event → Bool
is_pending test t x before e =
    is_push e && (e.thread == t) && (event_location test e == x)
    && not (list_any (λ d. is_drain d && same_store d e) before)

-- Where a Read of x by thread t, after these events, takes its value from: the own store buffer, if a write to x waits
-- there (its newest); else what last changed x in memory; else None, the initial value.
abbrev pub source_of_read : LitmusTest → ℕ → ℕ → List Event → Option Origin
source_of_read test t x before =
    option_map origin_of (option_or (last_that (is_pending test t x before) before)
    (last_that (is_memory_write test x) before))

-- where an Exchange takes its value from: what last changed x in memory; else None, the initial value
abbrev pub source_of_exchange : LitmusTest → ℕ → List Event → Option Origin
source_of_exchange test x before = option_map origin_of (last_that (is_memory_write test x) before)

abbrev pub source_as : Kind → LitmusTest → Event → List Event → Option Origin
source_as Push test e before = None
source_as Drain test e before = None
source_as (Read v) test e before = source_of_read test e.thread (event_location test e) before
source_as Fenced test e before = None
source_as (Exchanged v) test e before = source_of_exchange test (event_location test e) before

-- the source of what a Read or an Exchange read that stands after these events
abbrev pub source_of : LitmusTest → Event → List Event → Option Origin
source_of test e before = source_as e.kind test e before
