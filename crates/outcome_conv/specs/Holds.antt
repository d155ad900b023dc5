-- When an atom holds in a run at a frame, told without values: by where a read takes its value from and by which writes
-- it stands before. These are the rf and fr edges of axiomatic memory models (Alglave, Maranget and Tautschnig,
-- "Herding cats", TOPLAS 2014); that an edge may end at a later iteration too is this project's own rule, after
-- PerpLE's frames (Melissaris, Markakis, Shaw and Martonosi, MICRO 2020).
use Rattle.std.specs.Prelude.{ℕ, ◌==◌, ◌&&◌, ◌+◌, Bool, true, false, not, Option, None, Some, List, [], ◌∷◌, nat_le, if◌then◌else◌, slice_get, find, unwrap_or}
use Rattle.std.specs.List.{before_first}
use Rattle.std.specs.Option.{option_and_then, option_map_or}
use Rattle.x86_subset.specs.Instr.{is_reading}
use Rattle.x86_subset.specs.Test.{LitmusTest, body_of}
use Rattle.x86_subset.specs.declared.instr.Instr.{Instr}
use Rattle.seq_conv.specs.Sequence.{rank_of, site_location, stores_of, in_iteration}
use Rattle.seq_conv.specs.declared.site.Site.{Site}
use Rattle.tso_machine.specs.Event.{Event, is_drain}
use Rattle.tso_machine.specs.Source.{is_memory_kind, source_of}
use Rattle.seq_conv.specs.declared.site.Origin.{Origin}
use Rattle.profile_check.specs.declared.kind.AtomKind.{AtomKind}
use Rattle.profile_check.specs.declared.kind.AtomKind.TheVariants.{Rf, Fr, Exact}

-- the iteration that a frame has for a thread
abbrev pub iteration_in : List ℕ → ℕ → ℕ
iteration_in frame t = unwrap_or (slice_get frame t) 0

-- the places of the reading actions, where the first action has place p
abbrev pub reading_places : ℕ → List Instr → List ℕ
reading_places p [] = []
reading_places p (action ∷ actions) =
    if is_reading action then (p ∷ reading_places (p + 1) actions) else reading_places (p + 1) actions

-- the site of a reading action by its thread and column
abbrev pub reading_site : LitmusTest → ℕ → ℕ → Site
reading_site test t column = record {
  thread = t;
  place = unwrap_or (slice_get (reading_places 0 (body_of test t)) column) 0;
}

-- the location that it reads
abbrev pub location_read : LitmusTest → ℕ → ℕ → ℕ
location_read test t column = site_location test (reading_site test t column)

-- whether the event is that of the action at the site in iteration i
abbrev pub is_action_event : Site → ℕ → Event → Bool
is_action_event s i e = not (is_drain e) && (e.thread == s.thread) && (e.place == s.place) && (e.iteration == i)

-- the event of the action at a site in iteration i, and the events before it
abbrev pub event_at : Site → ℕ → List Event → Option Event
event_at s i run = find (is_action_event s i) run

abbrev pub events_before : Site → ℕ → List Event → List Event
events_before s i run = before_first (is_action_event s i) run

-- the source of what the action at a site read in iteration i
abbrev pub source_at : LitmusTest → Site → ℕ → List Event → Option Origin
source_at test s i run = option_and_then (λ e. source_of test e (events_before s i run)) (event_at s i run)

-- the named store, in iteration m or a later one
abbrev pub is_at_least : Site → ℕ → Option Origin → Bool
is_at_least store m None = false
is_at_least store m (Some origin) =
    (origin.thread == store.thread) && (origin.place == store.place) && nat_le m origin.iteration

-- whether the event is the Drain or Exchange of a store
abbrev pub is_write_of : Origin → Event → Bool
is_write_of o e =
    is_memory_kind e.kind && (e.thread == o.thread) && (e.place == o.place) && (e.iteration == o.iteration)

-- whether an event that passes p stands before each that passes q
abbrev pub stands_before : (Event → Bool) → (Event → Bool) → List Event → Bool
stands_before p q [] = false
stands_before p q (e ∷ es) = if p e then true else if q e then false else stands_before p q es

-- the store of rank 1 of a location
abbrev pub first_store : List Site → Site
first_store [] = record { thread = 0; place = 0 }
first_store (s ∷ ss) = s

abbrev pub first_in : LitmusTest → ℕ → ℕ → Origin
first_in test x m = in_iteration (first_store (stores_of test x)) m

-- the store to x that follows s of iteration m: that of the next rank, or after the last rank that of rank 1 in
-- iteration m + 1
abbrev pub next_in : LitmusTest → ℕ → Site → ℕ → Origin
next_in test x s m =
    option_map_or (λ next. in_iteration next m) (slice_get (stores_of test x) (rank_of test x s))
    (first_in test x (m + 1))

-- whether what thread t read in this column in iteration i comes from the store in iteration m or a later one
abbrev pub reads_from : LitmusTest → List Event → ℕ → ℕ → ℕ → Site → ℕ → Bool
reads_from test run t column i store m = is_at_least store m (source_at test (reading_site test t column) i run)

-- whether thread t read it before the Drain or Exchange of a store (and so where the run has none)
abbrev pub reads_before : LitmusTest → List Event → ℕ → ℕ → ℕ → Origin → Bool
reads_before test run t column i o = stands_before (is_action_event (reading_site test t column) i) (is_write_of o) run

-- An rf atom holds if the read comes from the named store in the writer's iteration or a later one, and an exact atom
-- if it moreover stands before the write that follows (after the last store of the last iteration there is none). An fr
-- atom holds if the read stands before the write of the location's first store in the writer's iteration.
abbrev pub holds_in : LitmusTest → List Event → List ℕ → AtomKind → Bool
holds_in test run frame (Rf reader column writer place) =
    reads_from test run reader column (iteration_in frame reader) (record { thread = writer; place = place })
    (iteration_in frame writer)
holds_in test run frame (Fr reader column writer) =
    reads_before test run reader column (iteration_in frame reader)
    (first_in test (location_read test reader column) (iteration_in frame writer))
holds_in test run frame (Exact reader column writer place) =
    reads_from test run reader column (iteration_in frame reader) (record { thread = writer; place = place })
    (iteration_in frame writer)
    && reads_before test run reader column (iteration_in frame reader)
    (next_in test (location_read test reader column) (record { thread = writer; place = place })
    (iteration_in frame writer))
