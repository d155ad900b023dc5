-- What happens in a run of the x86-TSO machine (Sewell, Sarkar, Owens, Zappa Nardelli and Myreen, CACM 2010): its
-- events.
use Rattle.std.specs.Prelude.{ℕ, Bool, true, false}
use Rattle.x86_subset.specs.Test.{LitmusTest}
use Rattle.seq_conv.specs.Sequence.{Site, site_location, value_of}

-- what happens; a Read and an Exchanged have what was read
pub data Kind : Type 0 where
  Push : Kind
  Drain : Kind
  Read : ℕ → Kind
  Fenced : Kind
  Exchanged : ℕ → Kind

-- an event of a thread, at a place of its body in an iteration; a Drain is told by the Push whose write it takes to
-- memory
pub record Event : Type 0 where
  pub thread : ℕ
  pub iteration : ℕ
  pub place : ℕ
  pub kind : Kind

abbrev pub site_of : Event → Site
site_of e = record { thread = e.thread; place = e.place }

-- the location of the event's action
abbrev pub event_location : LitmusTest → Event → ℕ
event_location test e = site_location test (site_of e)

-- the value that a Push, a Drain or an Exchange writes
abbrev pub written_value : LitmusTest → Event → ℕ
written_value test e = value_of test (event_location test e) (site_of e) e.iteration

abbrev pub is_drain_kind : Kind → Bool
is_drain_kind Push = false
is_drain_kind Drain = true
is_drain_kind (Read v) = false
is_drain_kind Fenced = false
is_drain_kind (Exchanged v) = false

abbrev pub is_drain : Event → Bool
is_drain e = is_drain_kind e.kind
