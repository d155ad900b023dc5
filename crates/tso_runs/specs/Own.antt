-- What is a thread's own on x86-TSO (Sewell, Sarkar, Owens, Zappa Nardelli and Myreen, CACM 2010): its store buffer
-- after its events, and the writes in it with their Drains.
use Rattle.std.specs.Prelude.{◌≡◌, ℕ, List, [], ◌∷◌}
use Rattle.x86_subset.specs.Test.{LitmusTest}
use Rattle.tso_machine.specs.Event.{Event, Drain}
use Rattle.tso_machine.specs.Machine.{Write, write_of}
use Rattle.tso_machine.specs.Part.{own_after}

-- the own buffer after these events
abbrev pub buffer_after : LitmusTest → List Write → List Event → List Write
buffer_after test buffer [] = buffer
buffer_after test buffer (e ∷ es) = buffer_after test (own_after test buffer e) es

-- the Drain of a write by thread t
abbrev pub drain_event : ℕ → Write → Event
drain_event t w = record { thread = t; iteration = w.iteration; place = w.place; kind = Drain }

-- the write is one of thread t
abbrev pub IsWriteOf : LitmusTest → ℕ → Write → Type 0
IsWriteOf test t w = write_of test (drain_event t w) ≡ w
