-- What one thread does in a run of x86-TSO (Sewell, Sarkar, Owens, Zappa Nardelli and Myreen, CACM 2010): its part,
-- which performs the body as often as it is asked to, and keeps its own store buffer.
use Rattle.std.specs.Prelude.{◌≡◌, ℕ, ◌==◌, suc, zero, ◌+◌, not, Some, IfSome, List, [], ◌∷◌, ◌++◌, drop, filter, slice_get}
use Rattle.std.specs.List.{AllZip}
use Rattle.x86_subset.specs.Test.{LitmusTest, body_of}
use Rattle.x86_subset.specs.declared.instr.Instr.{Instr}
use Rattle.x86_subset.specs.declared.instr.Instr.TheVariants.{Store, Load, Fence, Exchange}
use Rattle.tso_machine.specs.Event.{Event, Kind, Push, Drain, Read, Fenced, Exchanged, event_location, is_drain}
use Rattle.tso_machine.specs.Machine.{Write, write_of, newest}

-- the events of a thread, in order
abbrev pub part_of : ℕ → List Event → List Event
part_of t run = filter (λ e. e.thread == t) run

-- an action that a loop has to make
pub record Slot : Type 0 where
  pub iteration : ℕ
  pub place : ℕ
  pub action : Instr

-- the slots of iteration n, where the first action has place p
abbrev pub slots_of_body : ℕ → ℕ → List Instr → List Slot
slots_of_body n p [] = []
slots_of_body n p (action ∷ actions) =
    record { iteration = n; place = p; action = action } ∷ slots_of_body n (p + 1) actions

-- the slots of the iterations below n, in order
abbrev pub slots_of_loop : List Instr → ℕ → List Slot
slots_of_loop body zero = []
slots_of_loop body (suc n) = slots_of_loop body n ++ slots_of_body n 0 body

-- the kind of event that an action gives
abbrev pub Gives : Instr → Kind → Type 0
Gives (Store loc written) Push = Unit {0}
Gives (Load reg loc) (Read v) = Unit {0}
Gives Fence Fenced = Unit {0}
Gives (Exchange loc written reg) (Exchanged v) = Unit {0}
Gives _ _ = ⊥

-- the event is that of the slot, by thread t
pub record Fills (t : ℕ) (slot : Slot) (e : Event) : Type 0 where
  pub thread : e.thread ≡ t
  pub iteration : e.iteration ≡ slot.iteration
  pub place : e.place ≡ slot.place
  pub kind : Gives slot.action e.kind

-- Drains aside, the events of the part fill the slots of n iterations of the body, one by one
abbrev pub Performs : LitmusTest → ℕ → ℕ → List Event → Type 0
Performs test n t part = AllZip (Fills t) (slots_of_loop (body_of test t) n) (filter (λ e. not (is_drain e)) part)

-- the own buffer after an event of this kind
abbrev pub own_after_as : Kind → LitmusTest → List Write → Event → List Write
own_after_as Push test buffer e = buffer ++ write_of test e ∷ []
own_after_as Drain test buffer e = drop 1 buffer
own_after_as (Read v) test buffer e = buffer
own_after_as Fenced test buffer e = buffer
own_after_as (Exchanged v) test buffer e = buffer

abbrev pub own_after : LitmusTest → List Write → Event → List Write
own_after test buffer e = own_after_as e.kind test buffer e

-- what an event of this kind asks of the own buffer alone: a read of a location that stands there has the newest such
-- value
abbrev pub AgreesAs : Kind → LitmusTest → List Write → Event → Type 0
AgreesAs Push test buffer e = Unit {0}
AgreesAs Drain test buffer e = slice_get buffer 0 ≡ Some (write_of test e)
AgreesAs (Read v) test buffer e = IfSome (newest (event_location test e) buffer) (λ w. v ≡ w)
AgreesAs Fenced test buffer e = buffer ≡ []
AgreesAs (Exchanged v) test buffer e = buffer ≡ []

abbrev pub Agrees : LitmusTest → List Write → Event → Type 0
Agrees test buffer e = AgreesAs e.kind test buffer e

-- the part keeps its buffer, which is empty at the end
abbrev pub KeepsBuffer : LitmusTest → List Write → List Event → Type 0
KeepsBuffer test buffer [] = buffer ≡ []
KeepsBuffer test buffer (e ∷ es) = Agrees test buffer e × KeepsBuffer test (own_after test buffer e) es
