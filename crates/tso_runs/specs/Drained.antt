-- Where the Drains of a part stand, by its seed. x86-TSO lets a buffer drain at any time
-- (Sewell, Sarkar, Owens, Zappa Nardelli and Myreen, CACM 2010); this rule is the project's own.
use Rattle.std.specs.Prelude.{◌≡◌, ℕ, ◌+◌, ◌-◌, ◌==◌, ◌&&◌, Bool, nat_lt, IfSome, List, [], ◌∷◌, if◌then◌else◌}
use Rattle.x86_subset.specs.declared.instr.Instr.{Instr}
use Rattle.x86_subset.specs.declared.instr.Instr.TheVariants.{Store as DoStore, Load as DoLoad, Fence, Exchange}
use Rattle.tso_machine.specs.Event.{Event, Kind, Push, Drain, Read, Fenced, Exchanged}
use Rattle.store_buffer.specs.Generator.{asks_drain}
use Rattle.perp_base.specs.declared.options.Options.{Options}
use Rattle.tso_runs.specs.Turns.{turn_action, turn_drains, turns_of}

-- the kind of event that an action gives, where it reads v
abbrev pub kind_as : Instr → ℕ → Kind
kind_as (DoStore loc written) v = Push
kind_as (DoLoad reg loc) v = Read v
kind_as Fence v = Fenced
kind_as (Exchange loc written reg) v = Exchanged v

-- d: one Drain is asked for, where the buffer has a write
abbrev pub drain_asked : Bool → ℕ → ℕ
drain_asked asks b = if asks && nat_lt 0 b then 1 else 0

-- how many Drains have to stand directly before an event of this kind, with b writes in a buffer of this capacity
abbrev pub drains_due : Kind → ℕ → Bool → ℕ → ℕ
drains_due Push capacity asks b = drain_asked asks b + (if (b - drain_asked asks b) == capacity then 1 else 0)
drains_due Drain capacity asks b = 0
drains_due (Read v) capacity asks b = drain_asked asks b
drains_due Fenced capacity asks b = b
drains_due (Exchanged v) capacity asks b = b

-- the length of the own buffer after an event of this kind
abbrev pub pushed : Kind → ℕ → ℕ
pushed Push b = b + 1
pushed Drain b = b
pushed (Read v) b = b
pushed Fenced b = b
pushed (Exchanged v) b = b

-- The turns from number j on, where the own buffer has b writes after the one before: each has as many Drains as are
-- due before its action. Of the turns after the last action nothing is asked.
abbrev pub DrainsWhereDue : Options → ℕ → ℕ → ℕ → List (List Event) → Type 0
DrainsWhereDue options t j b [] = Unit {0}
DrainsWhereDue options t j b (turn ∷ turns) =
    IfSome (turn_action turn) (λ e.
    (turn_drains turn ≡ drains_due e.kind options.buffer (asks_drain options.seed t options.rate j) b)
    × DrainsWhereDue options t (j + 1) (pushed e.kind (b - turn_drains turn)) turns)

-- the part of thread t is drained by its seed (where it keeps its buffer, Drains stand at its end until the buffer is
-- empty)
abbrev pub IsDrainedBySeed : Options → ℕ → List Event → Type 0
IsDrainedBySeed options t part = DrainsWhereDue options t 0 0 (turns_of part)
