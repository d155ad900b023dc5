-- The abstract machine of x86-TSO, for a program that runs once: a memory, and a first-in first-out store buffer for
-- each thread, of locations and the values that the program writes. It follows Sewell, Sarkar, Owens, Zappa Nardelli and
-- Myreen, "x86-TSO: a rigorous and usable programmer's model for x86 multiprocessors", CACM 2010. Each of their rules,
-- with its event there, is an action here:
--   a write goes to the own store buffer (W)                                      Writes
--   the oldest write of a store buffer is propagated to memory (tau)              Drains
--   a read from the own store buffer, or where that has no write, memory (R)      Reads
--   a fence, where the own store buffer is empty (F)                              Fences
--   a locked XCHG, from lock to unlock (L, R, W, tau, U)                          Exchanges
-- XCHG is one step here, as no other thread reads or propagates while the lock is held; so no state has a lock. (That
-- the lock's own steps give no other outcomes is no law here.) Nothing in this file knows of loops, iterations or
-- sequences. `updated` is the function with another value at one place.
use Rattle.std.specs.Prelude.{◌≡◌, ℕ, Option, None, Some, List, [], ◌∷◌, ◌++◌, drop, slice_get, unwrap_or, if◌then◌else◌, ◌==◌}
use Rattle.std.specs.Option.{option_or}
use Rattle.tso_machine.specs.Machine.{updated}

-- what a thread does in one step, at a location x
pub data Action : Type 0 where
  -- the write of v to x goes to the back of the own store buffer
  Writes : ℕ → ℕ → Action
  -- the oldest write of the own store buffer, of v to x, goes to memory
  Drains : ℕ → ℕ → Action
  -- v is read from x: from the own store buffer, or from memory
  Reads : ℕ → ℕ → Action
  -- a fence
  Fences : Action
  -- v is read from x in memory, and w is written there
  Exchanges : ℕ → ℕ → ℕ → Action

-- a step: an action of a thread
pub record Step : Type 0 where
  pub thread : ℕ
  pub action : Action

-- a write of a value to a location that waits in a store buffer
pub record Waiting : Type 0 where
  pub location : ℕ
  pub value : ℕ

-- the value of each location in memory, and the store buffer of each thread, oldest write first
pub record State : Type 0 where
  pub memory : ℕ → ℕ
  pub buffer : ℕ → List Waiting

-- the value of the newest write to x in a store buffer, which is the last in the list; None where it has no write to x
abbrev pub newest : ℕ → List Waiting → Option ℕ
newest x [] = None
newest x (w ∷ ws) = option_or (newest x ws) (if w.location == x then Some w.value else None)

-- what thread t finds at x: the newest write to x in its own store buffer, and where none waits there, memory's value
abbrev pub found : State → ℕ → ℕ → ℕ
found s t x = unwrap_or (newest x (s.buffer t)) (s.memory x)

-- The state allows this action of thread t: a write always, a drain of the oldest write of its store buffer, a read of
-- what it finds, a fence where its store buffer is empty, and there also an exchange that reads memory's value.
abbrev pub Allows : State → ℕ → Action → Type 0
Allows s t (Writes x v) = Unit {0}
Allows s t (Drains x v) = slice_get (s.buffer t) 0 ≡ Some (record { location = x; value = v })
Allows s t (Reads x v) = v ≡ found s t x
Allows s t Fences = s.buffer t ≡ []
Allows s t (Exchanges x v w) = (s.buffer t ≡ []) × (v ≡ s.memory x)

-- the state after an action of thread t: a read and a fence leave it as it is
abbrev pub next : State → ℕ → Action → State
next s t (Writes x v) =
    record s { buffer = updated s.buffer t (s.buffer t ++ record { location = x; value = v } ∷ []) }
next s t (Drains x v) = record {
  memory = updated s.memory x v;
  buffer = updated s.buffer t (drop 1 (s.buffer t));
}
next s t (Reads x v) = s
next s t Fences = s
next s t (Exchanges x v w) = record s { memory = updated s.memory x w }

-- the state at the start: memory of zeros and empty store buffers
abbrev pub start : State
start = record { memory = λ x. 0; buffer = λ t. [] }

-- each step is allowed by the state that those before it lead to
abbrev pub AllowsAll : State → List Step → Type 0
AllowsAll s [] = Unit {0}
AllowsAll s (e ∷ es) = Allows s e.thread e.action × AllowsAll (next s e.thread e.action) es

-- the state that the steps lead to
abbrev pub end_of : State → List Step → State
end_of s [] = s
end_of s (e ∷ es) = end_of (next s e.thread e.action) es
