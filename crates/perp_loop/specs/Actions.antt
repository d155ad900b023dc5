-- What an action does with a store buffer, the shared words and a log. The buffer and the words follow x86-TSO (Owens,
-- Sarkar and Sewell, "A better x86 memory model: x86-TSO", 2009); which writes drain before an action is this project's
-- own rule.
use Rattle.std.specs.Prelude.{◌≡◌, ℕ, ◌-◌, ◌<◌, ◌≤◌, Bool, All, IfSome, is_some, List, [], ◌∷◌, ◌++◌, length, map, take, drop, if◌then◌else◌}
use Rattle.x86_subset.specs.declared.instr.Instr.{Instr}
use Rattle.x86_subset.specs.declared.instr.Instr.TheVariants.{Store as DoStore, Load as DoLoad, Fence, Exchange}
use Rattle.x86_subset.specs.Instr.{location_of}
use Rattle.tso_machine.specs.Machine.{Write}
use Rattle.store_buffer.specs.declared.entry.Entry.{Entry}
use Rattle.store_buffer.specs.Contents.{Contents, newest_value}
use Rattle.load_log.specs.Values.{Values}
use Rattle.tso_words.specs.declared.step.Step.{Step}
use Rattle.tso_words.specs.declared.step.Step.TheVariants.{Load, Store, Swap}
use Rattle.tso_words.specs.History.{word_count}
use Rattle.tso_words.specs.Appended.{Appends}
use Rattle.tso_runs.specs.Drained.{drains_due, kind_as}

-- no step of a walker makes more steps on the words: a full buffer drains, and an action makes one of its own, with one
-- to spare
abbrev pub most_steps : ℕ
most_steps = 18

abbrev pub write_from : Entry → Write
write_from e = record { location = e.loc; value = e.value; iteration = e.iteration; place = e.place }

-- the step of a drained write
abbrev pub store_step : Entry → Step
store_step e = Store e.loc e.value

-- the location that an action names is one of the words
abbrev pub IsInRange : Instr → Type 0
IsInRange action = IfSome (location_of action) (λ x. x < word_count)

-- the entries lie in the words
abbrev pub AreInRange : List Entry → Type 0
AreInRange entries = All (λ e. e.loc < word_count) entries

-- the entries after an action, after its drains, which writes w in iteration n at place p
abbrev pub entries_after : Instr → ℕ → ℕ → ℕ → List Entry → List Entry
entries_after (DoStore loc written) w n p entries =
    entries ++ record { loc = loc; value = w; iteration = n; place = p } ∷ []
entries_after (DoLoad reg loc) w n p entries = entries
entries_after Fence w n p entries = entries
entries_after (Exchange loc written reg) w n p entries = entries

-- the steps of an action, after its drains, which writes and reads these values
abbrev pub own_steps : Instr → ℕ → ℕ → List Entry → List Step
own_steps (DoStore loc written) w v entries = []
own_steps (DoLoad reg loc) w v entries = if is_some (newest_value loc entries) then [] else (Load loc v ∷ [])
own_steps Fence w v entries = []
own_steps (Exchange loc written reg) w v entries = Swap loc w v ∷ []

-- the value that is read is the newest one of the buffer, if there is one
abbrev pub ReadsNewest : Instr → ℕ → List Entry → Type 0
ReadsNewest (DoStore loc written) v entries = Unit {0}
ReadsNewest (DoLoad reg loc) v entries = IfSome (newest_value loc entries) (λ w. v ≡ w)
ReadsNewest Fence v entries = Unit {0}
ReadsNewest (Exchange loc written reg) v entries = Unit {0}

-- the values that an action logs, where it reads v
abbrev pub logged : Instr → ℕ → List ℕ
logged (DoStore loc written) v = []
logged (DoLoad reg loc) v = v ∷ []
logged Fence v = []
logged (Exchange loc written reg) v = v ∷ []

-- an action can be made: a store needs room in the buffer, and a fence and an exchange need it empty
abbrev pub CanAct : Instr → ℕ → List Entry → Type 0
CanAct (DoStore loc written) capacity entries = length entries < capacity
CanAct (DoLoad reg loc) capacity entries = Unit {0}
CanAct Fence capacity entries = entries ≡ []
CanAct (Exchange loc written reg) capacity entries = entries ≡ []

-- how many writes are drained before an action
abbrev pub due_before : Instr → Bool → Contents → ℕ
due_before action asks buffer = drains_due (kind_as action 0) buffer.capacity asks (length buffer.entries)

-- the entries that the drains before an action leave
abbrev pub left_by_drains : Instr → Bool → Contents → List Entry
left_by_drains action asks buffer = drop (due_before action asks buffer) buffer.entries

-- an action is made, with its drains, which writes w in iteration n at place p
pub record Makes {P : Type 0} (steps : P → List Step) (ready : P → ℕ → Type 0) (kept : P → P → Type 0)
    (action : Instr) (w n p : ℕ) (asks : Bool) (buffer : Contents) (log : Values) (port : P) (buffer' : Contents)
    (log' : Values) (port' : P) : Type 0 where
  pub read : ℕ
  pub few : due_before action asks buffer ≤ length buffer.entries
  pub newest : ReadsNewest action read (left_by_drains action asks buffer)
  pub buffered : buffer' ≡ record buffer { entries = entries_after action w n p (left_by_drains action asks buffer) }
  pub logs : log' ≡ record log {
    values = log.values ++ logged action read;
    spare = log.spare - length (logged action read);
  }
  pub appends : Appends steps ready kept port port' (map store_step
      (take (due_before action asks buffer) buffer.entries) ++ own_steps action w read (left_by_drains action asks buffer))
