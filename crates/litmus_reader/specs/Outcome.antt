-- What functions answer, against what is read. This project's own.
use Rattle.std.specs.Prelude.{◌≡◌, ℕ, List, drop, Result, Ok, Err}
use Rattle.x86_subset.specs.Form.{found_of}
use Rattle.litmus_reader.specs.declared.kind.LitmusError.{LitmusError}
use Rattle.litmus_reader.specs.declared.kind.LitmusError.TheVariants as errors
use Rattle.litmus_reader.specs.declared.condition.Place.{Place as PlaceAt}
use Rattle.litmus_reader.specs.declared.condition.Place.TheVariants as places
use Rattle.litmus_reader.specs.declared.condition.Step.{Step as StepAt}
use Rattle.litmus_reader.specs.declared.condition.Step.TheVariants as steps
use Rattle.litmus_reader.specs.declared.condition.Joined.{Joined as JoinedAt}
use Rattle.litmus_reader.specs.Answer.{Refusal, refuse}
use Rattle.litmus_reader.specs.Condition.{atom_slots, Joined}
use Rattle.litmus_reader.specs.Expression.{Place, AtTerm, BehindTerm, InAtom, Step, Goes, Parts, Ends, Fails}

-- what a function returned, seen by view, is what is read, unless memory ran out
abbrev pub Refuses : {Y : Type 0} → LitmusError → Result Y Refusal → Type 0
Refuses errors.Memory read = Unit {0}
Refuses (errors.Bad kind line) read = read ≡ refuse kind line
Refuses (errors.Over limit) read = ⊥

-- what a function answered, seen by a view, is what is read, unless memory ran out
abbrev pub Answers : {X Y : Type 0} → (X → Y) → Result X LitmusError → Result Y Refusal → Type 0
Answers view (Ok x) read = read ≡ Ok (view x)
Answers view (Err e) read = Refuses e read

-- places and steps in code
abbrev pub place_of : List ℕ → PlaceAt → Place
place_of text (places.Term joined) = AtTerm joined
place_of text (places.Behind mixed) = BehindTerm mixed
place_of text (places.Atom n found) = InAtom (drop n atom_slots) (found_of text found)

-- what a token leads to
abbrev pub step_of : List ℕ → StepAt → Step
step_of text (steps.Goes place n) = Goes (place_of text place) n
step_of text (steps.Parts n) = Parts n
step_of text (steps.Ends found) = Ends (found_of text found)
step_of text (steps.Fails kind) = Fails kind

-- the atoms and the ends in code
abbrev pub joined_of : JoinedAt → Joined
joined_of j = record { atoms = j.atoms.items; ends = j.ends.items }
