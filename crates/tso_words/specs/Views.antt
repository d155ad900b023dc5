-- What seats know of the one flat history, and the rule that keeps it: this project's own, over the tables of atomic
-- words of the crate atomic_table. A seat's view is a list of numbers of threads, each with the steps of its thread.
use Rattle.std.specs.Prelude.{◌≡◌, ℕ, ◌<◌, ◌≤◌, eqb, cond, List, [], ◌∷◌, ◌++◌}
use Rattle.atomic_table.specs.Table.{Me}
use Rattle.tso_words.specs.declared.step.Step.{Step}
use Rattle.tso_words.specs.declared.step.Part.{Part}
use Rattle.tso_words.specs.History.{History, IsFlat, history_part, thread_count}

-- the lists that stand beside a number
abbrev pub beside : ℕ → List Part → List (List Step)
beside t [] = []
beside t (p ∷ ps) = cond (eqb p.thread t) (p.steps ∷ beside t ps) (beside t ps)

-- all views, one after another
abbrev pub together : List (List Part) → List Part
together [] = []
together (v ∷ vs) = v ++ together vs

-- the step goes to the end of the list of its thread
abbrev pub grown : ℕ → Step → List Part → List Part
grown t step [] = []
grown t step (p ∷ ps) =
    cond (eqb p.thread t) record { thread = p.thread; steps = p.steps ++ step ∷ [] } p ∷ grown t step ps

-- the parts of one thread
abbrev pub only : ℕ → List Part → List Part
only t [] = []
only t (p ∷ ps) = cond (eqb p.thread t) (p ∷ only t ps) (only t ps)

-- the parts of the other threads
abbrev pub others : ℕ → List Part → List Part
others t [] = []
others t (p ∷ ps) = cond (eqb p.thread t) (others t ps) (p ∷ others t ps)

-- one number with its list
abbrev pub one_part : ℕ → List Step → List Part
one_part t steps = record { thread = t; steps = steps } ∷ []

-- the numbers 0 to 7 with empty lists
abbrev pub no_steps : List Part
no_steps =
    record { thread = 0; steps = [] } ∷ record { thread = 1; steps = [] } ∷ record { thread = 2; steps = [] }
    ∷ record { thread = 3; steps = [] } ∷ record { thread = 4; steps = [] } ∷ record { thread = 5; steps = [] }
    ∷ record { thread = 6; steps = [] } ∷ record { thread = 7; steps = [] } ∷ []

-- The rule of the words, which holds between any two steps. There is one flat history whose memory is the words. In the
-- views of all seats together each of the numbers 0 to 7 stands once, beside its part of the history, and no other
-- number stands.
abbrev pub HoldsOneHistory : List ℕ → List (List Part) → Type 0
HoldsOneHistory words views =
    (history : History) × IsFlat words history
    × ((t : ℕ) → t < thread_count → beside t (together views) ≡ history_part t history ∷ [])
    × ((t : ℕ) → thread_count ≤ t → beside t (together views) ≡ [])

-- the number stands once, beside this list
abbrev pub Stands : ℕ → List Part → List Step → Type 0
Stands t parts steps = beside t parts ≡ steps ∷ []

-- all eight numbers stand once
abbrev pub AllHome : List Part → Type 0
AllHome parts = (t : ℕ) → t < thread_count → (steps : List Step) × (beside t parts ≡ steps ∷ [])

-- the list of the first number
abbrev pub first_steps : List Part → List Step
first_steps [] = []
first_steps (p ∷ ps) = p.steps

-- the number stands once, beside some list
abbrev pub IsAtHome : ℕ → List Part → Type 0
IsAtHome t parts = (steps : List Step) × Stands t parts steps

-- the list beside a number
abbrev pub list_of : ℕ → List Part → List Step
list_of t parts = first_steps (only t parts)

-- a seat's view before and after a step of a thread; it holds no slot
abbrev pub Grows : ℕ → Step → Me (Unit {0}) (List Part) → Me (Unit {0}) (List Part) → Type 0
Grows t step me now = now ≡ (grown t step me.0, me.1)
