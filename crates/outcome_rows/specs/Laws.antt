-- Laws: the rows of a test are told by the sources of the reads, so edges and trees of cases decide them, and going
-- from register to register lists each once. This project's own, but for what `once` says of its laws.
use Rattle.std.specs.Prelude.{◌≡◌, ◌↔◌, ◌⊎◌, ℕ, ◌≤◌, Bool, Contains, List, [], ◌∷◌, ◌++◌, length}
use Rattle.x86_subset.specs.Test.{HoldsReads, LitmusTest}
use Rattle.tso_machine.specs.Event.{Event}
use Rattle.once.specs.Edges.{Reading}
use Rattle.once.specs.Sources.{HasSources, HidesNone}
use Rattle.once.specs.Trees.{RefutesAmong, Tree}
use Rattle.litmus_outcomes.specs.Outcome.{IsPossible}
use Rattle.outcome_rows.specs.Conditions.{NamesAmong, Satisfies}
use Rattle.outcome_rows.specs.Listing.{AreAllRows, AreRising, Decides, rows_of, values_stored}
use Rattle.outcome_rows.specs.Rows.{HoldReads, HoldsRead, IsRow, ReadValues, Register}

-- law: an execution of the test as it is written ends with these values exactly where some run of one iteration has the
-- sources of readings that have these values
abbrev pub RowsAreSources : Type 0
RowsAreSources =
    (test : LitmusTest) (registers : List Register) (values : List ℕ)
    → HoldsReads test
    → HoldReads test registers
    → IsRow test registers values
    ↔ ((readings : List Reading) × ReadValues test registers values readings
    × ((run : List Event) × HasSources test readings run))

-- law: so exactly where some readings that have these values have no hidden source and no tree that refutes them
abbrev pub RowsAreDecided : Type 0
RowsAreDecided =
    (test : LitmusTest) (registers : List Register) (values : List ℕ)
    → HoldsReads test
    → HoldReads test registers
    → IsRow test registers values
    ↔ ((readings : List Reading) × ReadValues test registers values readings × HidesNone test readings
    × (((tree : Tree) × RefutesAmong test readings [] tree) → ⊥))

-- law: there is an execution
abbrev pub SomeExecution : Type 0
SomeExecution = (test : LitmusTest) → IsRow test [] []

-- law: the front part of a row is a row of the first registers
abbrev pub RowsBegin : Type 0
RowsBegin =
    (test : LitmusTest) (registers : List Register) (register : Register) (values : List ℕ) (v : ℕ)
    → IsRow test (registers ++ register ∷ []) (values ++ v ∷ [])
    → IsRow test registers values

-- law: and each row of the first registers is the front part of one of a register more, with 0 or the value of a store
-- of its location there
abbrev pub RowsGoOn : Type 0
RowsGoOn =
    (test : LitmusTest) (registers : List Register) (register : Register) (values : List ℕ)
    → HoldsReads test
    → HoldsRead test register
    → IsRow test registers values
    → (v : ℕ) × Contains (values_stored test register) v
    × IsRow test (registers ++ register ∷ []) (values ++ v ∷ [])

-- law: no other value comes
abbrev pub RowsTakeValues : Type 0
RowsTakeValues =
    (test : LitmusTest) (registers : List Register) (register : Register) (values : List ℕ) (v : ℕ)
    → HoldsReads test
    → HoldsRead test register
    → IsRow test (registers ++ register ∷ []) (values ++ v ∷ [])
    → Contains (values_stored test register) v

-- law: so going from register to register, by what tells of each front part whether it is possible, lists the rows and
-- nothing else, each once, and they rise as numbers
abbrev pub RowsAreListed : Type 0
RowsAreListed =
    (test : LitmusTest) (registers : List Register) (possible : List ℕ → Bool)
    → HoldsReads test
    → HoldReads test registers
    → Decides test registers possible
    → AreAllRows test registers (rows_of test registers possible)

-- law: it can be told of each row
abbrev pub RowsAreTold : Type 0
RowsAreTold =
    (test : LitmusTest) (registers : List Register) (values : List ℕ)
    → HoldsReads test
    → HoldReads test registers
    → IsRow test registers values ⊎ (IsRow test registers values → ⊥)

-- law: rows that rise hold none twice
abbrev pub RisingAreOnce : Type 0
RisingAreOnce =
    (front : List (List ℕ)) (row : List ℕ) (middle rest : List (List ℕ))
    → AreRising (front ++ row ∷ (middle ++ row ∷ rest))
    → ⊥

-- law: all rows of a test are one list
abbrev pub AllRowsAreOne : Type 0
AllRowsAreOne =
    (test : LitmusTest) (registers : List Register) (rows others : List (List ℕ))
    → AreAllRows test registers rows
    → AreAllRows test registers others
    → rows ≡ others

-- law: there are no fewer rows than rows of the first registers, so where these are too many those are
abbrev pub FrontsAreFewer : Type 0
FrontsAreFewer =
    (test : LitmusTest) (first rest : List Register) (fronts rows : List (List ℕ))
    → HoldsReads test
    → HoldReads test (first ++ rest)
    → AreAllRows test first fronts
    → AreAllRows test (first ++ rest) rows
    → length fronts ≤ length rows

-- law: a conjunction of the condition is possible exactly where some row of registers, among which are those that it
-- names, has its values
abbrev pub OutcomesAreRows : Type 0
OutcomesAreRows =
    (test : LitmusTest) (c : ℕ) (registers : List Register)
    → HoldsReads test
    → HoldReads test registers
    → NamesAmong test c registers
    → IsPossible test c
    ↔ ((values : List ℕ) × IsRow test registers values × Satisfies test c registers values)
