-- The kind of an atom: what a condition on a register asks of a run, by the stores of the location that was read. The
-- kinds are named after the rf and fr edges of axiomatic memory models (Alglave, Maranget and Tautschnig, "Herding
-- cats", TOPLAS 2014); which atoms have one is this project's own rule.
use Rattle.std.specs.Prelude.{◌≡◌, ℕ, ◌==◌, ◌&&◌, Bool, false, not, Option, None, Some, Result, Ok, Err, List, [], ◌∷◌, length, filter, nat_lt, if◌then◌else◌}
use Rattle.std.specs.List.{AllZip}
use Rattle.std.specs.Option.{option_and_then}
use Rattle.x86_subset.specs.Test.{LitmusTest, column_of, last_writer_of}
use Rattle.x86_subset.specs.declared.instr.Instr.{Instr}
use Rattle.x86_subset.specs.declared.instr.Instr.TheVariants.{Store, Load, Fence, Exchange}
use Rattle.x86_subset.specs.declared.test.Atom.{Atom}
use Rattle.seq_conv.specs.Sequence.{action_at, site_location, stores_of}
use Rattle.seq_conv.specs.Writers.{stand_in}
use Rattle.seq_conv.specs.declared.site.Site.{Site}
use Rattle.profile_check.specs.declared.kind.AtomKind.{AtomKind}
use Rattle.profile_check.specs.declared.kind.AtomKind.TheVariants.{Rf, Fr, Exact}
use Rattle.profile_check.specs.declared.kind.ProfileKind.{ProfileKind}
use Rattle.profile_check.specs.declared.kind.ProfileKind.TheVariants.{NoSuchThread, NotLoaded, NoStore, Ambiguous, ZeroStored, NoWriter, SeveralWriters, OwnWriter}

-- the number that a store or exchange was written with in the text
abbrev pub written_of : Instr → Option ℕ
written_of (Store loc written) = Some written
written_of (Load reg loc) = None
written_of Fence = None
written_of (Exchange loc written reg) = Some written

abbrev pub is_some_of : ℕ → Option ℕ → Bool
is_some_of v None = false
is_some_of v (Some w) = w == v

-- the stores to x that were written with v
abbrev pub stores_written : LitmusTest → ℕ → ℕ → List Site
stores_written test x v = filter (λ s. is_some_of v (option_and_then written_of (action_at test s))) (stores_of test x)

-- whether there are stores, all by a single thread that is not t
abbrev pub stand_in_one_other : ℕ → List Site → Bool
stand_in_one_other t [] = false
stand_in_one_other t (s ∷ ss) = stand_in s.thread ss && not (s.thread == t)

-- an atom of thread t with a value other than 0, by the stores of its location and by those that were written with the
-- value
abbrev pub kind_of_value : ℕ → ℕ → List Site → List Site → Result AtomKind ProfileKind
kind_of_value t column stores [] = Err NoStore
kind_of_value t column stores (s ∷ []) =
    if stand_in_one_other t stores then Ok (Exact t column s.thread s.place) else Ok (Rf t column s.thread s.place)
kind_of_value t column stores (s ∷ other ∷ ss) = Err Ambiguous

-- an atom of thread t with value 0, which no store was written with, by the stores of its location
abbrev pub kind_of_zero : ℕ → ℕ → List Site → Result AtomKind ProfileKind
kind_of_zero t column [] = Err NoWriter
kind_of_zero t column (s ∷ ss) =
    if not (stand_in s.thread ss) then Err SeveralWriters
    else if s.thread == t then Err OwnWriter
    else Ok (Fr t column s.thread)

-- an atom of thread t that speaks of the reading action at this place, and of location x
abbrev pub kind_at : LitmusTest → ℕ → ℕ → ℕ → ℕ → Result AtomKind ProfileKind
kind_at test t place x v =
    if not (v == 0) then kind_of_value t (column_of test t place) (stores_of test x) (stores_written test x v)
    else if nat_lt 0 (length (stores_written test x 0)) then Err ZeroStored
    else kind_of_zero t (column_of test t place) (stores_of test x)

-- an atom of a thread whose register holds what was read at this place
abbrev pub kind_by_place : LitmusTest → Atom → Option ℕ → Result AtomKind ProfileKind
kind_by_place test atom None = Err NotLoaded
kind_by_place test atom (Some place) =
    kind_at test atom.thread place (site_location test (record { thread = atom.thread; place = place })) atom.value

-- the kind of an atom, or the first reason why it has none
abbrev pub kind_of : LitmusTest → Atom → Result AtomKind ProfileKind
kind_of test atom =
    if not (nat_lt atom.thread (length test.bodies)) then Err NoSuchThread
    else kind_by_place test atom (last_writer_of test atom.thread atom.reg)

-- these are the kinds of the test's atoms, in order
abbrev pub AreKinds : LitmusTest → List AtomKind → Type 0
AreKinds test kinds = AllZip (λ atom kind. kind_of test atom ≡ Ok kind) test.atoms kinds

-- the number of a reason: 1 to 8, in the order of the table
abbrev pub kind_number : ProfileKind → ℕ
kind_number NoSuchThread = 1
kind_number NotLoaded = 2
kind_number NoStore = 3
kind_number Ambiguous = 4
kind_number ZeroStored = 5
kind_number NoWriter = 6
kind_number SeveralWriters = 7
kind_number OwnWriter = 8
