-- Lemmas on a list of kinds that stands beside a list of atoms.
use Rattle.std.proofs.Common.{◌≡◌, ◌∙◌, ℕ, zero, suc, ◌≤◌, Some, Ok, IfSome, List, [], ◌∷◌, length, map, take, slice_get, sym, ap, refl, arith}
use Rattle.std.specs.List.{AllZip}
use Rattle.x86_subset.specs.Test.{LitmusTest}
use Rattle.x86_subset.specs.declared.test.Atom.{Atom}
use Rattle.profile_check.specs.Kinds.{AreKinds, kind_of}
use Rattle.profile_check.specs.declared.kind.AtomKind.{AtomKind}

-- these are the kinds of these atoms
abbrev Kept : LitmusTest → List Atom → List AtomKind → Type 0
Kept test atoms kinds = AllZip (λ atom kind. kind_of test atom ≡ Ok kind) atoms kinds

kept_by : (test : LitmusTest) (atoms : List Atom) (kinds : List AtomKind) (i : ℕ) → length atoms ≤ i →
    map (λ (kind : AtomKind). Ok kind) kinds ≡ map (kind_of test) (take i atoms) → Kept test atoms kinds
kept_by test [] [] zero le e = tt
kept_by test [] [] (suc i) le e = tt
kept_by test [] (kind ∷ kinds) zero le e = cc
kept_by test [] (kind ∷ kinds) (suc i) le e = cc
kept_by test (atom ∷ atoms) kinds zero le e = absurd (omega arith)
kept_by test (atom ∷ atoms) [] (suc i) le e = cc
kept_by test (atom ∷ atoms) (kind ∷ kinds) (suc i) le e =
    let here : Ok kind ≡ kind_of test atom = cc in
    let rest : map (λ (kind : AtomKind). Ok kind) kinds ≡ map (kind_of test) (take i atoms) = cc in
    (sym here, kept_by test atoms kinds i (omega arith) rest)

-- the kinds that were found for all atoms are those of the test
pub are_kinds : (test : LitmusTest) (kinds : List AtomKind) (i : ℕ) → length test.atoms ≤ i →
    map (λ (kind : AtomKind). Ok kind) kinds ≡ map (kind_of test) (take i test.atoms) → AreKinds test kinds
are_kinds test kinds i le e = kept_by test test.atoms kinds i le e

length_by : (test : LitmusTest) (atoms : List Atom) (kinds : List AtomKind) → Kept test atoms kinds
    → length atoms ≡ length kinds
length_by test [] [] h = refl
length_by test [] (kind ∷ kinds) h = absurd h
length_by test (atom ∷ atoms) [] h = absurd h
length_by test (atom ∷ atoms) (kind ∷ kinds) h = ap suc (length_by test atoms kinds h.1)

-- there are as many kinds as atoms
pub length-kinds : (test : LitmusTest) (kinds : List AtomKind) → AreKinds test kinds → length test.atoms ≡ length kinds
length-kinds test kinds h = length_by test test.atoms kinds h

kind_by : (test : LitmusTest) (atoms : List Atom) (kinds : List AtomKind) (i : ℕ) (kind : AtomKind)
    → Kept test atoms kinds → slice_get kinds i ≡ Some kind →
    IfSome (slice_get atoms i) (λ atom. kind_of test atom ≡ Ok kind)
kind_by test [] kinds i kind h e = tt
kind_by test (atom ∷ atoms) [] i kind h e = absurd h
kind_by test (atom ∷ atoms) (k ∷ kinds) zero kind h e =
    let same : k ≡ kind = cc in h.0 ∙ ap (λ (z : AtomKind). Ok z) same
kind_by test (atom ∷ atoms) (k ∷ kinds) (suc i) kind h e = kind_by test atoms kinds i kind h.1 e

-- the kind at a place is that of the atom there
pub kind_kept : (test : LitmusTest) (kinds : List AtomKind) (i : ℕ) (kind : AtomKind) → AreKinds test kinds
    → slice_get kinds i ≡ Some kind →
    IfSome (slice_get test.atoms i) (λ atom. kind_of test atom ≡ Ok kind)
kind_kept test kinds i kind h e = kind_by test test.atoms kinds i kind h e
