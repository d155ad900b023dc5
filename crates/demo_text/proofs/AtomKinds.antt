-- The kinds of the atoms of a demo's test.
use Rattle.std.proofs.Common.{◌≡◌, ℕ, ◌+◌, ◌&&◌, Bool, true, false, List, [], ◌∷◌, refl, ap, ◌∙◌, Result, Ok, Err}
use Rattle.std.specs.Prelude.{is_ok}
use Rattle.std.specs.List.{AllZip}
use Rattle.std.proofs.lemmas.Bool.{and_parts}
use Rattle.x86_subset.specs.declared.test.Atom.{Atom}
use Rattle.x86_subset.specs.Test.{LitmusTest}
use Rattle.profile_check.specs.declared.kind.AtomKind.{AtomKind}
use Rattle.profile_check.specs.declared.kind.ProfileKind.{ProfileKind}
use Rattle.profile_check.specs.Kinds.{kind_of}
use Rattle.profile_check.specs.Profile.{profile_by, profile_from, inside}
use Rattle.demo_text.proofs.Codes.{atom_by, atoms_by}

-- the atom of thread t has a kind with either value
abbrev both_ok : LitmusTest → ℕ → Bool
both_ok test t = is_ok (kind_of test (atom_by t true)) && is_ok (kind_of test (atom_by t false))

-- so have those of the threads from t on
abbrev pub all_ok : LitmusTest → ℕ → List Bool → Bool
all_ok test t [] = true
all_ok test t (o ∷ os) = both_ok test t && all_ok test (t + 1) os

ok_at : (test : LitmusTest) (t : ℕ) (o : Bool) → both_ok test t ≡ true → is_ok (kind_of test (atom_by t o)) ≡ true
ok_at test t true h = (and_parts _ _ h).0
ok_at test t false h = (and_parts _ _ h).1

-- kinds of the atoms from thread t on
pub record KindsFrom (test : LitmusTest) (t : ℕ) (os : List Bool) : Type 0 where
  pub kinds : List AtomKind
  pub are : AllZip (λ atom kind. kind_of test atom ≡ Ok kind) (atoms_by t os) kinds

kind_then : (test : LitmusTest) (t : ℕ) (o : Bool) (os : List Bool) (r : Result AtomKind ProfileKind)
    → kind_of test (atom_by t o) ≡ r → is_ok r ≡ true
    → KindsFrom test (t + 1) os → KindsFrom test t (o ∷ os)
kind_then test t o os (Ok kind) is ok more = record { kinds = kind ∷ more.kinds; are = (is, more.are) }
kind_then test t o os (Err e) is ok more = cc

pub kinds_from : (test : LitmusTest) (t : ℕ) (os : List Bool) → all_ok test t os ≡ true → KindsFrom test t os
kinds_from test t [] h = record { kinds = []; are = tt }
kinds_from test t (o ∷ os) h =
    let parts = and_parts (both_ok test t) (all_ok test (t + 1) os) h in
    kind_then test t o os (kind_of test (atom_by t o)) refl (ok_at test t o parts.0)
    (kinds_from test (t + 1) os parts.1)

-- atoms that have kinds are inside the profile
pub all_inside : (test : LitmusTest) (n : ℕ) (atoms : List Atom) (kinds : List AtomKind)
    → AllZip (λ atom kind. kind_of test atom ≡ Ok kind) atoms kinds → profile_from test n atoms ≡ inside
all_inside test n [] [] are = refl
all_inside test n [] (kind ∷ kinds) are = absurd are
all_inside test n (atom ∷ atoms) [] are = absurd are
all_inside test n (atom ∷ atoms) (kind ∷ kinds) are =
    ap (λ r. profile_by r n (profile_from test (n + 1) atoms)) are.0 ∙ all_inside test (n + 1) atoms kinds are.1
