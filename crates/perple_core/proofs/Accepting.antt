-- What it says of a test that no refusal is due for it.
use Rattle.std.proofs.Common.{◌≡◌, ℕ, ◌+◌, List, [], ◌∷◌, None, Ok, Err, Result, filter_map, refl, sym, ap, subst}
use Rattle.std.specs.Result.{result_ok}
use Rattle.std.specs.List.{AllZip}
use Rattle.x86_subset.specs.Test.{LitmusTest}
use Rattle.x86_subset.specs.declared.test.Atom.{Atom}
use Rattle.litmus_reader.specs.Answer.{Accepted}
use Rattle.profile_check.specs.Kinds.{AreKinds, kind_of}
use Rattle.profile_check.specs.Profile.{Profile, inside, outside, profile_by, profile_from, profile_of}
use Rattle.profile_check.specs.declared.kind.AtomKind.{AtomKind}
use Rattle.profile_check.specs.declared.kind.ProfileKind.{ProfileKind}
use Rattle.command_words.specs.declared.job.Command.{Command}
use Rattle.perple_core.specs.Due.{due_for_profile, due_for_reading}
use Rattle.perple_core.specs.Texts.{kinds_of}

-- where each atom has a kind, the kinds are these
kinds_among : (test : LitmusTest) (atoms : List Atom) (kinds : List AtomKind)
    → AllZip (λ atom kind. kind_of test atom ≡ Ok kind) atoms kinds
    → filter_map (λ atom. result_ok (kind_of test atom)) atoms ≡ kinds
kinds_among test [] [] h = refl
kinds_among test [] (kind ∷ kinds) h = absurd h
kinds_among test (atom ∷ atoms) [] h = absurd h
kinds_among test (atom ∷ atoms) (kind ∷ kinds) h =
    rw h.0 (ap (λ ks. kind ∷ ks) (kinds_among test atoms kinds h.1))

pub kinds_are : (test : LitmusTest) (kinds : List AtomKind) → AreKinds test kinds → kinds_of test ≡ kinds
kinds_are test kinds are = kinds_among test test.atoms kinds are

-- and where no refusal is due, each atom has one
inside_by : (command : Command) (test : LitmusTest) (profile : Profile) → due_for_profile command test profile ≡ None
    → profile ≡ inside
inside_by command test inside e = refl
inside_by command test (outside atom kind) e = absurd (cc)

inside_step : (test : LitmusTest) (n : ℕ) (atom : Atom) (atoms : List Atom) (r : Result AtomKind ProfileKind)
    → kind_of test atom ≡ r
    → profile_by r n (profile_from test (n + 1) atoms) ≡ inside
    → (profile_from test (n + 1) atoms ≡ inside → AllZip (λ atom kind. kind_of test atom ≡ Ok kind) atoms
    (filter_map (λ atom. result_ok (kind_of test atom)) atoms))
    → AllZip (λ atom kind. kind_of test atom ≡ Ok kind) (atom ∷ atoms)
    (filter_map (λ atom. result_ok (kind_of test atom)) (atom ∷ atoms))
inside_step test n atom atoms (Ok kind) e p rest =
    let is : filter_map (λ atom. result_ok (kind_of test atom)) (atom ∷ atoms) ≡ kind
    ∷ filter_map (λ atom. result_ok (kind_of test atom)) atoms = rw e refl in
    subst (AllZip (λ atom kind. kind_of test atom ≡ Ok kind) (atom ∷ atoms)) (sym is) (e, rest p)
inside_step test n atom atoms (Err why) e p rest = absurd (cc)

kinds_from : (test : LitmusTest) (n : ℕ) (atoms : List Atom) → profile_from test n atoms ≡ inside
    → AllZip (λ atom kind. kind_of test atom ≡ Ok kind) atoms (filter_map (λ atom. result_ok (kind_of test atom)) atoms)
kinds_from test n [] p = tt
kinds_from test n (atom ∷ atoms) p =
    inside_step test n atom atoms (kind_of test atom) refl p (kinds_from test (n + 1) atoms)

pub none_due_has_kinds : (command : Command) (test : LitmusTest) → due_for_reading command (Accepted test) ≡ None
    → AreKinds test (kinds_of test)
none_due_has_kinds command test e = kinds_from test 1 test.atoms (inside_by command test (profile_of test) e)
