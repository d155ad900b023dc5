-- Laws: what the conditions, the count and the picks in numbers mean in a run of x86-TSO (the counters are after
-- PerpLE: Melissaris, Markakis, Shaw and Martonosi, MICRO 2020).
use Rattle.std.specs.Prelude.{◌≡◌, ℕ, ◌<◌, ◌≤◌, Contains, All, false, None, Some, List, Ok, find, length, map}
use Rattle.x86_subset.specs.Conjunctions.{conjunction_of}
use Rattle.x86_subset.specs.Test.{LitmusTest, HoldsReads}
use Rattle.x86_subset.specs.declared.test.Atom.{Atom}
use Rattle.tso_machine.specs.Event.{Event}
use Rattle.tso_machine.specs.Run.{IsRunOf}
use Rattle.seq_conv.specs.declared.site.Origin.{Origin}
use Rattle.std.specs.List.{list_any}
use Rattle.profile_check.specs.Kinds.{AreKinds, kind_of}
use Rattle.profile_check.specs.declared.kind.AtomKind.{AtomKind}
use Rattle.outcome_conv.specs.Choices.{choice_in, choice_of}
use Rattle.outcome_conv.specs.Conditions.{IsOfTest}
use Rattle.outcome_conv.specs.Conds.{cond_holds, cond_of, conds_of, count_of, logged_in}
use Rattle.outcome_conv.specs.Hits.{IsFrame, hits_of}
use Rattle.outcome_conv.specs.Holds.{holds_in, is_write_of}
use Rattle.outcome_conv.specs.Picks.{Chosen, Link, chosen_by, is_due, link_by, link_in, picked_hits_by, picked_hits, picked_frame}

-- law: the conditions of the test's atoms name its threads, and columns of their readers
abbrev pub ConditionsNameTheTest : Type 0
ConditionsNameTheTest =
    (test : LitmusTest) (kinds : List AtomKind)
    → HoldsReads test
    → AreKinds test kinds
    → All (IsOfTest test) (conds_of test kinds)

-- law: in a run the condition of an atom holds of the logs at a frame exactly where the atom holds
abbrev pub ConditionsAgree : Type 0
ConditionsAgree =
    (test : LitmusTest) (n : ℕ) (run : List Event) (frame : List ℕ) (atom : Atom) (kind : AtomKind)
    → HoldsReads test
    → IsRunOf test n run
    → IsFrame test n frame
    → kind_of test atom ≡ Ok kind
    → cond_holds (logged_in test run) frame (cond_of test kind) ≡ holds_in test run frame kind

-- law: so the conditions of the test's atoms count the hits
abbrev pub CountsAgree : Type 0
CountsAgree =
    (test : LitmusTest) (n : ℕ) (run : List Event) (kinds : List AtomKind)
    → HoldsReads test
    → IsRunOf test n run
    → 1 ≤ n
    → AreKinds test kinds
    → count_of (logged_in test run) test.ends (conds_of test kinds) n (length test.bodies)
    ≡ length (hits_of test kinds n run)

-- law: where the reader is in iteration i, the condition chooses the iteration that the atom chooses
abbrev pub ChoicesAgree : Type 0
ChoicesAgree =
    (test : LitmusTest) (n : ℕ) (run : List Event) (i : ℕ) (atom : Atom) (kind : AtomKind)
    → HoldsReads test
    → IsRunOf test n run
    → i < n
    → kind_of test atom ≡ Ok kind
    → choice_of (logged_in test run) n (cond_of test kind) i ≡ choice_in test n run kind i

-- law: so the conditions of conjunction c pick the heuristic frame of iteration i
abbrev pub PicksAgree : Type 0
PicksAgree =
    (test : LitmusTest) (n : ℕ) (run : List Event) (kinds : List AtomKind) (c i : ℕ)
    → HoldsReads test
    → IsRunOf test n run
    → i < n
    → AreKinds test kinds
    → picked_frame (length test.bodies) (conjunction_of test.ends
    (map (link_by (logged_in test run) n) (conds_of test kinds)) c) i
    ≡ picked_frame (length test.bodies) (conjunction_of test.ends (map (link_in test n run) kinds) c) i

-- law: and list the hits of the run
abbrev pub HitsAgree : Type 0
HitsAgree =
    (test : LitmusTest) (n : ℕ) (run : List Event) (kinds : List AtomKind)
    → HoldsReads test
    → IsRunOf test n run
    → AreKinds test kinds
    → picked_hits_by (logged_in test run) (length test.bodies) n test.ends (conds_of test kinds)
    ≡ picked_hits test n run kinds

-- law: each listed hit is a hit
abbrev pub ListedAreHits : Type 0
ListedAreHits =
    (test : LitmusTest) (n : ℕ) (run : List Event) (kinds : List AtomKind)
    → HoldsReads test
    → IsRunOf test n run
    → AreKinds test kinds
    → All (Contains (hits_of test kinds n run)) (picked_hits test n run kinds)

-- law: picks end only where no atom is to choose: each atom chooses at most once, so as many choices as there are atoms
-- are enough
abbrev pub PicksAreWhole : Type 0
PicksAreWhole =
    (links : List Link) (chosen done : Chosen)
    → chosen_by (length links) links chosen ≡ Some done
    → find (is_due done) links ≡ None

-- law: in a run of n iterations no store of iteration n or a later one is written, so no write follows the last store
-- of the last one
abbrev pub NothingFollowsTheLast : Type 0
NothingFollowsTheLast =
    (test : LitmusTest) (n : ℕ) (run : List Event) (o : Origin)
    → IsRunOf test n run
    → n ≤ o.iteration
    → list_any (is_write_of o) run ≡ false
