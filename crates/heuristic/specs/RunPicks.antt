-- Laws: what is picked and listed over the logs of a run (the counter is after PerpLE's: Melissaris, Markakis, Shaw and
-- Martonosi, MICRO 2020).
use Rattle.std.specs.Prelude.{◌≡◌, ℕ, ◌<◌, All, Contains, List, length, map}
use Rattle.x86_subset.specs.Conjunctions.{conjunction_of}
use Rattle.x86_subset.specs.Shape.{IsTest}
use Rattle.x86_subset.specs.Test.{HoldsReads, LitmusTest}
use Rattle.tso_machine.specs.Event.{Event}
use Rattle.tso_machine.specs.Run.{IsRunOf}
use Rattle.profile_check.specs.Kinds.{AreKinds}
use Rattle.profile_check.specs.declared.kind.AtomKind.{AtomKind}
use Rattle.load_log.specs.Values.{Values, value_at}
use Rattle.outcome_conv.specs.declared.cond.Cond.{Cond}
use Rattle.outcome_conv.specs.Conds.{conds_of}
use Rattle.outcome_conv.specs.Hits.{hits_of}
use Rattle.outcome_conv.specs.Picks.{link_by, link_in, picked_frame, picked_hits, picked_hits_by}
use Rattle.tso_machine.specs.Log.{AreLogsOf}
use Rattle.heuristic.specs.Steps.{CanPick}

-- law: logs of a run can be picked from by the conditions of the test's atoms, which name the test's threads alone
abbrev pub RunsCanBePicked : Type 0
RunsCanBePicked =
    (test : LitmusTest) (n : ℕ) (run : List Event) (logs : List Values) (kinds : List AtomKind)
    → IsTest test
    → IsRunOf test n run
    → AreKinds test kinds
    → AreLogsOf test run logs
    → CanPick (record { conds = conds_of test kinds; ends = test.ends }) logs n
    × All (λ (c : Cond). (c.reader < length test.bodies) × (c.writer < length test.bodies)) (conds_of test kinds)

-- law: conjunction c of the conditions picks over them what its atoms pick in the run
abbrev pub PicksAreThoseOfRuns : Type 0
PicksAreThoseOfRuns =
    (test : LitmusTest) (n : ℕ) (run : List Event) (logs : List Values) (kinds : List AtomKind) (c i : ℕ)
    → HoldsReads test
    → IsRunOf test n run
    → i < n
    → AreKinds test kinds
    → AreLogsOf test run logs
    → picked_frame (length test.bodies) (conjunction_of test.ends
    (map (link_by (value_at logs) n) (conds_of test kinds)) c) i
    ≡ picked_frame (length test.bodies) (conjunction_of test.ends (map (link_in test n run) kinds) c) i

-- law: the listed hits over them are those of the run, and each of them is a hit
abbrev pub ListedAreHitsOfRuns : Type 0
ListedAreHitsOfRuns =
    (test : LitmusTest) (n : ℕ) (run : List Event) (logs : List Values) (kinds : List AtomKind)
    → HoldsReads test
    → IsRunOf test n run
    → AreKinds test kinds
    → AreLogsOf test run logs
    → (picked_hits_by (value_at logs) (length test.bodies) n test.ends (conds_of test kinds)
    ≡ picked_hits test n run kinds)
    × All (Contains (hits_of test kinds n run)) (picked_hits_by (value_at logs) (length test.bodies) n test.ends
    (conds_of test kinds))
