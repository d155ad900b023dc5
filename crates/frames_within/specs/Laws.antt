-- Laws: what is counted within frames is allowed by x86-TSO (Sewell, Sarkar, Owens, Zappa Nardelli and Myreen, CACM
-- 2010), and of a faithful test so is all that is counted at frames (PerpLE: Melissaris, Markakis, Shaw and Martonosi,
-- MICRO 2020). The laws themselves are this project's own.
use Rattle.std.specs.Prelude.{◌≡◌, ℕ, ◌<◌, ◌≤◌, All, List, [], length}
use Rattle.x86_subset.specs.Test.{LitmusTest, HoldsReads}
use Rattle.tso_machine.specs.Event.{Event}
use Rattle.tso_machine.specs.Log.{AreLogsOf}
use Rattle.tso_machine.specs.Run.{IsRunOf}
use Rattle.load_log.specs.Values.{Values, value_at}
use Rattle.profile_check.specs.Kinds.{AreKinds}
use Rattle.profile_check.specs.Profile.{CheckedTest, IsChecked}
use Rattle.profile_check.specs.declared.kind.AtomKind.{AtomKind}
use Rattle.outcome_conv.specs.Conds.{count_of}
use Rattle.outcome_conv.specs.Hits.{IsFrame, hits_of}
use Rattle.frame_count.specs.Count.{IsOfLogs}
use Rattle.litmus_outcomes.specs.Outcome.{IsAllowed, IsPossible}
use Rattle.litmus_outcomes.specs.Within.{AllHoldAt}
use Rattle.frames_within.specs.Counting.{conds_within, hits_within}
use Rattle.frames_within.specs.Loose.{IsFaithful}

-- law: over the logs of a run, the count by the conditions in numbers is that of the frames within which the condition
-- holds
abbrev pub CountsAreWithin : Type 0
CountsAreWithin =
    (test : LitmusTest) (n : ℕ) (run : List Event) (logs : List Values) (kinds : List AtomKind)
    → HoldsReads test
    → IsRunOf test n run
    → 1 ≤ n
    → AreKinds test kinds
    → AreLogsOf test run logs
    → count_of (value_at logs) test.ends (conds_within test kinds) n (length test.bodies)
    ≡ length (hits_within test kinds n run)

-- law: the conditions in numbers name threads and columns that the logs have, as the counter asks of its caller
abbrev pub LogsMeetTheConditionsWithin : Type 0
LogsMeetTheConditionsWithin =
    (test : LitmusTest) (n : ℕ) (run : List Event) (logs : List Values) (kinds : List AtomKind)
    → HoldsReads test
    → IsRunOf test n run
    → AreKinds test kinds
    → AreLogsOf test run logs
    → All (IsOfLogs logs) (conds_within test kinds)

-- law: where the condition holds within a frame of a run, x86-TSO allows what it asks for, whatever the test is
abbrev pub WithinIsAllowed : Type 0
WithinIsAllowed =
    (checked : CheckedTest) (n : ℕ) (run : List Event)
    → IsChecked checked
    → IsRunOf checked.test n run
    → (hits_within checked.test checked.kinds n run ≡ [] → ⊥)
    → IsAllowed checked.test

-- law: a conjunction of a faithful test whose atoms hold at a frame of a run is the outcome of an execution of the test
abbrev pub FaithfulHitsAreOutcomes : Type 0
FaithfulHitsAreOutcomes =
    (checked : CheckedTest) (n c : ℕ) (run : List Event) (frame : List ℕ)
    → IsChecked checked
    → IsFaithful checked
    → c < length checked.test.ends
    → IsRunOf checked.test n run
    → IsFrame checked.test n frame
    → AllHoldAt checked run frame c
    → IsPossible checked.test c

-- law: the hits of a run of a faithful test are the frames within which the condition holds
abbrev pub FaithfulHitsAreWithin : Type 0
FaithfulHitsAreWithin =
    (checked : CheckedTest) (n : ℕ) (run : List Event)
    → IsChecked checked
    → IsFaithful checked
    → IsRunOf checked.test n run
    → hits_of checked.test checked.kinds n run ≡ hits_within checked.test checked.kinds n run
