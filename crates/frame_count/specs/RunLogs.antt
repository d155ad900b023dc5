-- Laws of the logs of a run, and of what is counted over them (the counter is after PerpLE's: Melissaris, Markakis,
-- Shaw and Martonosi, MICRO 2020).
use Rattle.std.specs.Prelude.{◌≡◌, ℕ, ◌-◌, ◌≤◌, All, List, count_by, length}
use Rattle.std.specs.List.{range_with_len}
use Rattle.x86_subset.specs.Test.{HoldsReads, LitmusTest}
use Rattle.tso_machine.specs.Event.{Event}
use Rattle.tso_machine.specs.Log.{AreLogsOf}
use Rattle.tso_machine.specs.Run.{IsRunOf}
use Rattle.profile_check.specs.Kinds.{AreKinds}
use Rattle.profile_check.specs.declared.kind.AtomKind.{AtomKind}
use Rattle.load_log.specs.Values.{AreWhole, Values, value_at}
use Rattle.outcome_conv.specs.Conds.{conds_hold, conds_of, count_of, logged_in}
use Rattle.outcome_conv.specs.Hits.{IsFrame, hits_of, is_hit}
use Rattle.frame_count.specs.Count.{IsOfLogs, with_last}

-- law: the logs of a run give its logged values. So what is said of these by the laws of conditions holds of the logs.
abbrev pub LogsGiveTheValues : Type 0
LogsGiveTheValues =
    (test : LitmusTest) (n : ℕ) (run : List Event) (logs : List Values)
    → IsRunOf test n run
    → AreLogsOf test run logs
    → value_at logs ≡ logged_in test run

-- law: they are whole, and the conditions of the test's atoms name threads and columns of them, as the counts ask
abbrev pub LogsMeetTheConditions : Type 0
LogsMeetTheConditions =
    (test : LitmusTest) (n : ℕ) (run : List Event) (logs : List Values) (kinds : List AtomKind)
    → HoldsReads test
    → IsRunOf test n run
    → AreKinds test kinds
    → AreLogsOf test run logs
    → AreWhole n logs × All (IsOfLogs logs) (conds_of test kinds)

-- law: the count over them is the number of hits of the run
abbrev pub CountsAreHits : Type 0
CountsAreHits =
    (test : LitmusTest) (n : ℕ) (run : List Event) (logs : List Values) (kinds : List AtomKind)
    → HoldsReads test
    → IsRunOf test n run
    → 1 ≤ n
    → AreKinds test kinds
    → AreLogsOf test run logs
    → count_of (value_at logs) test.ends (conds_of test kinds) n (length test.bodies)
    ≡ length (hits_of test kinds n run)

-- law: and the count of a row is the number of frames of the row that are hits
abbrev pub RowsCountHits : Type 0
RowsCountHits =
    (test : LitmusTest) (n : ℕ) (run : List Event) (logs : List Values) (kinds : List AtomKind) (frame : List ℕ)
    (from to : ℕ)
    → HoldsReads test
    → IsRunOf test n run
    → AreKinds test kinds
    → AreLogsOf test run logs
    → IsFrame test n frame
    → to ≤ n
    → count_by (λ m. conds_hold (value_at logs) test.ends (conds_of test kinds) (with_last frame m))
    (range_with_len from (to - from))
    ≡ count_by (λ m. is_hit test kinds run (with_last frame m)) (range_with_len from (to - from))
