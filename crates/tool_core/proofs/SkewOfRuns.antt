-- The logs of a run on the field are those of some run, so `skew` can tell of it.
use Rattle.std.proofs.Common.{ℕ, ◌≤◌, List}
use Rattle.x86_subset.specs.Test.{LitmusTest}
use Rattle.load_log.specs.Values.{Values}
use Rattle.tso_words.specs.Seats.{Ended as Closed}
use Rattle.skew.specs.Logged.{CanTell}
use Rattle.skew.proofs.Agreeing.{rows_are_those_of_runs_lem}
use Rattle.program_edge.specs.Field.{HasRunOn}
use Rattle.tool_core.specs.Texts.{options_of}

pub can_tell : (test : LitmusTest) (n : ℕ) (done : Closed) (logs : List Values) → HasRunOn test (options_of n) done logs
    → n ≤ 100000
    → CanTell test n logs
can_tell test n done logs ran few =
    let has = ran.each ran.some_run.run ran.some_run.fits in
    (rows_are_those_of_runs_lem test n ran.some_run.run logs has.is_run few has.are_logs).0
