-- The counters count the frames of a run within which the condition holds, and the report is that of each run with the
-- logs.
use Rattle.std.proofs.Common.{◌≡◌, ◌⊎◌, ℕ, ◌^◌, ◌<◌, ◌≤◌, List, All, Option, Some, None, IsNone, IfSome, Result, Ok, Err, String, string_bytes, Global, IfOk, OnErr, Bool, true, false, nat_lt, if◌then◌else◌, length, inl, inr, refl, sym, ap, subst, ◌∙◌, arith}
use Rattle.x86_subset.specs.Test.{LitmusTest}
use Rattle.tso_machine.specs.Event.{Event}
use Rattle.load_log.specs.Values.{Values, value_at}
use Rattle.profile_check.specs.Profile.{CheckedTest, IsChecked}
use Rattle.outcome_conv.specs.Conditions.{Conditions}
use Rattle.outcome_conv.specs.Conds.{count_of}
use Rattle.frame_count.specs.Count.{IsOfLogs}
use Rattle.frames_within.specs.Counting.{conds_within}
use Rattle.frames_within.proofs.Counts.{counts_are_within_lem}
use Rattle.frames_within.proofs.Narrowed.{logs_meet_the_conditions_within_lem}
use Rattle.tso_words.specs.Seats.{Ended as Closed}
use Rattle.perp_base.specs.declared.failure.NoMemory.{NoMemory}
use Rattle.perp_base.specs.declared.options.Options.{Options}
use Rattle.perp_base.specs.declared.schedule.Schedule.{Schedule}
use Rattle.command_words.specs.Job.{AskedCount}
use Rattle.program_edge.specs.Field.{HasLogs, HasReplayed, HasRunOn, IsStill, SomeRunFits}
use Rattle.tool_core.specs.Counters.{AreOfSomeRun}
use Rattle.tool_core.specs.Counting.{IsCountText, IsRunFor, RanAs, WasMade, count_text_of, run_options, within_count_of}

-- ---- the count

pub conditions_name_logs : (checked : CheckedTest) (options : Options) (logs : List Values) (c : Conditions)
    → IsChecked checked → c ≡ record { conds = conds_within checked.test checked.kinds; ends = checked.test.ends }
    → AreOfSomeRun checked.test options logs → All (IsOfLogs logs) c.conds
conditions_name_logs checked options logs c is e of =
    let has = of.some_run.1 in
    subst (λ (c : Conditions). All (IsOfLogs logs) c.conds) (sym e)
    (logs_meet_the_conditions_within_lem checked.test options.iterations of.some_run.0 logs checked.kinds
    is.test.holds_reads has.is_run is.kinds has.are_logs)

pub within_is : (checked : CheckedTest) (options : Options) (logs : List Values) (c : Conditions) (t found : ℕ)
    → IsChecked checked → c ≡ record { conds = conds_within checked.test checked.kinds; ends = checked.test.ends }
    → 1 ≤ options.iterations → t ≡ length checked.test.bodies
    → found ≡ count_of (value_at logs) c.ends c.conds options.iterations t
    → (run : List Event) → HasLogs checked.test options.iterations run logs
    → found ≡ within_count_of checked options run
within_is checked options logs c t found is e some threads counted run has =
    counted
    ∙ ap (λ (c : Conditions). count_of (value_at logs) c.ends c.conds options.iterations t) e
    ∙ ap (λ t. count_of (value_at logs) checked.test.ends (conds_within checked.test checked.kinds) options.iterations t)
    threads
    ∙ counts_are_within_lem checked.test options.iterations run logs checked.kinds is.test.holds_reads has.is_run some
    is.kinds has.are_logs

-- ---- the run

pub of_field : (test : LitmusTest) (options : Options) (done : Closed) (logs : List Values)
    → HasRunOn test options done logs → AreOfSomeRun test options logs
of_field test options done logs ran =
    record { some_run = (ran.some_run.run, ran.each ran.some_run.run ran.some_run.fits); whole = ran.whole }

pub of_schedule : (test : LitmusTest) (options : Options) (schedule : Schedule) (logs : List Values)
    → HasReplayed test options schedule logs → AreOfSomeRun test options logs
of_schedule test options schedule logs r =
    record { some_run = (r.some_run.0, r.each r.some_run.0 r.some_run.1); whole = r.whole }

-- the text of each run that has these logs
abbrev IsOfLogged : CheckedTest → Options → List Values → List ℕ → Type 0
IsOfLogged checked options logs text =
    (run : List Event) → HasLogs checked.test options.iterations run logs → text ≡ count_text_of checked options run

pub counted_on_field : (checked : CheckedTest) (job : AskedCount) (done : Closed) (logs : List Values)
    (r : Result (String Global) NoMemory) → job.order ≡ None → IsChecked checked
    → HasRunOn checked.test job.options done logs
    → IfOk r (λ text. IsOfLogged checked job.options logs (string_bytes text))
    → IfOk r (λ text. IsCountText checked.test job done (string_bytes text))
counted_on_field checked job done logs (Ok text) e is ran h = record {
  kinds = checked.kinds;
  are = is.kinds;
  made = subst (λ (o : Option Schedule). WasMade o checked.test job.options done) (sym e) ran.some_run;
  each = λ run for. h run (ran.each run
      (subst (λ (o : Option Schedule). IsRunFor o checked.test job.options done run) e for));
}
counted_on_field checked job done logs (Err refused) e is ran h = tt

pub run_made : (test : LitmusTest) (options : Options) (done : Closed) (logs : List Values)
    (r : Result (String Global) NoMemory) → HasRunOn test options done logs
    → OnErr r (IsStill done ⊎ SomeRunFits test options done)
run_made test options done logs (Ok text) ran = tt
run_made test options done logs (Err refused) ran = inr ran.some_run

pub counted_by_schedule : (checked : CheckedTest) (job : AskedCount) (schedule : Schedule) (logs : List Values)
    (r : Result (String Global) NoMemory) → job.order ≡ Some schedule → IsChecked checked
    → HasReplayed checked.test job.options schedule logs
    → IfOk r (λ text. IsOfLogged checked job.options logs (string_bytes text))
    → IfOk r (λ text. (done : Closed) → IsStill done → IsCountText checked.test job done (string_bytes text))
counted_by_schedule checked job schedule logs (Ok text) e is r h = λ done still. record {
  kinds = checked.kinds;
  are = is.kinds;
  made = subst (λ (o : Option Schedule). WasMade o checked.test job.options done) (sym e) (still, r.some_run);
  each = λ run for. h run (r.each run
      (subst (λ (o : Option Schedule). IsRunFor o checked.test job.options done run) e for));
}
counted_by_schedule checked job schedule logs (Err refused) e is r h = tt

-- ---- what a refusal leaves

pub ran_as : (test : LitmusTest) (options : Options) (order : Option Schedule) (done : Closed)
    (r : Result (String Global) NoMemory) → order ≡ None → OnErr r (IsStill done ⊎ SomeRunFits test options done)
    → OnErr r (IsStill done ⊎ RanAs (run_options order options) test done)
ran_as test options order done r e h =
    subst (λ (o : Option Schedule). OnErr r (IsStill done ⊎ RanAs (run_options o options) test done)) (sym e) h
