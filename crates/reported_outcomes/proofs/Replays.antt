-- The replays of both programs are of one run.
use Rattle.std.proofs.Common.{◌≡◌, ℕ, List, ◌∷◌, ◌++◌, Some, codes, map, refl, sym, ap, subst, ◌∙◌}
use Rattle.std.proofs.lemmas.List.{append_cancel_left}
use Rattle.x86_subset.specs.Test.{LitmusTest}
use Rattle.tso_machine.specs.Event.{Event}
use Rattle.tso_runs.specs.Schedule.{IsScheduled}
use Rattle.perp_base.specs.declared.options.Options.{Options}
use Rattle.perp_base.specs.declared.schedule.Schedule.{Schedule}
use Rattle.litmus_reader.specs.Answer.{Accepted}
use Rattle.litmus_reader.specs.Reading.{Reads}
use Rattle.litmus_reader.proofs.ReadingLaws.{same_test}
use Rattle.run_judge.specs.Judgement.{event_of}
use Rattle.command_words.specs.Job.{Asked, AskedReplay, schedule_by}
use Rattle.command_words.specs.Lines.{HasJobOf, IsJobOf}
use Rattle.command_words.specs.Words.{command_of as perple_command_of}
use Rattle.command_words.specs.declared.job.Command.TheVariants.{Replay as PerpleReplay}
use Rattle.command_words.proofs.Replays.{replays_are_of_jobs}
use Rattle.command_words.proofs.Rows.{same_text}
use Rattle.perple_core.specs.Texts.{schedule_of, text_of}
use Rattle.perple_core.specs.Top.{IsText}
use Rattle.tool_core.specs.Words.{command_of}
use Rattle.tool_core.specs.declared.words.Command.TheVariants.{Replay}
use Rattle.tool_core.proofs.Replayed.{replay_words, told_of}
use Rattle.reported_outcomes.specs.Replayed.{ReplaysAreReported, ReportOf}

-- the words are those of a job of `perple`
job_in : (words : List (List ℕ)) (replay : AskedReplay) → command_of words ≡ Some (Replay replay)
    → (job : Asked) × IsJobOf replay job × (perple_command_of words ≡ Some (PerpleReplay job))
job_in words replay is =
    let has = replay_words replay words is in
    let asked = replays_are_of_jobs has.rest replay has.asked in
    let same : words ≡ codes "replay" ∷ has.rest =
    has.are ∙ ap (λ (name : List ℕ). name ∷ has.rest) (same_text has.name (codes "replay") has.named) in
    (asked.job, asked.is, ap perple_command_of same ∙ asked.command)

-- what it reports of a run of its schedule
report_of_run : (words : List (List ℕ)) (input reported : List ℕ) (job : Asked) (test : LitmusTest) (run : List Event)
    → perple_command_of words ≡ Some (PerpleReplay job) → Reads input (Accepted test) → ReportOf words input reported
    → IsScheduled test job.options (schedule_of job) run → reported ≡ text_of test job run
report_of_run words input reported job test run is reads call scheduled =
    let has = call.whole (PerpleReplay job) input call.before is call.told call.held refl in
    let both : Some (call.before ++ has.answer) ≡ Some (call.before ++ reported) = sym has.is_on ∙ call.got in
    let whole : call.before ++ has.answer ≡ call.before ++ reported = cc in
    let right : IsText (PerpleReplay job) test call.done has.answer =
    subst (λ (t : LitmusTest). IsText (PerpleReplay job) t call.done has.answer)
    (same_test input has.test test has.reading reads) has.right in
    sym (append_cancel_left call.before has.answer reported whole) ∙ right.1.each run scheduled

scheduled_for : (test : LitmusTest) (a b : Options) (p q : Schedule) (run : List Event) → a ≡ b → p ≡ q
    → IsScheduled test a p run → IsScheduled test b q run
scheduled_for test a b p q run e f is =
    subst (λ (s : Schedule). IsScheduled test b s run) f (subst (λ (o : Options). IsScheduled test o p run) e is)

pub replays_are_reported_lem : ReplaysAreReported
replays_are_reported_lem words input told reported replay test is reads call report =
    let said = told_of words input told replay test is reads call in
    let job = job_in words replay is in
    let run = map event_of said.events in
    let scheduled : IsScheduled test job.0.options (schedule_by job.0.order) run =
    scheduled_for test replay.options job.0.options replay.schedule (schedule_by job.0.order) run (sym job.1.options)
    (sym job.1.schedule) said.are.run in
    record {
      job = job.0;
      is = job.1;
      command = job.2;
      events = said.events;
      run = said.are.run;
      tells = said.is;
      reports = report_of_run words input reported job.0 test run job.2 reads report scheduled;
    }
