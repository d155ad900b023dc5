-- What a count tells of the test.
use Rattle.std.proofs.Common.{◌≡◌, ◌∙◌, ◌++◌, ◌<◌, ℕ, zero, suc, Bool, true, false, List, [], ◌∷◌, Option, Some, None, codes, length, nat_lt, refl, reverse, sym, ap, subst, arith}
use Rattle.std.proofs.lemmas.List.{append_assoc, reverse-append}
use Rattle.x86_subset.specs.Test.{LitmusTest}
use Rattle.tso_machine.specs.Event.{Event}
use Rattle.tso_machine.specs.Run.{IsRunOf}
use Rattle.tso_words.specs.Seats.{Ended as Closed}
use Rattle.tso_runs.proofs.Fitting.{fitting_run, scheduled_run}
use Rattle.perp_base.specs.declared.options.Options.{Options}
use Rattle.perp_base.specs.declared.schedule.Schedule.{Schedule}
use Rattle.profile_check.specs.Profile.{CheckedTest}
use Rattle.litmus_reader.specs.Answer.{Accepted}
use Rattle.litmus_reader.specs.Reading.{Reads}
use Rattle.litmus_reader.proofs.TestLaws.{reads_tests}
use Rattle.litmus_outcomes.specs.Outcome.{IsAllowed}
use Rattle.frames_within.specs.Counting.{hits_within}
use Rattle.frames_within.proofs.Counts.{within_is_allowed_lem}
use Rattle.frames_within.proofs.Faithful.{faithful_hits_are_within_lem}
use Rattle.report_text.specs.Report.{count_report_of, head_lines, seen_line}
use Rattle.report_text.specs.Words.{number_line}
use Rattle.report_text.specs.declared.rows.CountReport.{CountReport}
use Rattle.command_words.specs.Job.{AskedCount}
use Rattle.tool_core.specs.Counting.{IsCountText, IsRunFor, WasMade, count_rows_of, count_text_of, within_count_of}
use Rattle.tool_core.specs.Laws.{FaithfulCountsAreHits, SeenWithinIsAllowed}
use Rattle.tool_core.specs.declared.words.Command.TheVariants.{Count}
use Rattle.tool_core.proofs.Endings.{whole_test}
use Rattle.tool_core.proofs.Repeats.{answer_in}

-- ---- the end of a report

second : List ℕ → ℕ
second [] = 0
second (a ∷ []) = 0
second (a ∷ b ∷ rest) = b

-- the last byte but one
penultimate : List ℕ → ℕ
penultimate text = second (reverse text)

ends_yes : (before : List ℕ) → penultimate (before ++ codes "Seen yes\n") ≡ 115
unfolding penultimate second
ends_yes before = rw (reverse-append before (codes "Seen yes\n")) refl

ends_no : (before : List ℕ) → penultimate (before ++ codes "Seen no\n") ≡ 111
unfolding penultimate second
ends_no before = rw (reverse-append before (codes "Seen no\n")) refl

differ : (a b : ℕ) → a ≡ b → a ≡ 115 → b ≡ 111 → ⊥
differ a b same is other = omega arith

-- what stands before the last line of a report
front_of : CountReport → List ℕ
front_of r =
    head_lines r.name r.threads r.iterations r.negated r.atoms ++ number_line (codes "Frames") r.frames
    ++ number_line (codes "Within") r.within

none_seen : (r : CountReport) → r.within ≡ 0 → count_report_of r ≡ front_of r ++ codes "Seen no\n"
unfolding count_report_of front_of seen_line
none_seen r none = rw none (simp append_assoc)

seen_some : (r : CountReport) (before : List ℕ) → before ++ codes "Seen yes\n" ≡ count_report_of r → r.within ≡ 0 → ⊥
seen_some r before e none =
    differ (penultimate (before ++ codes "Seen yes\n")) (penultimate (front_of r ++ codes "Seen no\n"))
    (ap penultimate (e ∙ none_seen r none)) (ends_yes before) (ends_no (front_of r))

-- ---- the run that was counted

run_of : (order : Option Schedule) (test : LitmusTest) (options : Options) (done : Closed)
    → WasMade order test options done
    → (run : List Event) × IsRunFor order test options done run × IsRunOf test options.iterations run
run_of None test options done made =
    (made.run, made.fits, fitting_run test options done.lists made.run made.fits)
run_of (Some schedule) test options done made =
    (made.1.0, made.1.1, scheduled_run test options schedule made.1.0 made.1.1)

allowed_by : (test : LitmusTest) (input before : List ℕ) (job : AskedCount) (done : Closed)
    → Reads input (Accepted test) → IsCountText test job done (before ++ codes "Seen yes\n") → IsAllowed test
allowed_by test input before job done reading is =
    let checked : CheckedTest = record { test = test; kinds = is.kinds } in
    let made = run_of job.order test job.options done is.made in
    within_is_allowed_lem checked job.options.iterations made.0
    (record { kinds = is.are; test = reads_tests input test reading }) made.2
    (λ none. seen_some (count_rows_of test job.options (within_count_of checked job.options made.0)) before
    (is.each made.0 made.1) (ap length none))

pub seen_within_is_allowed_lem : SeenWithinIsAllowed
seen_within_is_allowed_lem words input before job test is reading call =
    let a = answer_in words (Count job) input (before ++ codes "Seen yes\n") is call in
    let same : a.test ≡ test =
    whole_test input a.parts a.test test a.accepts.parts_are a.accepts.reading reading in
    allowed_by test input before job call.done reading
    (subst (λ (t : LitmusTest). IsCountText t job call.done (before ++ codes "Seen yes\n")) same a.right)

pub faithful_counts_are_hits_lem : FaithfulCountsAreHits
faithful_counts_are_hits_lem checked options run is faithful runs =
    ap length (sym (faithful_hits_are_within_lem checked options.iterations run is faithful runs))
