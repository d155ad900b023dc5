-- What forbids a test, and the reports of a forbidden one.
use Rattle.std.proofs.Common.{◌≡◌, ℕ, zero, suc, ◌*◌, ◌^◌, ◌≤◌, ◌++◌, true, List, [], ◌∷◌, All, Contains, Global, Vec, length, filter, map, codes, decimal, refl, sym, ap, ap₂, append-nil, append_assoc, inl, inr, subst, ◌∙◌, arith}
use native.Mathlib.Nat.{pow-suc}
use Rattle.std.proofs.lemmas.Fmt.{decimal_digit}
use Rattle.std.specs.List.{range_with_len}
use Rattle.x86_subset.specs.Test.{LitmusTest}
use Rattle.tso_machine.specs.Event.{Event}
use Rattle.tso_machine.specs.Frame.{frame_of, frames_of}
use Rattle.tso_machine.specs.Run.{IsRunOf}
use Rattle.profile_check.specs.Profile.{CheckedTest, IsChecked}
use Rattle.profile_check.specs.declared.kind.AtomKind.{AtomKind}
use Rattle.outcome_conv.specs.Hits.{hits_of, is_hit}
use Rattle.outcome_conv.specs.Picks.{picked_hits}
use Rattle.outcome_conv.proofs.Picks.{listed_are_hits_lem}
use Rattle.perp_base.specs.declared.options.Options.{Options}
use Rattle.tso_runs.specs.Fits.{Fits}
use Rattle.tso_runs.specs.Schedule.{IsScheduled}
use Rattle.tso_runs.proofs.Fitting.{fitting_run, scheduled_run}
use Rattle.command_words.specs.Job.{Asked as Job}
use Rattle.command_words.specs.declared.job.Count.{Count}
use Rattle.command_words.specs.declared.job.Count.TheVariants.{Exhaustive, Heuristic, Both}
use Rattle.program_edge.specs.Quantified.{is_negated}
use Rattle.report_text.specs.Report.{ReportRows, asked_line, count_lines, head_lines, heuristic_lines, hit_lines, report_of, seen_line}
use Rattle.report_text.specs.Words.{number_line}
use Rattle.perple_core.specs.Texts.{asked, asks_exhaustive, asks_heuristic, frame_count_of, hit_count_of, listed_hits_of, report_rows, text_of}
use Rattle.perple_core.proofs.Accepting.{kinds_are}
use Rattle.verdict.specs.declared.node.Node.{Node}
use Rattle.verdict.proofs.Forward.{cycle_at, cycles_forbid_lem, none_hits}
use Rattle.decision.specs.Decisions.{NeverHolds}
use Rattle.decision.proofs.HiddenReads.{found_never_holds}
use Rattle.forbidden_runs.specs.Forbidden.{HasReason, IsForbidden}
use Rattle.forbidden_runs.specs.Laws.{ForbiddenReplaysGiveNoOtherText, ForbiddenRunsGiveNoOtherText, ForbiddenRunsReportNothing, ForbiddenVerdictsForbid, ReasonsForbid}
use Rattle.forbidden_runs.specs.Texts.{head_text, zero_lines, zero_text}

-- ---- what forbids

reason_forbids : (checked : CheckedTest) (c : ℕ) → IsChecked checked → HasReason checked c → NeverHolds checked c
reason_forbids checked c is (inl cycle) =
    λ n run frame runs at. cycles_forbid_lem checked n c run frame cycle.0 is runs at cycle.1
reason_forbids checked c is (inr hidden) = found_never_holds checked c hidden.0 is hidden.1

-- the kinds that a check found are those that a text has
pub reasons_forbid : ReasonsForbid
reasons_forbid checked is reasons =
    subst (λ (kinds : List AtomKind). IsForbidden (record { test = checked.test; kinds = kinds }))
    (sym (kinds_are checked.test checked.kinds is.kinds))
    (λ c there. reason_forbids checked c is (reasons c there))

pub verdicts_forbid : ForbiddenVerdictsForbid
verdicts_forbid checked cycles is verdict =
    let nodes : List (List Node) = map (λ (cycle : Vec Node Global). cycle.items) cycles.items in
    reasons_forbid checked is (λ c there. inl (cycle_at checked (length checked.test.ends) c nodes verdict there))

-- ---- no hits

zero_power : (t : ℕ) → 1 ≤ t → 0 ^ t ≡ 0
zero_power zero some = absurd (omega arith)
zero_power (suc t) some = let e : 0 ^ suc t ≡ 0 ^ t * 0 = pow-suc 0 t in omega arith

-- no iterations have no frames
no_frames : (t : ℕ) → 1 ≤ t → frames_of 0 t ≡ []
no_frames t some = ap (λ count. map (frame_of 0 t) (range_with_len 0 count)) (zero_power t some)

no_hits : (checked : CheckedTest) (n : ℕ) (run : List Event)
    → IsChecked checked → IsForbidden checked → IsRunOf checked.test n run
    → hits_of checked.test checked.kinds n run ≡ []
no_hits checked zero run is forbidden runs =
    ap (filter (is_hit checked.test checked.kinds run)) (no_frames (length checked.test.bodies) is.test.some_threads)
no_hits checked (suc n) run is forbidden runs =
    none_hits checked (suc n) run (omega arith) (λ c there frame at. forbidden c there (suc n) run frame runs at)

none_among : (listed : List (List ℕ)) → All (Contains []) listed → listed ≡ []
none_among [] all = refl
none_among (hit ∷ hits) all =
    let c : Contains [] hit = all 0 hit (omega arith) in
    let few = c.1 in
    absurd (omega arith)

none_listed : (checked : CheckedTest) (n : ℕ) (run : List Event)
    → IsChecked checked → IsRunOf checked.test n run → hits_of checked.test checked.kinds n run ≡ []
    → picked_hits checked.test n run checked.kinds ≡ []
none_listed checked n run is runs none =
    none_among (picked_hits checked.test n run checked.kinds)
    (subst (λ (hits : List (List ℕ)). All (Contains hits) (picked_hits checked.test n run checked.kinds))
    none
    (listed_are_hits_lem checked.test n run checked.kinds is.test.holds_reads runs is.kinds))

-- ---- the report of so many hits, and of these listed ones

abbrev rows_of_counts : LitmusTest → Options → Count → ℕ → List (List ℕ) → ReportRows
rows_of_counts test options count hits listed = record {
  name = test.name;
  threads = length test.bodies;
  iterations = options.iterations;
  negated = is_negated test.quantifier;
  atoms = length test.atoms;
  frames = asked (asks_exhaustive count) (frame_count_of test options);
  exhaustive = asked (asks_exhaustive count) hits;
  hits = asked (asks_heuristic count) listed;
  show_hits = true;
}

abbrev report_by : LitmusTest → Job → List Event → List AtomKind → List ℕ
report_by test job run kinds =
    let n = job.options.iterations in
    report_of (rows_of_counts test job.options job.count (length (hits_of test kinds n run))
    (picked_hits test n run kinds))

text_is : (checked : CheckedTest) (job : Job) (run : List Event) → IsChecked checked
    → text_of checked.test job run ≡ report_by checked.test job run checked.kinds
unfolding text_of report_rows hit_count_of listed_hits_of
text_is checked job run is = ap (report_by checked.test job run) (kinds_are checked.test checked.kinds is.kinds)

word_zero : (word : List ℕ) → number_line word 0 ≡ word ++ codes " 0\n"
unfolding number_line
word_zero word =
    let e : decimal 0 ≡ 48 ∷ [] = decimal_digit 0 (omega arith) in
    rw e (simp append_assoc)

zero_report : (test : LitmusTest) (options : Options) (count : Count)
    → report_of (rows_of_counts test options count 0 [])
    ≡ head_text test options.iterations ++ zero_lines count (frame_count_of test options) ++ codes "Seen no\n"
unfolding report_of head_lines count_lines asked_line heuristic_lines hit_lines seen_line
zero_report test options Exhaustive = rw (word_zero (codes "Exhaustive"), append-nil) refl
zero_report test options Heuristic = rw (word_zero (codes "Heuristic")) refl
zero_report test options Both = rw (word_zero (codes "Exhaustive"), word_zero (codes "Heuristic")) refl

-- ---- the laws

-- a run without a hit
pub none_seen : (checked : CheckedTest) (job : Job) (run : List Event) → IsChecked checked
    → IsRunOf checked.test job.options.iterations run
    → hits_of checked.test checked.kinds job.options.iterations run ≡ []
    → text_of checked.test job run ≡ zero_text checked.test job
none_seen checked job run is runs none =
    text_is checked job run is
    ∙ ap₂ (λ hits listed. report_of (rows_of_counts checked.test job.options job.count hits listed))
    (ap length none) (none_listed checked job.options.iterations run is runs none)
    ∙ zero_report checked.test job.options job.count

pub runs_report_nothing : ForbiddenRunsReportNothing
runs_report_nothing checked job run is forbidden runs =
    none_seen checked job run is runs (no_hits checked job.options.iterations run is forbidden runs)

pub runs_give_no_other_text : ForbiddenRunsGiveNoOtherText
runs_give_no_other_text checked job done text is forbidden right =
    let fits : Fits checked.test job.options done.lists right.some_run.run = right.some_run.fits in
    right.each right.some_run.run fits
    ∙ runs_report_nothing checked job right.some_run.run is forbidden
    (fitting_run checked.test job.options done.lists right.some_run.run fits)

pub replays_give_no_other_text : ForbiddenReplaysGiveNoOtherText
replays_give_no_other_text checked job schedule text is forbidden right =
    let run = right.some_run.0 in
    let scheduled : IsScheduled checked.test job.options schedule run = right.some_run.1 in
    right.each run scheduled
    ∙ runs_report_nothing checked job run is forbidden
    (scheduled_run checked.test job.options schedule run scheduled)
