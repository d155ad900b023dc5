-- The run of finished walkers: their parts merge with the flat history of the words, and its logs are theirs.
use Rattle.std.proofs.Common.{◌≡◌, ⊎_elim, ℕ, zero, suc, ◌*◌, ◌<◌, ◌≤◌, List, [], ◌∷◌, length, get_or, None, refl, sym, ap, ◌∙◌, subst, arith}
use Rattle.std.specs.List.{AllZip, filter_map}
use Rattle.std.proofs.lemmas.Bool.{cases_lt}
use Rattle.std.proofs.lemmas.Slice.Zip.{AllZip-long}
use Rattle.x86_subset.specs.Test.{LitmusTest, columns_of}
use Rattle.tso_machine.specs.Event.{Event}
use Rattle.tso_machine.specs.Log.{value_read, log_of}
use Rattle.tso_machine.specs.Part.{part_of}
use Rattle.tso_machine.specs.Run.{IsRunOf}
use Rattle.tso_machine.proofs.ReadEvents.{logs_are_whole_lem}
use Rattle.load_log.specs.Values.{Values}
use Rattle.tso_words.specs.declared.step.Step.{Step}
use Rattle.tso_words.specs.History.{History, ArePartsOfOne, FindsAll, history_part, list_at, memory_after_step, zeros}
use Rattle.tso_words.proofs.Keeping.{list_at-eight}
use Rattle.perp_base.specs.declared.options.Options.{Options}
use Rattle.perp_loop.specs.Crews.{Enrolled, Job, IsOfJob, Claims, Each, AreFinishedAs, AreLists, AreLogs, IsLogOf, HaveValuesOf, AreWholeFor}
use Rattle.tso_runs.specs.Fits.{EndsWith, Fits, IsLawful}
use Rattle.tso_runs.specs.Merging.{IsOfLists}
use Rattle.tso_runs.specs.SharedSteps.{shared_steps}
use Rattle.perp_loop.specs.Walking.{IsFinished}
use Rattle.tso_runs.proofs.Events.{history_part-other}
use Rattle.tso_runs.proofs.Fitting.{fitting_run, histories_fit}
use Rattle.tso_runs.proofs.OnePart.{lawful_parts_are_one}
use Rattle.perp_loop.proofs.Rows.{list_at-past}
use Rattle.perp_loop.proofs.Walked.{lawful_when_finished}

pub zip_get_or : {A B : Type 0} (R : A → B → Type 0) (xs : List A) (ys : List B) (i : ℕ) (d : A) (e : B)
    → AllZip R xs ys → i < length xs → R (get_or xs i d) (get_or ys i e)
zip_get_or R [] ys i d e all lt = absurd (omega (arith, lt))
zip_get_or R (x ∷ xs) [] i d e all lt = absurd all
zip_get_or R (x ∷ xs) (y ∷ ys) zero d e all lt = all.0
zip_get_or R (x ∷ xs) (y ∷ ys) (suc i) d e all lt = zip_get_or R xs ys i d e all.1 (omega arith)

-- a thread past the eighth has no step in a flat history
part_past : (words : List ℕ) (history : History) (t : ℕ) → FindsAll words history → 8 ≤ t → history_part t history ≡ []
part_past words [] t finds past = refl
part_past words (s ∷ ss) t finds past =
    let low = finds.0 in
    history_part-other t s ss (λ is. omega arith) ∙ part_past (memory_after_step words s.step) ss t finds.2 past

of_one_history : (words : List ℕ) (lists : List (List Step)) (one : ArePartsOfOne words lists) → IsOfLists lists one.0
of_one_history words lists one t =
    let part = λ (t : ℕ). history_part t one.0 in
    ap (λ ls. list_at ls t) one.2
    ∙ ⊎_elim (λ low. list_at-eight part t low) (λ past. list_at-past part t past
    ∙ sym (part_past zeros one.0 t one.1.0 past)) (cases_lt t 8)

-- what a finished walker stands for is a lawful part
walked_part : (job : Job) (t : ℕ) (p : Enrolled) (steps : List Step) → IsOfJob job p → p.walker.thread ≡ t
    → IsFinished p.walker → (c : Claims p.walker steps)
    → IsLawful job.test job.options t c.0 × (shared_steps job.test [] c.0 ≡ steps)
    × (p.walker.log ≡ filter_map value_read c.0)
walked_part job t p steps of thread finished c =
    let w = p.walker in
    let lawful = lawful_when_finished w c.0 c.1 finished in
    let here = subst (λ n. IsLawful w.test w.options n c.0) thread lawful in (
      subst (λ x. IsLawful x job.options t c.0) of.0 (subst (λ o. IsLawful w.test o t c.0) of.1 here),
      ap (λ x. shared_steps x [] c.0) (sym of.0) ∙ sym c.2,
      c.1.log,
    )

-- finished walkers have the test, the options and the sequences that they had
pub job_kept : (job : Job) (olds news : List Enrolled) → length news ≡ length olds → Each (λ t p. IsOfJob job p) olds
    → AreFinishedAs olds news → Each (λ t p. IsOfJob job p) news
job_kept job olds news len of_job finished t d lt =
    let old = of_job t d (omega arith) in
    let same = (finished t d (omega arith)).0 in
    (same.test ∙ old.0, same.options ∙ old.1, same.sequences ∙ old.2)

-- a member for a number past the crew's
abbrev pub someone : Job → Enrolled
someone job = record {
  lane = None;
  walker = record {
    test = job.test;
    sequences = job.sequences;
    options = job.options;
    thread = 0;
    made = 0;
    buffer = [];
    log = [];
  };
}

-- the member is that of thread t, and its walker has read what the thread reads in the run
pub record HasRead (job : Job) (run : List Event) (t : ℕ) (p : Enrolled) : Type 0 where
  pub test : p.walker.test ≡ job.test
  pub thread : p.walker.thread ≡ t
  pub log : p.walker.log ≡ log_of t run

-- where that is so of each, the logs are those of the run
module _ (job : Job) (members : List Enrolled) (count : length members ≡ length job.test.bodies) (logs : List Values)
    (of_walkers : AreLogs members logs) (run : List Event)
    (read : (t : ℕ) → t < length job.test.bodies → HasRead job run t (get_or members t (someone job))) where
  counted : length logs ≡ length job.test.bodies
  counted = AllZip-long (λ (p : Enrolled) log. IsLogOf p.walker log) members logs of_walkers ∙ count

  log_at : (t : ℕ) (d : Values) → t < length job.test.bodies
      → IsLogOf (get_or members t (someone job)).walker (get_or logs t d)
  log_at t d lt =
      zip_get_or (λ (p : Enrolled) log. IsLogOf p.walker log) members logs t (someone job) d of_walkers
      (let n = count in omega arith)

  value_is : (t : ℕ) (d : Values) → t < length job.test.bodies → (get_or logs t d).values ≡ log_of t run
  value_is t d lt = (log_at t d lt).0 ∙ (read t lt).log

  columns_are : (t : ℕ) (d : Values) → t < length job.test.bodies → (get_or logs t d).columns ≡ columns_of job.test t
  columns_are t d lt =
      let r = read t lt in
      (log_at t d lt).1 ∙ ap (λ x. columns_of x (get_or members t (someone job)).walker.thread) r.test
      ∙ ap (columns_of job.test) r.thread

  pub values_of_run : HaveValuesOf job.test run logs
  values_of_run = record { count = counted; values = λ t d lt. let n = counted in value_is t d (omega arith) }

  pub whole_of_run : IsRunOf job.test job.options.iterations run → AreWholeFor job.test job.options.iterations logs
  whole_of_run is_run = record {
    count = counted;
    columns = λ t d lt. let n = counted in columns_are t d (omega arith);
    whole = λ t d lt.
        let n = counted in
        ap length (value_is t d (omega arith))
        ∙ logs_are_whole_lem job.test job.options.iterations run t is_run (omega arith)
        ∙ ap (λ c. job.options.iterations * c) (sym (columns_are t d (omega arith)));
  }

module _ (job : Job) (members : List Enrolled) (lists : List (List Step))
    (count : length members ≡ length job.test.bodies)
    (of_job : Each (λ t p. IsOfJob job p) members) (are : AreLists members lists) where
  abbrev test : LitmusTest
  test = job.test

  abbrev options : Options
  options = job.options

  -- the part of the walker of thread t
  record PartOf (t : ℕ) (part : List Event) : Type 0 where
    lawful : IsLawful test options t part
    steps : shared_steps test [] part ≡ list_at lists t
    log : (get_or members t (someone job)).walker.log ≡ filter_map value_read part

  part_at : (t : ℕ) → t < length test.bodies → (part : List Event) × PartOf t part
  part_at t lt =
      let within : t < length members = omega arith in
      let h = are.0 t (someone job) within in
      let is = walked_part job t (get_or members t (someone job)) (list_at lists t)
      (of_job t (someone job) within) h.1 h.2 h.0 in
      (h.0.0, record { lawful = is.0; steps = is.1; log = is.2 })

  some_part : (t : ℕ) → (part : List Event) × (t < length test.bodies → PartOf t part)
  some_part t =
      ⊎_elim (λ lt. let p = part_at t lt in (p.0, λ again. p.1)) (λ past. ([], λ lt. absurd (omega arith)))
      (cases_lt t (length test.bodies))

  -- some run fits what they did, and ends with the words
  pub run_of_walkers : (words : List ℕ) → ArePartsOfOne words lists
      → (run : List Event) × Fits test options lists run × EndsWith test words run
  run_of_walkers words one =
      let found =
      histories_fit test options lists words one.0 (λ t. (some_part t).0) one.1 (of_one_history words lists one)
      (λ t lt. let p = (some_part t).1 lt in (p.lawful, p.steps))
      (λ t past. are.1 t (omega arith))
      in (found.0, found.1, found.3)

  -- and each run that fits is one of which they read
  has_read : (run : List Event) → Fits test options lists run → (t : ℕ) → t < length test.bodies
      → HasRead job run t (get_or members t (someone job))
  has_read run fits t lt =
      let within : t < length members = omega arith in
      let p = part_at t lt in
      let same : p.0 ≡ part_of t run =
      lawful_parts_are_one test options t p.0 (part_of t run) p.1.lawful (fits.lawful t lt)
      (p.1.steps ∙ sym (fits.steps t lt)) in
      record {
        test = (of_job t (someone job) within).0;
        thread = (are.0 t (someone job) within).1;
        log = p.1.log ∙ ap (filter_map value_read) same;
      }

  -- so it has their logs, which are whole
  module _ (logs : List Values) (of_walkers : AreLogs members logs) where
    pub logs_of_walkers : (run : List Event) → Fits test options lists run → HaveValuesOf test run logs
    logs_of_walkers run fits = values_of_run job members count logs of_walkers run (has_read run fits)

    pub whole_of_walkers : (words : List ℕ) → ArePartsOfOne words lists → AreWholeFor test options.iterations logs
    whole_of_walkers words one =
        let found = run_of_walkers words one in
        whole_of_run job members count logs of_walkers found.0 (has_read found.0 found.1)
        (fitting_run test options lists found.0 found.1)
