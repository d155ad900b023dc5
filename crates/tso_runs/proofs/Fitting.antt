-- Runs that fit lists of shared steps, and the flat histories of these lists.
use Rattle.std.proofs.Common.{◌≡◌, ⊎_elim, ℕ, ◌<◌, ◌≤◌, All, List, [], ◌∷◌, length, refl, sym, ◌∙◌, ap, subst, arith}
use Rattle.std.proofs.lemmas.Bool.{cases_lt}
use Rattle.std.proofs.lemmas.List.Elements.{All-head, All-tail}
use Rattle.tso_machine.specs.Event.{Event}
use Rattle.tso_machine.specs.Part.{part_of}
use Rattle.tso_runs.specs.Fits.{FittingRunsPerformTheBodies, IsLawful}
use Rattle.tso_runs.specs.Schedule.{ScheduledRunsPerformTheBodies}
use Rattle.tso_runs.specs.SharedSteps.{shared_steps}
use Rattle.tso_runs.specs.Merging.{Merges, HistoriesFit, FittingRunsMakeHistories}
use Rattle.tso_runs.proofs.Events.{part_of-other}
use Rattle.tso_runs.proofs.Runs.{makes_its_history}
use Rattle.tso_runs.proofs.Merging.{parts_merge}

pub part_of_past : (n t : ℕ) (run : List Event) → All (λ e. e.thread < n) run → n ≤ t → part_of t run ≡ []
part_of_past n t [] threads past = refl
part_of_past n t (e ∷ es) threads past =
    let lt : e.thread < n = All-head (λ (e : Event). e.thread < n) e es threads in
    part_of-other t e es (λ is. omega arith) ∙ part_of_past n t es
    (All-tail (λ (e : Event). e.thread < n) e es threads) past

pub fitting_runs_make_histories : FittingRunsMakeHistories
fitting_runs_make_histories test options lists run is_test fits =
    let makes = makes_its_history test run is_test fits.legal fits.threads in (
      λ t.
          ⊎_elim
          (λ lt. sym (fits.steps t lt) ∙ makes.steps t)
          (λ past. fits.rest t past ∙ sym (ap (shared_steps test []) (part_of_past
          (length test.bodies) t run fits.threads past)) ∙ makes.steps t)
          (cases_lt t (length test.bodies)),
      makes.flat,
    )

pub histories_fit : HistoriesFit
histories_fit test options lists words history parts flat of_lists lawful rest =
    let found : (run : List Event) × Merges test words history parts run =
    parts_merge test words history parts flat
    (λ t lt. ((lawful t lt).0.own, (lawful t lt).0.keeps))
    (record { steps = λ t lt. (lawful t lt).1 ∙ of_lists t; rest = λ t past. sym (of_lists t) ∙ rest t past })
    in
    let merges : Merges test words history parts found.0 = found.1 in (
      found.0,
      record {
        legal = merges.legal;
        threads = merges.threads;
        lawful = λ t lt. subst (IsLawful test options t) (sym (merges.made_of t lt)) (lawful t lt).0;
        steps = λ t lt. ap (shared_steps test []) (merges.made_of t lt) ∙ (lawful t lt).1;
        rest = rest;
      },
      merges.makes,
      merges.ends,
    )

-- a run that fits, or that a schedule makes, is one of the runs that the laws on values and conditions speak of

pub fitting_run : FittingRunsPerformTheBodies
fitting_run test options lists run fits = record {
  legal = fits.legal;
  performs = λ t l. (fits.lawful t l).performs;
  threads = fits.threads;
}

pub scheduled_run : ScheduledRunsPerformTheBodies
scheduled_run test options schedule run h = record {
  legal = h.legal;
  performs = λ t l. (h.lawful t l).performs;
  threads = h.threads;
}
