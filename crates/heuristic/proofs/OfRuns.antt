-- Over the logs of a run the picks and the listed hits are those of the run.
use Rattle.std.proofs.Common.{ℕ, List, All, Contains, length, map, subst, sym, ap, ◌∙◌, arith}
use Rattle.x86_subset.specs.Conjunctions.{conjunction_of}
use Rattle.outcome_conv.specs.Conds.{conds_of}
use Rattle.outcome_conv.specs.Hits.{hits_of}
use Rattle.outcome_conv.specs.Picks.{link_by, picked_frame, picked_hits_by}
use Rattle.outcome_conv.proofs.Picks.{hits_agree_lem, listed_are_hits_lem, picks_agree_lem}
use Rattle.frame_count.proofs.LogsOfRuns.{logs_give_the_values_lem, logs_meet_the_conditions_lem}
use Rattle.heuristic.specs.RunPicks.{ListedAreHitsOfRuns, PicksAreThoseOfRuns, RunsCanBePicked}

pub runs_can_be_picked_lem : RunsCanBePicked
runs_can_be_picked_lem test n run logs kinds h r z a =
    let meet = logs_meet_the_conditions_lem test n run logs kinds h.holds_reads r z a in
    let count = a.count in
    let some = h.some_threads in
    let most = h.few_threads in (
      record { thread = omega arith; threads = omega arith; whole = meet.0; names = meet.1 },
      λ k d lt. let g = meet.1 k d lt in let reader = g.reader in let writer = g.writer in (omega arith, omega arith),
    )

pub picks_are_those_of_runs_lem : PicksAreThoseOfRuns
picks_are_those_of_runs_lem test n run logs kinds c i h r early z a =
    ap (λ values. picked_frame (length test.bodies) (conjunction_of test.ends
    (map (link_by values n) (conds_of test kinds)) c) i) (logs_give_the_values_lem test n run logs r a)
    ∙ picks_agree_lem test n run kinds c i h r early z

pub listed_are_hits_of_runs_lem : ListedAreHitsOfRuns
listed_are_hits_of_runs_lem test n run logs kinds h r z a =
    let same = ap (λ values. picked_hits_by values (length test.bodies) n test.ends (conds_of test kinds))
    (logs_give_the_values_lem test n run logs r a) ∙ hits_agree_lem test n run kinds h r z in
    let AllHits : List (List ℕ) → Type 0 = All (Contains (hits_of test kinds n run)) in
    (same, subst AllHits (sym same) (listed_are_hits_lem test n run kinds h r z))
