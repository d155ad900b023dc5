-- What is counted over the logs of a run.
use Rattle.std.proofs.Common.{◌≡◌, ℕ, ◌+◌, ◌-◌, ◌*◌, ◌<◌, ◌≤◌, ◌==◌, ◌⊎◌, inl, inr, false, List, [], ◌∷◌, filter_map, get_or, length, slice_index, sym, ap, ◌∙◌, arith, ne_eqb, subst}
use Rattle.std.proofs.lemmas.Bool.{cases_lt}
use Rattle.std.proofs.lemmas.List.{get_or_default, get_or_past, length-set}
use Rattle.std.proofs.lemmas.List.Elements.{All-set, recursion_from_All, All-from_recursion}
use Rattle.std.specs.List.{AllByRecursion as Each}
use Rattle.x86_subset.specs.Test.{LitmusTest, columns_of}
use Rattle.tso_machine.specs.Event.{Event}
use Rattle.tso_machine.specs.Log.{AreLogsOf, log_of, value_read}
use Rattle.tso_machine.specs.Run.{IsRunOf}
use Rattle.perp_base.proofs.Lists.{each_weaker, filter_none}
use Rattle.tso_machine.proofs.ReadEvents.{logs_are_whole_lem}
use Rattle.load_log.specs.Values.{Values, log_at, value_at}
use Rattle.outcome_conv.specs.declared.cond.Cond.{Cond}
use Rattle.outcome_conv.specs.Conditions.{IsOfTest}
use Rattle.outcome_conv.specs.Conds.{conds_hold, conds_of, count_of, logged_in}
use Rattle.outcome_conv.specs.Hits.{IsFrame, is_hit}
use Rattle.outcome_conv.proofs.Counts.{counts_agree_lem, each_tells, hit_agrees}
use Rattle.outcome_conv.proofs.Named.{conditions_name_the_test_lem}
use Rattle.frame_count.specs.Count.{IsOfLogs, with_last}
use Rattle.frame_count.specs.RunLogs.{CountsAreHits, LogsGiveTheValues, LogsMeetTheConditions, RowsCountHits}
use Rattle.frame_count.proofs.Counts.{count_moved}

-- a thread that the test does not have logs nothing
no_log : (test : LitmusTest) (n : ℕ) (run : List Event) (t : ℕ) → IsRunOf test n run → length test.bodies ≤ t
    → log_of t run ≡ []
no_log test n run t r l =
    ap (filter_map value_read)
    (filter_none (λ e. e.thread == t) run
    (each_weaker (λ e. e.thread < length test.bodies) (λ e. (e.thread == t) ≡ false)
    (λ e h. ne_eqb e.thread t (λ same. omega arith)) run
    (recursion_from_All (λ e. e.thread < length test.bodies) run r.threads)))

value_by : (test : LitmusTest) (n : ℕ) (run : List Event) (logs : List Values) (t column i : ℕ) → IsRunOf test n run
    → AreLogsOf test run logs → (t < length logs) ⊎ (length logs ≤ t)
    → value_at logs t column i ≡ logged_in test run t column i
value_by test n run logs t column i r a (inl l) =
    ap (λ c. slice_index (log_at logs t).values (i * c + column)) (a.columns t l)
    ∙ ap (λ values. slice_index values (i * columns_of test t + column)) (a.values t l)
value_by test n run logs t column i r a (inr l) =
    ap (λ (log : Values). slice_index log.values (i * log.columns + column))
    (get_or_past logs t (record { columns = 0; values = []; spare = 0 }) l)
    ∙ sym (ap (λ values. slice_index values (i * columns_of test t + column))
    (no_log test n run t r (let e = a.count in omega arith)))

pub logs_give_the_values_lem : LogsGiveTheValues
logs_give_the_values_lem test n run logs r a =
    λ j t column i. value_by test n run logs t column i r a (cases_lt t (length logs)) j

-- what a count asks of logs

named : (test : LitmusTest) (run : List Event) (logs : List Values) (cs : List Cond) → AreLogsOf test run logs
    → Each (IsOfTest test) cs → Each (IsOfLogs logs) cs
named test run logs [] a h = tt
named test run logs (c ∷ cs) a h =
    let e = a.count in
    let r = h.0.reader in
    let w = h.0.writer in
    let k = h.0.column in
    let l : c.reader < length logs = omega arith in
    let s = a.columns c.reader l in (
      record { reader = l; writer = omega arith; column = omega arith },
      named test run logs cs a h.1,
    )

pub logs_meet_the_conditions_lem : LogsMeetTheConditions
logs_meet_the_conditions_lem test n run logs kinds h r z a = (
  λ t d l.
      let same : get_or logs t d ≡ log_at logs t = get_or_default logs t d
      (record { columns = 0; values = []; spare = 0 }) l in
      let e = a.count in
      subst (λ (log : Values). length log.values ≡ n * log.columns) (sym same)
      (ap length (a.values t l) ∙ logs_are_whole_lem test n run t r (omega arith)
      ∙ sym (ap (λ k. n * k) (a.columns t l))),
  All-from_recursion (IsOfLogs logs) (conds_of test kinds)
      (named test run logs (conds_of test kinds) a (recursion_from_All (IsOfTest test) (conds_of test kinds)
      (conditions_name_the_test_lem test kinds h z))),
)

pub counts_are_hits_lem : CountsAreHits
counts_are_hits_lem test n run logs kinds h r some z a =
    ap (λ values. count_of values test.ends (conds_of test kinds) n (length test.bodies))
    (logs_give_the_values_lem test n run logs r a)
    ∙ counts_agree_lem test n run kinds h r some z

with_last_is : (test : LitmusTest) (n : ℕ) (frame : List ℕ) (m : ℕ) → IsFrame test n frame → m < n
    → IsFrame test n (with_last frame m)
with_last_is test n frame m f l = record {
  one_each = length-set frame (length frame - 1) m ∙ f.one_each;
  below = All-set (λ i. i < n) frame (length frame - 1) m l f.below;
}

pub rows_count_hits_lem : RowsCountHits
rows_count_hits_lem test n run logs kinds frame from to h r z a f l =
    count_moved (λ m. conds_hold (value_at logs) test.ends (conds_of test kinds) (with_last frame m))
    (λ m. is_hit test kinds run (with_last frame m)) from from (to - from)
    (λ i less.
    ap (λ values. conds_hold values test.ends (conds_of test kinds) (with_last frame (from + i)))
    (logs_give_the_values_lem test n run logs r a)
    ∙ hit_agrees test n run (with_last frame (from + i)) kinds r (with_last_is test n frame (from + i) f (omega arith))
    (each_tells test kinds h z))
