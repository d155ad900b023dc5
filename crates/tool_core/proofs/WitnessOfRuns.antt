-- The text of `witness` tells a run that has the logs of each run that fits.
use Rattle.std.proofs.Common.{◌≡◌, ℕ, ◌<◌, List, length, sym, subst, ◌∙◌}
use Rattle.x86_subset.specs.Test.{LitmusTest}
use Rattle.tso_machine.specs.Event.{Event}
use Rattle.tso_machine.specs.Log.{log_of}
use Rattle.load_log.specs.Values.{Values, log_at}
use Rattle.tso_words.specs.Seats.{Ended as Closed}
use Rattle.program_edge.specs.Field.{HasRunOn}
use Rattle.tso_runs.specs.Fits.{Fits}
use Rattle.tool_core.specs.Texts.{IsWitnessOf, IsWitnessed, options_of}

value_of_fitting : (test : LitmusTest) (n : ℕ) (done : Closed) (logs : List Values) (run : List Event)
    → HasRunOn test (options_of n) done logs
    → Fits test (options_of n) done.lists run → (t : ℕ) → t < length test.bodies → (log_at logs t).values ≡ log_of t run
value_of_fitting test n done logs run ran fits t lt =
    let has = ran.each run fits in
    has.are_logs.values t (subst (λ k. t < k) (sym has.are_logs.count) lt)

pub witness_of_runs : (test : LitmusTest) (n : ℕ) (done : Closed) (logs : List Values) (text : List ℕ)
    → HasRunOn test (options_of n) done logs
    → IsWitnessOf test n logs text → IsWitnessed test n done text
witness_of_runs test n done logs text ran w = record {
  some_run = ran.some_run;
  events = w.events;
  legal = w.legal;
  logs = λ run fits t lt. w.logged t lt ∙ value_of_fitting test n done logs run ran fits t lt;
  is = w.is;
}
