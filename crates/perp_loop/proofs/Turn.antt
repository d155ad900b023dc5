-- What the Drains of a turn give, and that a part can always go on to its end.
use Rattle.std.proofs.Common.{◌≡◌, refl, ℕ, zero, suc, ◌+◌, ◌≤◌, List, [], ◌∷◌, ◌++◌, map, take, drop}
use Rattle.std.specs.List.{AllByRecursion as Each, filter_map}
use Rattle.x86_subset.specs.Test.{LitmusTest}
use Rattle.tso_machine.specs.Event.{Event}
use Rattle.tso_machine.specs.Log.{value_read}
use Rattle.tso_machine.specs.Machine.{State, Write}
use Rattle.tso_machine.specs.Part.{Slot}
use Rattle.tso_words.specs.declared.step.Step.{Step}
use Rattle.tso_words.specs.declared.step.Step.TheVariants.{Store}
use Rattle.perp_base.specs.declared.options.Options.{Options}
use Rattle.tso_runs.specs.Own.{IsWriteOf, buffer_after, drain_event}
use Rattle.tso_runs.specs.SharedSteps.{shared_steps}
use Rattle.tso_runs.proofs.Rest.{IsRest}
use Rattle.tso_runs.proofs.Turns.{built, drains_of, rest_last, rest_none, turn_by}

abbrev pub store_of : Write → Step
store_of w = Store w.location w.value

-- all steps of the Drains, and then those of what comes after them
pub shared_steps-drains : (test : LitmusTest) (t n : ℕ) (buffer : List Write) (rest : List Event)
    → Each (IsWriteOf test t) buffer
    → shared_steps test buffer (drains_of t n buffer ++ rest)
    ≡ map store_of (take n buffer) ++ shared_steps test (drop n buffer) rest
shared_steps-drains test t zero buffer rest own = refl
shared_steps-drains test t (suc n) [] rest own = refl
shared_steps-drains test t (suc n) (w ∷ ws) rest own =
    let later = shared_steps-drains test t n ws rest own.1 in
    λ i. Store (own.0 i).location (own.0 i).value ∷ later i

-- they read no value
pub values-drains : (t n : ℕ) (buffer : List Write) (rest : List Event)
    → filter_map value_read (drains_of t n buffer ++ rest) ≡ filter_map value_read rest
values-drains t zero buffer rest = refl
values-drains t (suc n) [] rest = refl
values-drains t (suc n) (w ∷ ws) rest = values-drains t n ws rest

module _ (test : LitmusTest) (options : Options) (t : ℕ) where
  last_drains : (buffer : List Write) (j : ℕ) → Each (IsWriteOf test t) buffer
      → (rest : List Event) × IsRest test options t [] buffer j 0 rest
  last_drains [] j own = ([], rest_none test options t j)
  last_drains (w ∷ ws) j own =
      let r = last_drains ws j own.1 in
      (drain_event t w ∷ r.0, rest_last test options t w ws j r.0 own.0 r.1)

  -- whatever the thread has read so far, its part can be finished: by the turns of a state with its buffer
  pub can_finish : (slots : List Slot) (buffer : List Write) (j : ℕ) → 1 ≤ options.buffer
      → Each (IsWriteOf test t) buffer → (rest : List Event) × IsRest test options t slots buffer j 0 rest
  can_finish [] buffer j one own = last_drains buffer j own
  can_finish (slot ∷ slots) buffer j one own =
      let s : State = record { memory = λ x. 0; buffer = λ u. buffer } in
      let turn = turn_by test options t s (slot ∷ slots) j buffer in
      let next = built test options t s (slot ∷ slots) j buffer refl own one in
      let r = can_finish slots (buffer_after test buffer turn) (j + 1) one next.kept in
      (turn ++ r.0, next.back r.0 r.1)
