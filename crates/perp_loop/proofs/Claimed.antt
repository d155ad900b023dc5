-- What the steps of a lane are of its walker.
use Rattle.std.proofs.Common.{◌≡◌, sym, ap, ◌∙◌, subst, ℕ, Option, Some, List, [], ◌++◌}
use Rattle.tso_machine.specs.Event.{Event}
use Rattle.tso_machine.specs.Machine.{Write}
use Rattle.tso_words.specs.declared.step.Step.{Step}
use Rattle.tso_runs.specs.SharedSteps.{shared_steps}
use Rattle.perp_loop.specs.Walking.{Walking, StandsFor, Walks}
use Rattle.perp_loop.specs.Crews.{Claims, FitsWalker}
use Rattle.tso_words.specs.Seats.{Lent, IsSameLane}
use Rattle.perp_loop.proofs.Walked.{shared_steps-append}

-- the steps of events that go on after a front
pub steps_on : (old : Walking) (front rest : List Event) (before after : List Step) → StandsFor old front
    → before ≡ shared_steps old.test [] front →
    after ≡ before ++ shared_steps old.test old.buffer rest → after ≡ shared_steps old.test [] (front ++ rest)
steps_on old front rest before after s is more =
    more ∙ ap (λ l. l ++ shared_steps old.test old.buffer rest) is
    ∙ ap (λ (b : List Write). shared_steps old.test [] front ++ shared_steps old.test b rest) s.buffer
    ∙ sym (shared_steps-append old.test [] front rest)

-- a walk keeps the steps those of what the walker stands for
pub claims_walked : {P : Type 0} (steps : P → List Step) (ready : P → ℕ → Type 0) (kept : P → P → Type 0)
    (old new : Walking) (before after : P) →
    Walks steps ready kept old before new after → Claims old (steps before) → Claims new (steps after)
claims_walked steps ready kept old new before after w c = (
  c.0 ++ w.rest,
  w.stands c.0 c.1,
  steps_on old c.0 w.rest (steps before) (steps after) c.1 c.2 w.appends.appended
      ∙ ap (λ (v : Walking). shared_steps v.test [] (c.0 ++ w.rest)) (sym w.same),
)

-- the lane after a walk fits the walker
pub fits_walked : (old new : Walking) (lane before after back : Lent) (held : Option Lent)
    → Walks {P = Lent} (λ p. p.steps) (λ p k. Unit {0}) IsSameLane old before new after →
    held ≡ Some lane → before ≡ lane → back ≡ after → FitsWalker held old
    → (back.thread ≡ new.thread) × Claims new back.steps
fits_walked old new lane before after back held w there is was fits =
    let here : (lane.thread ≡ old.thread) × Claims old lane.steps = subst (λ o. FitsWalker o old) there fits in
    let claims : Claims old before.steps = subst (λ (l : Lent). Claims old l.steps) (sym is) here.1 in (
      ap (λ (l : Lent). l.thread) was ∙ w.appends.stays.1 ∙ ap (λ (l : Lent). l.thread) is ∙ here.0
          ∙ sym (ap (λ (v : Walking). v.thread) w.same),
      subst (λ (l : Lent). Claims new l.steps) (sym was) (claims_walked {P = Lent} (λ p. p.steps)
          (λ p k. Unit {0}) IsSameLane old new before after w claims),
    )
