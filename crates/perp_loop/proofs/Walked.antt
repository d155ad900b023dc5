-- One turn after another makes a lawful part.
use Rattle.std.proofs.Common.{◌≡◌, refl, sym, ap, ◌∙◌, subst, ℕ, ◌+◌, ◌≤◌, List, [], ◌∷◌, ◌++◌, length, append_assoc, append-nil, not, if◌then◌else◌, arith}
use Rattle.std.specs.List.{AllZip, filter_map}
use Rattle.std.proofs.lemmas.List.Elements.{All-nil, filter_map-append}
use Rattle.std.proofs.lemmas.List.Sums.{sum_by-append}
use Rattle.x86_subset.specs.Test.{LitmusTest}
use Rattle.tso_machine.specs.Event.{Event, is_drain}
use Rattle.tso_machine.specs.Log.{value_read}
use Rattle.tso_machine.specs.Machine.{Write}
use Rattle.tso_machine.specs.Part.{Fills, own_after}
use Rattle.tso_words.specs.declared.step.Step.{Step}
use Rattle.tso_words.specs.Appended.{Appends}
use Rattle.perp_loop.specs.declared.went.Went.{Went}
use Rattle.perp_loop.specs.declared.went.Went.TheVariants.{Action, Finished}
use Rattle.tso_runs.specs.Fits.{IsLawful}
use Rattle.tso_runs.specs.SharedSteps.{shared_steps, steps_of}
use Rattle.perp_loop.specs.Walking.{Walking, Finishes, buffer_after, actions_in, Takes, StandsFor, IsFinished, IsNew, owed, TakesTurn, Stepped, Walks}
use Rattle.tso_runs.specs.Turns.{IsCutBetween, IsTurnBefore}
use Rattle.tso_runs.proofs.Cuts.{cut_after}
use Rattle.perp_loop.proofs.Taken.{AreWhole, stands_more}
use Rattle.tso_runs.proofs.Turns.{buffer_after-append}
use Rattle.perp_loop.proofs.Ports.{appends_none, appends_more}

pub shared_steps-append : (test : LitmusTest) (buffer : List Write) (xs ys : List Event) →
    shared_steps test buffer (xs ++ ys) ≡ shared_steps test buffer xs
    ++ shared_steps test (buffer_after test buffer xs) ys
shared_steps-append test buffer [] ys = refl
shared_steps-append test buffer (e ∷ es) ys =
    ap (λ zs. steps_of test buffer e ++ zs) (shared_steps-append test (own_after test buffer e) es ys)
    ∙ sym (append_assoc (steps_of test buffer e) (shared_steps test (own_after test buffer e) es)
    (shared_steps test (buffer_after test (own_after test buffer e) es) ys))

pub takes_none : (w : Walking) → Takes w [] w
takes_none w = record {
  same = refl;
  made = omega arith;
  buffer = refl;
  log = sym (append-nil w.log);
  leads = λ rest f. f;
}

pub takes_more : (a b c : Walking) (xs ys : List Event) → Takes a xs b → Takes b ys c → Takes a (xs ++ ys) c
takes_more a b c xs ys f g =
    let test : b.test ≡ a.test = ap (λ (w : Walking). w.test) f.same in
    record {
      same =
          g.same ∙ ap {B = Walking} (λ (w : Walking). record w { made = c.made; buffer = c.buffer; log = c.log })
          f.same;
      made =
          g.made ∙ ap (λ n. n + actions_in ys) f.made ∙ omega (
            arith,
            sum_by-append (λ e. if not (is_drain e) then 1 else 0) xs ys,
          );
      buffer =
          g.buffer ∙ ap (λ t. buffer_after t b.buffer ys) test ∙ ap (λ ws. buffer_after a.test ws ys) f.buffer
          ∙ sym (buffer_after-append a.test a.buffer xs ys);
      log =
          g.log ∙ ap (λ vs. vs ++ filter_map value_read ys) f.log
          ∙ append_assoc a.log (filter_map value_read xs) (filter_map value_read ys)
          ∙ ap (λ vs. a.log ++ vs) (sym (filter_map-append value_read xs ys));
      leads = λ rest h. subst (Finishes a) (sym (append_assoc xs ys rest)) (f.leads (ys ++ rest) (g.leads rest h));
    }

whole_none : (w : Walking) → AreWhole w []
whole_none w front rest f cut = subst (λ es. IsCutBetween es rest) (sym (append-nil front)) cut

whole_more : (now new : Walking) (xs turn : List Event) → AreWhole now xs → Takes now turn new
    → ((rest : List Event) → Finishes new rest → IsTurnBefore turn rest) → AreWhole new (xs ++ turn)
whole_more now new xs turn whole t is_turn front rest f cut =
    let later : IsCutBetween front (xs ++ (turn ++ rest)) = subst (IsCutBetween front)
    (append_assoc xs turn rest) cut in
    let between = cut_after (front ++ xs) turn rest (whole front (turn ++ rest) (t.leads rest f) later)
    (is_turn rest f) in
    subst (λ es. IsCutBetween es rest) (append_assoc front xs turn) between

-- the steps of more events, after those that a walker has taken
pub steps_more : (a b : Walking) (xs ys : List Event) → Takes a xs b →
    shared_steps a.test a.buffer xs ++ shared_steps b.test b.buffer ys ≡ shared_steps a.test a.buffer (xs ++ ys)
steps_more a b xs ys f =
    let test : b.test ≡ a.test = ap (λ (w : Walking). w.test) f.same in
    ap (λ zs. shared_steps a.test a.buffer xs ++ zs) (ap (λ t. shared_steps t b.buffer ys) test
    ∙ ap (λ ws. shared_steps a.test ws ys) f.buffer)
    ∙ sym (shared_steps-append a.test a.buffer xs ys)

-- after a finished walker nothing is left
pub finishes_finished : (w : Walking) → IsFinished w → Finishes w []
finishes_finished w f = record {
  own = All-nil (λ (e : Event). e.thread ≡ w.thread);
  performs = subst (λ ss. AllZip (Fills w.thread) ss []) (sym f.made) tt;
  keeps = f.drained;
  drained = tt;
}

module _ {P : Type 0} (steps : P → List Step) (ready : P → ℕ → Type 0) (kept : P → P → Type 0) where
  -- what a walker and its port have come to
  pub record Comes (old : Walking) (before : P) (now : Walking) (port : P) : Type 0 where
    pub events : List Event
    pub takes : Takes old events now
    pub whole : AreWhole now events
    pub appends : Appends steps ready kept before port (shared_steps old.test old.buffer events)
    pub enough : ready port (owed now)

  pub comes_none : (w : Walking) (p : P) → kept p p → ready p (owed w) → Comes w p w p
  comes_none w p k r = record {
    events = [];
    takes = takes_none w;
    whole = whole_none w;
    appends = appends_none steps ready kept p k;
    enough = r;
  }

  pub comes_more : (old now new : Walking) (before port after : P) → ((p : P) (j k : ℕ) → j ≤ k → ready p k → ready p j)
      → ((p q r : P) → kept p q → kept q r → kept p r) →
      Comes old before now port → TakesTurn steps ready kept now port new after → Comes old before new after
  comes_more old now new before port after fewer on c t =
      let more = appends_more steps ready kept before port after (shared_steps old.test old.buffer c.events)
      (shared_steps now.test now.buffer t.turn) on c.appends t.appends in
      record {
        events = c.events ++ t.turn;
        takes = takes_more old now new c.events t.turn c.takes t.takes;
        whole = whole_more now new c.events t.turn c.whole t.takes t.is_turn;
        appends =
            subst (λ xs. Appends steps ready kept before after xs) (steps_more old now c.events t.turn c.takes) more;
        enough =
            t.appends.left (owed new) (fewer port (owed new + length (shared_steps now.test now.buffer t.turn))
            (owed now) t.owes_less c.enough);
      }

  pub walks : (old now : Walking) (before port : P) → Comes old before now port → IsFinished now
      → Walks steps ready kept old before now port
  walks old now before port c f = record {
    rest = c.events;
    same = c.takes.same;
    stands = λ front. stands_more old now front c.events c.takes c.whole ([], finishes_finished now f);
    finishes = subst (Finishes old) (append-nil c.events) (c.takes.leads [] (finishes_finished now f));
    log = c.takes.log;
    appends = c.appends;
  }

-- what finishes a new walker is a lawful part
pub lawful_from_finishes : (w : Walking) (part : List Event) → IsNew w → Finishes w part
    → IsLawful w.test w.options w.thread part
lawful_from_finishes w part n f =
    let start : Walking = record w { made = 0; buffer = []; log = [] } in
    let g : Finishes start part = subst (λ v. Finishes v part) n f in
    record { own = g.own; performs = g.performs; keeps = g.keeps; drained = g.drained }

module _ {P : Type 0} (steps : P → List Step) (ready : P → ℕ → Type 0) (kept : P → P → Type 0) where
  -- a step that takes no turn finds none
  pub found_none : (went : Went) (old : Walking) (before : P) (new : Walking) (after : P) → (went ≡ Action → ⊥) →
      Stepped steps ready kept went old before new after → IsFinished old × (new ≡ old) × (after ≡ before)
  found_none Action old before new after n s = absurd (n refl)
  found_none Finished old before new after n s = s

  pub walks_on : (old now new : Walking) (before port after : P) → Comes steps ready kept old before now port
      → IsFinished now × (new ≡ now) × (after ≡ port) →
      Walks steps ready kept old before new after
  walks_on old now new before port after c f =
      let w = walks steps ready kept old now before port c f.0 in
      subst (λ n. Walks steps ready kept old before n after) (sym f.1)
      (subst (λ p. Walks steps ready kept old before now p) (sym f.2) w)

  -- the walk of a new walker is a lawful part
  pub lawful_walk : (old : Walking) (before : P) (new : Walking) (after : P)
      → Walks steps ready kept old before new after → IsNew old →
      (part : List Event) × IsLawful old.test old.options old.thread part
      × (steps after ≡ steps before ++ shared_steps old.test [] part) × (new.log ≡ filter_map value_read part)
  lawful_walk old before new after w n = (
    w.rest,
    lawful_from_finishes old w.rest n w.finishes,
    w.appends.appended ∙ ap (λ (v : Walking). steps before ++ shared_steps old.test v.buffer w.rest) n,
    w.log ∙ ap (λ (v : Walking). v.log ++ filter_map value_read w.rest) n,
  )

-- a finished walker stands for a whole lawful part
pub lawful_when_finished : (w : Walking) (front : List Event) → StandsFor w front → IsFinished w
    → IsLawful w.test w.options w.thread front
lawful_when_finished w front s f =
    subst (IsLawful w.test w.options w.thread) (append-nil front) (s.leads [] (finishes_finished w f))
