-- What one event does to a state: to its own buffer, to the other buffers, and to the memory by its shared steps.
use Rattle.std.proofs.Common.{◌≡◌, ◌⊎◌, inl, inr, ℕ, ◌==◌, Bool, true, false, Option, Some, None, is_some, IfSome, cond, List, [], ◌∷◌, ◌++◌, map, refl, ◌∙◌, ap, subst, eq-eqb, ne_eqb}
use Rattle.std.proofs.lemmas.Bool.{cond-true, cond-false}
use Rattle.std.specs.Prelude.{unwrap_or}
use Rattle.x86_subset.specs.Test.{LitmusTest}
use Rattle.tso_machine.specs.Event.{Event, Kind, Push, Drain, Read, Fenced, Exchanged, event_location}
use Rattle.tso_machine.specs.Machine.{Write, State, updated, newest, Needs, NeedsAs, after, after_as}
use Rattle.tso_machine.specs.Part.{part_of, own_after, own_after_as, Agrees, AgreesAs}
use Rattle.tso_words.specs.declared.step.Step.{Step}
use Rattle.tso_words.specs.declared.step.Step.TheVariants.{Load}
use Rattle.tso_words.specs.declared.step.TracedStep.{TracedStep}
use Rattle.tso_words.specs.History.{history_part}
use Rattle.tso_runs.proofs.Memories.{memory_after, FindsAll}
use Rattle.tso_runs.specs.SharedSteps.{steps_as, steps_of}

pub updated-same : {A : Type 0} (f : ℕ → A) (i : ℕ) (a : A) (j : ℕ) → i ≡ j → updated f i a j ≡ a
updated-same f i a j e = cond-true (i == j) a (f j) (eq-eqb i j e)

pub updated-other : {A : Type 0} (f : ℕ → A) (i : ℕ) (a : A) (j : ℕ) → (i ≡ j → ⊥) → updated f i a j ≡ f j
updated-other f i a j n = cond-false (i == j) a (f j) (ne_eqb i j n)

abbrev pub tagged : ℕ → Step → TracedStep
tagged t step = record { thread = t; step = step }

-- the shared steps of an event, with its thread
abbrev pub traced : LitmusTest → List Write → Event → List TracedStep
traced test buffer e = map (tagged e.thread) (steps_of test buffer e)

-- the parts of a list that begins with an event or a step

pub part_of-own : (t : ℕ) (e : Event) (es : List Event) → e.thread ≡ t → part_of t (e ∷ es) ≡ e ∷ part_of t es
part_of-own t e es is = cond-true (e.thread == t) (e ∷ part_of t es) (part_of t es) (eq-eqb e.thread t is)

pub part_of-other : (t : ℕ) (e : Event) (es : List Event) → (e.thread ≡ t → ⊥) → part_of t (e ∷ es) ≡ part_of t es
part_of-other t e es isnt = cond-false (e.thread == t) (e ∷ part_of t es) (part_of t es) (ne_eqb e.thread t isnt)

pub history_part-own : (t : ℕ) (s : TracedStep) (h : List TracedStep) → s.thread ≡ t
    → history_part t (s ∷ h) ≡ s.step ∷ history_part t h
history_part-own t s h is = ap (map (λ (s : TracedStep). s.step)) (cond-true (s.thread == t) _ _ (eq-eqb s.thread t is))

pub history_part-other : (t : ℕ) (s : TracedStep) (h : List TracedStep) → (s.thread ≡ t → ⊥)
    → history_part t (s ∷ h) ≡ history_part t h
history_part-other t s h isnt =
    ap (map (λ (s : TracedStep). s.step)) (cond-false (s.thread == t) _ _ (ne_eqb s.thread t isnt))

pub history_part-tagged_own : (t u : ℕ) (steps : List Step) (h : List TracedStep) → u ≡ t
    → history_part t (map (tagged u) steps ++ h) ≡ steps ++ history_part t h
history_part-tagged_own t u [] h is = refl
history_part-tagged_own t u (x ∷ xs) h is =
    history_part-own t (tagged u x) (map (tagged u) xs ++ h) is ∙ ap (λ l. x ∷ l) (history_part-tagged_own t u xs h is)

pub history_part-tagged_other : (t u : ℕ) (steps : List Step) (h : List TracedStep) → (u ≡ t → ⊥)
    → history_part t (map (tagged u) steps ++ h) ≡ history_part t h
history_part-tagged_other t u [] h isnt = refl
history_part-tagged_other t u (x ∷ xs) h isnt =
    history_part-other t (tagged u x) (map (tagged u) xs ++ h) isnt ∙ history_part-tagged_other t u xs h isnt

-- the buffers after an event

own_as : (k : Kind) (test : LitmusTest) (s : State) (e : Event)
    → (after_as k test s e).buffer e.thread ≡ own_after_as k test (s.buffer e.thread) e
own_as Push test s e = updated-same s.buffer e.thread _ e.thread refl
own_as Drain test s e = updated-same s.buffer e.thread _ e.thread refl
own_as (Read v) test s e = refl
own_as Fenced test s e = refl
own_as (Exchanged v) test s e = refl

pub buffer_own : (test : LitmusTest) (s : State) (e : Event) (t : ℕ) → e.thread ≡ t
    → (after test s e).buffer t ≡ own_after test (s.buffer t) e
buffer_own test s e t is =
    subst (λ (u : ℕ). (after test s e).buffer u ≡ own_after test (s.buffer u) e) is (own_as e.kind test s e)

other_as : (k : Kind) (test : LitmusTest) (s : State) (e : Event) (t : ℕ) → (e.thread ≡ t → ⊥)
    → (after_as k test s e).buffer t ≡ s.buffer t
other_as Push test s e t isnt = updated-other s.buffer e.thread _ t isnt
other_as Drain test s e t isnt = updated-other s.buffer e.thread _ t isnt
other_as (Read v) test s e t isnt = refl
other_as Fenced test s e t isnt = refl
other_as (Exchanged v) test s e t isnt = refl

pub buffer_other : (test : LitmusTest) (s : State) (e : Event) (t : ℕ) → (e.thread ≡ t → ⊥)
    → (after test s e).buffer t ≡ s.buffer t
buffer_other test s e t isnt = other_as e.kind test s e t isnt

-- the memory after an event is that after its shared steps

read_memory : (b : Bool) (t x v : ℕ) (memory : ℕ → ℕ)
    → memory_after memory (map (tagged t) (cond b [] (Load x v ∷ []))) ≡ memory
read_memory true t x v memory = refl
read_memory false t x v memory = refl

memory_as : (k : Kind) (test : LitmusTest) (s : State) (e : Event)
    → memory_after s.memory (map (tagged e.thread) (steps_as k test (s.buffer e.thread) e))
    ≡ (after_as k test s e).memory
memory_as Push test s e = refl
memory_as Drain test s e = refl
memory_as (Read v) test s e =
    read_memory (is_some (newest (event_location test e) (s.buffer e.thread))) e.thread
    (event_location test e) v s.memory
memory_as Fenced test s e = refl
memory_as (Exchanged v) test s e = refl

pub memory_traced : (test : LitmusTest) (s : State) (e : Event)
    → memory_after s.memory (traced test (s.buffer e.thread) e) ≡ (after test s e).memory
memory_traced test s e = memory_as e.kind test s e

-- an event's needs are those of its buffer and those of its shared steps

read_needs : (o : Option ℕ) (t x v : ℕ) (memory : ℕ → ℕ) (h : List TracedStep) → IfSome o (λ w. v ≡ w)
    → FindsAll memory (map (tagged t) (cond (is_some o) [] (Load x v ∷ [])) ++ h) → v ≡ unwrap_or o (memory x)
read_needs None t x v memory h agrees finds = finds.0
read_needs (Some w) t x v memory h agrees finds = agrees

needs_as : (k : Kind) (test : LitmusTest) (s : State) (e : Event) (h : List TracedStep)
    → AgreesAs k test (s.buffer e.thread) e → FindsAll s.memory
    (map (tagged e.thread) (steps_as k test (s.buffer e.thread) e) ++ h) → NeedsAs k test s e
needs_as Push test s e h agrees finds = tt
needs_as Drain test s e h agrees finds = agrees
needs_as (Read v) test s e h agrees finds =
    read_needs (newest (event_location test e) (s.buffer e.thread)) e.thread
    (event_location test e) v s.memory h agrees finds
needs_as Fenced test s e h agrees finds = agrees
needs_as (Exchanged v) test s e h agrees finds = (agrees, finds.0)

pub needs_from : (test : LitmusTest) (s : State) (e : Event) (h : List TracedStep) → Agrees test (s.buffer e.thread) e
    → FindsAll s.memory (traced test (s.buffer e.thread) e ++ h) → Needs test s e
needs_from test s e h agrees finds = needs_as e.kind test s e h agrees finds

read_agrees : (o : Option ℕ) (v m : ℕ) → v ≡ unwrap_or o m → IfSome o (λ w. v ≡ w)
read_agrees None v m is = tt
read_agrees (Some w) v m is = is

agrees_as : (k : Kind) (test : LitmusTest) (s : State) (e : Event) → NeedsAs k test s e
    → AgreesAs k test (s.buffer e.thread) e
agrees_as Push test s e needs = tt
agrees_as Drain test s e needs = needs
agrees_as (Read v) test s e needs =
    read_agrees (newest (event_location test e) (s.buffer e.thread)) v (s.memory (event_location test e)) needs
agrees_as Fenced test s e needs = needs
agrees_as (Exchanged v) test s e needs = needs.0

pub agrees_from : (test : LitmusTest) (s : State) (e : Event) → Needs test s e → Agrees test (s.buffer e.thread) e
agrees_from test s e needs = agrees_as e.kind test s e needs

read_finds : (o : Option ℕ) (t x v : ℕ) (memory : ℕ → ℕ) → v ≡ unwrap_or o (memory x)
    → FindsAll memory (map (tagged t) (cond (is_some o) [] (Load x v ∷ [])))
read_finds None t x v memory is = (is, tt)
read_finds (Some w) t x v memory is = tt

finds_as : (k : Kind) (test : LitmusTest) (s : State) (e : Event) → NeedsAs k test s e
    → FindsAll s.memory (map (tagged e.thread) (steps_as k test (s.buffer e.thread) e))
finds_as Push test s e needs = tt
finds_as Drain test s e needs = (tt, tt)
finds_as (Read v) test s e needs =
    read_finds (newest (event_location test e) (s.buffer e.thread)) e.thread (event_location test e) v s.memory needs
finds_as Fenced test s e needs = tt
finds_as (Exchanged v) test s e needs = (needs.1, tt)

pub finds_from : (test : LitmusTest) (s : State) (e : Event) → Needs test s e
    → FindsAll s.memory (traced test (s.buffer e.thread) e)
finds_from test s e needs = finds_as e.kind test s e needs

-- an event gives no shared step, or one

abbrev pub IsAtMostOne : List Step → Type 0
IsAtMostOne steps = (steps ≡ []) ⊎ ((step : Step) × (steps ≡ step ∷ []))

read_few : (b : Bool) (step : Step) → IsAtMostOne (cond b [] (step ∷ []))
read_few true step = inl refl
read_few false step = inr (step, refl)

few_as : (k : Kind) (test : LitmusTest) (buffer : List Write) (e : Event) → IsAtMostOne (steps_as k test buffer e)
few_as Push test buffer e = inl refl
few_as Drain test buffer e = inr (_, refl)
few_as (Read v) test buffer e =
    read_few (is_some (newest (event_location test e) buffer)) (Load (event_location test e) v)
few_as Fenced test buffer e = inl refl
few_as (Exchanged v) test buffer e = inr (_, refl)

pub at_most_one : (test : LitmusTest) (buffer : List Write) (e : Event) → IsAtMostOne (steps_of test buffer e)
at_most_one test buffer e = few_as e.kind test buffer e
