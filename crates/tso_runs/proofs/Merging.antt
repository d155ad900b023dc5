-- Parts merge into a run: as long as an event is left, one can come next whose shared step, if it has one, is the
-- history's next.
use Rattle.std.proofs.Common.{◌≡◌, ◌⊎◌, inl, inr, ⊎_elim, ℕ, zero, suc, ◌+◌, ◌<◌, ◌≤◌, All, List, [], ◌∷◌, ◌++◌, map, length, refl, sym, ◌∙◌, ap, subst, arith}
use mathlib.Core.Path.{subst₂}
use Rattle.std.proofs.lemmas.Bool.{cases_eq, cases_lt}
use Rattle.std.proofs.lemmas.List.{append_cancel_left}
use Rattle.std.proofs.lemmas.List.Elements.{All-nil, All-cons, All-head, All-same, All-rest}
use Rattle.x86_subset.specs.Test.{LitmusTest}
use Rattle.tso_machine.specs.Event.{Event}
use Rattle.tso_machine.specs.Machine.{State, Steps, initial, updated, after, after_all}
use Rattle.tso_machine.specs.Part.{part_of, own_after, KeepsBuffer}
use Rattle.tso_words.specs.declared.step.Step.{Step}
use Rattle.tso_words.specs.declared.step.TracedStep.{TracedStep}
use Rattle.tso_words.specs.History.{history_part}
use Rattle.tso_runs.specs.SharedSteps.{steps_of, shared_steps, shared_history}
use Rattle.tso_runs.specs.Fits.{EndsWith}
use Rattle.tso_runs.specs.Merging.{PartsMerge}
use Rattle.std.specs.Prelude.{slice_index}
use Rattle.tso_runs.proofs.Events.{tagged, traced, IsAtMostOne, at_most_one, updated-same, updated-other, part_of-own, part_of-other, history_part-own, history_part-tagged_own, history_part-tagged_other, buffer_own, buffer_other, memory_traced, needs_from}
use Rattle.tso_runs.proofs.Memories.{FindsAll, finds_memory, memory_after, same_after, same_zeros, zeros}
use Rattle.tso_runs.proofs.Runs.{FindsAll-back, memory_all}
use Rattle.tso_words.specs.History as words

-- how many events are left of the threads below n
total : ℕ → (ℕ → List Event) → ℕ
total zero rest = 0
total (suc n) rest = length (rest n) + total n rest

-- what is left to do in a state: the rest of each part, and of the history
record IsLeft (test : LitmusTest) (s : State) (history : List TracedStep) (rest : ℕ → List Event) : Type 0 where
  own : (t : ℕ) → t < length test.bodies → All (λ e. e.thread ≡ t) (rest t)
  keeps : (t : ℕ) → t < length test.bodies → KeepsBuffer test (s.buffer t) (rest t)
  steps : (t : ℕ) → t < length test.bodies → shared_steps test (s.buffer t) (rest t) ≡ history_part t history
  nothing : (t : ℕ) → length test.bodies ≤ t → history_part t history ≡ []
  idle : (t : ℕ) → length test.bodies ≤ t → s.buffer t ≡ []
  finds : FindsAll s.memory history

-- the run does it
record Does (test : LitmusTest) (s : State) (history : List TracedStep) (rest : ℕ → List Event)
    (run : List Event) : Type 0 where
  legal : Steps test s run
  drained : (t : ℕ) → (after_all test s run).buffer t ≡ []
  threads : All (λ e. e.thread < length test.bodies) run
  made_of : (t : ℕ) → t < length test.bodies → part_of t run ≡ rest t
  makes : shared_history test s run ≡ history

-- an event that can come next
record Next (test : LitmusTest) (s : State) (history : List TracedStep) (rest : ℕ → List Event) : Type 0 where
  event : Event
  events : List Event
  later : List TracedStep
  within : event.thread < length test.bodies
  first : rest event.thread ≡ event ∷ events
  gives : traced test (s.buffer event.thread) event ++ later ≡ history

-- the number of events that are left falls

total-updated_past : (n : ℕ) (rest : ℕ → List Event) (u : ℕ) (es : List Event) → n ≤ u
    → total n (updated rest u es) ≡ total n rest
unfolding total
total-updated_past zero rest u es le = refl
total-updated_past (suc n) rest u es le =
    let other : updated rest u es n ≡ rest n = updated-other rest u es n (λ is. omega arith) in
    let ih : total n (updated rest u es) ≡ total n rest = total-updated_past n rest u es (omega arith) in
    omega (arith, ap length other, ih)

total-updated : (n : ℕ) (rest : ℕ → List Event) (u : ℕ) (e : Event) (es : List Event) → u < n → rest u ≡ e ∷ es
    → suc (total n (updated rest u es)) ≡ total n rest
unfolding total
total-updated zero rest u e es lt is = absurd (omega arith)
total-updated (suc n) rest u e es lt is =
    ⊎_elim
    (λ same.
    let here : updated rest u es n ≡ es = updated-same rest u es n same in
    let was : rest n ≡ e ∷ es = ap rest (sym same) ∙ is in
    let past : total n (updated rest u es) ≡ total n rest = total-updated_past n rest u es (omega arith) in
    omega (arith, ap length here, ap length was, past))
    (λ isnt.
    let other : updated rest u es n ≡ rest n = updated-other rest u es n isnt in
    let ih : suc (total n (updated rest u es)) ≡ total n rest = total-updated n rest u e es (omega arith) is in
    omega (arith, ap length other, ih))
    (cases_eq u n)

-- a thread with an event left, or none

record HasMore (n : ℕ) (rest : ℕ → List Event) : Type 0 where
  thread : ℕ
  event : Event
  events : List Event
  within : thread < n
  first : rest thread ≡ event ∷ events

abbrev IsDone : ℕ → (ℕ → List Event) → Type 0
IsDone n rest = (t : ℕ) → t < n → rest t ≡ []

find_more : (n : ℕ) (rest : ℕ → List Event) → HasMore n rest ⊎ IsDone n rest
find_more zero rest = inr (λ t lt. absurd (omega arith))
find_more (suc n) rest =
    ⊎_elim (λ more. inl (record {
      thread = more.thread;
      event = more.event;
      events = more.events;
      within = omega arith;
      first = more.first;
    }))
    (λ done. here (rest n) refl done)
    (find_more n rest)
  where
    here : (l : List Event) → rest n ≡ l → IsDone n rest → HasMore (suc n) rest ⊎ IsDone (suc n) rest
    here [] is done = inr (λ t lt. ⊎_elim (λ same. ap rest same ∙ is) (λ isnt. done t (omega arith)) (cases_eq t n))
    here (e ∷ es) is done = inl (record { thread = n; event = e; events = es; within = omega arith; first = is })

thread_of_first : (test : LitmusTest) (s : State) (history : List TracedStep) (rest : ℕ → List Event)
    → IsLeft test s history rest → (t : ℕ) (e : Event) (es : List Event) → t < length test.bodies → rest t ≡ e ∷ es
    → e.thread ≡ t
thread_of_first test s history rest left t e es lt first =
    All-head (λ (e : Event). e.thread ≡ t) e es (subst (λ (l : List Event). All (λ e. e.thread ≡ t) l) first
    (left.own t lt))

-- the first event of a part can come if it gives no step, or the history's first
could_come : (test : LitmusTest) (s : State) (history : List TracedStep) (rest : ℕ → List Event)
    → IsLeft test s history rest → (t : ℕ) (e : Event) (es : List Event) → t < length test.bodies → rest t ≡ e ∷ es
    → (later : List TracedStep) → traced test (s.buffer t) e ++ later ≡ history → Next test s history rest
could_come test s history rest left t e es lt first later gives =
    let same : t ≡ e.thread = sym (thread_of_first test s history rest left t e es lt first) in
    record {
      event = e;
      events = es;
      later = later;
      within = subst (λ (u : ℕ). u < length test.bodies) same lt;
      first = subst (λ (u : ℕ). rest u ≡ e ∷ es) same first;
      gives = subst (λ (u : ℕ). traced test (s.buffer u) e ++ later ≡ history) same gives;
    }

next_at_end : (test : LitmusTest) (s : State) (rest : ℕ → List Event) → IsLeft test s [] rest
    → HasMore (length test.bodies) rest → Next test s [] rest
next_at_end test s rest left more =
    ⊎_elim
    (λ none. could_come test s [] rest left more.thread more.event more.events more.within more.first []
    (ap (λ (l : List Step). map (tagged more.event.thread) l ++ []) none))
    (λ one. let step : Step = one.0 in let is : steps_of test (s.buffer more.thread) more.event ≡ step ∷ [] = one.1 in
    absurd (clash step is))
    (at_most_one test (s.buffer more.thread) more.event)
  where
    clash : (step : Step) → steps_of test (s.buffer more.thread) more.event ≡ step ∷ [] → ⊥
    clash step is =
        let all : steps_of test (s.buffer more.thread) more.event
        ++ shared_steps test (own_after test (s.buffer more.thread) more.event) more.events
        ≡ [] = sym (ap (shared_steps test (s.buffer more.thread)) more.first)
        ∙ left.steps more.thread more.within in
        let some : step ∷ shared_steps test (own_after test (s.buffer more.thread) more.event) more.events
        ≡ [] = ap (λ (l : List Step). l ++ shared_steps test (own_after test (s.buffer more.thread) more.event)
        more.events) (sym is) ∙ all in
        cc

next_in_history : (test : LitmusTest) (s : State) (step : TracedStep) (history : List TracedStep)
    (rest : ℕ → List Event) → IsLeft test s (step ∷ history) rest → Next test s (step ∷ history) rest
next_in_history test s step history rest left =
    ⊎_elim (λ lt. here (rest step.thread) refl lt) (λ ge. let none : step.step ∷ history_part step.thread history
    ≡ [] = sym steps ∙ left.nothing step.thread ge in absurd cc) (cases_lt step.thread (length test.bodies))
  where
    steps : history_part step.thread (step ∷ history) ≡ step.step ∷ history_part step.thread history
    steps = history_part-own step.thread step history refl

    come : (e : Event) (es : List Event) → rest step.thread ≡ e ∷ es → step.thread < length test.bodies
        → IsAtMostOne (steps_of test (s.buffer step.thread) e) → Next test s (step ∷ history) rest
    come e es is lt (inl none) =
        could_come test s (step ∷ history) rest left step.thread e es lt is (step ∷ history)
        (ap (λ (l : List Step). map (tagged e.thread) l ++ (step ∷ history)) none)
    come e es is lt (inr one) =
        let thread : e.thread ≡ step.thread = thread_of_first test s
        (step ∷ history) rest left step.thread e es lt is in
        let all : one.0 ∷ shared_steps test (own_after test (s.buffer step.thread) e) es ≡ step.step
        ∷ history_part step.thread history =
        ap (λ (l : List Step). l ++ shared_steps test (own_after test (s.buffer step.thread) e) es) (sym one.1)
        ∙ sym (ap (shared_steps test (s.buffer step.thread)) is) ∙ left.steps step.thread lt ∙ steps
        in
        let same : one.0 ≡ step.step = cc in
        could_come test s (step ∷ history) rest left step.thread e es lt is history
        (ap (λ (l : List Step). map (tagged e.thread) l ++ history) one.1 ∙ λ i. tagged (thread i) (same i) ∷ history)

    here : (l : List Event) → rest step.thread ≡ l → step.thread < length test.bodies
        → Next test s (step ∷ history) rest
    here [] is lt =
        let none : [] ≡ step.step ∷ history_part step.thread history = sym
        (ap (shared_steps test (s.buffer step.thread)) is) ∙ left.steps step.thread lt ∙ steps in
        absurd cc
    here (e ∷ es) is lt = come e es is lt (at_most_one test (s.buffer step.thread) e)

next : (test : LitmusTest) (s : State) (history : List TracedStep) (rest : ℕ → List Event) → IsLeft test s history rest
    → Next test s history rest ⊎ (IsDone (length test.bodies) rest × (history ≡ []))
next test s [] rest left =
    ⊎_elim (λ more. inl (next_at_end test s rest left more)) (λ done. inr (done, refl))
    (find_more (length test.bodies) rest)
next test s (step ∷ history) rest left = inl (next_in_history test s step history rest left)

-- it comes

left_after : (test : LitmusTest) (s : State) (history : List TracedStep) (rest : ℕ → List Event)
    → IsLeft test s history rest → (n : Next test s history rest)
    → IsLeft test (after test s n.event) n.later (updated rest n.event.thread n.events)
left_after test s history rest left n = record {
  own = λ t lt.
      ⊎_elim
      (λ is. All-same (λ (e : Event). e.thread ≡ t) (left_now t) n.events (now_own t is)
      (All-rest (λ (e : Event). e.thread ≡ t) n.event n.events (rest t) (was t is) (left.own t lt)))
      (λ isnt. All-same (λ (e : Event). e.thread ≡ t) (left_now t) (rest t) (now_other t isnt) (left.own t lt))
      (cases_eq n.event.thread t);
  keeps = λ t lt.
      ⊎_elim
      (λ is. subst₂ (KeepsBuffer test) (sym (buffer_own test s n.event t is)) (sym (now_own t is))
      (subst (KeepsBuffer test (s.buffer t)) (was t is) (left.keeps t lt)).1)
      (λ isnt. subst₂ (KeepsBuffer test) (sym (buffer_other test s n.event t isnt)) (sym (now_other t isnt))
      (left.keeps t lt))
      (cases_eq n.event.thread t);
  steps = λ t lt.
      ⊎_elim
      (λ is. (λ i. shared_steps test (buffer_own test s n.event t is i) (now_own t is i))
      ∙ append_cancel_left (steps_of test (s.buffer t) n.event) _ _ (steps_own t is lt))
      (λ isnt. (λ i. shared_steps test (buffer_other test s n.event t isnt i) (now_other t isnt i)) ∙ left.steps t lt
      ∙ sym (history_other t isnt))
      (cases_eq n.event.thread t);
  nothing = λ t ge. history_other t (λ is. omega (arith, n.within)) ∙ left.nothing t ge;
  idle = λ t ge. buffer_other test s n.event t (λ is. omega (arith, n.within)) ∙ left.idle t ge;
  finds =
      subst (λ (m : ℕ → ℕ). FindsAll m n.later) (memory_traced test s n.event)
      (FindsAll-back s.memory (traced test (s.buffer n.event.thread) n.event) n.later
      (subst (FindsAll s.memory) (sym n.gives) left.finds));
}
  where
    left_now : ℕ → List Event
    left_now = updated rest n.event.thread n.events

    now_own : (t : ℕ) → n.event.thread ≡ t → left_now t ≡ n.events
    now_own t is = updated-same rest n.event.thread n.events t is

    now_other : (t : ℕ) → (n.event.thread ≡ t → ⊥) → left_now t ≡ rest t
    now_other t isnt = updated-other rest n.event.thread n.events t isnt

    was : (t : ℕ) → n.event.thread ≡ t → rest t ≡ n.event ∷ n.events
    was t is = ap rest (sym is) ∙ n.first

    history_other : (t : ℕ) → (n.event.thread ≡ t → ⊥) → history_part t n.later ≡ history_part t history
    history_other t isnt =
        sym (history_part-tagged_other t n.event.thread (steps_of test (s.buffer n.event.thread) n.event) n.later isnt)
        ∙ ap (history_part t) n.gives

    steps_own : (t : ℕ) → n.event.thread ≡ t → t < length test.bodies
        → steps_of test (s.buffer t) n.event ++ shared_steps test (own_after test (s.buffer t) n.event) n.events
        ≡ steps_of test (s.buffer t) n.event ++ history_part t n.later
    steps_own t is lt =
        sym (ap (shared_steps test (s.buffer t)) (was t is))
        ∙ left.steps t lt
        ∙ ap (history_part t) (sym n.gives)
        ∙ history_part-tagged_own t n.event.thread (steps_of test (s.buffer n.event.thread) n.event) n.later is
        ∙ ap (λ (u : ℕ). steps_of test (s.buffer u) n.event ++ history_part t n.later) is

does_more : (test : LitmusTest) (s : State) (history : List TracedStep) (rest : ℕ → List Event)
    → IsLeft test s history rest → (n : Next test s history rest) (run : List Event)
    → Does test (after test s n.event) n.later (updated rest n.event.thread n.events) run
    → Does test s history rest (n.event ∷ run)
does_more test s history rest left n run does = record {
  legal = (
    needs_from test s n.event n.later (subst (KeepsBuffer test (s.buffer n.event.thread)) n.first
        (left.keeps n.event.thread n.within)).0 (subst (FindsAll s.memory) (sym n.gives) left.finds),
    does.legal,
  );
  drained = does.drained;
  threads = All-cons (λ (e : Event). e.thread < length test.bodies) n.event run n.within does.threads;
  made_of = λ t lt.
      ⊎_elim
      (λ is. part_of-own t n.event run is ∙ ap (λ (l : List Event). n.event ∷ l)
      (does.made_of t lt ∙ updated-same rest n.event.thread n.events t is) ∙ sym (ap rest (sym is) ∙ n.first))
      (λ isnt. part_of-other t n.event run isnt ∙ does.made_of t lt ∙ updated-other rest n.event.thread n.events t isnt)
      (cases_eq n.event.thread t);
  makes = ap (λ (l : List TracedStep). traced test (s.buffer n.event.thread) n.event ++ l) does.makes ∙ n.gives;
}

does_none : (test : LitmusTest) (s : State) (history : List TracedStep) (rest : ℕ → List Event)
    → IsLeft test s history rest → IsDone (length test.bodies) rest → history ≡ [] → Does test s history rest []
does_none test s history rest left done none = record {
  legal = tt;
  drained =
      λ t. ⊎_elim (λ lt. subst (KeepsBuffer test (s.buffer t)) (done t lt) (left.keeps t lt)) (left.idle t)
      (cases_lt t (length test.bodies));
  threads = All-nil (λ (e : Event). e.thread < length test.bodies);
  made_of = λ t lt. sym (done t lt);
  makes = sym none;
}

does_all : (fuel : ℕ) (test : LitmusTest) (s : State) (history : List TracedStep) (rest : ℕ → List Event)
    → total (length test.bodies) rest ≤ fuel → IsLeft test s history rest
    → (run : List Event) × Does test s history rest run
does_all zero test s history rest enough left =
    ⊎_elim (λ n. let falls : suc (total (length test.bodies) (updated rest n.event.thread n.events))
    ≡ total (length test.bodies) rest = total-updated (length test.bodies) rest n.event.thread n.event n.events
    n.within n.first in absurd (omega arith))
    (λ end. ([], does_none test s history rest left end.0 end.1))
    (next test s history rest left)
does_all (suc fuel) test s history rest enough left =
    ⊎_elim
    (λ n.
    let falls : suc (total (length test.bodies) (updated rest n.event.thread n.events))
    ≡ total (length test.bodies) rest = total-updated (length test.bodies) rest n.event.thread n.event n.events
    n.within n.first in
    let later : (run : List Event) × Does test (after test s n.event) n.later
    (updated rest n.event.thread n.events) run =
    does_all fuel test (after test s n.event) n.later (updated rest n.event.thread n.events) (omega arith)
    (left_after test s history rest left n)
    in
    (n.event ∷ later.0, does_more test s history rest left n later.0 later.1))
    (λ end. ([], does_none test s history rest left end.0 end.1))
    (next test s history rest left)

-- the words of a flat history are the memory that a run with that history leaves
pub ends_with : (test : LitmusTest) (ws : List ℕ) (history : List TracedStep) (run : List Event)
    → words.memory_after words.zeros history ≡ ws → shared_history test initial run ≡ history → EndsWith test ws run
ends_with test ws history run flat makes x low =
    ap (λ (l : List ℕ). slice_index l x) (sym flat)
    ∙ (same_after words.zeros zeros history same_zeros).each x low
    ∙ ap (λ (h : List TracedStep). memory_after zeros h x) (sym makes)
    ∙ sym (ap (λ (m : ℕ → ℕ). m x) (memory_all test initial run))

pub parts_merge : PartsMerge
parts_merge test ws history parts flat keeps explains =
    let left : IsLeft test initial history parts = record {
      own = λ t lt. (keeps t lt).0;
      keeps = λ t lt. (keeps t lt).1;
      steps = explains.steps;
      nothing = explains.rest;
      idle = λ t ge. refl;
      finds = finds_memory words.zeros zeros history same_zeros flat.0;
    }
    in
    let found : (run : List Event) × Does test initial history parts run = does_all
    (total (length test.bodies) parts) test initial history parts (omega arith) left in
    let run = found.0 in
    let does : Does test initial history parts run = found.1 in (
      run,
      record {
        legal = record { steps = does.legal; drained = does.drained };
        threads = does.threads;
        made_of = does.made_of;
        makes = does.makes;
        ends = ends_with test ws history run flat.1 does.makes;
      },
    )
