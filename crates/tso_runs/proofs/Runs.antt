-- What a run makes: the buffers of its parts, and its shared history with the memory that it finds and leaves.
use Rattle.std.proofs.Common.{◌≡◌, ⊎_elim, ℕ, ◌<◌, All, List, [], ◌∷◌, ◌++◌, map, length, refl, sym, ◌∙◌, ap, subst, arith}
use Rattle.std.proofs.lemmas.Bool.{cases_eq}
use Rattle.std.proofs.lemmas.List.Elements.{All-nil, All-cons, All-head, All-tail, All-append, All-weaker}
use Rattle.x86_subset.specs.Test.{LitmusTest}
use Rattle.tso_machine.specs.Event.{Event}
use Rattle.tso_machine.specs.Machine.{Write, State, Steps, initial, after, after_all}
use Rattle.tso_machine.specs.Part.{part_of, own_after, Agrees, KeepsBuffer}
use Rattle.tso_words.specs.declared.step.Step.{Step}
use Rattle.tso_words.specs.declared.step.TracedStep.{TracedStep}
use Rattle.tso_words.specs.History.{history_part}
use Rattle.tso_words.specs.History as words
use Rattle.tso_runs.proofs.Memories.{memory_after, memory_after_step, FindsAll, finds_words, low_history, same_after, same_zeros, zeros}
use Rattle.tso_runs.specs.SharedSteps.{steps_of, shared_steps, shared_history}
use Rattle.tso_runs.specs.Merging.{LegalRunsMakeTheirHistories, history_of}
use Rattle.tso_runs.proofs.Events.{tagged, traced, part_of-own, part_of-other, history_part-tagged_own, history_part-tagged_other, buffer_own, buffer_other, memory_traced, agrees_from, finds_from}

pub memory_after-append : (memory : ℕ → ℕ) (xs ys : List TracedStep)
    → memory_after memory (xs ++ ys) ≡ memory_after (memory_after memory xs) ys
memory_after-append memory [] ys = refl
memory_after-append memory (x ∷ xs) ys = memory_after-append (memory_after_step memory x.step) xs ys

pub FindsAll-append : (memory : ℕ → ℕ) (xs ys : List TracedStep) → FindsAll memory xs
    → FindsAll (memory_after memory xs) ys → FindsAll memory (xs ++ ys)
FindsAll-append memory [] ys front back = back
FindsAll-append memory (x ∷ xs) ys front back =
    (front.0, FindsAll-append (memory_after_step memory x.step) xs ys front.1 back)

pub FindsAll-back : (memory : ℕ → ℕ) (xs ys : List TracedStep) → FindsAll memory (xs ++ ys)
    → FindsAll (memory_after memory xs) ys
FindsAll-back memory [] ys all = all
FindsAll-back memory (x ∷ xs) ys all = FindsAll-back (memory_after_step memory x.step) xs ys all.1

pub keeps_all : (test : LitmusTest) (s : State) (run : List Event) (t : ℕ) → Steps test s run
    → (after_all test s run).buffer t ≡ [] → KeepsBuffer test (s.buffer t) (part_of t run)
keeps_all test s [] t steps drained = drained
keeps_all test s (e ∷ es) t steps drained =
    let later : KeepsBuffer test ((after test s e).buffer t) (part_of t es) = keeps_all test
    (after test s e) es t steps.1 drained in
    ⊎_elim
    (λ is.
    subst (λ (part : List Event). KeepsBuffer test (s.buffer t) part) (sym (part_of-own t e es is)) (
      subst (λ (u : ℕ). Agrees test (s.buffer u) e) is (agrees_from test s e steps.0),
      subst (λ (b : List Write). KeepsBuffer test b (part_of t es)) (buffer_own test s e t is) later,
    ))
    (λ isnt.
    subst (λ (part : List Event). KeepsBuffer test (s.buffer t) part) (sym (part_of-other t e es isnt))
    (subst (λ (b : List Write). KeepsBuffer test b (part_of t es)) (buffer_other test s e t isnt) later))
    (cases_eq e.thread t)

pub history_part-shared_history : (test : LitmusTest) (s : State) (run : List Event) (t : ℕ)
    → history_part t (shared_history test s run) ≡ shared_steps test (s.buffer t) (part_of t run)
history_part-shared_history test s [] t = refl
history_part-shared_history test s (e ∷ es) t =
    let later : history_part t (shared_history test (after test s e) es)
    ≡ shared_steps test ((after test s e).buffer t) (part_of t es) = history_part-shared_history test
    (after test s e) es t in
    ⊎_elim
    (λ is.
    history_part-tagged_own t e.thread (steps_of test (s.buffer e.thread) e)
    (shared_history test (after test s e) es) is
    ∙ ap (λ (l : List Step). steps_of test (s.buffer e.thread) e ++ l)
    (later ∙ ap (λ (b : List Write). shared_steps test b (part_of t es)) (buffer_own test s e t is))
    ∙ ap (λ (u : ℕ). steps_of test (s.buffer u) e ++ shared_steps test (own_after test (s.buffer t) e) (part_of t es))
    is
    ∙ sym (ap (shared_steps test (s.buffer t)) (part_of-own t e es is)))
    (λ isnt.
    history_part-tagged_other t e.thread (steps_of test (s.buffer e.thread) e)
    (shared_history test (after test s e) es) isnt
    ∙ later
    ∙ ap (λ (b : List Write). shared_steps test b (part_of t es)) (buffer_other test s e t isnt)
    ∙ sym (ap (shared_steps test (s.buffer t)) (part_of-other t e es isnt)))
    (cases_eq e.thread t)

pub finds_all : (test : LitmusTest) (s : State) (run : List Event) → Steps test s run
    → FindsAll s.memory (shared_history test s run)
finds_all test s [] steps = tt
finds_all test s (e ∷ es) steps =
    FindsAll-append s.memory (traced test (s.buffer e.thread) e) (shared_history test (after test s e) es)
    (finds_from test s e steps.0)
    (subst (λ (m : ℕ → ℕ). FindsAll m (shared_history test (after test s e) es)) (sym (memory_traced test s e))
    (finds_all test (after test s e) es steps.1))

pub memory_all : (test : LitmusTest) (s : State) (run : List Event)
    → (after_all test s run).memory ≡ memory_after s.memory (shared_history test s run)
memory_all test s [] = refl
memory_all test s (e ∷ es) =
    memory_all test (after test s e) es
    ∙ ap (λ (m : ℕ → ℕ). memory_after m (shared_history test (after test s e) es)) (sym (memory_traced test s e))
    ∙ sym (memory_after-append s.memory (traced test (s.buffer e.thread) e) (shared_history test (after test s e) es))

threads_tagged : (n t : ℕ) (steps : List Step) → t < n → All (λ (s : TracedStep). s.thread < n) (map (tagged t) steps)
threads_tagged n t [] lt = All-nil (λ (s : TracedStep). s.thread < n)
threads_tagged n t (x ∷ xs) lt =
    All-cons (λ (s : TracedStep). s.thread < n) (tagged t x) (map (tagged t) xs) lt (threads_tagged n t xs lt)

threads_all : (n : ℕ) (test : LitmusTest) (s : State) (run : List Event) → All (λ e. e.thread < n) run
    → All (λ s. s.thread < n) (shared_history test s run)
threads_all n test s [] threads = All-nil (λ (s : TracedStep). s.thread < n)
threads_all n test s (e ∷ es) threads =
    All-append (λ (s : TracedStep). s.thread < n) (traced test (s.buffer e.thread) e)
    (shared_history test (after test s e) es)
    (threads_tagged n e.thread (steps_of test (s.buffer e.thread) e)
    (All-head (λ (e : Event). e.thread < n) e es threads))
    (threads_all n test (after test s e) es (All-tail (λ (e : Event). e.thread < n) e es threads))

pub makes_its_history : LegalRunsMakeTheirHistories
makes_its_history test run is_test legal threads = record {
  keeps = λ t. keeps_all test initial run t legal.steps (legal.drained t);
  steps = λ t. sym (history_part-shared_history test initial run t);
  threads = of_threads;
  flat = (
    finds_words words.zeros zeros (history_of test run) same_zeros
        (All-weaker (λ (s : TracedStep). s.thread < length test.bodies) (λ (s : TracedStep). s.thread < 8)
        (λ s lt. let few = is_test.few_threads in omega (arith, few, lt)) (history_of test run) of_threads)
        (low_history test initial run is_test) (finds_all test initial run legal.steps),
    refl,
  );
  ends =
      λ x low. (same_after words.zeros zeros (history_of test run) same_zeros).each x low
      ∙ sym (ap (λ (m : ℕ → ℕ). m x) (memory_all test initial run));
}
  where
    of_threads : All (λ (s : TracedStep). s.thread < length test.bodies) (history_of test run)
    of_threads = threads_all (length test.bodies) test initial run threads
