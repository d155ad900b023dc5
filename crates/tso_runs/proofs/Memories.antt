-- The machine's memory is a function from locations, and a flat history speaks of the list of words. At locations below
-- 16 they are the same, so histories are told by the function inside the proofs.
use Rattle.std.proofs.Common.{◌≡◌, ⊎_elim, ℕ, zero, suc, ◌==◌, ◌<◌, cond, All, List, [], ◌∷◌, length, length-set, set, replicate, get_or, get_or-set_same, get_or-set_other, refl, sym, ◌∙◌, ap, map, lit<, arith, eq-eqb, ne_eqb}
use Rattle.std.specs.Prelude.{◌≤◌, IfSome, slice_index, slice_get, is_some, unwrap_or, Bool, true, false}
use Rattle.std.specs.Option.{option_and_then, option_map_or}
use Rattle.std.proofs.lemmas.Bool.{cases_eq, cond-true, cond-false}
use Rattle.std.proofs.lemmas.List.Elements.{All-nil, All-cons, All-head, All-tail, All-append}
use Rattle.x86_subset.specs.Instr.{location_of}
use Rattle.x86_subset.specs.Shape.{IsLocated, AreLocated, IsTest}
use Rattle.x86_subset.specs.Test.{Code, LitmusTest, body_of}
use Rattle.x86_subset.specs.declared.instr.Instr.{Instr}
use Rattle.x86_subset.specs.declared.instr.Instr.TheVariants as instr
use Rattle.tso_machine.specs.Event.{Event, Kind, Push, Drain, Read, Fenced, Exchanged, event_location, written_value}
use Rattle.tso_machine.specs.Machine.{Write, State, newest, updated, after}
use Rattle.tso_words.specs.History as words
use Rattle.tso_words.specs.declared.step.Step.{Step}
use Rattle.tso_words.specs.declared.step.Step.TheVariants.{Load, Store, Swap}
use Rattle.tso_words.specs.declared.step.TracedStep.{TracedStep}
use Rattle.tso_runs.specs.SharedSteps.{steps_as, steps_of, shared_history}

-- the same as of words, of a memory

abbrev pub Finds : (ℕ → ℕ) → Step → Type 0
Finds memory (Load loc value) = value ≡ memory loc
Finds memory (Store loc value) = Unit {0}
Finds memory (Swap loc new old) = old ≡ memory loc

abbrev pub memory_after_step : (ℕ → ℕ) → Step → ℕ → ℕ
memory_after_step memory (Load loc value) = memory
memory_after_step memory (Store loc value) = updated memory loc value
memory_after_step memory (Swap loc new old) = updated memory loc new

abbrev pub memory_after : (ℕ → ℕ) → List TracedStep → ℕ → ℕ
memory_after memory [] = memory
memory_after memory (s ∷ ss) = memory_after (memory_after_step memory s.step) ss

abbrev pub FindsAll : (ℕ → ℕ) → List TracedStep → Type 0
FindsAll memory [] = Unit {0}
FindsAll memory (s ∷ ss) = Finds memory s.step × FindsAll (memory_after_step memory s.step) ss

abbrev pub zeros : ℕ → ℕ
zeros x = 0

pub record AreSame (ws : List ℕ) (memory : ℕ → ℕ) : Type 0 where
  pub count : length ws ≡ 16
  pub each : (x : ℕ) → x < 16 → slice_index ws x ≡ memory x

same_set : (ws : List ℕ) (memory : ℕ → ℕ) (loc value : ℕ) → AreSame ws memory
    → AreSame (set ws loc value) (updated memory loc value)
same_set ws memory loc value same = record {
  count = length-set ws loc value ∙ same.count;
  each = λ x low.
      ⊎_elim
      (λ is.
      let within : loc < length ws = let n = same.count in omega (arith, is, n, low) in
      ap (λ n. get_or (set ws loc value) n 0) (sym is) ∙ get_or-set_same ws loc value 0 within
      ∙ sym (updated-is memory loc value x is))
      (λ isnt. get_or-set_other ws loc x value 0 (λ e. isnt (sym e)) ∙ same.each x low
      ∙ sym (updated-isnt memory loc value x isnt))
      (cases_eq loc x);
}
  where
    updated-is : (f : ℕ → ℕ) (i a j : ℕ) → i ≡ j → updated f i a j ≡ a
    updated-is f i a j e = cond-true (i == j) a (f j) (eq-eqb i j e)

    updated-isnt : (f : ℕ → ℕ) (i a j : ℕ) → (i ≡ j → ⊥) → updated f i a j ≡ f j
    updated-isnt f i a j n = cond-false (i == j) a (f j) (ne_eqb i j n)

same_step : (s : Step) (ws : List ℕ) (memory : ℕ → ℕ) → AreSame ws memory
    → AreSame (words.memory_after_step ws s) (memory_after_step memory s)
same_step (Load loc value) ws memory same = same
same_step (Store loc value) ws memory same = same_set ws memory loc value same
same_step (Swap loc new old) ws memory same = same_set ws memory loc new same

pub same_after : (ws : List ℕ) (memory : ℕ → ℕ) (history : List TracedStep) → AreSame ws memory
    → AreSame (words.memory_after ws history) (memory_after memory history)
same_after ws memory [] same = same
same_after ws memory (s ∷ ss) same =
    same_after (words.memory_after_step ws s.step) (memory_after_step memory s.step) ss
    (same_step s.step ws memory same)

read_zeros : (n x : ℕ) → ◌≡◌ {A = ℕ} (get_or (replicate n 0) x 0) 0
read_zeros zero x = refl
read_zeros (suc n) zero = refl
read_zeros (suc n) (suc x) = read_zeros n x

pub same_zeros : AreSame words.zeros zeros
same_zeros = record { count = refl; each = λ x low. read_zeros 16 x }

finds_step : (s : Step) (ws : List ℕ) (memory : ℕ → ℕ) → AreSame ws memory → words.Finds ws s → Finds memory s
finds_step (Load loc value) ws memory same f = sym f.1 ∙ same.each loc f.0
finds_step (Store loc value) ws memory same f = tt
finds_step (Swap loc new old) ws memory same f = sym f.1 ∙ same.each loc f.0

-- a history that finds its words finds its memory
pub finds_memory : (ws : List ℕ) (memory : ℕ → ℕ) (history : List TracedStep) → AreSame ws memory
    → words.FindsAll ws history → FindsAll memory history
finds_memory ws memory [] same f = tt
finds_memory ws memory (s ∷ ss) same f = (
  finds_step s.step ws memory same f.1,
  finds_memory (words.memory_after_step ws s.step)
      (memory_after_step memory s.step) ss (same_step s.step ws memory same) f.2,
)

abbrev pub step_location : Step → ℕ
step_location (Load loc value) = loc
step_location (Store loc value) = loc
step_location (Swap loc new old) = loc

step_finds : (s : Step) (ws : List ℕ) (memory : ℕ → ℕ) → AreSame ws memory → step_location s < 16 → Finds memory s
    → words.Finds ws s
step_finds (Load loc value) ws memory same low f = (low, same.each loc low ∙ sym f)
step_finds (Store loc value) ws memory same low f = low
step_finds (Swap loc new old) ws memory same low f = (low, same.each loc low ∙ sym f)

-- and the converse, where its steps are of the 16 words and of eight threads
pub finds_words : (ws : List ℕ) (memory : ℕ → ℕ) (history : List TracedStep) → AreSame ws memory
    → All (λ s. s.thread < 8) history → All (λ s. step_location s.step < 16) history → FindsAll memory history
    → words.FindsAll ws history
finds_words ws memory [] same threads low f = tt
finds_words ws memory (s ∷ ss) same threads low f = (
  All-head (λ (s : TracedStep). s.thread < 8) s ss threads,
  step_finds s.step ws memory same (All-head (λ (s : TracedStep). step_location s.step < 16) s ss low) f.0,
  finds_words (words.memory_after_step ws s.step) (memory_after_step memory s.step) ss (same_step s.step ws memory same)
      (All-tail (λ (s : TracedStep). s.thread < 8) s ss threads) (All-tail
      (λ (s : TracedStep). step_location s.step < 16) s ss low) f.1,
)

-- the locations of a run

pub body_located : (n : ℕ) (bodies : List Code) (t : ℕ) → AreLocated n bodies
    → IsLocated n (option_map_or (λ (code : Code). code.actions) (slice_get bodies t) [])
body_located n [] t all = All-nil (λ (i : Instr). IfSome (location_of i) (λ x. x < n))
body_located n (b ∷ bs) zero all = All-head (λ (code : Code). IsLocated n code.actions) b bs all
body_located n (b ∷ bs) (suc t) all =
    body_located n bs t (All-tail (λ (code : Code). IsLocated n code.actions) b bs all)

low_of : (n : ℕ) (action : Instr) → n ≤ 16 → IfSome (location_of action) (λ x. x < n)
    → unwrap_or (location_of action) 0 < 16
low_of n (instr.Store loc written) few low = omega (arith, few, low)
low_of n (instr.Load reg loc) few low = omega (arith, few, low)
low_of n instr.Fence few low = lit< tt
low_of n (instr.Exchange loc written reg) few low = omega (arith, few, low)

low_at : (n : ℕ) (actions : List Instr) (p : ℕ) → n ≤ 16 → IsLocated n actions
    → unwrap_or (option_and_then location_of (slice_get actions p)) 0 < 16
low_at n [] p few all = lit< tt
low_at n (a ∷ rest) zero few all =
    low_of n a few (All-head (λ (i : Instr). IfSome (location_of i) (λ x. x < n)) a rest all)
low_at n (a ∷ rest) (suc p) few all =
    low_at n rest p few (All-tail (λ (i : Instr). IfSome (location_of i) (λ x. x < n)) a rest all)

event_low : (test : LitmusTest) (e : Event) → IsTest test → event_location test e < 16
event_low test e is_test =
    low_at (length test.locations) (body_of test e.thread) e.place is_test.few_locations
    (body_located (length test.locations) test.bodies e.thread is_test.located)

abbrev IsLow : TracedStep → Type 0
IsLow s = step_location s.step < 16

low_read : (b : Bool) (t x v : ℕ) → x < 16 → All IsLow (map (λ step. record { thread = t; step = step })
    (cond b [] (Load x v ∷ [])))
low_read true t x v low = All-nil IsLow
low_read false t x v low = All-cons IsLow (record { thread = t; step = Load x v }) [] low (All-nil IsLow)

low_as : (k : Kind) (test : LitmusTest) (buffer : List Write) (e : Event) → event_location test e < 16
    → All IsLow (map (λ step. record { thread = e.thread; step = step }) (steps_as k test buffer e))
low_as Push test buffer e low = All-nil IsLow
low_as Drain test buffer e low =
    All-cons IsLow (record { thread = e.thread; step = Store (event_location test e) (written_value test e) }) [] low
    (All-nil IsLow)
low_as (Read v) test buffer e low =
    low_read (is_some (newest (event_location test e) buffer)) e.thread (event_location test e) v low
low_as Fenced test buffer e low = All-nil IsLow
low_as (Exchanged v) test buffer e low =
    All-cons IsLow (record { thread = e.thread; step = Swap (event_location test e) (written_value test e) v }) [] low
    (All-nil IsLow)

pub low_history : (test : LitmusTest) (s : State) (run : List Event) → IsTest test
    → All IsLow (shared_history test s run)
low_history test s [] is_test = All-nil IsLow
low_history test s (e ∷ es) is_test =
    All-append IsLow (map (λ step. record { thread = e.thread; step = step }) (steps_of test (s.buffer e.thread) e))
    (shared_history test (after test s e) es)
    (low_as e.kind test (s.buffer e.thread) e (event_low test e is_test)) (low_history test (after test s e) es is_test)
