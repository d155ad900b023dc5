-- A flat history with one more step, and lists of parts.
use Rattle.std.proofs.Common.{◌≡◌, ℕ, zero, suc, ◌<◌, ◌==◌, eqb, cond, filter, map, Bool, true, false, List, [], ◌∷◌, ◌++◌, set, take, drop, length, refl, sym, ap, ◌∙◌, subst, append_assoc, length-set}
use mathlib.Core.Option.{some, some-ne-none}
use lib.ListN.{get_elem?}
use Rattle.tso_words.specs.declared.step.Step.{Step}
use Rattle.tso_words.specs.declared.step.Step.TheVariants.{Load, Store, Swap}
use Rattle.tso_words.specs.declared.step.TracedStep.{TracedStep}
use Rattle.tso_words.specs.declared.step.Part.{Part}
use Rattle.tso_words.specs.History.{thread_count, History, zeros, memory_after_step, Finds, memory_after, FindsAll, IsFlat, history_part}
use Rattle.tso_words.specs.Views.{beside, together}

pub memory_after-push : (words : List ℕ) (h : History) (e : TracedStep)
    → memory_after words (h ++ e ∷ []) ≡ memory_after_step (memory_after words h) e.step
memory_after-push words [] e = refl
memory_after-push words (x ∷ h) e = memory_after-push (memory_after_step words x.step) h e

pub FindsAll-push : (words : List ℕ) (h : History) (e : TracedStep) → FindsAll words h → e.thread < thread_count
    → Finds (memory_after words h) e.step → FindsAll words (h ++ e ∷ [])
FindsAll-push words [] e fits low finds = (low, finds, tt)
FindsAll-push words (x ∷ h) e fits low finds =
    (fits.0, fits.1, FindsAll-push (memory_after_step words x.step) h e fits.2 low finds)

pub IsFlat-push : (words : List ℕ) (h : History) (e : TracedStep) → IsFlat words h → e.thread < thread_count
    → Finds words e.step → IsFlat (memory_after_step words e.step) (h ++ e ∷ [])
IsFlat-push words h e flat low finds = (
  FindsAll-push zeros h e flat.0 low (subst (λ ws. Finds ws e.step) (sym flat.1) finds),
  memory_after-push zeros h e
      ∙ ap (λ ws. memory_after_step ws e.step) flat.1,
)

length-memory_after_step : (words : List ℕ) (s : Step) → length (memory_after_step words s) ≡ length words
length-memory_after_step words (Load loc value) = refl
length-memory_after_step words (Store loc value) = length-set words loc value
length-memory_after_step words (Swap loc new old) = length-set words loc new

pub length-memory_after : (words : List ℕ) (h : History) → length (memory_after words h) ≡ length words
length-memory_after words [] = refl
length-memory_after words (e ∷ h) =
    length-memory_after (memory_after_step words e.step) h ∙ length-memory_after_step words e.step

-- the list of thread t after one more step of `thread`
abbrev pub longer : ℕ → Step → ℕ → List Step → List Step
longer thread step t steps = cond (eqb thread t) (steps ++ step ∷ []) steps

-- the part of a history with one more step in front
history_part-cond : (b : Bool) (e : TracedStep) (h : History)
    → map (λ (e : TracedStep). e.step) (cond b (e ∷ h) h)
    ≡ cond b (e.step ∷ map (λ (e : TracedStep). e.step) h) (map (λ (e : TracedStep). e.step) h)
history_part-cond true e h = refl
history_part-cond false e h = refl

pub history_part-cons : (t : ℕ) (e : TracedStep) (h : History)
    → history_part t (e ∷ h) ≡ cond (eqb e.thread t) (e.step ∷ history_part t h) (history_part t h)
history_part-cons t e h = history_part-cond (eqb e.thread t) e (filter (λ (e : TracedStep). e.thread == t) h)

history_part-none : (b : Bool) (s : Step) → cond b (s ∷ []) [] ≡ cond b ([] ++ s ∷ []) []
history_part-none true s = refl
history_part-none false s = refl

history_part-more : (a b : Bool) (x s : Step) (l : List Step)
    → cond a (x ∷ cond b (l ++ s ∷ []) l) (cond b (l ++ s ∷ []) l)
    ≡ cond b (cond a (x ∷ l) l ++ s ∷ []) (cond a (x ∷ l) l)
history_part-more true true x s l = refl
history_part-more true false x s l = refl
history_part-more false true x s l = refl
history_part-more false false x s l = refl

pub history_part-push : (t : ℕ) (h : History) (e : TracedStep)
    → history_part t (h ++ e ∷ []) ≡ longer e.thread e.step t (history_part t h)
history_part-push t [] e = history_part-cons t e [] ∙ history_part-none (eqb e.thread t) e.step
history_part-push t (x ∷ h) e =
    history_part-cons t x (h ++ e ∷ [])
    ∙ ap (λ l. cond (eqb x.thread t) (x.step ∷ l) l) (history_part-push t h e)
    ∙ history_part-more (eqb x.thread t) (eqb e.thread t) x.step e.step (history_part t h)
    ∙ ap (longer e.thread e.step t) (sym (history_part-cons t x h))

beside-cond : (b : Bool) (x : List Step) (xs ys : List (List Step))
    → cond b (x ∷ (xs ++ ys)) (xs ++ ys) ≡ cond b (x ∷ xs) xs ++ ys
beside-cond true x xs ys = refl
beside-cond false x xs ys = refl

pub beside-append : (t : ℕ) (ps qs : List Part) → beside t (ps ++ qs) ≡ beside t ps ++ beside t qs
beside-append t [] qs = refl
beside-append t (p ∷ ps) qs =
    ap (λ l. cond (eqb p.thread t) (p.steps ∷ l) l) (beside-append t ps qs)
    ∙ beside-cond (eqb p.thread t) p.steps (beside t ps) (beside t qs)

pub together-push : (vs : List (List Part)) (w : List Part) (t : ℕ)
    → beside t (together (vs ++ w ∷ [])) ≡ beside t (together vs) ++ beside t w
together-push [] w t = beside-append t w [] ∙ rest (beside t w)
  where
    rest : (l : List (List Step)) → l ++ [] ≡ l
    rest [] = refl
    rest (x ∷ l) = ap (λ k. x ∷ k) (rest l)
together-push (v ∷ vs) w t =
    beside-append t v (together (vs ++ w ∷ []))
    ∙ ap (λ l. beside t v ++ l) (together-push vs w t)
    ∙ sym (append_assoc (beside t v) (beside t (together vs)) (beside t w))
    ∙ ap (λ l. l ++ beside t w) (sym (beside-append t v (together vs)))

-- what stands beside t in the views before i, and in those after it
pub before : ℕ → List (List Part) → ℕ → List (List Step)
before t vs i = beside t (together (take i vs))

pub after : ℕ → List (List Part) → ℕ → List (List Step)
after t vs i = beside t (together (drop (suc i) vs))

pub together-set : (vs : List (List Part)) (i : ℕ) (v w : List Part) (t : ℕ) → get_elem? vs i ≡ some v
    → beside t (together (set vs i w)) ≡ before t vs i ++ (beside t w ++ after t vs i)
unfolding before after
together-set [] i v w t at = absurd (some-ne-none v (sym at))
together-set (x ∷ vs) zero v w t at = beside-append t w (together vs)
together-set (x ∷ vs) (suc i) v w t at =
    beside-append t x (together (set vs i w))
    ∙ ap (λ l. beside t x ++ l) (together-set vs i v w t at)
    ∙ sym (append_assoc (beside t x) (beside t (together (take i vs)))
    (beside t w ++ beside t (together (drop (suc i) vs))))
    ∙ ap (λ l. l ++ (beside t w ++ beside t (together (drop (suc i) vs))))
    (sym (beside-append t x (together (take i vs))))
