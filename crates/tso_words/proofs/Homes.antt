-- What stands at home, for callers that lend and take back.
use Rattle.std.proofs.Common.{eq-eqb, eqb, cond, ◌≡◌, ◌≢◌, ℕ, ◌<◌, List, [], ◌∷◌, ◌++◌, refl, sym, ap, ◌∙◌, subst, append-nil}
use mathlib.Core.Logic.{dite}
use native.Mathlib.Decide.{ℕ_discrete}
use Rattle.tso_words.specs.declared.step.Step.{Step}
use Rattle.tso_words.specs.declared.step.Part.{Part}
use Rattle.tso_words.specs.History.{thread_count, History, FindsAll, ArePartsOfOne, zeros, history_part, eight, list_at, memory_after}
use Rattle.tso_words.specs.Views.{beside, others, one_part, no_steps, Stands, AllHome}
use Rattle.tso_words.proofs.Eight.{below_eight}
use Rattle.tso_words.proofs.Histories.{beside-append, history_part-cons}
use Rattle.tso_words.proofs.Keeping.{beside-others_same, beside-others_else, beside-one_same, beside-one_else, list_at-eight}

pub Stands-no_steps : (t : ℕ) → t < thread_count → Stands t no_steps []
Stands-no_steps t h = below_eight (λ t. Stands t no_steps []) (refl, refl, refl, refl, refl, refl, refl, refl) t h

pub AllHome-no_steps : AllHome no_steps
AllHome-no_steps t low = ([], Stands-no_steps t low)

pub Stands-once : (t : ℕ) (parts : List Part) (a b : List Step) → Stands t parts a → Stands t parts b → a ≡ b
Stands-once t parts a b p q = let e : a ∷ [] ≡ b ∷ [] = sym p ∙ q in cc

-- what a taken back number leaves of the others, and what it brings
pub back_else : (t k : ℕ) (parts : List Part) (steps : List Step) → k ≢ t
    → beside k (parts ++ one_part t steps) ≡ beside k parts
back_else t k parts steps apart =
    beside-append k parts (one_part t steps) ∙ ap (λ x. beside k parts ++ x) (beside-one_else t steps k apart)
    ∙ append-nil (beside k parts)

pub back_same : (t : ℕ) (parts : List Part) (steps : List Step) → beside t parts ≡ []
    → Stands t (parts ++ one_part t steps) steps
back_same t parts steps away =
    beside-append t parts (one_part t steps) ∙ ap (λ x. x ++ beside t (one_part t steps)) away ∙ beside-one_same t steps

-- all are at home again after one was lent and taken back
pub AllHome-again : (t : ℕ) (parts now : List Part) (steps : List Step) → AllHome parts
    → now ≡ others t parts ++ one_part t steps → AllHome now
AllHome-again t parts now steps home is k low =
    dite (ℕ_discrete k t)
    (λ e. (
      steps,
      ap (beside k) is ∙ subst (λ n. Stands n (others t parts ++ one_part t steps) steps) (sym e)
          (back_same t (others t parts) steps (beside-others_same t parts)),
    ))
    (λ ne. (
      (home k low).0,
      ap (beside k) is ∙ back_else t k (others t parts) steps ne ∙ beside-others_else t parts k ne
          ∙ (home k low).1,
    ))

-- where no number below 8 has a step, there is no step
no_history : (history : History) → FindsAll zeros history → ((t : ℕ) → t < thread_count → history_part t history ≡ [])
    → history ≡ []
no_history [] finds none = refl
no_history (e ∷ es) finds none =
    let mine = none e.thread finds.0 in
    let is : cond (eqb e.thread e.thread) (e.step ∷ history_part e.thread es) (history_part e.thread es)
    ≡ [] = sym (history_part-cons e.thread e es) ∙ mine in
    let same = eq-eqb e.thread e.thread refl in
    let some : e.step ∷ history_part e.thread es
    ≡ [] = ap (λ b. cond b (e.step ∷ history_part e.thread es) (history_part e.thread es)) (sym same) ∙ is in
    absurd (cc)

-- words after eight empty lists are 0
pub words_of_none : (words : List ℕ) (lists : List (List Step)) → ArePartsOfOne words lists → lists ≡ eight (λ _. [])
    → words ≡ zeros
words_of_none words lists whole none =
    let h = whole.0 in
    let each : eight (λ t. history_part t h) ≡ eight (λ _. []) = sym whole.2 ∙ none in
    let empty = no_history h whole.1.0 (λ t low. sym (list_at-eight (λ t. history_part t h) t low)
    ∙ ap (λ ls. list_at ls t) each ∙ list_at-eight (λ _. []) t low) in
    sym whole.1.1 ∙ ap (memory_after zeros) empty
