-- What the table asks of each kind of step.
use Rattle.std.proofs.Common.{◌≡◌, ℕ, ◌<◌, List, [], ◌++◌, set, refl, sym, ap, ◌∙◌, subst}
use Rattle.std.specs.Prelude.{slice_index}
use Rattle.atomic_table.specs.Table.{State, Me, Allows, Splits, Joins, Final, Seen, keeps}
use Rattle.tso_words.specs.declared.step.Step.{Step}
use Rattle.tso_words.specs.declared.step.Step.TheVariants.{Load, Store, Swap}
use Rattle.tso_words.specs.declared.step.Part.{Part}
use Rattle.tso_words.specs.History.{word_count, memory_after_step, Finds, ArePartsOfOne, eight}
use Rattle.tso_words.specs.Views.{beside, grown, only, others, one_part, Stands, HoldsOneHistory, first_steps, AllHome, list_of}
use Rattle.std.proofs.lemmas.List.{set-get_or}
use Rattle.tso_words.proofs.Keeping.{grows, splits, joins, beside-one_same, only_one, closes}

abbrev pub Rule : State (Unit {0}) (List Part) → Type 0
Rule s = HoldsOneHistory s.words s.views

set_found : (words : List ℕ) (i : ℕ) → words ≡ set words i (slice_index words i)
set_found words i = sym (set-get_or words i 0)

-- A step of one kind, which makes the word `f` of what it was, and appends `made` of what it found
kind_allowed : (f : ℕ → ℕ) (made : ℕ → Step) (slots id t loc : ℕ) (me : Me (Unit {0}) (List Part)) (l : List Step)
    → Stands t me.0 l
    → ((words : List ℕ) → let found = slice_index words loc in
    (memory_after_step words (made found) ≡ set words loc (f found)) × Finds words (made found))
    → Allows Rule slots id me loc f (λ n now. now ≡ (grown t (made n) me.0, me.1))
kind_allowed f made slots id t loc me l stands meant s kept len at bound =
    let found = slice_index s.words loc in
    let w = grown t (made found) me.0 in
    let m = meant s.words in (
      w,
      keeps,
      tt,
      subst (λ ws. HoldsOneHistory ws (set s.views id w)) m.0 (grows s.words s.views id me.0 t l
          (made found) kept at stands m.1),
      refl,
    )

pub load_allowed : (slots id t loc : ℕ) (me : Me (Unit {0}) (List Part)) (l : List Step) → Stands t me.0 l
    → loc < word_count → Allows Rule slots id me loc (λ n. n) (λ n now. now ≡ (grown t (Load loc n) me.0, me.1))
load_allowed slots id t loc me l stands low =
    kind_allowed (λ n. n) (Load loc) slots id t loc me l stands (λ words. (set_found words loc, (low, refl)))

pub store_allowed : (slots id t loc value : ℕ) (me : Me (Unit {0}) (List Part)) (l : List Step) → Stands t me.0 l
    → loc < word_count → Allows Rule slots id me loc (λ _. value)
    (λ _ now. now ≡ (grown t (Store loc value) me.0, me.1))
store_allowed slots id t loc value me l stands low =
    kind_allowed (λ _. value) (λ _. Store loc value) slots id t loc me l stands (λ words. (refl, low))

pub swap_allowed : (slots id t loc new : ℕ) (me : Me (Unit {0}) (List Part)) (l : List Step) → Stands t me.0 l
    → loc < word_count → Allows Rule slots id me loc (λ _. new) (λ n now. now ≡ (grown t (Swap loc new n) me.0, me.1))
swap_allowed slots id t loc new me l stands low =
    kind_allowed (λ _. new) (Swap loc new) slots id t loc me l stands (λ words. (refl, (low, refl)))

pub split_allowed : (id t : ℕ) (v : List Part) (l : List Step) → Stands t v l → Splits Rule id v (others t v) (only t v)
split_allowed id t v l stands s kept at = splits s.words s.views id v t l kept at stands

pub join_allowed : (id other : ℕ) (v w : List Part) → Joins Rule id v other w (v ++ w) []
join_allowed id other v w s kept at apart there = joins s.words s.views id v other w kept at apart there

-- the view of a lane that was lent
pub lent_view : (number thread : ℕ) (v : List Part) (l : List Step) (me : Me (Unit {0}) (List Part)) → thread ≡ number
    → Stands thread v l → me ≡ (only number v, []) → me ≡ (one_part thread l, [])
lent_view number thread v l me is stands made =
    made ∙ ap (λ n. (only n v, [])) (sym is) ∙ ap (λ p. (p, [])) (only_one thread v l stands)

pub lane_view : (thread : ℕ) (l : List Step) (me : Me (Unit {0}) (List Part)) → me ≡ (one_part thread l, [])
    → me ≡ (one_part thread (first_steps me.0), [])
lane_view thread l me is =
    is ∙ ap (λ x. (one_part thread x, [])) (sym (ap (λ (m : Me (Unit {0}) (List Part)). first_steps m.0) is))

-- what a closed table says of the words that were read, and of the view that was kept
pub ended : (id : ℕ) (v known parts : List Part) (final words : List ℕ) (slots : List (Unit {0}))
    → Final (Seen Rule id v) final slots → v ≡ parts → known ≡ v → words ≡ final → AllHome parts
    → ArePartsOfOne words (eight (λ t. list_of t known))
ended id v known parts final words slots f at_home is read home =
    let whole = closes f.0.words f.0.views id v f.1.0 f.1.1 (subst AllHome (sym at_home) home) in
    subst (λ ws. ArePartsOfOne ws (eight (λ t. list_of t known))) (f.2 ∙ sym read)
    (subst (λ ps. ArePartsOfOne f.0.words (eight (λ t. list_of t ps))) (sym is) whole)

pub lane_stands : (t : ℕ) (l : List Step) (me : Me (Unit {0}) (List Part)) → me ≡ (one_part t l, []) → Stands t me.0 l
lane_stands t l me is = ap (λ (m : Me (Unit {0}) (List Part)). beside t m.0) is ∙ beside-one_same t l
