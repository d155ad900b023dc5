-- What is shown of the readings of a conjunction is shown of the conjunction.
use Rattle.std.proofs.Common.{◌≡◌, ℕ, zero, suc, ◌+◌, ◌≤◌, true, Some, Result, Ok, Err, IfOk, List, [], ◌∷◌, ◌++◌, map, slice_get, refl, sym, ap, ◌∙◌, subst}
use Rattle.std.proofs.lemmas.List.{map-append}
use Rattle.std.specs.List.{slice_range}
use Rattle.x86_subset.specs.Test.{LitmusTest}
use Rattle.perp_base.proofs.Lists.{Among, each_among}
use Rattle.profile_check.specs.Profile.{CheckedTest, IsChecked}
use Rattle.profile_check.specs.declared.kind.AtomKind.{AtomKind}
use Rattle.profile_check.proofs.KindLemmas.{Tells}
use Rattle.run_judge.specs.Judgement.{event_of}
use Rattle.verdict.specs.Edges.{kinds_in}
use Rattle.verdict.proofs.Finding.{range_one}
use Rattle.verdict.proofs.Forward.{kinds_tell}
use Rattle.choice_search.proofs.Finds.{any_get}
use Rattle.decision.specs.Hidden.{is_hidden}
use Rattle.litmus_outcomes.proofs.Possible.{once_is_the_test_lem}
use Rattle.once.specs.Edges.{Reading, reading_of, readings_in}
use Rattle.once.specs.Sources.{is_hidden_source}
use Rattle.once.proofs.Classical.{hidden_is_impossible_lem}
use Rattle.once.proofs.Conjoined.{kind_hides, values_show}
use Rattle.once.proofs.Forbidding.{trees_forbid_lem}
use Rattle.row_decision.specs.declared.reading.Reading.{Reading as ReadingOf}
use Rattle.row_decision.specs.declared.show.Shown.{Shown}
use Rattle.row_decision.specs.declared.show.Shown.TheVariants.{Run, Hidden, Refuted, GaveUp}
use Rattle.row_decision.specs.declared.show.Showing.{Showing}
use Rattle.row_decision.specs.Conjunctions.{IsConjunctionOf, IsConjunctionShown}
use Rattle.row_decision.specs.Seen.{seen, tree_seen}
use Rattle.row_decision.specs.Shown.{IsShowing, IsShownOf}

-- ---- the readings

pub readings_more : (test : LitmusTest) (kinds : List AtomKind) (readings more : List ReadingOf) (one : ReadingOf)
    (a i : ℕ) (kind : AtomKind) → a ≤ i → map seen readings ≡ map (reading_of test) (slice_range kinds a i)
    → slice_get kinds i ≡ Some kind → seen one ≡ reading_of test kind → more ≡ readings ++ one ∷ []
    → map seen more ≡ map (reading_of test) (slice_range kinds a (i + 1))
readings_more test kinds readings more one a i kind h s e o m =
    ap (map seen) m ∙ map-append seen readings (one ∷ [])
    ∙ ap (λ l. l ++ seen one ∷ []) s
    ∙ ap (λ z. map (reading_of test) (slice_range kinds a i) ++ z ∷ []) o
    ∙ sym (map-append (reading_of test) (slice_range kinds a i) (kind ∷ []))
    ∙ ap (map (reading_of test)) (sym (range_one kinds a i kind h e))

-- ---- a hidden atom

pub record AtIndex {X : Type 0} (xs : List X) (i : ℕ) (P : X → Type 0) : Type 0 where
  pub item : X
  pub stands : slice_get xs i ≡ Some item
  pub holds : P item

map_at : {X Y : Type 0} (f : X → Y) (xs : List X) (i : ℕ) (y : Y) → slice_get (map f xs) i ≡ Some y
    → AtIndex xs i (λ x. f x ≡ y)
map_at f [] i y h = cc
map_at f (x ∷ xs) zero y h = record { item = x; stands = refl; holds = cc }
map_at f (x ∷ xs) (suc i) y h =
    let r = map_at f xs i y h in record { item = r.item; stands = r.stands; holds = r.holds }

among_at : {X : Type 0} (xs : List X) (i : ℕ) (x : X) → slice_get xs i ≡ Some x → Among x xs
among_at [] i x h = cc
among_at (y ∷ xs) zero x h =
    let e : y ≡ x = cc in record { front = []; rest = xs; whole = ap (λ z. z ∷ xs) e }
among_at (y ∷ xs) (suc i) x h =
    let r = among_at xs i x h in record { front = y ∷ r.front; rest = r.rest; whole = ap (λ z. y ∷ z) r.whole }

-- ---- what is shown

shown_of : (checked : CheckedTest) (c most steps : ℕ) (shown : Shown) → IsChecked checked
    → IsShownOf checked.test (readings_in checked c) most steps shown → IsConjunctionOf checked c most steps shown
shown_of checked c most steps (Run run) h s =
    let shows = values_show checked c (map event_of run.items) h s.sources.0 s.values in
    (shows, (once_is_the_test_lem checked c h).0 (map event_of run.items, shows))
shown_of checked c most steps (Hidden index) h s =
    let kinds = kinds_in checked c in
    let m = map_at (reading_of checked.test) kinds index s.0.0 s.0.1 in
    let tells = each_among (Tells checked.test) m.item kinds (among_at kinds index m.item m.stands)
    (kinds_tell checked c h) in
    let hidden : is_hidden checked.test m.item ≡ true = sym (kind_hides checked.test m.item tells)
    ∙ ap (is_hidden_source checked.test) m.holds ∙ s.0.2 in (
      (m.item, m.stands, hidden),
      λ p. hidden_is_impossible_lem checked c h (any_get (is_hidden checked.test) kinds index m.item m.stands hidden) p,
    )
shown_of checked c most steps (Refuted tree) h s = (
  s.0,
  λ p.
      let r = (once_is_the_test_lem checked c h).1 p in
      trees_forbid_lem checked c r.0 (tree_seen tree) h s.0 r.1,
)
shown_of checked c most steps GaveUp h s = s

pub conjunction_shown : (checked : CheckedTest) (c most : ℕ) (showing : Showing) → IsChecked checked
    → IsShowing checked.test (readings_in checked c) most showing → IsConjunctionShown checked c most showing
conjunction_shown checked c most showing h s = record {
  within = s.within;
  shown = shown_of checked c most showing.steps showing.shown h s.shown;
}

pub ok_shown : {E : Type 0} (checked : CheckedTest) (c most : ℕ) (test : LitmusTest) (readings : List Reading)
    (r : Result Showing E) → IsChecked checked → test ≡ checked.test → readings ≡ readings_in checked c
    → IfOk r (IsShowing test readings most) → IfOk r (IsConjunctionShown checked c most)
ok_shown checked c most test readings (Ok s) h t e k =
    let P : LitmusTest → Type 0 = λ z. IsShowing z readings most s in
    let Q : List Reading → Type 0 = λ l. IsShowing checked.test l most s in
    conjunction_shown checked c most s h (subst Q e (subst P t k))
ok_shown checked c most test readings (Err x) h t e k = k
