-- What the loops of `graph` and `decide` keep.
use Rattle.std.proofs.Common.{◌≡◌, ℕ, zero, suc, ◌+◌, ◌<◌, ◌||◌, Bool, true, false, cond, List, [], ◌∷◌, ◌++◌, All, Some, filter, map, length, take, get_or, slice_get, refl, sym, ap, ◌∙◌, arith, subst, inl, inr, ◌⊎◌, append_assoc, append-nil}
use Rattle.std.proofs.lemmas.Bool.{both_ways, cases_eq, or_left, or_right}
use Rattle.std.proofs.lemmas.List.{map-append}
use Rattle.std.specs.List.{AllByRecursion as Each, list_any}
use Rattle.x86_subset.specs.Shape.{IsTest}
use Rattle.x86_subset.specs.Test.{LitmusTest}
use Rattle.seq_conv.specs.Sequence.{Site, stores_of}
use Rattle.perp_base.proofs.Lists.{any_map, each_among, each_append}
use Rattle.seq_conv.proofs.Stores.{IsStoreOf, stores_are}
use Rattle.verdict.specs.declared.node.Node.{Node}
use Rattle.verdict.specs.Edges.{node}
use Rattle.verdict.proofs.Finds.{any_found}
use Rattle.choice_search.proofs.Finds.{any_push}
use Rattle.choice_search.specs.declared.graph.Pair.{Pair as PairOf}
use Rattle.choice_search.specs.declared.graph.Choice.{Choice as ChoiceOf}
use Rattle.choice_search.specs.Graph.{has_pair, is_pair as is_pair_of}
use Rattle.choice_search.proofs.Trees.{pair_back, pair_self}
use Rattle.std.proofs.lemmas.List.Elements.{All-from_recursion, recursion_from_All}
use Rattle.once.specs.Edges.{Choice, Reading, asks_of, choice_of, choices_among, choices_of, edge_among, is_third}
use Rattle.once.specs.Sources.{AreReadings, IsReading}
use Rattle.once.proofs.Drawing.{edge_is}
use Rattle.outcome_rows.proofs.Loops.{take_more}
use Rattle.row_decision.specs.Seen.{AreEdges, choice_seen, node_at, seen}
use Rattle.row_decision.proofs.Numbers.{IsSmall, node_below, small_at}
use Rattle.row_decision.specs.declared.reading.Reading.{Reading as ReadingOf}

-- ---- edges

abbrev pub leads_at : LitmusTest → List Reading → ℕ → ℕ → Bool
leads_at test readings a b = edge_among test readings [] (node_at a) (node_at b)

pub push_kept : (edges : List PairOf) (p : PairOf) (a b : ℕ) → has_pair edges a b ≡ true
    → has_pair (edges ++ p ∷ []) a b ≡ true
push_kept edges p a b h =
    any_push (is_pair_of a b) edges p ∙ or_left (has_pair edges a b) (is_pair_of a b p) h

pub push_here : (edges : List PairOf) (p : PairOf) → has_pair (edges ++ p ∷ []) p.first p.second ≡ true
push_here edges p =
    any_push (is_pair_of p.first p.second) edges p
    ∙ or_right (has_pair edges p.first p.second) (is_pair_of p.first p.second p) (pair_self p)

-- each pair of a list leads, and each that leads stands in it
pub edges_are : (test : LitmusTest) (readings : List Reading) (edges : List PairOf) → IsTest test
    → All (λ (p : PairOf). edge_among test readings [] (node_at p.first) (node_at p.second) ≡ true) edges
    → ((a b : ℕ) → a < 128 → b < 128 → edge_among test readings [] (node_at a) (node_at b) ≡ true
    → has_pair edges a b ≡ true)
    → AreEdges test readings edges
edges_are test readings edges is sound complete a b =
    go (has_pair edges a b) (edge_among test readings [] (node_at a) (node_at b)) refl refl
  where
    leads : has_pair edges a b ≡ true → edge_among test readings [] (node_at a) (node_at b) ≡ true
    leads h =
        let f = any_found (is_pair_of a b) edges h in
        let P : ℕ → ℕ → Type 0 = λ x y. edge_among test readings [] (node_at x) (node_at y) ≡ true in
        pair_back P a b f.here f.passes
        (each_among (λ (p : PairOf). edge_among test readings [] (node_at p.first) (node_at p.second) ≡ true) f.here
        edges f.among (recursion_from_All
        (λ (p : PairOf). edge_among test readings [] (node_at p.first) (node_at p.second) ≡ true) edges sound))

    there : edge_among test readings [] (node_at a) (node_at b) ≡ true → has_pair edges a b ≡ true
    there h =
        let k = edge_is test readings [] (node_at a) (node_at b) h in
        complete a b (node_below test a is k.from) (node_below test b is k.to) h

    go : (x y : Bool) → has_pair edges a b ≡ x → edge_among test readings [] (node_at a) (node_at b) ≡ y
        → has_pair edges a b ≡ edge_among test readings [] (node_at a) (node_at b)
    go true y e f = e ∙ sym (leads e)
    go false true e f = absurd (both_ways (has_pair edges a b) e (there f))
    go false false e f = e ∙ sym f

-- one row of edges, so far
abbrev pub RowKept : LitmusTest → List Reading → ℕ → List PairOf → List PairOf → ℕ → Type 0
RowKept test readings first old items n =
    (All (λ (p : PairOf). edge_among test readings [] (node_at p.first) (node_at p.second) ≡ true) old
    → All (λ (p : PairOf). edge_among test readings [] (node_at p.first) (node_at p.second) ≡ true) items)
    × ((a b : ℕ) → has_pair old a b ≡ true → has_pair items a b ≡ true)
    × ((b : ℕ) → b < n → edge_among test readings [] (node_at first) (node_at b) ≡ true
    → has_pair items first b ≡ true)

pub leads_by : (test : LitmusTest) (readings : List Reading) (a b : ℕ) (na nb : Node) (r s : Bool) → na ≡ node_at a
    → nb ≡ node_at b → r ≡ edge_among test readings [] na nb → r ≡ s
    → edge_among test readings [] (node_at a) (node_at b) ≡ s
leads_by test readings a b na nb r s e f h k =
    sym (ap (edge_among test readings [] (node_at a)) f) ∙ sym (ap (λ z. edge_among test readings [] z nb) e)
    ∙ sym h ∙ k

pub row_more : (test : LitmusTest) (readings : List Reading) (first n : ℕ) (old items after : List PairOf)
    → after ≡ items ++ record { first = first; second = n } ∷ []
    → edge_among test readings [] (node_at first) (node_at n) ≡ true
    → RowKept test readings first old items n → RowKept test readings first old after (n + 1)
row_more test readings first n old items after e h k =
    let P : List PairOf → Type 0 = λ l. RowKept test readings first old l (n + 1) in
    let p : PairOf = record { first = first; second = n } in
    let S : PairOf → Type 0 = λ q. edge_among test readings [] (node_at q.first) (node_at q.second) ≡ true in
    subst P (sym e) (
      λ o. All-from_recursion S (items ++ p ∷ [])
          (each_append S items (p ∷ []) (recursion_from_All S items (k.0 o)) (h, tt)),
      λ a b o. push_kept items p a b (k.1 a b o),
      λ b l o. go b l o (cases_eq b n),
    )
  where
    go : (b : ℕ) → b < n + 1 → edge_among test readings [] (node_at first) (node_at b) ≡ true
        → (b ≡ n) ⊎ (b ≡ n → ⊥) → has_pair (items ++ record { first = first; second = n } ∷ []) first b ≡ true
    go b l o (inl s) =
        let Q : ℕ → Type 0 = λ z. has_pair (items ++ record { first = first; second = n } ∷ []) first z ≡ true in
        subst Q (sym s) (push_here items (record { first = first; second = n }))
    go b l o (inr s) = push_kept items (record { first = first; second = n }) first b (k.2 b (omega arith) o)

pub row_same : (test : LitmusTest) (readings : List Reading) (first n : ℕ) (old items after : List PairOf)
    → after ≡ items → edge_among test readings [] (node_at first) (node_at n) ≡ false
    → RowKept test readings first old items n → RowKept test readings first old after (n + 1)
row_same test readings first n old items after e h k =
    let P : List PairOf → Type 0 = λ l. RowKept test readings first old l (n + 1) in
    subst P (sym e) (k.0, k.1, λ b l o. go b l o (cases_eq b n))
  where
    go : (b : ℕ) → b < n + 1 → edge_among test readings [] (node_at first) (node_at b) ≡ true
        → (b ≡ n) ⊎ (b ≡ n → ⊥) → has_pair items first b ≡ true
    go b l o (inl s) =
        let Q : ℕ → Type 0 = λ z. edge_among test readings [] (node_at first) (node_at z) ≡ true in
        absurd (both_ways (edge_among test readings [] (node_at first) (node_at n)) h (subst Q s o))
    go b l o (inr s) = k.2 b (omega arith) o

pub rows_more : (test : LitmusTest) (readings : List Reading) (n : ℕ) (before after : List PairOf)
    → ((a b : ℕ) → a < n → b < 128 → edge_among test readings [] (node_at a) (node_at b) ≡ true
    → has_pair before a b ≡ true)
    → ((a b : ℕ) → has_pair before a b ≡ true → has_pair after a b ≡ true)
    → ((b : ℕ) → b < 128 → edge_among test readings [] (node_at n) (node_at b) ≡ true → has_pair after n b ≡ true)
    → (a b : ℕ) → a < n + 1 → b < 128 → edge_among test readings [] (node_at a) (node_at b) ≡ true
    → has_pair after a b ≡ true
rows_more test readings n before after old kept new a b l m h = go (cases_eq a n)
  where
    go : (a ≡ n) ⊎ (a ≡ n → ⊥) → has_pair after a b ≡ true
    go (inl s) =
        let P : ℕ → Type 0 = λ z. edge_among test readings [] (node_at z) (node_at b) ≡ true in
        let Q : ℕ → Type 0 = λ z. has_pair after z b ≡ true in
        subst Q (sym s) (new b m (subst P s h))
    go (inr s) = kept a b (old a b (omega arith) m h)

-- ---- choices

each_get : {X : Type 0} (P : X → Type 0) (xs : List X) (i : ℕ) (d : X) → i < length xs → Each P xs → P (get_or xs i d)
each_get P [] i d l h = absurd (omega arith)
each_get P (y ∷ xs) zero d l h = h.0
each_get P (y ∷ xs) (suc i) d l h = each_get P xs i d (omega arith) h.1

filter_append : {X : Type 0} (p : X → Bool) (xs ys : List X) → filter p (xs ++ ys) ≡ filter p xs ++ filter p ys
filter_append p [] ys = refl
filter_append p (x ∷ xs) ys = go (p x) (filter_append p xs ys)
  where
    go : (b : Bool) → filter p (xs ++ ys) ≡ filter p xs ++ filter p ys
        → cond b (x ∷ filter p (xs ++ ys)) (filter p (xs ++ ys)) ≡ cond b (x ∷ filter p xs) (filter p xs) ++ filter p ys
    go true e = ap (λ l. x ∷ l) e
    go false e = e

-- the choices of the first sites
abbrev pub third_sites : Node → Node → List Site → List Choice
third_sites reader source ss = map (choice_of reader source) (filter (is_third reader source) ss)

third_append : (reader source : Node) (xs ys : List Site)
    → third_sites reader source (xs ++ ys) ≡ third_sites reader source xs ++ third_sites reader source ys
third_append reader source xs ys =
    ap (map (choice_of reader source)) (filter_append (is_third reader source) xs ys)
    ∙ map-append (choice_of reader source) (filter (is_third reader source) xs) (filter (is_third reader source) ys)

third_one : (reader source : Node) (s : Site) (b : Bool) → is_third reader source s ≡ b
    → third_sites reader source (s ∷ []) ≡ cond b (choice_of reader source s ∷ []) []
third_one reader source s b e =
    ap (λ z. map (choice_of reader source) (cond z (s ∷ []) [])) e ∙ go b
  where
    go : (c : Bool) → map (choice_of reader source) (cond c (s ∷ []) []) ≡ cond c (choice_of reader source s ∷ []) []
    go true = refl
    go false = refl

-- a choice more
pub third_more : (reader source : Node) (sites : List Site) (i : ℕ) (d : Site) (old : List Choice)
    (items : List ChoiceOf) (c : ChoiceOf) → i < length sites
    → is_third reader source (get_or sites i d) ≡ true → choice_seen c ≡ choice_of reader source (get_or sites i d)
    → map choice_seen items ≡ old ++ third_sites reader source (take i sites)
    → map choice_seen (items ++ c ∷ []) ≡ old ++ third_sites reader source (take (i + 1) sites)
third_more reader source sites i d old items c l third is h =
    let s = get_or sites i d in
    map-append choice_seen items (c ∷ []) ∙ ap (λ z. z ++ choice_seen c ∷ []) h
    ∙ append_assoc old (third_sites reader source (take i sites)) (choice_seen c ∷ [])
    ∙ ap (λ z. old ++ (third_sites reader source (take i sites) ++ z ∷ [])) is
    ∙ ap (λ z. old ++ z) (sym (ap (third_sites reader source) (take_more sites i s d l refl)
    ∙ third_append reader source (take i sites) (s ∷ [])
    ∙ ap (λ z. third_sites reader source (take i sites) ++ z) (third_one reader source s true third)))

-- none more
pub third_same : (reader source : Node) (sites : List Site) (i : ℕ) (d : Site) (old : List Choice)
    (items : List ChoiceOf) → i < length sites → is_third reader source (get_or sites i d) ≡ false
    → map choice_seen items ≡ old ++ third_sites reader source (take i sites)
    → map choice_seen items ≡ old ++ third_sites reader source (take (i + 1) sites)
third_same reader source sites i d old items l third h =
    let s = get_or sites i d in
    h ∙ ap (λ z. old ++ z) (sym (ap (third_sites reader source) (take_more sites i s d l refl)
    ∙ third_append reader source (take i sites) (s ∷ [])
    ∙ ap (λ z. third_sites reader source (take i sites) ++ z) (third_one reader source s false third)
    ∙ append-nil (third_sites reader source (take i sites))))

-- a site of a location's stores is small
pub site_small : (test : LitmusTest) (x i : ℕ) (d : Site) (sites : List Site) → IsTest test → sites ≡ stores_of test x
    → i < length sites → IsSmall (node (get_or sites i d))
site_small test x i d sites is e l =
    let P : List Site → Type 0 = λ z. Each (IsStoreOf test x) z in
    let k = each_get (IsStoreOf test x) sites i d l (subst P (sym e) (stores_are test x)) in
    small_at test (get_or sites i d) k.action is k.stands

pub choice_is : (reader source other : Node) (a b c : ℕ) → node_at a ≡ reader → node_at b ≡ source → node_at c ≡ other
    → choice_seen (record { reader = a; source = b; other = c })
    ≡ record { reader = reader; source = source; other = other }
choice_is reader source other a b c e f g = (λ i. record { reader = e i; source = f i; other = g i })

pub choices_more : (test : LitmusTest) (rs : List Reading) (r : Reading)
    → choices_among test (rs ++ r ∷ []) ≡ choices_among test rs ++ choices_of test r
choices_more test [] r = append-nil (choices_of test r)
choices_more test (x ∷ rs) r =
    ap (λ l. choices_of test x ++ l) (choices_more test rs r)
    ∙ sym (append_assoc (choices_of test x) (choices_among test rs) (choices_of test r))

pub choices_step : (test : LitmusTest) (readings : List ReadingOf) (i : ℕ) (d : ReadingOf)
    (before after : List ChoiceOf)
    → i < length readings
    → map choice_seen before ≡ choices_among test (map seen (take i readings))
    → map choice_seen after ≡ map choice_seen before ++ choices_of test (seen (get_or readings i d))
    → map choice_seen after ≡ choices_among test (map seen (take (i + 1) readings))
choices_step test readings i d before after l h k =
    let r = get_or readings i d in
    k ∙ ap (λ z. z ++ choices_of test (seen r)) h
    ∙ sym (ap (λ z. choices_among test (map seen z)) (take_more readings i r d l refl)
    ∙ ap (choices_among test) (map-append seen (take i readings) (r ∷ []))
    ∙ choices_more test (map seen (take i readings)) (seen r))

-- ---- readings by index

pub reading_at : (test : LitmusTest) (readings : List ReadingOf) (i : ℕ) (d : ReadingOf) → i < length readings
    → AreReadings test (map seen readings) → IsReading test (seen (get_or readings i d))
reading_at test [] i d l are = absurd (omega arith)
reading_at test (r ∷ rs) zero d l are = are.0
reading_at test (r ∷ rs) (suc i) d l are = reading_at test rs i d (omega arith) are.1

pub seen_at : (readings : List ReadingOf) (i : ℕ) (d : ReadingOf) → i < length readings
    → slice_get (map seen readings) i ≡ Some (seen (get_or readings i d))
seen_at [] i d l = absurd (omega arith)
seen_at (r ∷ rs) zero d l = refl
seen_at (r ∷ rs) (suc i) d l = seen_at rs i d (omega arith)

-- one more whose source is not hidden
pub none_more : (q : Reading → Bool) (readings : List ReadingOf) (i : ℕ) (d : ReadingOf) → i < length readings
    → list_any q (map seen (take i readings)) ≡ false → q (seen (get_or readings i d)) ≡ false
    → list_any q (map seen (take (i + 1) readings)) ≡ false
none_more q readings i d l h k =
    let r = get_or readings i d in
    ap (λ z. list_any q (map seen z)) (take_more readings i r d l refl)
    ∙ ap (list_any q) (map-append seen (take i readings) (r ∷ []))
    ∙ any_push q (map seen (take i readings)) (seen r)
    ∙ ap (λ z. z || q (seen r)) h ∙ k

pub asked_is : (test : LitmusTest) (a b : Node) (readings : List ReadingOf)
    → list_any (λ r. asks_of test a b (seen r)) readings ≡ list_any (asks_of test a b) (map seen readings)
asked_is test a b readings = sym (any_map (asks_of test a b) seen readings)
