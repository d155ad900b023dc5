-- What the search finds of the graph of readings holds of the test.
use Rattle.std.proofs.Common.{◌≡◌, eq-eqb, ℕ, ◌==◌, ◌||◌, Bool, true, false, Contains, List, [], ◌∷◌, map, Some, slice_get, sym, ap, ◌∙◌, subst, inl, inr, ◌⊎◌}
use Rattle.std.proofs.lemmas.Bool.{and_from, and_parts, both_ways, cases_Bool, eqb-true, or_cases, or_left, or_right}
use Rattle.std.specs.List.{AllByRecursion as Each, AllZip, list_any}
use Rattle.x86_subset.specs.Shape.{IsTest}
use Rattle.x86_subset.specs.Test.{LitmusTest}
use Rattle.perp_base.proofs.Lists.{any_map, each_among}
use Rattle.verdict.specs.declared.node.Node.{Node}
use Rattle.verdict.specs.Edges.{is_cycle_of as is_cycle, is_kept, is_node, is_path as is_path_of, same_node, site}
use Rattle.verdict.proofs.Finds.{any_among, any_found}
use Rattle.verdict.proofs.Walks.{same_node_self, same_node_tells}
use Rattle.choice_search.specs.declared.graph.Pair.{Pair as PairOf}
use Rattle.choice_search.specs.declared.graph.Choice.{Choice as ChoiceOf}
use Rattle.choice_search.specs.declared.graph.Tree.{Tree as TreeOf}
use Rattle.choice_search.specs.declared.graph.Tree.TheVariants.{Cycle, Split'}
use Rattle.choice_search.specs.Graph.{HasNoCycle, has_pair, is_cycle_of, is_path}
use Rattle.choice_search.specs.Graph.{IsSideOf as IsSide, edge_among as edge_in, is_pair as is_pair_of, before_source as before_of, after_reader as after_of}
use Rattle.choice_search.specs.Trees.{Refutes}
use Rattle.choice_search.proofs.Finds.{any_get}
use Rattle.once.specs.Edges.{Choice, IsSideOf, Pair, Reading, asks_of, edge_among, is_pair}
use Rattle.once.specs.Sources.{AreReadings, HidesNone, is_hidden_source}
use Rattle.once.specs.Trees.{RefutesAmong}
use Rattle.once.proofs.Drawing.{EdgeIs, edge_from, edge_is}
use Rattle.once.proofs.Sourced.{hidden_sources_are_not_read_lem, no_cycle_has_sources_lem, trees_forbid_sources_lem}
use Rattle.outcome_rows.proofs.Members.{among_in, in_among, in_from, in_map, in_to}
use Rattle.row_decision.specs.Seen.{AreChoices, AreEdges, choice_seen, node_at, number_of, pair_seen, tree_seen}
use Rattle.row_decision.specs.Decided.{HasRun}
use Rattle.row_decision.proofs.Numbers.{AreNodes, node_number, nodes_among, number_node, small_node}

-- ---- edges

-- both ends of a pair are nodes
abbrev pub HasNodes : LitmusTest → PairOf → Type 0
HasNodes test p = (is_node test (site (node_at p.first)) ≡ true) × (is_node test (site (node_at p.second)) ≡ true)

pair_seen_is : (a b : ℕ) (p : PairOf) → is_pair_of a b p ≡ true → is_pair (node_at a) (node_at b) (pair_seen p) ≡ true
pair_seen_is a b p h =
    let k = and_parts (p.first == a) (p.second == b) h in
    let e : p.first ≡ a = eqb-true p.first a k.0 in
    let f : p.second ≡ b = eqb-true p.second b k.1 in
    let P : ℕ → Type 0 = λ z. same_node (node_at p.first) (node_at z) ≡ true in
    let Q : ℕ → Type 0 = λ z. same_node (node_at p.second) (node_at z) ≡ true in
    and_from (same_node (node_at p.first) (node_at a)) (same_node (node_at p.second) (node_at b))
    (subst P e (same_node_self (node_at p.first))) (subst Q f (same_node_self (node_at p.second)))

pair_taken : (test : LitmusTest) (readings : List Reading) (taken : List PairOf) (p : PairOf) (a b : ℕ)
    → HasNodes test p → is_pair_of a b p ≡ true → list_any (is_pair_of a b) taken ≡ true
    → list_any (is_pair (node_at a) (node_at b)) (map pair_seen taken) ≡ true
    → edge_among test readings (map pair_seen taken) (node_at a) (node_at b) ≡ true
pair_taken test readings taken p a b has is h k =
    let q = and_parts (p.first == a) (p.second == b) is in
    let P : ℕ → Type 0 = λ z. is_node test (site (node_at z)) ≡ true in
    let na = subst P (eqb-true p.first a q.0) has.0 in
    let nb = subst P (eqb-true p.second b q.1) has.1 in
    edge_from test readings (map pair_seen taken) (node_at a) (node_at b) na nb
    (or_right (is_kept test (site (node_at a)) (site (node_at b))
    || list_any (asks_of test (node_at a) (node_at b)) readings)
    (list_any (is_pair (node_at a) (node_at b)) (map pair_seen taken)) k)

edge_more : (test : LitmusTest) (readings : List Reading) (taken : List Pair) (a b : Node)
    → edge_among test readings [] a b ≡ true → edge_among test readings taken a b ≡ true
edge_more test readings taken a b h =
    let k = edge_is test readings [] a b h in
    let kept = is_kept test (site a) (site b) in
    let asked = list_any (asks_of test a b) readings in
    edge_from test readings taken a b k.from k.to
    (or_left (kept || asked) (list_any (is_pair a b) taken) (go k.why))
  where
    go : (is_kept test (site a) (site b) ≡ true) ⊎ ((list_any (asks_of test a b) readings ≡ true) ⊎ (false ≡ true))
        → (is_kept test (site a) (site b) || list_any (asks_of test a b) readings) ≡ true
    go (inl e) = or_left (is_kept test (site a) (site b)) (list_any (asks_of test a b) readings) e
    go (inr (inl e)) = or_right (is_kept test (site a) (site b)) (list_any (asks_of test a b) readings) e
    go (inr (inr e)) = cc

pub edge_down : (test : LitmusTest) (readings : List Reading) (edges taken : List PairOf) → AreEdges test readings edges
    → Each (HasNodes test) taken → (a b : ℕ) → edge_in edges taken a b ≡ true
    → edge_among test readings (map pair_seen taken) (node_at a) (node_at b) ≡ true
edge_down test readings edges taken are has a b h = go (or_cases (has_pair edges a b) (has_pair taken a b) h)
  where
    go : (has_pair edges a b ≡ true) ⊎ (has_pair taken a b ≡ true)
        → edge_among test readings (map pair_seen taken) (node_at a) (node_at b) ≡ true
    go (inl e) = edge_more test readings (map pair_seen taken) (node_at a) (node_at b) (sym (are a b) ∙ e)
    go (inr e) =
        let f = any_found (is_pair_of a b) taken e in
        let am = in_among (map pair_seen taken) (pair_seen f.here) (in_map pair_seen taken f.here
        (among_in taken f.here f.among)) in
        pair_taken test readings taken f.here a b (each_among (HasNodes test) f.here taken f.among has) f.passes e
        (any_among (is_pair (node_at a) (node_at b)) (pair_seen f.here) (map pair_seen taken) am
        (pair_seen_is a b f.here f.passes))

-- ---- cycles

path_down : (e : ℕ → ℕ → Bool) (g : Node → Node → Bool)
    → ((a b : ℕ) → e a b ≡ true → g (node_at a) (node_at b) ≡ true) → (a : ℕ) (rest : List ℕ) (last : ℕ)
    → is_path e a rest last ≡ true → is_path_of g (node_at a) (map node_at rest) (node_at last) ≡ true
path_down e g m a [] last h = m a last h
path_down e g m a (b ∷ rest) last h =
    let k = and_parts (e a b) (is_path e b rest last) h in
    and_from (g (node_at a) (node_at b)) (is_path_of g (node_at b) (map node_at rest) (node_at last)) (m a b k.0)
    (path_down e g m b rest last k.1)

cycle_down : (e : ℕ → ℕ → Bool) (g : Node → Node → Bool)
    → ((a b : ℕ) → e a b ≡ true → g (node_at a) (node_at b) ≡ true) → (nodes : List ℕ)
    → is_cycle_of e nodes ≡ true → is_cycle g (map node_at nodes) ≡ true
cycle_down e g m [] h = cc
cycle_down e g m (a ∷ []) h = cc
cycle_down e g m (a ∷ b ∷ rest) h = path_down e g m a (b ∷ rest) a h

path_up : (g : Node → Node → Bool) (e : ℕ → ℕ → Bool)
    → ((a b : Node) → g a b ≡ true → e (number_of a) (number_of b) ≡ true) → (a : Node) (rest : List Node) (last : Node)
    → is_path_of g a rest last ≡ true → is_path e (number_of a) (map number_of rest) (number_of last) ≡ true
path_up g e m a [] last h = m a last h
path_up g e m a (b ∷ rest) last h =
    let k = and_parts (g a b) (is_path_of g b rest last) h in
    and_from (e (number_of a) (number_of b)) (is_path e (number_of b) (map number_of rest) (number_of last)) (m a b k.0)
    (path_up g e m b rest last k.1)

pub cycle_up : (g : Node → Node → Bool) (e : ℕ → ℕ → Bool)
    → ((a b : Node) → g a b ≡ true → e (number_of a) (number_of b) ≡ true) → (nodes : List Node)
    → is_cycle g nodes ≡ true → is_cycle_of e (map number_of nodes) ≡ true
cycle_up g e m [] h = cc
cycle_up g e m (a ∷ []) h = cc
cycle_up g e m (a ∷ b ∷ rest) h = path_up g e m a (b ∷ rest) a h

-- ---- trees

abbrev IsNodes : LitmusTest → List ChoiceOf → Type 0
IsNodes test choices = Each (AreNodes test) (map choice_seen choices)

tree_down : (test : LitmusTest) (readings : List Reading) (edges : List PairOf) (choices : List ChoiceOf)
    (taken : List PairOf) (tree : TreeOf) → AreEdges test readings edges → AreChoices test readings choices
    → Each (AreNodes test) (map choice_seen choices) → Each (HasNodes test) taken → Refutes edges choices taken tree
    → RefutesAmong test readings (map pair_seen taken) (tree_seen tree)
tree_down test readings edges choices taken (Cycle nodes) es cs ns has h =
    cycle_down (edge_in edges taken) (edge_among test readings (map pair_seen taken))
    (edge_down test readings edges taken es has) nodes.items h
tree_down test readings edges choices taken (Split' c p l q r) es cs ns has h =
    let i = in_map choice_seen choices c (in_from choices c h.0) in
    let n : AreNodes test (choice_seen c) =
    each_among (AreNodes test) (choice_seen c) (map choice_seen choices)
    (in_among (map choice_seen choices) (choice_seen c) i) ns in
    let P : List Choice → Type 0 = λ l. Contains l (choice_seen c) in (
      subst P cs (in_to (map choice_seen choices) (choice_seen c) i),
      tree_down test readings edges choices (before_of c ∷ taken) l es cs ns ((n.other, n.source), has) h.1,
      tree_down test readings edges choices (after_of c ∷ taken) r es cs ns ((n.reader, n.other), has) h.2,
    )

pub choice_nodes : (test : LitmusTest) (readings : List Reading) (choices : List ChoiceOf) → AreReadings test readings
    → AreChoices test readings choices → Each (AreNodes test) (map choice_seen choices)
choice_nodes test readings choices are cs =
    let P : List Choice → Type 0 = λ l. Each (AreNodes test) l in subst P (sym cs) (nodes_among test readings are)

pub tree_none : (test : LitmusTest) (readings : List Reading) (edges : List PairOf) (choices : List ChoiceOf)
    (tree : TreeOf) → AreReadings test readings → AreEdges test readings edges → AreChoices test readings choices
    → Refutes edges choices [] tree
    → RefutesAmong test readings [] (tree_seen tree) × (HasRun test readings → ⊥)
tree_none test readings edges choices tree are es cs h =
    let k = tree_down test readings edges choices [] tree es cs (choice_nodes test readings choices are cs) tt h in
    (k, λ r. trees_forbid_sources_lem test readings (tree_seen tree) r.0 are k r.1)

-- ---- sides

pub sides_up : (choices : List ChoiceOf) (sides : List PairOf) → AllZip IsSide choices sides
    → AllZip IsSideOf (map choice_seen choices) (map pair_seen sides)
sides_up [] [] z = tt
sides_up [] (p ∷ ps) z = absurd z
sides_up (c ∷ cs) [] z = absurd z
sides_up (c ∷ cs) (p ∷ ps) z = (go z.0, sides_up cs ps z.1)
  where
    go : IsSide c p → IsSideOf (choice_seen c) (pair_seen p)
    go (inl e) = inl (ap pair_seen e)
    go (inr e) = inr (ap pair_seen e)

number_same : (k : ℕ) (n : Node) → same_node (node_at k) n ≡ true → k ≡ number_of n
number_same k n h = sym (number_node k) ∙ ap number_of (same_node_tells (node_at k) n h)

pair_up : (a b : Node) (p : PairOf) → is_pair a b (pair_seen p) ≡ true → is_pair_of (number_of a) (number_of b) p ≡ true
pair_up a b p h =
    let k = and_parts (same_node (node_at p.first) a) (same_node (node_at p.second) b) h in
    and_from (p.first == number_of a) (p.second == number_of b)
    (eq-eqb p.first (number_of a) (number_same p.first a k.0))
    (eq-eqb p.second (number_of b) (number_same p.second b k.1))

pairs_up : (a b : Node) (sides : List PairOf) → list_any (is_pair a b) (map pair_seen sides) ≡ true
    → has_pair sides (number_of a) (number_of b) ≡ true
pairs_up a b sides h =
    let f = any_found (λ p. is_pair a b (pair_seen p)) sides (sym (any_map (is_pair a b) pair_seen sides) ∙ h) in
    any_among (is_pair_of (number_of a) (number_of b)) f.here sides f.among (pair_up a b f.here f.passes)

pub edge_up : (test : LitmusTest) (readings : List Reading) (edges sides : List PairOf) → IsTest test
    → AreEdges test readings edges → (a b : Node) → edge_among test readings (map pair_seen sides) a b ≡ true
    → edge_in edges sides (number_of a) (number_of b) ≡ true
edge_up test readings edges sides is es a b h = go k.why
  where
    k : EdgeIs test readings (map pair_seen sides) a b
    k = edge_is test readings (map pair_seen sides) a b h

    kept : Bool
    kept = is_kept test (site a) (site b)

    asked : Bool
    asked = list_any (asks_of test a b) readings

    listed : (is_kept test (site a) (site b) || list_any (asks_of test a b) readings) ≡ true
        → edge_in edges sides (number_of a) (number_of b) ≡ true
    listed e =
        let there : edge_among test readings [] a b ≡ true =
        edge_from test readings [] a b k.from k.to (or_left (is_kept test (site a) (site b)
        || list_any (asks_of test a b) readings) false e) in
        let P : Node → Node → Type 0 = λ x y. edge_among test readings [] x y ≡ true in
        let Q : Node → Type 0 = λ x. P x b in
        let R : Node → Type 0 = λ y. P (node_at (number_of a)) y in
        let numbered = subst R (sym (node_number b (small_node test b is k.to)))
        (subst Q (sym (node_number a (small_node test a is k.from))) there) in
        or_left (has_pair edges (number_of a) (number_of b)) (has_pair sides (number_of a) (number_of b))
        (es (number_of a) (number_of b) ∙ numbered)

    go : (is_kept test (site a) (site b) ≡ true) ⊎ ((list_any (asks_of test a b) readings ≡ true)
        ⊎ (list_any (is_pair a b) (map pair_seen sides) ≡ true))
        → edge_in edges sides (number_of a) (number_of b) ≡ true
    go (inl e) = listed (or_left (is_kept test (site a) (site b)) (list_any (asks_of test a b) readings) e)
    go (inr (inl e)) = listed (or_right (is_kept test (site a) (site b)) (list_any (asks_of test a b) readings) e)
    go (inr (inr e)) =
        or_right (has_pair edges (number_of a) (number_of b)) (has_pair sides (number_of a) (number_of b))
        (pairs_up a b sides e)

pub sides_run : (test : LitmusTest) (readings : List Reading) (edges : List PairOf) (choices : List ChoiceOf)
    (sides : List PairOf) → IsTest test → AreReadings test readings → HidesNone test readings
    → AreEdges test readings edges → AreChoices test readings choices → AllZip IsSide choices sides
    → HasNoCycle edges sides → HasRun test readings
sides_run test readings edges choices sides is are hides es cs zip none =
    let P : List Choice → Type 0 = λ l. AllZip IsSideOf l (map pair_seen sides) in
    no_cycle_has_sources_lem test readings (map pair_seen sides) are hides (subst P cs (sides_up choices sides zip))
    (λ cycle. go cycle (cases_Bool (is_cycle (edge_among test readings (map pair_seen sides)) cycle)))
  where
    go : (cycle : List Node) → (is_cycle (edge_among test readings (map pair_seen sides)) cycle ≡ true)
        ⊎ (is_cycle (edge_among test readings (map pair_seen sides)) cycle ≡ false)
        → is_cycle (edge_among test readings (map pair_seen sides)) cycle ≡ false
    go cycle (inr e) = e
    go cycle (inl e) =
        absurd (both_ways (is_cycle_of (edge_in edges sides) (map number_of cycle)) (none (map number_of cycle))
        (cycle_up (edge_among test readings (map pair_seen sides)) (edge_in edges sides)
        (edge_up test readings edges sides is es) cycle e))

-- ---- hidden sources

pub hidden_none : (test : LitmusTest) (readings : List Reading) (index : ℕ) (r : Reading) → AreReadings test readings
    → slice_get readings index ≡ Some r → is_hidden_source test r ≡ true → HasRun test readings → ⊥
hidden_none test readings index r are e h run =
    hidden_sources_are_not_read_lem test readings run.0 are (any_get (is_hidden_source test) readings index r e h) run.1
