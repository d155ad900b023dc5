-- Trees, and what they use of the sides that are taken.
use Rattle.std.proofs.Common.{◌≡◌, ℕ, ◌==◌, ◌&&◌, ◌||◌, Bool, true, false, not, Contains, Option, None, Some, ◌≤◌, map, slice_get, slice_set, arith, List, [], ◌∷◌, refl, sym, ap, ◌∙◌, subst, inl, inr, ◌⊎◌, eq-eqb}
use Rattle.std.proofs.lemmas.Bool.{and_from, and_parts, both_ways, cases_Bool, eqb-true, not-true, not_from_false, or_cases, or_left, or_right}
use Rattle.std.specs.List.{AllByRecursion as Each, AllZip, list_all, list_any}
use Rattle.perp_base.proofs.Lists.{Among, among_from_contains, each_among}
use Rattle.choice_search.specs.declared.graph.Pair.{Pair}
use Rattle.choice_search.specs.declared.graph.Choice.{Choice}
use Rattle.choice_search.specs.declared.graph.Side.{Side}
use Rattle.choice_search.specs.declared.graph.Side.TheVariants.{Before, After}
use Rattle.choice_search.specs.declared.graph.Tree.{Tree}
use Rattle.choice_search.specs.declared.graph.Tree.TheVariants.{Cycle, Split'}
use Rattle.choice_search.specs.declared.found.Refutation.{Refutation}
use Rattle.choice_search.specs.declared.found.Found.{Found}
use Rattle.choice_search.specs.declared.found.Found.TheVariants.{Sides, Refuted, GaveUp}
use Rattle.choice_search.specs.declared.answer.Outcome.{Outcome}
use Rattle.choice_search.specs.Graph.{HasNoCycle, IsSideOf, after_reader, before_source, edge_among, has_pair, is_cycle_of, is_pair, is_path}
use Rattle.choice_search.specs.Trees.{Refutes}
use Rattle.choice_search.specs.Laws.{TreesRefute}
use Rattle.choice_search.specs.Search.{IsCounted, IsFound, IsKept, IsRefutation, Within, opposite_of, side_of, taken_of}
use Rattle.choice_search.proofs.TakenSides.{none_taken, set_back}

-- ---- pairs

pub pair_self : (p : Pair) → is_pair p.first p.second p ≡ true
pair_self p =
    and_from (p.first == p.first) (p.second == p.second) (eq-eqb p.first p.first refl) (eq-eqb p.second p.second refl)

-- a pair that leads so is what it is
pub pair_along : (P : ℕ → ℕ → Type 0) (a b : ℕ) (p : Pair) → is_pair a b p ≡ true → P a b → P p.first p.second
pair_along P a b p h q =
    let k = and_parts (p.first == a) (p.second == b) h in
    let A : ℕ → Type 0 = λ z. P z b in
    let B : ℕ → Type 0 = λ z. P p.first z in
    subst B (sym (eqb-true p.second b k.1)) (subst A (sym (eqb-true p.first a k.0)) q)

pub pair_back : (P : ℕ → ℕ → Type 0) (a b : ℕ) (p : Pair) → is_pair a b p ≡ true → P p.first p.second → P a b
pair_back P a b p h q =
    let k = and_parts (p.first == a) (p.second == b) h in
    let A : ℕ → Type 0 = λ z. P z p.second in
    let B : ℕ → Type 0 = λ z. P a z in
    subst B (eqb-true p.second b k.1) (subst A (eqb-true p.first a k.0) q)

pub within_push : (p : Pair) (used taken : List Pair) → Within used taken → Within (p ∷ used) (p ∷ taken)
within_push p used taken f a b h = go (or_cases (is_pair a b p) (has_pair used a b) h)
  where
    go : (is_pair a b p ≡ true) ⊎ (has_pair used a b ≡ true) → (is_pair a b p || has_pair taken a b) ≡ true
    go (inl e) = or_left (is_pair a b p) (has_pair taken a b) e
    go (inr e) = or_right (is_pair a b p) (has_pair taken a b) (f a b e)

pub within_none : (p : Pair) (used taken : List Pair) → Within used (p ∷ taken)
    → has_pair used p.first p.second ≡ false → Within used taken
within_none p used taken f none a b h = go (or_cases (is_pair a b p) (has_pair taken a b) (f a b h))
  where
    go : (is_pair a b p ≡ true) ⊎ (has_pair taken a b ≡ true) → has_pair taken a b ≡ true
    go (inl e) =
        absurd (both_ways (has_pair used p.first p.second) none
        (pair_along (λ x y. has_pair used x y ≡ true) a b p e h))
    go (inr e) = e

-- each is the edge or taken
pub within_all : (p : Pair) (used taken : List Pair)
    → list_all (λ q. is_pair q.first q.second p || has_pair taken q.first q.second) used ≡ true
    → Within used (p ∷ taken)
within_all p [] taken h a b k = cc
within_all p (q ∷ used) taken h a b k =
    go (within_all p used taken m.1 a b) (or_cases (is_pair a b q) (has_pair used a b) k)
  where
    m : ((is_pair q.first q.second p || has_pair taken q.first q.second) ≡ true)
        × (list_all (λ q. is_pair q.first q.second p || has_pair taken q.first q.second) used ≡ true)
    m =
        and_parts (is_pair q.first q.second p || has_pair taken q.first q.second)
        (list_all (λ q. is_pair q.first q.second p || has_pair taken q.first q.second) used) h

    go : (has_pair used a b ≡ true → (is_pair a b p || has_pair taken a b) ≡ true)
        → (is_pair a b q ≡ true) ⊎ (has_pair used a b ≡ true) → (is_pair a b p || has_pair taken a b) ≡ true
    go rec (inl e) = pair_back (λ x y. (is_pair x y p || has_pair taken x y) ≡ true) a b q e m.0
    go rec (inr e) = rec e

pub within_trans : (xs ys zs : List Pair) → Within xs ys → Within ys zs → Within xs zs
within_trans xs ys zs f g a b h = g a b (f a b h)

-- ---- cycles and trees

edge_more : (edges used taken : List Pair) → Within used taken → (a b : ℕ) → edge_among edges used a b ≡ true
    → edge_among edges taken a b ≡ true
edge_more edges used taken f a b h = go (or_cases (has_pair edges a b) (has_pair used a b) h)
  where
    go : (has_pair edges a b ≡ true) ⊎ (has_pair used a b ≡ true) → edge_among edges taken a b ≡ true
    go (inl e) = or_left (has_pair edges a b) (has_pair taken a b) e
    go (inr e) = or_right (has_pair edges a b) (has_pair taken a b) (f a b e)

path_more : (e f : ℕ → ℕ → Bool) → ((a b : ℕ) → e a b ≡ true → f a b ≡ true) → (a : ℕ) (rest : List ℕ) (last : ℕ)
    → is_path e a rest last ≡ true → is_path f a rest last ≡ true
path_more e f m a [] last h = m a last h
path_more e f m a (b ∷ rest) last h =
    let k = and_parts (e a b) (is_path e b rest last) h in
    and_from (f a b) (is_path f b rest last) (m a b k.0) (path_more e f m b rest last k.1)

cycle_more : (e f : ℕ → ℕ → Bool) → ((a b : ℕ) → e a b ≡ true → f a b ≡ true) → (cycle : List ℕ)
    → is_cycle_of e cycle ≡ true → is_cycle_of f cycle ≡ true
cycle_more e f m [] h = cc
cycle_more e f m (a ∷ []) h = cc
cycle_more e f m (a ∷ b ∷ rest) h = path_more e f m a (b ∷ rest) a h

-- a tree refutes with more sides taken
pub refutes_more : (edges : List Pair) (choices : List Choice) (used taken : List Pair) (tree : Tree)
    → Within used taken → Refutes edges choices used tree → Refutes edges choices taken tree
refutes_more edges choices used taken (Cycle nodes) f h =
    cycle_more (edge_among edges used) (edge_among edges taken) (edge_more edges used taken f) nodes.items h
refutes_more edges choices used taken (Split' c p l q r) f h = (
  h.0,
  refutes_more edges choices (before_source c ∷ used) (before_source c ∷ taken) l
      (within_push (before_source c) used taken f) h.1,
  refutes_more edges choices (after_reader c ∷ used) (after_reader c ∷ taken) r
      (within_push (after_reader c) used taken f) h.2,
)

-- ---- joined lists

abbrev pub AreWithout : Pair → List Pair → List Pair → Type 0
AreWithout p used rest = (a b : ℕ) → has_pair rest a b ≡ (not (is_pair a b p) && has_pair used a b)

abbrev pub AreJoined : List Pair → List Pair → List Pair → Type 0
AreJoined rest more all = (a b : ℕ) → has_pair all a b ≡ (has_pair rest a b || has_pair more a b)

without_keeps : (p : Pair) (used rest : List Pair) → AreWithout p used rest → Within used (p ∷ rest)
without_keeps p used rest f a b h = go (cases_Bool (is_pair a b p))
  where
    go : (is_pair a b p ≡ true) ⊎ (is_pair a b p ≡ false) → (is_pair a b p || has_pair rest a b) ≡ true
    go (inl e) = or_left (is_pair a b p) (has_pair rest a b) e
    go (inr e) =
        or_right (is_pair a b p) (has_pair rest a b)
        (f a b ∙ and_from (not (is_pair a b p)) (has_pair used a b) (not_from_false (is_pair a b p) e) h)

without_within : (p : Pair) (used rest taken : List Pair) → AreWithout p used rest → Within used (p ∷ taken)
    → Within rest taken
without_within p used rest taken f g a b h =
    let k = and_parts (not (is_pair a b p)) (has_pair used a b) (sym (f a b) ∙ h) in
    go (or_cases (is_pair a b p) (has_pair taken a b) (g a b k.1)) (not-true (is_pair a b p) k.0)
  where
    go : (is_pair a b p ≡ true) ⊎ (has_pair taken a b ≡ true) → is_pair a b p ≡ false → has_pair taken a b ≡ true
    go (inl e) n = absurd (both_ways (is_pair a b p) n e)
    go (inr e) n = e

joined_left : (rest more all : List Pair) → AreJoined rest more all → Within rest all
joined_left rest more all f a b h = f a b ∙ or_left (has_pair rest a b) (has_pair more a b) h

joined_right : (rest more all : List Pair) → AreJoined rest more all → Within more all
joined_right rest more all f a b h = f a b ∙ or_right (has_pair rest a b) (has_pair more a b) h

joined_within : (rest more all taken : List Pair) → AreJoined rest more all → Within rest taken → Within more taken
    → Within all taken
joined_within rest more all taken f g h a b k =
    go (or_cases (has_pair rest a b) (has_pair more a b) (sym (f a b) ∙ k))
  where
    go : (has_pair rest a b ≡ true) ⊎ (has_pair more a b ≡ true) → has_pair taken a b ≡ true
    go (inl e) = g a b e
    go (inr e) = h a b e

-- a tree for each side, as one
pub record BothRefute (edges : List Pair) (choices : List Choice) (p q : Pair) (taken : List Pair) (all : List Pair)
    (l r : Tree) : Type 0 where
  pub left : Refutes edges choices (p ∷ all) l
  pub right : Refutes edges choices (q ∷ all) r
  pub within : Within all taken

pub both_refute : (edges : List Pair) (choices : List Choice) (p q : Pair) (taken us vs rest more all : List Pair)
    (l r : Tree) → AreWithout p us rest → AreWithout q vs more → AreJoined rest more all
    → Refutes edges choices us l → Within us (p ∷ taken) → Refutes edges choices vs r → Within vs (q ∷ taken)
    → BothRefute edges choices p q taken all l r
both_refute edges choices p q taken us vs rest more all l r fu fv fj hl wl hr wr = record {
  left =
      refutes_more edges choices us (p ∷ all) l (within_trans us (p ∷ rest) (p ∷ all) (without_keeps p us rest fu)
      (within_push p rest all (joined_left rest more all fj))) hl;
  right =
      refutes_more edges choices vs (q ∷ all) r (within_trans vs (q ∷ more) (q ∷ all) (without_keeps q vs more fv)
      (within_push q more all (joined_right rest more all fj))) hr;
  within =
      joined_within rest more all taken fj (without_within p us rest taken fu wl)
      (without_within q vs more taken fv wr);
}

-- ---- what is found

pub found_more : (edges : List Pair) (choices : List Choice) (used taken : List Pair) (found : Found)
    → Within used taken → IsFound edges choices used found → IsFound edges choices taken found
found_more edges choices used taken (Sides sides) f h = h
found_more edges choices used taken (Refuted r) f h =
    record { refutes = h.refutes; within = within_trans r.used.items used taken h.within f }
found_more edges choices used taken GaveUp f h = tt

pub kept_back : (sides new : List (Option Side)) (i : ℕ) (side : Option Side) (found : Found)
    → slice_get sides i ≡ Some None → IsKept (slice_set sides i side) new found
    → IsKept sides (slice_set new i None) found
kept_back sides new i side (Sides ps) h k = tt
kept_back sides new i side (Refuted r) h k = ap (λ l. slice_set l i None) k ∙ set_back sides i side h
kept_back sides new i side GaveUp h k = tt

pub counted_within : (most steps : ℕ) (found : Found) → IsCounted most steps found → steps ≤ most
counted_within most steps (Sides ps) h = h
counted_within most steps (Refuted r) h = h
counted_within most steps GaveUp h = omega arith

pub found_none : (edges : List Pair) (choices : List Choice) (sides : List (Option Side)) (found : Found)
    → sides ≡ map (λ _. None) choices → IsFound edges choices (taken_of choices sides) found
    → IsFound edges choices [] found
found_none edges choices sides found e h =
    let P : List Pair → Type 0 = λ l. IsFound edges choices l found in
    subst P (ap (taken_of choices) e ∙ none_taken choices) h

-- ---- a tree or sides, and not both

HasSide : List Pair → Choice → Type 0
HasSide all c = (has_pair all c.other c.source ≡ true) ⊎ (has_pair all c.reader c.other ≡ true)

side_among : (all : List Pair) (c : Choice) (p : Pair) → IsSideOf c p → has_pair all p.first p.second ≡ true
    → HasSide all c
unfolding HasSide
side_among all c p (inl e) h = let P : Pair → Type 0 = λ z. has_pair all z.first z.second ≡ true in inl (subst P e h)
side_among all c p (inr e) h = let P : Pair → Type 0 = λ z. has_pair all z.first z.second ≡ true in inr (subst P e h)

sides_among : (all : List Pair) (choices : List Choice) (sides : List Pair) → AllZip IsSideOf choices sides
    → Within sides all → Each (HasSide all) choices
sides_among all [] sides z f = tt
sides_among all (c ∷ choices) [] z f = absurd z
sides_among all (c ∷ choices) (p ∷ sides) z f = (
  side_among all c p z.0 (f p.first p.second
      (or_left (is_pair p.first p.second p) (has_pair sides p.first p.second) (pair_self p))),
  sides_among all choices sides z.1 (λ a b h. f a b (or_right (is_pair a b p) (has_pair sides a b) h)),
)

within_add : (p : Pair) (taken sides : List Pair) → Within taken sides → has_pair sides p.first p.second ≡ true
    → Within (p ∷ taken) sides
within_add p taken sides f h a b k = go (or_cases (is_pair a b p) (has_pair taken a b) k)
  where
    go : (is_pair a b p ≡ true) ⊎ (has_pair taken a b ≡ true) → has_pair sides a b ≡ true
    go (inl e) = pair_back (λ x y. has_pair sides x y ≡ true) a b p e h
    go (inr e) = f a b e

tree_refutes : (edges : List Pair) (choices : List Choice) (sides taken : List Pair) (tree : Tree)
    → Refutes edges choices taken tree → Each (HasSide sides) choices → HasNoCycle edges sides → Within taken sides → ⊥
unfolding HasSide
tree_refutes edges choices sides taken (Cycle nodes) h z none f =
    both_ways (is_cycle_of (edge_among edges sides) nodes.items) (none nodes.items)
    (cycle_more (edge_among edges taken) (edge_among edges sides) (edge_more edges taken sides f) nodes.items h)
tree_refutes edges choices sides taken (Split' c p l q r) h z none f =
    elim (each_among (HasSide sides) c choices (among_from_contains choices c h.0) z) [
      | inl e ↦ tree_refutes edges choices sides (before_source c ∷ taken) l h.1 z none
          (within_add (before_source c) taken sides f e)
      | inr e ↦ tree_refutes edges choices sides (after_reader c ∷ taken) r h.2 z none
          (within_add (after_reader c) taken sides f e)
    ]

pub trees_refute_lem : TreesRefute
trees_refute_lem edges choices sides tree h z none =
    tree_refutes edges choices sides [] tree h (sides_among sides choices sides z (λ a b e. e)) none (λ a b e. cc)
