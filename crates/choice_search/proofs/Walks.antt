-- Cycles stay when the nodes with no edge to a node that is left are left out, and a walk that meets itself has one.
use Rattle.std.proofs.Common.{◌≡◌, ℕ, zero, suc, ◌+◌, ◌<◌, ◌≤◌, ◌==◌, Bool, true, false, cond, not, ◌&&◌, ◌||◌, Some, Ok, Err, Result, IfOk, List, [], ◌∷◌, ◌++◌, length, filter, slice_get, drop, count_by, refl, sym, ap, ◌∙◌, arith, subst, All, inl, inr, ◌⊎◌, eq-eqb}
use Rattle.std.proofs.lemmas.Bool.{and_from, and_parts, both_ways, eqb-true, false_from_ne_true, not-true, not_from_true, not_from_false, or_cases, or_left, or_right, or_parts}
use Rattle.std.proofs.lemmas.List.Elements.{All-from_recursion, recursion_from_All}
use Rattle.std.proofs.lemmas.List.Sums.{sum_by-append, sum_by-cons}
use Rattle.std.specs.List.{AllByRecursion as Each, list_any}
use Rattle.perp_base.proofs.Lists.{Among, any_filter, each_among, each_both, each_weaker}
use Rattle.choice_search.specs.declared.graph.Pair.{Pair}
use Rattle.choice_search.specs.Graph.{HasNoCycle, edge_among, has_pair, is_cycle_of, is_pair, is_path}
use Rattle.choice_search.specs.Search.{KeepsCycles, closed, has_next, is_among, leads}
use Rattle.choice_search.proofs.Finds.{any_append, any_among, any_found, any_more}

-- What a filter keeps.

filter_short_step : {X : Type 0} (x : X) (fs xs : List X) (b : Bool) → length fs ≤ length xs
    → length (cond b (x ∷ fs) fs) ≤ suc (length xs)
filter_short_step x fs xs true h = omega arith
filter_short_step x fs xs false h = omega arith

filter_short : {X : Type 0} (p : X → Bool) (xs : List X) → length (filter p xs) ≤ length xs
filter_short p [] = omega arith
filter_short p (x ∷ xs) = filter_short_step x (filter p xs) xs (p x) (filter_short p xs)

pub filter_shrinks : {X : Type 0} (p : X → Bool) (xs : List X) → (length (filter p xs) ≡ length xs → ⊥)
    → length (filter p xs) < length xs
filter_shrinks p xs ne = let h = filter_short p xs in omega arith

whole_step : {X : Type 0} (p : X → Bool) (x : X) (fs xs : List X) (b : Bool) → p x ≡ b → length fs ≤ length xs
    → (length fs ≡ length xs → Each (λ y. p y ≡ true) xs) → length (cond b (x ∷ fs) fs) ≡ suc (length xs)
    → Each (λ y. p y ≡ true) (x ∷ xs)
whole_step p x fs xs true e s rec h = (e, rec (omega arith))
whole_step p x fs xs false e s rec h = absurd (omega arith)

each_kept : {X : Type 0} (p : X → Bool) (xs : List X) → length (filter p xs) ≡ length xs → Each (λ y. p y ≡ true) xs
each_kept p [] h = tt
each_kept p (x ∷ xs) h = whole_step p x (filter p xs) xs (p x) refl (filter_short p xs) (each_kept p xs) h

-- a filter that keeps so many keeps all
pub all_kept : {X : Type 0} (p : X → Bool) (xs : List X) → length (filter p xs) ≡ length xs → All (λ y. p y ≡ true) xs
all_kept p xs h = All-from_recursion (λ y. p y ≡ true) xs (each_kept p xs h)

-- Nodes.

pub among_is : (n : ℕ) (xs : List ℕ) → is_among n xs ≡ true → Among n xs
among_is n xs h =
    let f = any_found (λ x. x == n) xs h in
    let P : ℕ → Type 0 = λ z. Among z xs in
    subst P (eqb-true f.here n f.passes) f.among

pub is_among_here : (n : ℕ) (xs : List ℕ) → Among n xs → is_among n xs ≡ true
is_among_here n xs a = any_among (λ x. x == n) n xs a (eq-eqb n n refl)

-- an edge to one of the nodes
leads_from : (edges : List Pair) (nodes : List ℕ) (a b : ℕ) → is_among b nodes ≡ true → has_pair edges a b ≡ true
    → leads edges nodes a ≡ true
leads_from edges nodes a b h =
    any_more (is_pair a b) (λ p. (p.first == a) && is_among p.second nodes) (λ p k.
    let q = and_parts (p.first == a) (p.second == b) k in
    let P : ℕ → Type 0 = λ z. is_among z nodes ≡ true in
    and_from (p.first == a) (is_among p.second nodes) q.0 (subst P (sym (eqb-true p.second b q.1)) h)) edges

next_from : (edges more : List Pair) (nodes : List ℕ) (a b : ℕ) → is_among b nodes ≡ true
    → edge_among edges more a b ≡ true → has_next edges more nodes a ≡ true
next_from edges more nodes a b h k = go (or_cases (has_pair edges a b) (has_pair more a b) k)
  where
    go : (has_pair edges a b ≡ true) ⊎ (has_pair more a b ≡ true) → has_next edges more nodes a ≡ true
    go (inl e) = or_left (leads edges nodes a) (leads more nodes a) (leads_from edges nodes a b h e)
    go (inr e) = or_right (leads edges nodes a) (leads more nodes a) (leads_from more nodes a b h e)

-- Each node of a cycle has an edge to one of it.

record HasNext (edge : ℕ → ℕ → Bool) (P : ℕ → Type 0) (a : ℕ) : Type 0 where
  next : ℕ
  leads : edge a next ≡ true
  there : P next

path_next : (edge : ℕ → ℕ → Bool) (P : ℕ → Type 0) (a : ℕ) (rest : List ℕ) (last : ℕ)
    → is_path edge a rest last ≡ true → P last → Each P rest → Each (HasNext edge P) (a ∷ rest)
path_next edge P a [] last h p q = (record { next = last; leads = h; there = p }, tt)
path_next edge P a (b ∷ rest) last h p q =
    let k = and_parts (edge a b) (is_path edge b rest last) h in
    (record { next = b; leads = k.0; there = q.0 }, path_next edge P b rest last k.1 p q.1)

cycle_next : (edge : ℕ → ℕ → Bool) (P : ℕ → Type 0) (cycle : List ℕ) → is_cycle_of edge cycle ≡ true
    → Each P cycle → Each (HasNext edge P) cycle
cycle_next edge P [] h q = tt
cycle_next edge P (a ∷ []) h q = cc
cycle_next edge P (a ∷ b ∷ rest) h q = path_next edge P a (b ∷ rest) a h q.0 q.1

-- leaving out the nodes with no edge to one that is left keeps the cycles
pub keeps_cycles : (edges more : List Pair) (before left : List ℕ) → KeepsCycles (edge_among edges more) before left
    → KeepsCycles (edge_among edges more) before (filter (λ a. has_next edges more left a) left)
keeps_cycles edges more before left k cycle h all =
    let edge = edge_among edges more in
    let P : ℕ → Type 0 = λ n. is_among n left ≡ true in
    let p : ℕ → Bool = λ a. has_next edges more left a in
    let here : Each P cycle = recursion_from_All P cycle (k cycle h all) in
    All-from_recursion (λ n. is_among n (filter p left) ≡ true) cycle
    (each_weaker (λ n. P n × HasNext edge P n) (λ n. is_among n (filter p left) ≡ true)
    (λ n q.
    let leads : p n ≡ true = next_from edges more left n q.1.next q.1.there q.1.leads in
    sym (any_filter p (λ x. x == n) left) ∙ any_among (λ y. p y && (y == n)) n left (among_is n left q.0)
    (and_from (p n) (n == n) leads (eq-eqb n n refl)))
    cycle (each_both P (HasNext edge P) cycle here (cycle_next edge P cycle h here)))

-- Nothing is left: no cycle.

each_unit : (xs : List ℕ) → Each (λ n. Unit {0}) xs
each_unit [] = tt
each_unit (x ∷ xs) = (tt, each_unit xs)

nothing_left : (edge : ℕ → ℕ → Bool) (cycle : List ℕ) → is_cycle_of edge cycle ≡ true
    → Each (λ n. is_among n [] ≡ true) cycle → ⊥
nothing_left edge [] h k = cc
nothing_left edge (a ∷ cycle) h k = cc (k.0)

pub no_cycles : (edges more : List Pair) (starts left : List ℕ)
    → ((a b : ℕ) → has_pair edges a b ≡ true → is_among a starts ≡ true)
    → ((a b : ℕ) → has_pair more a b ≡ true → is_among a starts ≡ true)
    → KeepsCycles (edge_among edges more) starts left → left ≡ [] → HasNoCycle edges more
no_cycles edges more starts left f g k e cycle =
    let edge = edge_among edges more in
    let U : ℕ → Type 0 = λ n. Unit {0} in
    false_from_ne_true (is_cycle_of edge cycle) (λ h.
    let there : Each (λ n. is_among n starts ≡ true) cycle =
    each_weaker (HasNext edge U) (λ n. is_among n starts ≡ true)
    (λ n q. start n q.next (or_cases (has_pair edges n q.next) (has_pair more n q.next) q.leads)) cycle
    (cycle_next edge U cycle h (each_unit cycle)) in
    let kept : All (λ n. is_among n left ≡ true) cycle = k cycle h
    (All-from_recursion (λ n. is_among n starts ≡ true) cycle there) in
    let Q : List ℕ → Type 0 = λ l. Each (λ n. is_among n l ≡ true) cycle in
    nothing_left edge cycle h (subst Q e (recursion_from_All (λ n. is_among n left ≡ true) cycle kept)))
  where
    start : (n m : ℕ) → (has_pair edges n m ≡ true) ⊎ (has_pair more n m ≡ true) → is_among n starts ≡ true
    start n m (inl h) = f n m h
    start n m (inr h) = g n m h

-- Walks.

-- an edge from each node to the next, up to the last
abbrev pub IsWalk : (ℕ → ℕ → Bool) → List ℕ → ℕ → Type 0
IsWalk edge [] last = ⊥
IsWalk edge (a ∷ []) last = a ≡ last
IsWalk edge (a ∷ b ∷ rest) last = (edge a b ≡ true) × IsWalk edge (b ∷ rest) last

pub walk_push : (edge : ℕ → ℕ → Bool) (xs : List ℕ) (last n : ℕ) → IsWalk edge xs last → edge last n ≡ true
    → IsWalk edge (xs ++ n ∷ []) n
walk_push edge [] last n w e = absurd w
walk_push edge (a ∷ []) last n w e = let P : ℕ → Type 0 = λ z. edge z n ≡ true in (subst P (sym w) e, refl)
walk_push edge (a ∷ b ∷ rest) last n w e = (w.0, walk_push edge (b ∷ rest) last n w.1 e)

walk_path : (edge : ℕ → ℕ → Bool) (a : ℕ) (rest : List ℕ) (last z : ℕ) → IsWalk edge (a ∷ rest) last
    → edge last z ≡ true → is_path edge a rest z ≡ true
walk_path edge a [] last z w e = let P : ℕ → Type 0 = λ y. edge y z ≡ true in subst P (sym w) e
walk_path edge a (b ∷ rest) last z w e =
    and_from (edge a b) (is_path edge b rest z) w.0 (walk_path edge b rest last z w.1 e)

walk_closes : (edge : ℕ → ℕ → Bool) (a : ℕ) (rest : List ℕ) (last : ℕ)
    → IsWalk edge (a ∷ rest) last → edge last a ≡ true → is_cycle_of edge (closed (a ∷ rest)) ≡ true
walk_closes edge a [] last w e =
    let P : ℕ → Type 0 = λ y. edge y a ≡ true in
    let self : edge a a ≡ true = subst P (sym w) e in
    and_from (edge a a) (edge a a) self self
walk_closes edge a (b ∷ rest) last w e = walk_path edge a (b ∷ rest) last a w e

-- a walk whose last node has an edge to an earlier one
pub walk_cycle : (edge : ℕ → ℕ → Bool) (xs : List ℕ) (i : ℕ) (a last : ℕ)
    → IsWalk edge xs last → slice_get xs i ≡ Some a → edge last a ≡ true
    → is_cycle_of edge (closed (drop i xs)) ≡ true
walk_cycle edge [] i a last w e h = absurd w
walk_cycle edge (b ∷ rest) zero a last w e h =
    let s : b ≡ a = cc in
    let P : ℕ → Type 0 = λ z. edge last z ≡ true in
    walk_closes edge b rest last w (subst P (sym s) h)
walk_cycle edge (b ∷ []) (suc i) a last w e h = cc
walk_cycle edge (b ∷ c ∷ rest) (suc i) a last w e h = walk_cycle edge (c ∷ rest) i a last w.1 e h

-- Fewer nodes stay unseen.

abbrev pub unseen : List ℕ → List ℕ → ℕ
unseen left path = count_by (λ n. not (is_among n path)) left

count_step : (b c : Bool) (m n : ℕ) → (b ≡ true → c ≡ true) → m ≤ n → cond b 1 0 + m ≤ cond c 1 0 + n
count_step true true m n f h = omega arith
count_step true false m n f h = cc (f refl)
count_step false true m n f h = omega arith
count_step false false m n f h = omega arith

count_less : (p q : ℕ → Bool) → ((n : ℕ) → p n ≡ true → q n ≡ true) → (xs : List ℕ)
    → count_by p xs ≤ count_by q xs
count_less p q f [] = omega arith
count_less p q f (x ∷ xs) =
    rw (sum_by-cons (λ n. cond (p n) 1 0) x xs, sum_by-cons (λ n. cond (q n) 1 0) x xs)
    (count_step (p x) (q x) (count_by p xs) (count_by q xs) (f x) (count_less p q f xs))

count_drops : (p q : ℕ → Bool) → ((n : ℕ) → p n ≡ true → q n ≡ true)
    → (fs : List ℕ) (y : ℕ) (cs : List ℕ) → p y ≡ false → q y ≡ true
    → count_by p (fs ++ y ∷ cs) < count_by q (fs ++ y ∷ cs)
count_drops p q f fs y cs g h =
    let a = sum_by-append (λ n. cond (p n) 1 0) fs (y ∷ cs) in
    let b = sum_by-append (λ n. cond (q n) 1 0) fs (y ∷ cs) in
    let c : count_by p (y ∷ cs) ≡ count_by p cs = sum_by-cons (λ n. cond (p n) 1 0) y cs
    ∙ (rw g (let z : 0 + count_by p cs ≡ count_by p cs = omega arith in z)) in
    let d : count_by q (y ∷ cs) ≡ 1 + count_by q cs = sum_by-cons (λ n. cond (q n) 1 0) y cs ∙ (rw h refl) in
    let k = count_less p q f fs in
    let l = count_less p q f cs in
    omega arith

pub fewer_unseen : (left path : List ℕ) (n : ℕ) → is_among n left ≡ true → is_among n path ≡ false
    → unseen left (path ++ n ∷ []) < unseen left path
fewer_unseen left path n c h =
    let a = among_is n left c in
    let p : ℕ → Bool = λ m. not (is_among m (path ++ n ∷ [])) in
    let q : ℕ → Bool = λ m. not (is_among m path) in
    let more : (m : ℕ) → p m ≡ true → q m ≡ true = λ m k. not_from_false (is_among m path)
    ((or_parts (is_among m path) ((n == m) || false) (sym (any_append (λ x. x == m) path (n ∷ []))
    ∙ not-true (is_among m (path ++ n ∷ [])) k)).0) in
    let gone : p n ≡ false = not_from_true (is_among n (path ++ n ∷ []))
    (any_append (λ x. x == n) path (n ∷ []) ∙ or_right (is_among n path) ((n == n) || false)
    (or_left (n == n) false (eq-eqb n n refl))) in
    let P : List ℕ → Type 0 = λ l. unseen l (path ++ n ∷ []) < unseen l path in
    subst P (sym a.whole) (count_drops p q more a.front n a.rest gone (not_from_false (is_among n path) h))

-- Results and lists.

pub if_ok : {A E : Type 0} (P Q : A → Type 0) (r : Result A E) → ((v : A) → P v → Q v) → IfOk r P → IfOk r Q
if_ok P Q (Ok v) f h = f v h
if_ok P Q (Err e) f h = h

pub empty_is : (xs : List ℕ) → length xs ≡ 0 → xs ≡ []
empty_is [] h = refl
empty_is (x ∷ xs) h = absurd (omega arith)

-- what has an edge to one of the nodes has a next one
pub closed_one : (xs : List ℕ) (x : ℕ) → xs ≡ x ∷ [] → xs ++ x ∷ [] ≡ closed xs
closed_one xs x e = rw e refl

pub closed_other : (xs : List ℕ) → (length xs ≡ 1 → ⊥) → xs ≡ closed xs
closed_other [] ne = refl
closed_other (x ∷ []) ne = absurd (ne (omega arith))
closed_other (x ∷ y ∷ rest) ne = refl

-- each of the nodes has a next one
pub next_at : (edges more : List Pair) (nodes : List ℕ) (a : ℕ)
    → All (λ n. has_next edges more nodes n ≡ true) nodes → is_among a nodes ≡ true
    → has_next edges more nodes a ≡ true
next_at edges more nodes a h k =
    let P : ℕ → Type 0 = λ n. has_next edges more nodes n ≡ true in
    each_among P a nodes (among_is a nodes k) (recursion_from_All P nodes h)
