-- Of finitely many nodes one has no edge from any of them, or there is a cycle.
use Rattle.std.proofs.Common.{◌≡◌, ◌&&◌, ◌||◌, Bool, true, false, List, [], ◌∷◌, ◌++◌, refl, inl, inr, ◌⊎◌}
use Rattle.std.proofs.lemmas.Bool.{and_from, and_parts, both_ways, cases_Bool, or_cases, or_parts, and_cases}
use Rattle.std.specs.List.{AllByRecursion as Each}
use Rattle.perp_base.proofs.Lists.{Among, each_weaker}
use Rattle.verdict.specs.Edges.{is_cycle_of, is_path}

-- a path from a to b
abbrev pub Path : {X : Type 0} → (X → X → Bool) → X → X → Type 0
Path {X} edge a b = (between : List X) × (is_path edge a between b ≡ true)

path_join : {X : Type 0} (edge : X → X → Bool) (a : X) (xs : List X) (b : X) (ys : List X) (c : X)
    → is_path edge a xs b ≡ true → is_path edge b ys c ≡ true → is_path edge a (xs ++ b ∷ ys) c ≡ true
path_join edge a [] b ys c h k = and_from (edge a b) (is_path edge b ys c) h k
path_join edge a (x ∷ xs) b ys c h k =
    let p = and_parts (edge a x) (is_path edge x xs b) h in
    and_from (edge a x) (is_path edge x (xs ++ b ∷ ys) c) p.0 (path_join edge x xs b ys c p.1 k)

pub join : {X : Type 0} (edge : X → X → Bool) (a b c : X) → Path edge a b → Path edge b c → Path edge a c
join edge a b c p q = (p.0 ++ b ∷ q.0, path_join edge a p.0 b q.0 c p.1 q.1)

-- edges, and those over one node
abbrev over : {X : Type 0} → (X → X → Bool) → X → X → X → Bool
over edge m a b = edge a b || (edge a m && edge m b)

over_path : {X : Type 0} (edge : X → X → Bool) (m a b : X) → over edge m a b ≡ true → Path edge a b
over_path {X} edge m a b h = go (or_cases (edge a b) (edge a m && edge m b) h)
  where
    go : (edge a b ≡ true) ⊎ ((edge a m && edge m b) ≡ true) → Path edge a b
    go (inl e) = ([], e)
    go (inr e) = (m ∷ [], e)

wider : {X : Type 0} (edge : X → X → Bool) (m a : X) (xs : List X) (b : X) → is_path (over edge m) a xs b ≡ true
    → Path edge a b
wider edge m a [] b h = over_path edge m a b h
wider edge m a (x ∷ xs) b h =
    let p = and_parts (over edge m a x) (is_path (over edge m) x xs b) h in
    join edge a x b (over_path edge m a x p.0) (wider edge m x xs b p.1)

-- a node of a list that no edge leads to from one of the list
pub record Least {X : Type 0} (edge : X → X → Bool) (xs : List X) : Type 0 where
  pub node : X
  pub among : Among node xs
  pub none : Each (λ x. edge x node ≡ false) xs

abbrev pub Loop : {X : Type 0} → (X → X → Bool) → Type 0
Loop {X} edge = (a : X) × Path edge a a

pub here : {X : Type 0} (a : X) (xs : List X) → Among a (a ∷ xs)
here a xs = record { front = []; rest = xs; whole = refl }

pub further : {X : Type 0} (y x : X) (xs : List X) → Among y xs → Among y (x ∷ xs)
further y x xs a = record { front = x ∷ a.front; rest = a.rest; whole = (λ i. x ∷ a.whole i) }

pub least : {X : Type 0} (edge : X → X → Bool) (a : X) (xs : List X) → Loop edge ⊎ Least edge (a ∷ xs)
least edge a [] = go (cases_Bool (edge a a))
  where
    go : (edge a a ≡ true) ⊎ (edge a a ≡ false) → Loop edge ⊎ Least edge (a ∷ [])
    go (inl e) = inl (a, ([], e))
    go (inr e) = inr (record { node = a; among = here a []; none = (e, tt) })
least {X} edge a (b ∷ xs) = go (least (over edge a) b xs)
  where
    one : (m x : X) → over edge a x m ≡ false → edge x m ≡ false
    one m x h = (or_parts (edge x m) (edge x a && edge a m) h).0

    two : (m x : X) → edge a m ≡ true → over edge a x m ≡ false → edge x a ≡ false
    two m x k h = out (and_cases (edge x a) (edge a m) ((or_parts (edge x m) (edge x a && edge a m) h).1))
      where
        out : (edge x a ≡ false) ⊎ (edge a m ≡ false) → edge x a ≡ false
        out (inl e) = e
        out (inr e) = absurd (both_ways (edge a m) e k)

    loops : (edge a a ≡ true) ⊎ (edge a a ≡ false) → Each (λ x. edge x a ≡ false) (b ∷ xs)
        → Loop edge ⊎ Least edge (a ∷ b ∷ xs)
    loops (inl e) f = inl (a, ([], e))
    loops (inr e) f = inr (record { node = a; among = here a (b ∷ xs); none = (e, f) })

    by : (l : Least (over edge a) (b ∷ xs)) → (edge a l.node ≡ true) ⊎ (edge a l.node ≡ false)
        → Loop edge ⊎ Least edge (a ∷ b ∷ xs)
    by l (inl k) =
        loops (cases_Bool (edge a a)) (each_weaker (λ x. over edge a x l.node ≡ false) (λ x. edge x a ≡ false)
        (λ x h. two l.node x k h) (b ∷ xs) l.none)
    by l (inr k) =
        inr (record {
          node = l.node;
          among = further l.node a (b ∷ xs) l.among;
          none = (
            k,
            each_weaker (λ x. over edge a x l.node ≡ false) (λ x. edge x l.node ≡ false)
                (λ x h. one l.node x h) (b ∷ xs) l.none,
          );
        })

    go : Loop (over edge a) ⊎ Least (over edge a) (b ∷ xs) → Loop edge ⊎ Least edge (a ∷ b ∷ xs)
    go (inl p) = inl (p.0, wider edge a p.0 p.1.0 p.0 p.1.1)
    go (inr l) = by l (cases_Bool (edge a l.node))

-- a path back is a cycle
pub loop_cycle : {X : Type 0} (edge : X → X → Bool) → Loop edge → (cycle : List X) × (is_cycle_of edge cycle ≡ true)
loop_cycle {X} edge l = go l.1.0 l.1.1
  where
    go : (xs : List X) → is_path edge l.0 xs l.0 ≡ true → (cycle : List X) × (is_cycle_of edge cycle ≡ true)
    go [] h = (l.0 ∷ l.0 ∷ [], and_from (edge l.0 l.0) (edge l.0 l.0) h h)
    go (x ∷ xs) h = (l.0 ∷ x ∷ xs, h)
