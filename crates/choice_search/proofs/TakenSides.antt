-- The edges of the sides that are taken.
use Rattle.std.proofs.Common.{◌≡◌, ℕ, zero, suc, ◌+◌, ◌<◌, ◌==◌, ◌&&◌, ◌||◌, Bool, true, false, cond, not, Option, None, Some, is_some, List, [], ◌∷◌, ◌++◌, length, map, take, slice_get, slice_set, count_by, Contains, append-nil, refl, sym, ap, ◌∙◌, arith, subst, inl, inr, ◌⊎◌}
use Rattle.std.proofs.lemmas.Bool.{and_from, and_parts, both_ways, eqb-true, or_cases, or_from, or_left, or_right}
use Rattle.perp_base.proofs.Lists.{Among, among_append_right, contains_from_among}
use Rattle.choice_search.proofs.Finds.{any_append}
use Rattle.std.proofs.lemmas.List.Sums.{sum_by-cons}
use Rattle.std.specs.List.{AllZip, list_all, list_any}
use Rattle.choice_search.specs.declared.graph.Pair.{Pair}
use Rattle.choice_search.specs.declared.graph.Choice.{Choice}
use Rattle.choice_search.specs.declared.graph.Side.{Side}
use Rattle.choice_search.specs.declared.graph.Side.TheVariants.{Before, After}
use Rattle.choice_search.specs.Graph.{IsSideOf, has_pair, is_pair}
use Rattle.choice_search.specs.Search.{Within, is_open, side_of, taken_of, with_side}

with_append : (c : Choice) (s : Option Side) (xs ys : List Pair) → with_side c s (xs ++ ys) ≡ with_side c s xs ++ ys
with_append c None xs ys = refl
with_append c (Some s) xs ys = refl

taken_suc : (choices : List Choice) (sides : List (Option Side)) (i : ℕ) (c : Choice) (s : Option Side)
    → slice_get choices i ≡ Some c → slice_get sides i ≡ Some s
    → taken_of (take (suc i) choices) (take (suc i) sides) ≡ taken_of (take i choices) (take i sides)
    ++ with_side c s []
taken_suc [] sides i c s h k = cc
taken_suc (d ∷ choices) [] i c s h k = cc
taken_suc (d ∷ choices) (t ∷ sides) zero c s h k =
    let e : d ≡ c = cc in
    let f : t ≡ s = cc in
    ap (λ z. with_side z t []) e ∙ ap (λ z. with_side c z []) f
taken_suc (d ∷ choices) (t ∷ sides) (suc i) c s h k =
    ap (with_side d t) (taken_suc choices sides i c s h k)
    ∙ with_append d t (taken_of (take i choices) (take i sides)) (with_side c s [])

-- one more choice
pub taken_more : (choices : List Choice) (sides : List (Option Side)) (i : ℕ) (c : Choice) (s : Option Side)
    → slice_get choices i ≡ Some c → slice_get sides i ≡ Some s
    → taken_of (take (i + 1) choices) (take (i + 1) sides)
    ≡ taken_of (take i choices) (take i sides) ++ with_side c s []
taken_more choices sides i c s h k =
    let e : i + 1 ≡ suc i = omega arith in
    ap (λ n. taken_of (take n choices) (take n sides)) e ∙ taken_suc choices sides i c s h k

has_more : (c : Choice) (s : Option Side) (pairs : List Pair) (a b : ℕ) → has_pair pairs a b ≡ true
    → has_pair (with_side c s pairs) a b ≡ true
has_more c None pairs a b h = h
has_more c (Some s) pairs a b h = or_right (is_pair a b (side_of c s)) (has_pair pairs a b) h

-- a side that is taken is among them
pub taken_here : (choices : List Choice) (sides : List (Option Side)) (i : ℕ) (c : Choice) (s : Side) (a b : ℕ)
    → slice_get choices i ≡ Some c → slice_get sides i ≡ Some (Some s) → is_pair a b (side_of c s) ≡ true
    → has_pair (taken_of choices sides) a b ≡ true
taken_here [] sides i c s a b h k e = cc
taken_here (d ∷ choices) [] i c s a b h k e = cc
taken_here (d ∷ choices) (t ∷ sides) zero c s a b h k e =
    let f : d ≡ c = cc in
    let g : t ≡ Some s = cc in
    let goal : has_pair (with_side d t (taken_of choices sides)) a b ≡ true =
    ap (λ z. has_pair (with_side z t (taken_of choices sides)) a b) f
    ∙ ap (λ z. has_pair (with_side c z (taken_of choices sides)) a b) g
    ∙ or_left (is_pair a b (side_of c s)) (has_pair (taken_of choices sides) a b) e in goal
taken_here (d ∷ choices) (t ∷ sides) (suc i) c s a b h k e =
    has_more d t (taken_of choices sides) a b (taken_here choices sides i c s a b h k e)

side_is : (c : Choice) (s : Side) → IsSideOf c (side_of c s)
side_is c Before = inl refl
side_is c After = inr refl

-- where each choice has a side, these are a side of each
pub sides_of_each : (choices : List Choice) (sides : List (Option Side)) → length sides ≡ length choices
    → list_all (λ side. not (is_open side)) sides ≡ true → AllZip IsSideOf choices (taken_of choices sides)
sides_of_each [] sides l h = tt
sides_of_each (c ∷ choices) [] l h = absurd (omega arith)
sides_of_each (c ∷ choices) (None ∷ sides) l h = cc
sides_of_each (c ∷ choices) (Some s ∷ sides) l h = (side_is c s, sides_of_each choices sides (omega arith) h)

-- none is taken
pub none_taken : (choices : List Choice) → taken_of choices (map (λ _. None) choices) ≡ []
none_taken [] = refl
none_taken (c ∷ choices) = none_taken choices

-- One more side.

count_one : (s : Side) (sides : List (Option Side)) → count_by is_open (Some s ∷ sides) ≡ count_by is_open sides
count_one s sides =
    sum_by-cons (λ n. cond (is_open n) 1 0) (Some s) sides
    ∙ (let z : 0 + count_by is_open sides ≡ count_by is_open sides = omega arith in z)

count_free : (sides : List (Option Side)) → count_by is_open (None ∷ sides) ≡ 1 + count_by is_open sides
count_free sides = sum_by-cons (λ n. cond (is_open n) 1 0) None sides

count_head : (s : Option Side) (xs ys : List (Option Side)) → count_by is_open xs < count_by is_open ys
    → count_by is_open (s ∷ xs) < count_by is_open (s ∷ ys)
count_head None xs ys h = rw (count_free xs, count_free ys) (omega arith)
count_head (Some s) xs ys h = rw (count_one s xs, count_one s ys) h

-- fewer are open
pub open_fewer : (sides : List (Option Side)) (i : ℕ) (s : Side) → slice_get sides i ≡ Some None
    → count_by is_open (slice_set sides i (Some s)) < count_by is_open sides
open_fewer [] i s h = cc
open_fewer (t ∷ sides) zero s h =
    let e : t ≡ None = cc in
    let P : Option Side → Type 0 = λ z. count_by is_open (Some s ∷ sides) < count_by is_open (z ∷ sides) in
    subst P (sym e) (rw (count_one s sides, count_free sides) (omega arith))
open_fewer (t ∷ sides) (suc i) s h =
    count_head t (slice_set sides i (Some s)) sides (open_fewer sides i s h)

-- and back
pub set_back : (sides : List (Option Side)) (i : ℕ) (s : Option Side) → slice_get sides i ≡ Some None
    → slice_set (slice_set sides i s) i None ≡ sides
set_back [] i s h = cc
set_back (t ∷ sides) zero s h = let e : t ≡ None = cc in ap (λ z. z ∷ sides) (sym e)
set_back (t ∷ sides) (suc i) s h = ap (λ l. t ∷ l) (set_back sides i s h)

within_head : (c : Choice) (t : Option Side) (p : Pair) (xs ys : List Pair) → Within xs (p ∷ ys)
    → Within (with_side c t xs) (p ∷ with_side c t ys)
within_head c None p xs ys f a b h = f a b h
within_head c (Some t) p xs ys f a b h = go (or_cases (is_pair a b (side_of c t)) (has_pair xs a b) h)
  where
    swap : (x y z : Bool) → (x || y) ≡ true → (x || (z || y)) ≡ true
    swap true y z e = refl
    swap false true z e = or_right z true refl
    swap false false z e = cc

    first : (x y z : Bool) → z ≡ true → (x || (z || y)) ≡ true
    first x y z e = or_right x (z || y) (or_left z y e)

    go : (is_pair a b (side_of c t) ≡ true) ⊎ (has_pair xs a b ≡ true)
        → (is_pair a b p || (is_pair a b (side_of c t) || has_pair ys a b)) ≡ true
    go (inl e) = first (is_pair a b p) (has_pair ys a b) (is_pair a b (side_of c t)) e
    go (inr e) = swap (is_pair a b p) (has_pair ys a b) (is_pair a b (side_of c t)) (f a b e)

within_one : (c : Choice) (t : Option Side) (p : Pair) (xs : List Pair) → Within (p ∷ xs) (p ∷ with_side c t xs)
within_one c t p xs a b h = go (or_cases (is_pair a b p) (has_pair xs a b) h)
  where
    go : (is_pair a b p ≡ true) ⊎ (has_pair xs a b ≡ true)
        → (is_pair a b p || has_pair (with_side c t xs) a b) ≡ true
    go (inl e) = or_left (is_pair a b p) (has_pair (with_side c t xs) a b) e
    go (inr e) = or_right (is_pair a b p) (has_pair (with_side c t xs) a b) (has_more c t xs a b e)

-- what is taken with one more side
pub set_within : (choices : List Choice) (sides : List (Option Side)) (i : ℕ) (c : Choice) (s : Side)
    → slice_get choices i ≡ Some c → Within (taken_of choices (slice_set sides i (Some s)))
    (side_of c s ∷ taken_of choices sides)
set_within [] sides i c s h a b k = cc
set_within (d ∷ choices) [] i c s h a b k = cc
set_within (d ∷ choices) (t ∷ sides) zero c s h a b k =
    let e : d ≡ c = cc in
    let P : Choice → Type 0 = λ z. has_pair (side_of z s ∷ with_side d t (taken_of choices sides)) a b ≡ true in
    subst P e (within_one d t (side_of d s) (taken_of choices sides) a b k)
set_within (d ∷ choices) (t ∷ sides) (suc i) c s h a b k =
    within_head d t (side_of c s) (taken_of choices (slice_set sides i (Some s))) (taken_of choices sides)
    (set_within choices sides i c s h) a b k

-- none of the sides leads so, with one more
pub has_taken_more : (choices : List Choice) (sides : List (Option Side)) (i : ℕ) (c : Choice) (s : Option Side)
    (a b : ℕ) → slice_get choices i ≡ Some c → slice_get sides i ≡ Some s
    → has_pair (taken_of (take i choices) (take i sides)) a b ≡ false → has_pair (with_side c s []) a b ≡ false
    → has_pair (taken_of (take (i + 1) choices) (take (i + 1) sides)) a b ≡ false
has_taken_more choices sides i c s a b h k e f =
    ap (λ l. has_pair l a b) (taken_more choices sides i c s h k)
    ∙ any_append (is_pair a b) (taken_of (take i choices) (take i sides)) (with_side c s [])
    ∙ or_from (has_pair (taken_of (take i choices) (take i sides)) a b) (has_pair (with_side c s []) a b) e f

-- what one more side adds
pub push_side : (choices : List Choice) (sides : List (Option Side)) (i : ℕ) (c : Choice) (s : Side) (items : List Pair)
    → slice_get choices i ≡ Some c → slice_get sides i ≡ Some (Some s)
    → items ≡ taken_of (take i choices) (take i sides)
    → items ++ side_of c s ∷ [] ≡ taken_of (take (i + 1) choices) (take (i + 1) sides)
push_side choices sides i c s items h k e =
    ap (λ l. l ++ side_of c s ∷ []) e ∙ sym (taken_more choices sides i c (Some s) h k)

pub push_none : (choices : List Choice) (sides : List (Option Side)) (i : ℕ) (c : Choice) (items : List Pair)
    → slice_get choices i ≡ Some c → slice_get sides i ≡ Some None
    → items ≡ taken_of (take i choices) (take i sides)
    → items ≡ taken_of (take (i + 1) choices) (take (i + 1) sides)
push_none choices sides i c items h k e =
    e ∙ sym (append-nil (taken_of (take i choices) (take i sides))) ∙ sym (taken_more choices sides i c None h k)

among_get : {X : Type 0} (xs : List X) (i : ℕ) (x : X) → slice_get xs i ≡ Some x → Among x xs
among_get [] i x h = cc
among_get (y ∷ xs) zero x h =
    let e : y ≡ x = cc in record { front = []; rest = xs; whole = ap (λ z. z ∷ xs) e }
among_get (y ∷ xs) (suc i) x h = among_append_right x (y ∷ []) xs (among_get xs i x h)

pub contains_get : {X : Type 0} (xs : List X) (i : ℕ) (x : X) → slice_get xs i ≡ Some x → Contains xs x
contains_get xs i x h = contains_from_among xs x (among_get xs i x h)

-- what has a side is not open
pub some_closed : (s : Option Side) → is_some s ≡ true → not (is_open s) ≡ true
some_closed None h = cc
some_closed (Some s) h = refl
