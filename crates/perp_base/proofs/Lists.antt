-- Lemmas on lists: what a filter keeps around one element, lists that go in step, the last that passes, ranges.
use Rattle.std.proofs.Common.{◌≡◌, ℕ, zero, suc, ◌+◌, ◌<◌, ◌≤◌, ◌==◌, Bool, true, false, cond, ◌&&◌, ◌||◌, Option, None, Some, List, [], ◌∷◌, ◌++◌, length, map, filter, take_while, get_or, refl, sym, ap, ◌∙◌, arith, one-add, zero-add, add-zero, suc-add, subst, ltb, ◌≢◌, append_assoc, find, Contains, position, length-append}
use Rattle.std.proofs.lemmas.Bool.{true≢false, eqb-true, eqb-false, lt-ltb, le-ltb, or_left, or_right}
use Rattle.std.proofs.lemmas.List.{get_or_at}
use Rattle.std.specs.List.{AllZip, AllByRecursion as Each, list_any, range_with_len, position_or_len}
use Rattle.std.specs.Option.{option_or, option_map_or}
use Rattle.perp_base.specs.Last.{last_that}

-- a list on both sides of one element that a filter keeps
pub record FilterSplit {X : Type 0} (p : X → Bool) (xs fs : List X) (y : X) (cs : List X) : Type 0 where
  pub before : List X
  pub after : List X
  pub whole : xs ≡ before ++ y ∷ after
  pub kept_before : filter p before ≡ fs
  pub kept_after : filter p after ≡ cs
  pub passes : p y ≡ true

filter_split_step : {X : Type 0} (p : X → Bool) (x : X) (xs fs : List X) (y : X) (cs : List X)
    → ((bs : List X) → filter p xs ≡ bs ++ y ∷ cs → FilterSplit p xs bs y cs)
    → (b : Bool) → p x ≡ b → cond b (x ∷ filter p xs) (filter p xs) ≡ fs ++ y ∷ cs → FilterSplit p (x ∷ xs) fs y cs
filter_split_step p x xs [] y cs rec true h e =
    record { before = []; after = xs; whole = cc; kept_before = refl; kept_after = cc; passes = cc }
filter_split_step p x xs (a ∷ fs) y cs rec true h e =
    let s = rec fs (let k : filter p xs ≡ fs ++ y ∷ cs = cc in k) in
    record {
      before = x ∷ s.before;
      after = s.after;
      whole = cc (s.whole);
      kept_before = rw h (let k : x ≡ a = cc in cc (s.kept_before));
      kept_after = s.kept_after;
      passes = s.passes;
    }
filter_split_step p x xs fs y cs rec false h e =
    let s = rec fs e in
    record {
      before = x ∷ s.before;
      after = s.after;
      whole = cc (s.whole);
      kept_before = rw h (s.kept_before);
      kept_after = s.kept_after;
      passes = s.passes;
    }

pub filter_split : {X : Type 0} (p : X → Bool) (xs fs : List X) (y : X) (cs : List X) → filter p xs ≡ fs ++ y ∷ cs
    → FilterSplit p xs fs y cs
filter_split p [] [] y cs e = cc
filter_split p [] (a ∷ fs) y cs e = cc
filter_split p (x ∷ xs) fs y cs e = filter_split_step p x xs fs y cs (λ bs. filter_split p xs bs y cs) (p x) refl e

-- two lists in step, on both sides of one element
pub record ZipSplit {A B : Type 0} (R : A → B → Type 0) (fs : List A) (y : A) (cs : List A) (ys : List B) : Type 0 where
  pub before : List B
  pub here : B
  pub after : List B
  pub whole : ys ≡ before ++ here ∷ after
  pub in_step_before : AllZip R fs before
  pub in_step : R y here
  pub in_step_after : AllZip R cs after

pub zip_split : {A B : Type 0} (R : A → B → Type 0) (fs : List A) (y : A) (cs : List A) (ys : List B)
    → AllZip R (fs ++ y ∷ cs) ys → ZipSplit R fs y cs ys
zip_split R [] y cs [] h = absurd h
zip_split R [] y cs (b ∷ ys) h = record {
  before = [];
  here = b;
  after = ys;
  whole = refl;
  in_step_before = tt;
  in_step = h.0;
  in_step_after = h.1;
}
zip_split R (a ∷ fs) y cs [] h = absurd h
zip_split R (a ∷ fs) y cs (b ∷ ys) h =
    let s = zip_split R fs y cs ys h.1 in
    record {
      before = b ∷ s.before;
      here = s.here;
      after = s.after;
      whole = ap (λ l. b ∷ l) s.whole;
      in_step_before = (h.0, s.in_step_before);
      in_step = s.in_step;
      in_step_after = s.in_step_after;
    }

-- a list that a function makes two lists of
pub record MapSplit {A B : Type 0} (f : A → B) (xs : List A) (us vs : List B) : Type 0 where
  pub first : List A
  pub second : List A
  pub whole : xs ≡ first ++ second
  pub first_gives : map f first ≡ us
  pub second_gives : map f second ≡ vs

pub map_split : {A B : Type 0} (f : A → B) (xs : List A) (us vs : List B) → map f xs ≡ us ++ vs → MapSplit f xs us vs
map_split f xs [] vs e = record { first = []; second = xs; whole = refl; first_gives = refl; second_gives = e }
map_split f [] (u ∷ us) vs e = cc
map_split f (x ∷ xs) (u ∷ us) vs e =
    let s = map_split f xs us vs (let k : map f xs ≡ us ++ vs = cc in k) in
    record {
      first = x ∷ s.first;
      second = s.second;
      whole = ap (λ l. x ∷ l) s.whole;
      first_gives = cc (s.first_gives);
      second_gives = s.second_gives;
    }

-- Each of a part, and of a filter

pub each_append : {X : Type 0} (P : X → Type 0) (xs ys : List X) → Each P xs → Each P ys → Each P (xs ++ ys)
each_append P [] ys h k = k
each_append P (x ∷ xs) ys h k = (h.0, each_append P xs ys h.1 k)

pub each_left : {X : Type 0} (P : X → Type 0) (xs ys : List X) → Each P (xs ++ ys) → Each P xs
each_left P [] ys h = tt
each_left P (x ∷ xs) ys h = (h.0, each_left P xs ys h.1)

pub each_right : {X : Type 0} (P : X → Type 0) (xs ys : List X) → Each P (xs ++ ys) → Each P ys
each_right P [] ys h = h
each_right P (x ∷ xs) ys h = each_right P xs ys h.1

pub each_weaker : {X : Type 0} (P Q : X → Type 0) → ((x : X) → P x → Q x) → (xs : List X) → Each P xs → Each Q xs
each_weaker P Q f [] h = tt
each_weaker P Q f (x ∷ xs) h = (f x h.0, each_weaker P Q f xs h.1)

each_filter_step : {X : Type 0} (P : X → Type 0) (x : X) (xs : List X) (b : Bool) → P x → Each P xs
    → Each P (cond b (x ∷ xs) xs)
each_filter_step P x xs true h k = (h, k)
each_filter_step P x xs false h k = k

pub each_filter : {X : Type 0} (P : X → Type 0) (p : X → Bool) (xs : List X) → Each P xs → Each P (filter p xs)
each_filter P p [] h = tt
each_filter P p (x ∷ xs) h = each_filter_step P x (filter p xs) (p x) h.0 (each_filter P p xs h.1)

filter_passes_step : {X : Type 0} (p : X → Bool) (x : X) (xs : List X) (b : Bool) → p x ≡ b → Each (λ y. p y ≡ true) xs
    → Each (λ y. p y ≡ true) (cond b (x ∷ xs) xs)
filter_passes_step p x xs true h k = (h, k)
filter_passes_step p x xs false h k = k

pub each_passes : {X : Type 0} (p : X → Bool) (xs : List X) → Each (λ y. p y ≡ true) (filter p xs)
each_passes p [] = tt
each_passes p (x ∷ xs) = filter_passes_step p x (filter p xs) (p x) refl (each_passes p xs)

each_unfilter_step : {X : Type 0} (P : X → Type 0) (p : X → Bool) → ((x : X) → p x ≡ false → P x)
    → (x : X) (xs : List X) (b : Bool) → p x ≡ b
    → (Each P (filter p xs) → Each P xs) → Each P (cond b (x ∷ filter p xs) (filter p xs)) → Each P (x ∷ xs)
each_unfilter_step P p f x xs true e rec h = (h.0, rec h.1)
each_unfilter_step P p f x xs false e rec h = (f x e, rec h)

-- what holds of each that a filter keeps, and of each that it drops, holds of each
pub each_unfilter : {X : Type 0} (P : X → Type 0) (p : X → Bool) → ((x : X) → p x ≡ false → P x) → (xs : List X)
    → Each P (filter p xs) → Each P xs
each_unfilter P p f [] h = tt
each_unfilter P p f (x ∷ xs) h = each_unfilter_step P p f x xs (p x) refl (each_unfilter P p f xs) h

-- A filter of a filter is the inner test's, where it implies the outer one's.

filter_inner_step : {X : Type 0} (p q : X → Bool) (x : X) (xs : List X) (a b : Bool) → p x ≡ a → q x ≡ b
    → (a ≡ true → b ≡ true) → filter p (filter q xs) ≡ filter p xs
    → filter p (cond b (x ∷ filter q xs) (filter q xs)) ≡ cond a (x ∷ filter p xs) (filter p xs)
filter_inner_step p q x xs true true e k f h = rw (e, h) refl
filter_inner_step p q x xs true false e k f h = absurd (true≢false (sym (f refl)))
filter_inner_step p q x xs false true e k f h = rw (e, h) refl
filter_inner_step p q x xs false false e k f h = h

pub filter_inner : {X : Type 0} (p q : X → Bool) → ((x : X) → p x ≡ true → q x ≡ true) → (xs : List X)
    → filter p (filter q xs) ≡ filter p xs
filter_inner p q f [] = refl
filter_inner p q f (x ∷ xs) = filter_inner_step p q x xs (p x) (q x) refl refl (f x) (filter_inner p q f xs)

-- filters that agree at each element
filter_same_step : {X : Type 0} (x : X) (xs ys : List X) (a b : Bool) → a ≡ b → xs ≡ ys
    → cond a (x ∷ xs) xs ≡ cond b (x ∷ ys) ys
filter_same_step x xs ys a b e k = cc

pub filter_same : {X : Type 0} (p q : X → Bool) (xs : List X) → Each (λ x. p x ≡ q x) xs → filter p xs ≡ filter q xs
filter_same p q [] h = refl
filter_same p q (x ∷ xs) h = filter_same_step x (filter p xs) (filter q xs) (p x) (q x) h.0 (filter_same p q xs h.1)

pub filter_all : {X : Type 0} (p : X → Bool) (xs : List X) → Each (λ x. p x ≡ true) xs → filter p xs ≡ xs
filter_all p [] h = refl
filter_all p (x ∷ xs) h = rw (h.0, filter_all p xs h.1) refl

pub filter_none : {X : Type 0} (p : X → Bool) (xs : List X) → Each (λ x. p x ≡ false) xs → filter p xs ≡ []
filter_none p [] h = refl
filter_none p (x ∷ xs) h = rw (h.0) (filter_none p xs h.1)

-- The last that passes.

pub or_none : {X : Type 0} (o : Option X) → option_or o None ≡ o
or_none None = refl
or_none (Some x) = refl

last_inner_step : {X : Type 0} (p q : X → Bool) (x : X) (xs : List X) (a b : Bool) → p x ≡ a → q x ≡ b
    → (a ≡ true → b ≡ true) → last_that p (filter q xs) ≡ last_that p xs
    → last_that p (cond b (x ∷ filter q xs) (filter q xs)) ≡ option_or (last_that p xs) (cond a (Some x) None)
last_inner_step p q x xs true true e k f h = rw (e, h) refl
last_inner_step p q x xs true false e k f h = absurd (true≢false (sym (f refl)))
last_inner_step p q x xs false true e k f h = rw (e, h) refl
last_inner_step p q x xs false false e k f h = h ∙ sym (or_none (last_that p xs))

-- the last that passes stands in the filter by a weaker test
pub last_inner : {X : Type 0} (p q : X → Bool) → ((x : X) → p x ≡ true → q x ≡ true) → (xs : List X)
    → last_that p (filter q xs) ≡ last_that p xs
last_inner p q f [] = refl
last_inner p q f (x ∷ xs) = last_inner_step p q x xs (p x) (q x) refl refl (f x) (last_inner p q f xs)

pub last_same : {X : Type 0} (p q : X → Bool) (xs : List X) → Each (λ x. p x ≡ q x) xs → last_that p xs ≡ last_that q xs
last_same p q [] h = refl
last_same p q (x ∷ xs) h = rw (h.0, last_same p q xs h.1) refl

pub last_none : {X : Type 0} (p : X → Bool) (xs : List X) → Each (λ x. p x ≡ false) xs → last_that p xs ≡ None
last_none p [] h = refl
last_none p (x ∷ xs) h = rw (h.0, last_none p xs h.1) refl

last_found_step : {X : Type 0} (P : X → Type 0) (p : X → Bool) (x y : X) (o : Option X) (b : Bool) → p x ≡ b → P x
    → (o ≡ Some y → (p y ≡ true) × P y) → option_or o (cond b (Some x) None) ≡ Some y → (p y ≡ true) × P y
last_found_step P p x y (Some z) b e h k l = k l
last_found_step P p x y None true e h k l = let s : x ≡ y = cc in (ap p (sym s) ∙ e, subst P s h)
last_found_step P p x y None false e h k l = cc

-- the last that passes passes, and what holds of each holds of it
pub last_found : {X : Type 0} (P : X → Type 0) (p : X → Bool) (xs : List X) (y : X) → Each P xs
    → last_that p xs ≡ Some y → (p y ≡ true) × P y
last_found P p [] y h e = cc
last_found P p (x ∷ xs) y h e = last_found_step P p x y (last_that p xs) (p x) refl h.0 (last_found P p xs y h.1) e

last_ranged_step : {X : Type 0} (f : X → ℕ) (x : X) (d : ℕ) (o : Option X)
    → option_map_or f (option_or o (Some x)) d ≡ option_map_or f o (f x)
last_ranged_step f x d None = refl
last_ranged_step f x d (Some y) = refl

-- where all pass and the numbers rise by one from d + 1 on, the last has the number d + length
pub last_ranged : {X : Type 0} (p : X → Bool) (f : X → ℕ) (xs : List X) (d : ℕ) → Each (λ x. p x ≡ true) xs
    → map f xs ≡ range_with_len (d + 1) (length xs) → option_map_or f (last_that p xs) d ≡ d + length xs
last_ranged p f [] d h e = omega arith
last_ranged p f (x ∷ xs) d h e =
    let k : f x ≡ d + 1 = cc in
    let t : map f xs ≡ range_with_len (d + 1 + 1) (length xs) = cc in
    rw (h.0) (last_ranged_step f x d (last_that p xs) ∙ (rw k (last_ranged p f xs (d + 1) h.1 t ∙ omega arith)))

-- Ranges.

pub range_append : (a m n : ℕ) → range_with_len a (m + n) ≡ range_with_len a m ++ range_with_len (a + m) n
range_append a zero n = rw (zero-add, add-zero) refl
range_append a (suc m) n =
    let e : a + 1 + m ≡ a + suc m = omega arith in rw suc-add (ap (λ l. a ∷ l) (range_append (a + 1) m n ∙ (rw e refl)))

pub range_front : (us vs : List ℕ) (a n : ℕ) → us ++ vs ≡ range_with_len a n → us ≡ range_with_len a (length us)
range_front [] vs a n e = refl
range_front (u ∷ us) vs a zero e = cc
range_front (u ∷ us) vs a (suc n) e =
    let k : u ≡ a = cc in
    let t : us ++ vs ≡ range_with_len (a + 1) n = cc in let r = range_front us vs (a + 1) n t in cc

range_any_step : (a y n : ℕ) (b : Bool) → (a == y) ≡ b → a ≤ y
    → (a + 1 ≤ y → list_any (λ v. v == y) (range_with_len (a + 1) n) ≡ ltb y (a + 1 + n))
    → (b || list_any (λ v. v == y) (range_with_len (a + 1) n)) ≡ ltb y (a + suc n)
range_any_step a y n true e h rec = let k : a ≡ y = eqb-true a y e in sym (lt-ltb y (a + suc n) (omega arith))
range_any_step a y n false e h rec =
    let k : a + 1 + n ≡ a + suc n = omega arith in
    let ne : a ≢ y = λ s. eqb-false a y e s in (rw (← k) (rec (omega arith)))

-- a number not below the first stands in the range exactly if it is below the end
pub range_any : (a n y : ℕ) → a ≤ y → list_any (λ v. v == y) (range_with_len a n) ≡ ltb y (a + n)
range_any a zero y h = sym (le-ltb y (a + 0) (omega arith))
range_any a (suc n) y h = range_any_step a y n (a == y) refl h (range_any (a + 1) n y)

-- list_any

any_filter_step : {X : Type 0} (p q : X → Bool) (x : X) (xs : List X) (a : Bool)
    → list_any (λ y. p y && q y) xs ≡ list_any q (filter p xs)
    → ((a && q x) || list_any (λ y. p y && q y) xs) ≡ list_any q (cond a (x ∷ filter p xs) (filter p xs))
any_filter_step p q x xs true h = rw h refl
any_filter_step p q x xs false h = h

pub any_filter : {X : Type 0} (p q : X → Bool) (xs : List X) → list_any (λ y. p y && q y) xs ≡ list_any q (filter p xs)
any_filter p q [] = refl
any_filter p q (x ∷ xs) = any_filter_step p q x xs (p x) (any_filter p q xs)

pub any_same : {X : Type 0} (p q : X → Bool) (xs : List X) → Each (λ x. p x ≡ q x) xs → list_any p xs ≡ list_any q xs
any_same p q [] h = refl
any_same p q (x ∷ xs) h = rw (h.0, any_same p q xs h.1) refl

pub any_map : {X Y : Type 0} (p : Y → Bool) (f : X → Y) (xs : List X)
    → list_any p (map f xs) ≡ list_any (λ x. p (f x)) xs
any_map p f [] = refl
any_map p f (x ∷ xs) = rw (any_map p f xs) refl

pub any_none : {X : Type 0} (p : X → Bool) (xs : List X) → Each (λ x. p x ≡ false) xs → list_any p xs ≡ false
any_none p [] h = refl
any_none p (x ∷ xs) h = rw (h.0) (any_none p xs h.1)

-- The first that passes.

pub take_while_split : {X : Type 0} (p : X → Bool) (fs : List X) (y : X) (cs : List X) → Each (λ x. p x ≡ true) fs
    → p y ≡ false → take_while p (fs ++ y ∷ cs) ≡ fs
take_while_split p [] y cs h e = rw e refl
take_while_split p (x ∷ fs) y cs h e = rw (h.0, one-add) (ap (λ l. x ∷ l) (take_while_split p fs y cs h.1 e))

-- Lists of which no two are alike.

abbrev pub Apart : {X : Type 0} → (X → X → Bool) → List X → Type 0
Apart alike [] = Unit {0}
Apart alike (x ∷ xs) = Each (λ y. alike x y ≡ false) xs × Apart alike xs

pub apart_append : {X : Type 0} (E : X → X → Bool) (xs ys : List X) → Apart E xs → Apart E ys
    → Each (λ x. Each (λ y. E x y ≡ false) ys) xs → Apart E (xs ++ ys)
apart_append E [] ys h k c = k
apart_append E (x ∷ xs) ys h k c = (each_append (λ y. E x y ≡ false) xs ys h.0 c.0, apart_append E xs ys h.1 k c.1)

pub apart_across : {X : Type 0} (E : X → X → Bool) (xs ys : List X) → Apart E (xs ++ ys)
    → Each (λ x. Each (λ y. E x y ≡ false) ys) xs
apart_across E [] ys h = tt
apart_across E (x ∷ xs) ys h = (each_right (λ y. E x y ≡ false) xs ys h.0, apart_across E xs ys h.1)

pub apart_left : {X : Type 0} (E : X → X → Bool) (xs ys : List X) → Apart E (xs ++ ys) → Apart E xs
apart_left E [] ys h = tt
apart_left E (x ∷ xs) ys h = (each_left (λ y. E x y ≡ false) xs ys h.0, apart_left E xs ys h.1)

apart_filter_step : {X : Type 0} (E : X → X → Bool) (x : X) (ys : List X) (b : Bool) → Each (λ y. E x y ≡ false) ys
    → Apart E ys → Apart E (cond b (x ∷ ys) ys)
apart_filter_step E x ys true h k = (h, k)
apart_filter_step E x ys false h k = k

pub apart_filter : {X : Type 0} (E : X → X → Bool) (p : X → Bool) (xs : List X) → Apart E xs → Apart E (filter p xs)
apart_filter E p [] h = tt
apart_filter E p (x ∷ xs) h =
    apart_filter_step E x (filter p xs) (p x) (each_filter (λ y. E x y ≡ false) p xs h.0) (apart_filter E p xs h.1)

-- alike in one list of a pair in step is alike in the other
pub zip_push : {A B : Type 0} (R : A → B → Type 0) (xs : List A) (ys : List B) (x : A) (y : B) → AllZip R xs ys → R x y
    → AllZip R (xs ++ x ∷ []) (ys ++ y ∷ [])
zip_push R [] [] x y z h = (h, tt)
zip_push R [] (b ∷ ys) x y z h = absurd z
zip_push R (a ∷ xs) [] x y z h = absurd z
zip_push R (a ∷ xs) (b ∷ ys) x y z h = (z.0, zip_push R xs ys x y z.1 h)

pub each_zip : {A B : Type 0} (R : A → B → Type 0) (P : A → Type 0) (Q : B → Type 0)
    → ((a : A) (b : B) → R a b → P a → Q b) → (xs : List A) (ys : List B) → AllZip R xs ys → Each P xs → Each Q ys
each_zip R P Q f [] [] h k = tt
each_zip R P Q f [] (y ∷ ys) h k = absurd h
each_zip R P Q f (x ∷ xs) [] h k = absurd h
each_zip R P Q f (x ∷ xs) (y ∷ ys) h k = (f x y h.0 k.0, each_zip R P Q f xs ys h.1 k.1)

pub apart_zip : {A B : Type 0} (R : A → B → Type 0) (E : A → A → Bool) (F : B → B → Bool)
    → ((a b : A) (c d : B) → R a c → R b d → E a b ≡ false → F c d ≡ false) → (xs : List A) (ys : List B)
    → AllZip R xs ys → Apart E xs → Apart F ys
apart_zip R E F f [] [] h k = tt
apart_zip R E F f [] (y ∷ ys) h k = absurd h
apart_zip R E F f (x ∷ xs) [] h k = absurd h
apart_zip R E F f (x ∷ xs) (y ∷ ys) h k = (
  each_zip R (λ a. E x a ≡ false) (λ b. F y b ≡ false) (λ a b r e. f x a y b h.0 r e) xs ys h.1 k.0,
  apart_zip R E F f xs ys h.1 k.1,
)

-- A place in a list.
pub record Among {X : Type 0} (y : X) (xs : List X) : Type 0 where
  pub front : List X
  pub rest : List X
  pub whole : xs ≡ front ++ y ∷ rest

pub each_at : {X : Type 0} (P : X → Type 0) (fs : List X) (y : X) (cs : List X) → Each P (fs ++ y ∷ cs) → P y
each_at P fs y cs h = (each_right P fs (y ∷ cs) h).0

pub each_among : {X : Type 0} (P : X → Type 0) (y : X) (xs : List X) → Among y xs → Each P xs → P y
each_among P y xs a h = each_at P a.front y a.rest (subst (Each P) a.whole h)

pub among_append_left : {X : Type 0} (y : X) (xs ys : List X) → Among y xs → Among y (xs ++ ys)
among_append_left y xs ys a = record {
  front = a.front;
  rest = a.rest ++ ys;
  whole = ap (λ l. l ++ ys) a.whole ∙ append_assoc a.front (y ∷ a.rest) ys;
}

pub among_append_right : {X : Type 0} (y : X) (xs ys : List X) → Among y ys → Among y (xs ++ ys)
among_append_right y xs ys a = record {
  front = xs ++ a.front;
  rest = a.rest;
  whole = ap (λ l. xs ++ l) a.whole ∙ sym (append_assoc xs a.front (y ∷ a.rest));
}

each_from_among_step : {X : Type 0} (x : X) (xs : List X) (y : X) → Among y xs → Among y (x ∷ xs)
each_from_among_step x xs y a = record { front = x ∷ a.front; rest = a.rest; whole = ap (λ l. x ∷ l) a.whole }

-- what holds at each place
pub each_from_among : {X : Type 0} (P : X → Type 0) (xs : List X) → ((y : X) → Among y xs → P y) → Each P xs
each_from_among P [] f = tt
each_from_among P (x ∷ xs) f = (
  f x (record { front = []; rest = xs; whole = refl }),
  each_from_among P xs (λ y a. f y (each_from_among_step x xs y a)),
)

pub each_both : {X : Type 0} (P Q : X → Type 0) (xs : List X) → Each P xs → Each Q xs → Each (λ x. P x × Q x) xs
each_both P Q [] h k = tt
each_both P Q (x ∷ xs) h k = ((h.0, k.0), each_both P Q xs h.1 k.1)

pub nil_from_each : {X : Type 0} (xs : List X) → Each (λ x. ⊥) xs → xs ≡ []
nil_from_each [] h = refl
nil_from_each (x ∷ xs) h = absurd h.0

-- before the element, what holds of each that the filter keeps and of each that it drops
pub each_before : {X : Type 0} (P : X → Type 0) (p : X → Bool) (xs fs : List X) (y : X) (cs : List X)
    (s : FilterSplit p xs fs y cs) → ((x : X) → p x ≡ false → P x) → Each P fs → Each P s.before
each_before P p xs fs y cs s f h = each_unfilter P p f s.before (subst (Each P) (sym s.kept_before) h)

-- More on tests, filters and maps.

or-assoc : {X : Type 0} (a b c : Option X) → option_or (option_or a b) c ≡ option_or a (option_or b c)
or-assoc None b c = refl
or-assoc (Some x) b c = refl

pub last-append : {X : Type 0} (p : X → Bool) (xs ys : List X)
    → last_that p (xs ++ ys) ≡ option_or (last_that p ys) (last_that p xs)
last-append p [] ys = sym (or_none (last_that p ys))
last-append p (x ∷ xs) ys =
    ap (λ o. option_or o (cond (p x) (Some x) None)) (last-append p xs ys)
    ∙ or-assoc (last_that p ys) (last_that p xs) (cond (p x) (Some x) None)

any_inner_step : {X : Type 0} (p q : X → Bool) (x : X) (xs : List X) (a b : Bool) → p x ≡ a → q x ≡ b
    → (a ≡ true → b ≡ true) → list_any p (filter q xs) ≡ list_any p xs
    → list_any p (cond b (x ∷ filter q xs) (filter q xs)) ≡ (a || list_any p xs)
any_inner_step p q x xs a true e k f h = rw (e, h) refl
any_inner_step p q x xs true false e k f h = absurd (true≢false (sym (f refl)))
any_inner_step p q x xs false false e k f h = h

-- whether some passes is so in the filter by a weaker test
pub any_inner : {X : Type 0} (p q : X → Bool) → ((x : X) → p x ≡ true → q x ≡ true) → (xs : List X)
    → list_any p (filter q xs) ≡ list_any p xs
any_inner p q f [] = refl
any_inner p q f (x ∷ xs) = any_inner_step p q x xs (p x) (q x) refl refl (f x) (any_inner p q f xs)

-- each of a list has one alike in a list with the same image
pub each_any : {X Y : Type 0} (f : X → Y) (P Q : X → Type 0) (test : X → X → Bool)
    → ((x y : X) → f x ≡ f y → P x → Q y → test x y ≡ true) → (xs ys : List X) → map f xs ≡ map f ys → Each P xs
    → Each Q ys → Each (λ x. list_any (test x) ys ≡ true) xs
each_any f P Q test g [] ys e h k = tt
each_any f P Q test g (x ∷ xs) [] e h k = cc
each_any f P Q test g (x ∷ xs) (y ∷ ys) e h k = (
  or_left (test x y) (list_any (test x) ys) (g x y (let l : f x ≡ f y = cc in l) h.0 k.0),
  each_weaker (λ z. list_any (test z) ys ≡ true) (λ z. list_any (test z) (y ∷ ys) ≡ true)
      (λ z l. or_right (test z y) (list_any (test z) ys) l) xs
      (each_any f P Q test g xs ys (let l : map f xs ≡ map f ys = cc in l) h.1 k.1),
)

each_trivial : {X Y : Type 0} (R : X → Y → Type 0) (ys : List Y) → Each (λ y. Each (λ x. R x y) []) ys
each_trivial R [] = tt
each_trivial R (y ∷ ys) = (tt, each_trivial R ys)

pub each_flip : {X Y : Type 0} (R : X → Y → Type 0) (xs : List X) (ys : List Y) → Each (λ x. Each (λ y. R x y) ys) xs
    → Each (λ y. Each (λ x. R x y) xs) ys
each_flip R [] ys h = each_trivial R ys
each_flip R (x ∷ xs) ys h = each_both (λ y. R x y) (λ y. Each (λ z. R z y) xs) ys h.0 (each_flip R xs ys h.1)

filter_filter_step : {X : Type 0} (p q : X → Bool) (x : X) (xs : List X) (b : Bool)
    → filter p (filter q xs) ≡ filter (λ y. q y && p y) xs
    → filter p (cond b (x ∷ filter q xs) (filter q xs))
    ≡ cond (b && p x) (x ∷ filter (λ y. q y && p y) xs) (filter (λ y. q y && p y) xs)
filter_filter_step p q x xs true h = rw h refl
filter_filter_step p q x xs false h = h

pub filter_filter : {X : Type 0} (p q : X → Bool) (xs : List X) → filter p (filter q xs) ≡ filter (λ y. q y && p y) xs
filter_filter p q [] = refl
filter_filter p q (x ∷ xs) = filter_filter_step p q x xs (q x) (filter_filter p q xs)

map_filter_step : {X Y Z : Type 0} (v : Y → Z) (q : Y → Bool) (f : X → Y) (x : X) (xs : List X) (b : Bool)
    → map (λ y. v (f y)) (filter (λ y. q (f y)) xs) ≡ map v (filter q (map f xs))
    → map (λ y. v (f y)) (cond b (x ∷ filter (λ y. q (f y)) xs) (filter (λ y. q (f y)) xs))
    ≡ map v (cond b (f x ∷ filter q (map f xs)) (filter q (map f xs)))
map_filter_step v q f x xs true h = ap (λ l. v (f x) ∷ l) h
map_filter_step v q f x xs false h = h

pub map_filter : {X Y Z : Type 0} (v : Y → Z) (q : Y → Bool) (f : X → Y) (xs : List X)
    → map (λ y. v (f y)) (filter (λ y. q (f y)) xs) ≡ map v (filter q (map f xs))
map_filter v q f [] = refl
map_filter v q f (x ∷ xs) = map_filter_step v q f x xs (q (f x)) (map_filter v q f xs)

-- lists in step whose tests and values agree
zip_values_step : {A B C : Type 0} (f : A → C) (g : B → C) (x : A) (y : B) (fs : List A) (gs : List B) (a b : Bool)
    → a ≡ b → (a ≡ true → f x ≡ g y) → map f fs ≡ map g gs → map f (cond a (x ∷ fs) fs) ≡ map g (cond b (y ∷ gs) gs)
zip_values_step f g x y fs gs true true e h k = rw (h refl) (ap (λ l. g y ∷ l) k)
zip_values_step f g x y fs gs true false e h k = cc
zip_values_step f g x y fs gs false true e h k = cc
zip_values_step f g x y fs gs false false e h k = k

pub zip_values : {A B C : Type 0} (R : A → B → Type 0) (p : A → Bool) (q : B → Bool) (f : A → C) (g : B → C)
    → ((x : A) (y : B) → R x y → p x ≡ q y) → ((x : A) (y : B) → R x y → p x ≡ true → f x ≡ g y)
    → (xs : List A) (ys : List B) → AllZip R xs ys → map f (filter p xs) ≡ map g (filter q ys)
zip_values R p q f g s v [] [] h = refl
zip_values R p q f g s v [] (y ∷ ys) h = absurd h
zip_values R p q f g s v (x ∷ xs) [] h = absurd h
zip_values R p q f g s v (x ∷ xs) (y ∷ ys) h =
    zip_values_step f g x y (filter p xs) (filter q ys) (p x) (q y) (s x y h.0) (v x y h.0)
    (zip_values R p q f g s v xs ys h.1)

pub zip_with_each : {A B : Type 0} (R : A → B → Type 0) (P : A → Type 0) (xs : List A) (ys : List B) → AllZip R xs ys
    → Each P xs → AllZip (λ x y. R x y × P x) xs ys
zip_with_each R P [] [] h k = tt
zip_with_each R P [] (y ∷ ys) h k = absurd h
zip_with_each R P (x ∷ xs) [] h k = absurd h
zip_with_each R P (x ∷ xs) (y ∷ ys) h k = ((h.0, k.0), zip_with_each R P xs ys h.1 k.1)

-- along two lists with one image
pub each_along : {A B : Type 0} (f : A → B) (P Q : A → Type 0) → ((a b : A) → f a ≡ f b → P a → Q b) → (xs ys : List A)
    → map f xs ≡ map f ys → Each P xs → Each Q ys
each_along f P Q g [] [] e h = tt
each_along f P Q g [] (y ∷ ys) e h = cc
each_along f P Q g (x ∷ xs) [] e h = cc
each_along f P Q g (x ∷ xs) (y ∷ ys) e h =
    (g x y (let k : f x ≡ f y = cc in k) h.0, each_along f P Q g xs ys (let k : map f xs ≡ map f ys = cc in k) h.1)

-- a place of a list with its element
pub record AtPlace {X : Type 0} (xs : List X) (i : ℕ) : Type 0 where
  pub here : X
  pub front : List X
  pub rest : List X
  pub whole : xs ≡ front ++ here ∷ rest
  pub long : length front ≡ i

pub at_place : {X : Type 0} (xs : List X) (i : ℕ) → i < length xs → AtPlace xs i
at_place [] i h = absurd (omega arith)
at_place (x ∷ xs) zero h = record { here = x; front = []; rest = xs; whole = refl; long = refl }
at_place (x ∷ xs) (suc i) h =
    let s = at_place xs i (let k : i < length xs = omega arith in k) in
    record { here = s.here; front = x ∷ s.front; rest = s.rest; whole = ap (λ l. x ∷ l) s.whole; long = ap suc s.long }

pub contains_from_among : {X : Type 0} (xs : List X) (y : X) → Among y xs → Contains xs y
contains_from_among xs y a = (
  length a.front,
  (let e = a.whole in let k : length a.front < length xs = rw (e, length-append) (omega arith) in k),
  rw (a.whole) (get_or_at a.front y a.rest y (length a.front) refl),
)

among_at : {X : Type 0} (xs : List X) (y : X) (k : ℕ) → k < length xs → get_or xs k y ≡ y → Among y xs
among_at {X} xs y k h e =
    let s = at_place xs k h in
    let g : s.here ≡ y = (sym (get_or_at s.front s.here s.rest y k s.long)
    ∙ ap (λ (l : List X). get_or l k y) (sym s.whole)) ∙ e in
    record { front = s.front; rest = s.rest; whole = s.whole ∙ ap (λ (z : X). s.front ++ z ∷ s.rest) g }

pub among_from_contains : {X : Type 0} (xs : List X) (y : X) → Contains xs y → Among y xs
among_from_contains xs y c = among_at xs y c.0 c.1 c.2

pub same_place : {X : Type 0} (fs gs : List X) (x y : X) (cs ds : List X) → fs ++ x ∷ cs ≡ gs ++ y ∷ ds
    → length fs ≡ length gs → x ≡ y
same_place [] [] x y cs ds e l = cc
same_place [] (g ∷ gs) x y cs ds e l = absurd (omega arith)
same_place (f ∷ fs) [] x y cs ds e l = absurd (omega arith)
same_place (f ∷ fs) (g ∷ gs) x y cs ds e l =
    same_place fs gs x y cs ds (let k : fs ++ x ∷ cs ≡ gs ++ y ∷ ds = cc in k) (omega arith)

first_place : {X : Type 0} (p : X → Bool) (fs : List X) (y : X) (cs : List X) → Each (λ x. p x ≡ false) fs → p y ≡ true
    → position_or_len p (fs ++ y ∷ cs) ≡ length fs
first_place p [] y cs h e = rw e refl
first_place p (x ∷ fs) y cs h e = rw (h.0, one-add) (ap suc (first_place p fs y cs h.1 e))

pub position_at : {X : Type 0} (p : X → Bool) (fs : List X) (y : X) (cs : List X) → Each (λ x. p x ≡ false) fs
    → p y ≡ true → position p (fs ++ y ∷ cs) ≡ Some (length fs)
position_at p fs y cs h e =
    let k : length fs < length (fs ++ y ∷ cs) = rw length-append (omega arith) in
    rw (first_place p fs y cs h e, lt-ltb (length fs) (length (fs ++ y ∷ cs)) k) refl

pub find_split : {X : Type 0} (p : X → Bool) (fs : List X) (y : X) (cs : List X) → Each (λ x. p x ≡ false) fs
    → p y ≡ true → find p (fs ++ y ∷ cs) ≡ Some y
find_split p [] y cs h e = rw e refl
find_split p (x ∷ fs) y cs h e = rw (h.0) (find_split p fs y cs h.1 e)
