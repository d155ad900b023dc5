-- Some element of a list that passes a test.
use Rattle.std.proofs.Common.{◌≡◌, ℕ, zero, suc, ◌+◌, Bool, true, false, ◌==◌, ◌||◌, ◌&&◌, Option, Some, None, is_some, MatchOption, List, [], ◌∷◌, ◌++◌, take, slice_get, refl, sym, ap, ◌∙◌, subst, inl, inr, ◌⊎◌, eq-eqb, arith}
use Rattle.std.proofs.lemmas.Bool.{and_from, and_parts, eqb-true, or_cases, or_left, or_right}
use Rattle.std.specs.List.{list_any, list_all}
use Rattle.perp_base.proofs.Lists.{Among, among_append_right}

pub record Finds {X : Type 0} (q : X → Bool) (xs : List X) : Type 0 where
  pub here : X
  pub among : Among here xs
  pub passes : q here ≡ true

found_step : {X : Type 0} (q : X → Bool) (x : X) (xs : List X) (b : Bool) → q x ≡ b
    → (list_any q xs ≡ true → Finds q xs) → (b || list_any q xs) ≡ true → Finds q (x ∷ xs)
found_step q x xs true e rec h = record { here = x; among = record { front = []; rest = xs; whole = refl }; passes = e }
found_step q x xs false e rec h =
    let f = rec h in record { here = f.here; among = among_append_right f.here (x ∷ []) xs f.among; passes = f.passes }

pub any_found : {X : Type 0} (q : X → Bool) (xs : List X) → list_any q xs ≡ true → Finds q xs
any_found q [] h = cc
any_found q (x ∷ xs) h = found_step q x xs (q x) refl (any_found q xs) h

pub any_at : {X : Type 0} (q : X → Bool) (fs : List X) (y : X) (cs : List X) → q y ≡ true
    → list_any q (fs ++ y ∷ cs) ≡ true
any_at q [] y cs h = or_left (q y) (list_any q cs) h
any_at q (x ∷ fs) y cs h = or_right (q x) (list_any q (fs ++ y ∷ cs)) (any_at q fs y cs h)

pub any_among : {X : Type 0} (q : X → Bool) (y : X) (xs : List X) → Among y xs → q y ≡ true → list_any q xs ≡ true
any_among q y xs a h = rw (a.whole) (any_at q a.front y a.rest h)

-- what passes one test passes another
pub any_more : {X : Type 0} (q r : X → Bool) → ((x : X) → q x ≡ true → r x ≡ true) → (xs : List X)
    → list_any q xs ≡ true → list_any r xs ≡ true
any_more q r f [] h = cc
any_more q r f (x ∷ xs) h = go (any_more q r f xs) (or_cases (q x) (list_any q xs) h)
  where
    go : (list_any q xs ≡ true → list_any r xs ≡ true) → (q x ≡ true) ⊎ (list_any q xs ≡ true)
        → (r x || list_any r xs) ≡ true
    go rec (inl k) = or_left (r x) (list_any r xs) (f x k)
    go rec (inr k) = or_right (r x) (list_any r xs) (rec k)

pub or_assoc : (a b c : Bool) → (a || (b || c)) ≡ ((a || b) || c)
or_assoc true b c = refl
or_assoc false b c = refl

pub or_false : (a : Bool) → (a || false) ≡ a
or_false true = refl
or_false false = refl

pub any_append : {X : Type 0} (q : X → Bool) (xs ys : List X) → list_any q (xs ++ ys) ≡ (list_any q xs || list_any q ys)
any_append q [] ys = refl
any_append q (x ∷ xs) ys =
    ap (λ b. q x || b) (any_append q xs ys) ∙ or_assoc (q x) (list_any q xs) (list_any q ys)

pub any_push : {X : Type 0} (q : X → Bool) (xs : List X) (y : X) → list_any q (xs ++ y ∷ []) ≡ (list_any q xs || q y)
any_push q xs y = any_append q xs (y ∷ []) ∙ ap (λ b. list_any q xs || b) (or_false (q y))

take_suc : {A : Type 0} (xs : List A) (i : ℕ) (x : A) → slice_get xs i ≡ Some x → take (suc i) xs ≡ take i xs ++ x ∷ []
take_suc [] i x h = cc
take_suc (y ∷ ys) zero x h = let s : y ≡ x = cc in ap (λ z. z ∷ []) s
take_suc (y ∷ ys) (suc i) x h = ap (λ l. y ∷ l) (take_suc ys i x h)

pub take_one : {A : Type 0} (xs : List A) (i : ℕ) (x : A) → slice_get xs i ≡ Some x
    → take (i + 1) xs ≡ take i xs ++ x ∷ []
take_one xs i x h = let e : i + 1 ≡ suc i = omega arith in ap (λ n. take n xs) e ∙ take_suc xs i x h

-- one more element of a list
pub any_take : {X : Type 0} (q : X → Bool) (xs : List X) (i : ℕ) (x : X) → slice_get xs i ≡ Some x
    → list_any q (take (i + 1) xs) ≡ (list_any q (take i xs) || q x)
any_take q xs i x h = ap (list_any q) (take_one xs i x h) ∙ any_push q (take i xs) x

pub any_get : {X : Type 0} (q : X → Bool) (xs : List X) (i : ℕ) (x : X) → slice_get xs i ≡ Some x → q x ≡ true
    → list_any q xs ≡ true
any_get q [] i x h k = cc
any_get q (y ∷ ys) zero x h k =
    let s : y ≡ x = cc in
    or_left (q y) (list_any q ys) (ap q s ∙ k)
any_get q (y ∷ ys) (suc i) x h k = or_right (q y) (list_any q ys) (any_get q ys i x h k)

pub all_push : {X : Type 0} (q : X → Bool) (xs : List X) (y : X) → list_all q xs ≡ true → q y ≡ true
    → list_all q (xs ++ y ∷ []) ≡ true
all_push q [] y h k = and_from (q y) true k refl
all_push q (x ∷ xs) y h k =
    let p = and_parts (q x) (list_all q xs) h in
    and_from (q x) (list_all q (xs ++ y ∷ [])) p.0 (all_push q xs y p.1 k)

pub all_take : {X : Type 0} (q : X → Bool) (xs : List X) (i : ℕ) (x : X) → slice_get xs i ≡ Some x
    → list_all q (take i xs) ≡ true → q x ≡ true → list_all q (take (i + 1) xs) ≡ true
all_take q xs i x h k e = rw (take_one xs i x h) (all_push q (take i xs) x k e)

-- options

pub none_is : {X : Type 0} (o : Option X) → ((x : X) → o ≡ Some x → ⊥) → o ≡ None
none_is None f = refl
none_is (Some x) f = absurd (f x refl)

pub none_from : {X : Type 0} (o : Option X) → is_some o ≡ false → o ≡ None
none_from None h = refl
none_from (Some x) h = cc

pub match_some : {X : Type 0} (A B : Type 0) (P : X → Type 0) (o : Option X) → is_some o ≡ true → MatchOption o A P
    → MatchOption o B P
match_some A B P None h m = cc
match_some A B P (Some x) h m = m

pub match_none : {X : Type 0} (A B : Type 0) (P : X → Type 0) (o : Option X) → (A → B) → MatchOption o A P
    → MatchOption o B P
match_none A B P None f m = f m
match_none A B P (Some x) f m = m
