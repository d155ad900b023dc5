-- Some element of a list that passes a test: it is found, and where it stands.
use Rattle.std.proofs.Common.{◌≡◌, Bool, true, false, ◌||◌, List, [], ◌∷◌, ◌++◌, filter, refl}
use Rattle.std.proofs.lemmas.Bool.{both_ways, or_left, or_right}
use Rattle.std.specs.List.{AllByRecursion as Each, list_any}
use Rattle.perp_base.proofs.Lists.{Among, Apart, among_append_right, any_none, filter_split}

pub record Finds {X : Type 0} (q : X → Bool) (xs : List X) : Type 0 where
  pub here : X
  pub among : Among here xs
  pub passes : q here ≡ true

found_step : {X : Type 0} (q : X → Bool) (x : X) (xs : List X) (b : Bool) → q x ≡ b
    → (list_any q xs ≡ true → Finds q xs) → (b || list_any q xs) ≡ true → Finds q (x ∷ xs)
found_step q x xs true e rec h = record { here = x; among = record { front = []; rest = xs; whole = refl }; passes = e }
found_step q x xs false e rec h =
    let f = rec h in record { here = f.here; among = among_append_right f.here (x ∷ []) xs f.among; passes = f.passes }

pub any_found : {X : Type 0} (q : X → Bool) (xs : List X) → list_any q xs ≡ true → Finds q xs
any_found q [] h = cc
any_found q (x ∷ xs) h = found_step q x xs (q x) refl (any_found q xs) h

pub any_at : {X : Type 0} (q : X → Bool) (fs : List X) (y : X) (cs : List X) → q y ≡ true
    → list_any q (fs ++ y ∷ cs) ≡ true
any_at q [] y cs h = or_left (q y) (list_any q cs) h
any_at q (x ∷ fs) y cs h = or_right (q x) (list_any q (fs ++ y ∷ cs)) (any_at q fs y cs h)

pub any_among : {X : Type 0} (q : X → Bool) (y : X) (xs : List X) → Among y xs → q y ≡ true → list_any q xs ≡ true
any_among q y xs a h = rw (a.whole) (any_at q a.front y a.rest h)

any_front_step : {X : Type 0} (q : X → Bool) (x : X) (fs : List X) (b c : Bool) → q x ≡ b
    → (c ≡ true → list_any q fs ≡ true) → (b || c) ≡ true → (b || list_any q fs) ≡ true
any_front_step q x fs true c e rec h = refl
any_front_step q x fs false c e rec h = rec h

-- one that passes stands in front, where the element does not pass and none after it does
pub any_front : {X : Type 0} (q : X → Bool) (fs : List X) (y : X) (cs : List X) → q y ≡ false
    → Each (λ x. q x ≡ false) cs → list_any q (fs ++ y ∷ cs) ≡ true → list_any q fs ≡ true
any_front q [] y cs e k h = absurd (both_ways (list_any q cs) (any_none q cs k) (rw e at h))
any_front q (x ∷ fs) y cs e k h =
    any_front_step q x fs (q x) (list_any q (fs ++ y ∷ cs)) refl (any_front q fs y cs e k) h

pub apart_after : {X : Type 0} (E : X → X → Bool) (fs : List X) (y : X) (cs : List X) → Apart E (fs ++ y ∷ cs)
    → Each (λ c. E y c ≡ false) cs
apart_after E [] y cs h = h.0
apart_after E (x ∷ fs) y cs h = apart_after E fs y cs h.1

-- an element of a filter stands in the list and passes
pub record Kept {X : Type 0} (p : X → Bool) (y : X) (xs : List X) : Type 0 where
  pub among : Among y xs
  pub passes : p y ≡ true

pub kept : {X : Type 0} (p : X → Bool) (y : X) (xs : List X) → Among y (filter p xs) → Kept p y xs
kept p y xs a =
    let s = filter_split p xs a.front y a.rest a.whole in
    record { among = record { front = s.before; rest = s.after; whole = s.whole }; passes = s.passes }
