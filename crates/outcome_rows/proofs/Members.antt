-- What lists hold.
use Rattle.std.proofs.Common.{◌≡◌, ℕ, ◌==◌, Bool, true, false, cond, Contains, List, [], ◌∷◌, ◌++◌, filter, map, nat_lt, refl, sym, ap, ◌∙◌, subst, inl, inr, ◌⊎◌}
use Rattle.std.proofs.lemmas.Bool.{both_ways, eqb-true}
use Rattle.std.specs.List.{AllByRecursion as Each}
use Rattle.perp_base.proofs.Lists.{Among, among_from_contains, contains_from_among}
use Rattle.outcome_rows.specs.Listing.{gone_on, put_value, risen}

abbrev pub In : {X : Type 0} → X → List X → Type 0
In y [] = ⊥
In y (x ∷ xs) = (y ≡ x) ⊎ In y xs

pub in_from : {X : Type 0} (xs : List X) (y : X) → Contains xs y → In y xs
in_from {X} xs y c =
    let a = among_from_contains xs y c in
    let P : List X → Type 0 = λ l. In y l in
    subst P (sym a.whole) (go a.front a.rest)
  where
    go : (fs cs : List X) → In y (fs ++ y ∷ cs)
    go [] cs = inl refl
    go (f ∷ fs) cs = inr (go fs cs)

pub in_among : {X : Type 0} (xs : List X) (y : X) → In y xs → Among y xs
in_among [] y h = absurd h
in_among (x ∷ xs) y (inl e) = record { front = []; rest = xs; whole = (λ i. sym e i ∷ xs) }
in_among (x ∷ xs) y (inr h) =
    let a = in_among xs y h in record { front = x ∷ a.front; rest = a.rest; whole = (λ i. x ∷ a.whole i) }

pub among_in : {X : Type 0} (xs : List X) (y : X) → Among y xs → In y xs
among_in xs y a = in_from xs y (contains_from_among xs y a)

pub in_to : {X : Type 0} (xs : List X) (y : X) → In y xs → Contains xs y
in_to xs y h = contains_from_among xs y (in_among xs y h)

pub each_in : {X : Type 0} (P : X → Type 0) (xs : List X) → ((y : X) → In y xs → P y) → Each P xs
each_in P [] f = tt
each_in P (x ∷ xs) f = (f x (inl refl), each_in P xs (λ y h. f y (inr h)))

pub in_left : {X : Type 0} (xs ys : List X) (y : X) → In y xs → In y (xs ++ ys)
in_left [] ys y h = absurd h
in_left (x ∷ xs) ys y (inl e) = inl e
in_left (x ∷ xs) ys y (inr h) = inr (in_left xs ys y h)

pub in_right : {X : Type 0} (xs ys : List X) (y : X) → In y ys → In y (xs ++ ys)
in_right [] ys y h = h
in_right (x ∷ xs) ys y h = inr (in_right xs ys y h)

pub in_either : {X : Type 0} (xs ys : List X) (y : X) → In y (xs ++ ys) → In y xs ⊎ In y ys
in_either [] ys y h = inr h
in_either (x ∷ xs) ys y (inl e) = inl (inl e)
in_either (x ∷ xs) ys y (inr h) = go (in_either xs ys y h)
  where
    go : In y xs ⊎ In y ys → ((y ≡ x) ⊎ In y xs) ⊎ In y ys
    go (inl k) = inl (inr k)
    go (inr k) = inr k

pub in_map : {X Y : Type 0} (f : X → Y) (xs : List X) (y : X) → In y xs → In (f y) (map f xs)
in_map f [] y h = absurd h
in_map f (x ∷ xs) y (inl e) = inl (ap f e)
in_map f (x ∷ xs) y (inr h) = inr (in_map f xs y h)

pub map_in : {X Y : Type 0} (f : X → Y) (xs : List X) (z : Y) → In z (map f xs) → (y : X) × In y xs × (z ≡ f y)
map_in f [] z h = absurd h
map_in f (x ∷ xs) z (inl e) = (x, inl refl, e)
map_in f (x ∷ xs) z (inr h) = let r = map_in f xs z h in (r.0, inr r.1, r.2)

keep_step : {X : Type 0} (p : X → Bool) (x : X) (fs : List X) (y : X) (b : Bool) → p x ≡ b → p y ≡ true
    → (y ≡ x) ⊎ In y fs → In y (cond b (x ∷ fs) fs)
keep_step p x fs y true e k h = h
keep_step p x fs y false e k (inl q) = absurd (both_ways (p x) e (sym (ap p q) ∙ k))
keep_step p x fs y false e k (inr h) = h

pub in_filter : {X : Type 0} (p : X → Bool) (xs : List X) (y : X) → p y ≡ true → In y xs → In y (filter p xs)
in_filter p [] y k h = absurd h
in_filter p (x ∷ xs) y k h = keep_step p x (filter p xs) y (p x) refl k (go (λ m. in_filter p xs y k m) h)
  where
    go : (In y xs → In y (filter p xs)) → (y ≡ x) ⊎ In y xs → (y ≡ x) ⊎ In y (filter p xs)
    go rec (inl e) = inl e
    go rec (inr m) = inr (rec m)

kept_step : {X : Type 0} (p : X → Bool) (x : X) (fs : List X) (y : X) (b : Bool) → p x ≡ b
    → In y (cond b (x ∷ fs) fs) → ((y ≡ x) × (p y ≡ true)) ⊎ In y fs
kept_step p x fs y true e (inl q) = inl (q, ap p q ∙ e)
kept_step p x fs y true e (inr h) = inr h
kept_step p x fs y false e h = inr h

pub filter_in : {X : Type 0} (p : X → Bool) (xs : List X) (y : X) → In y (filter p xs) → In y xs × (p y ≡ true)
filter_in p [] y h = absurd h
filter_in p (x ∷ xs) y h = go (λ k. filter_in p xs y k) (kept_step p x (filter p xs) y (p x) refl h)
  where
    go : (In y (filter p xs) → In y xs × (p y ≡ true)) → ((y ≡ x) × (p y ≡ true)) ⊎ In y (filter p xs)
        → ((y ≡ x) ⊎ In y xs) × (p y ≡ true)
    go rec (inl k) = (inl k.0, k.1)
    go rec (inr k) = let r = rec k in (inr r.0, r.1)

-- ---- values in order

put_in_step : (v w : ℕ) (ws : List ℕ) (y : ℕ) (b c : Bool) → (v == w) ≡ c → (y ≡ v) ⊎ ((y ≡ w) ⊎ In y ws)
    → ((y ≡ v) ⊎ In y ws → In y (put_value v ws))
    → In y (cond b (v ∷ w ∷ ws) (cond c (w ∷ ws) (w ∷ put_value v ws)))
put_in_step v w ws y true c e h rec = h
put_in_step v w ws y false true e (inl q) rec = inl (q ∙ eqb-true v w e)
put_in_step v w ws y false true e (inr h) rec = h
put_in_step v w ws y false false e (inl q) rec = inr (rec (inl q))
put_in_step v w ws y false false e (inr (inl q)) rec = inl q
put_in_step v w ws y false false e (inr (inr h)) rec = inr (rec (inr h))

put_in : (v : ℕ) (ws : List ℕ) (y : ℕ) → (y ≡ v) ⊎ In y ws → In y (put_value v ws)
put_in v [] y h = h
put_in v (w ∷ ws) y h = put_in_step v w ws y (nat_lt v w) (v == w) refl h (put_in v ws y)

in_put_step : (v w : ℕ) (ws : List ℕ) (y : ℕ) (b c : Bool)
    → In y (cond b (v ∷ w ∷ ws) (cond c (w ∷ ws) (w ∷ put_value v ws)))
    → (In y (put_value v ws) → (y ≡ v) ⊎ In y ws) → (y ≡ v) ⊎ ((y ≡ w) ⊎ In y ws)
in_put_step v w ws y true c h rec = h
in_put_step v w ws y false true h rec = inr h
in_put_step v w ws y false false (inl q) rec = inr (inl q)
in_put_step v w ws y false false (inr h) rec = go (rec h)
  where
    go : (y ≡ v) ⊎ In y ws → (y ≡ v) ⊎ ((y ≡ w) ⊎ In y ws)
    go (inl q) = inl q
    go (inr k) = inr (inr k)

in_put : (v : ℕ) (ws : List ℕ) (y : ℕ) → In y (put_value v ws) → (y ≡ v) ⊎ In y ws
in_put v [] y h = h
in_put v (w ∷ ws) y h = in_put_step v w ws y (nat_lt v w) (v == w) h (in_put v ws y)

pub in_risen : (vs : List ℕ) (y : ℕ) → In y vs → In y (risen vs)
in_risen [] y h = h
in_risen (v ∷ vs) y (inl q) = put_in v (risen vs) y (inl q)
in_risen (v ∷ vs) y (inr h) = put_in v (risen vs) y (inr (in_risen vs y h))

pub risen_in : (vs : List ℕ) (y : ℕ) → In y (risen vs) → In y vs
risen_in [] y h = h
risen_in (v ∷ vs) y h = go (λ k. risen_in vs y k) (in_put v (risen vs) y h)
  where
    go : (In y (risen vs) → In y vs) → (y ≡ v) ⊎ In y (risen vs) → (y ≡ v) ⊎ In y vs
    go rec (inl q) = inl q
    go rec (inr k) = inr (rec k)

-- ---- front parts gone on

pub record GoneOn (possible : List ℕ → Bool) (values : List ℕ) (fronts : List (List ℕ)) (row : List ℕ) : Type 0 where
  pub front : List ℕ
  pub value : ℕ
  pub is : row ≡ front ++ value ∷ []
  pub in_fronts : In front fronts
  pub in_values : In value values
  pub passes : possible row ≡ true

pub gone_in : (possible : List ℕ → Bool) (values : List ℕ) (fronts : List (List ℕ)) (row : List ℕ)
    → In row (gone_on possible values fronts) → GoneOn possible values fronts row
gone_in possible values [] row h = absurd h
gone_in possible values (front ∷ fronts) row h =
    go (λ k. gone_in possible values fronts row k)
    (in_either (filter possible (map (λ v. front ++ v ∷ []) values)) (gone_on possible values fronts) row h)
  where
    go : (In row (gone_on possible values fronts) → GoneOn possible values fronts row)
        → In row (filter possible (map (λ v. front ++ v ∷ []) values)) ⊎ In row (gone_on possible values fronts)
        → GoneOn possible values (front ∷ fronts) row
    go rec (inl k) =
        let f = filter_in possible (map (λ v. front ++ v ∷ []) values) row k in
        let m = map_in (λ v. front ++ v ∷ []) values row f.0 in
        record { front = front; value = m.0; is = m.2; in_fronts = inl refl; in_values = m.1; passes = f.1 }
    go rec (inr k) =
        let r = rec k in
        record {
          front = r.front;
          value = r.value;
          is = r.is;
          in_fronts = inr r.in_fronts;
          in_values = r.in_values;
          passes = r.passes;
        }

pub in_gone : (possible : List ℕ → Bool) (values : List ℕ) (fronts : List (List ℕ)) (front : List ℕ) (v : ℕ)
    → In front fronts → In v values → possible (front ++ v ∷ []) ≡ true
    → In (front ++ v ∷ []) (gone_on possible values fronts)
in_gone possible values [] front v h k p = absurd h
in_gone possible values (f ∷ fronts) front v (inl e) k p =
    in_left (filter possible (map (λ w. f ++ w ∷ []) values)) (gone_on possible values fronts) (front ++ v ∷ [])
    (in_filter possible (map (λ w. f ++ w ∷ []) values) (front ++ v ∷ []) p
    (let P : List ℕ → Type 0 = λ l. In (l ++ v ∷ []) (map (λ w. f ++ w ∷ []) values) in
    subst P (sym e) (in_map (λ w. f ++ w ∷ []) values v k)))
in_gone possible values (f ∷ fronts) front v (inr h) k p =
    in_right (filter possible (map (λ w. f ++ w ∷ []) values)) (gone_on possible values fronts) (front ++ v ∷ [])
    (in_gone possible values fronts front v h k p)
