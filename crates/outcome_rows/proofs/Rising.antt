-- Rows in order.
use Rattle.std.proofs.Common.{◌≡◌, ℕ, ◌<◌, ◌≤◌, ◌==◌, ◌&&◌, Bool, true, false, cond, List, [], ◌∷◌, ◌++◌, filter, length, map, nat_lt, lt-ltb, refl, sym, ◌∙◌, arith, subst, inl, inr, ◌⊎◌, eq-eqb}
use Rattle.std.proofs.lemmas.Bool.{and_from, and_parts, eqb-false, ltb-false, ltb-true, or_cases, or_left, or_right}
use Rattle.std.specs.List.{AllByRecursion as Each}
use Rattle.perp_base.proofs.Lists.{each_append, each_filter, each_weaker}
use Rattle.outcome_rows.specs.Listing.{AreRising, gone_on, is_before, put_value, risen}
use Rattle.outcome_rows.proofs.Members.{In, each_in, gone_in}

-- Values.

abbrev pub Rises : List ℕ → Type 0
Rises [] = Unit {0}
Rises (v ∷ vs) = Each (λ w. v < w) vs × Rises vs

low_step : (u v w : ℕ) (ws : List ℕ) (b c : Bool) → u < v → u < w → Each (λ y. u < y) ws
    → Each (λ y. u < y) (put_value v ws)
    → Each (λ y. u < y) (cond b (v ∷ w ∷ ws) (cond c (w ∷ ws) (w ∷ put_value v ws)))
low_step u v w ws true c l m h k = (l, (m, h))
low_step u v w ws false true l m h k = (m, h)
low_step u v w ws false false l m h k = (m, k)

low_put : (u v : ℕ) (ws : List ℕ) → u < v → Each (λ y. u < y) ws → Each (λ y. u < y) (put_value v ws)
low_put u v [] l h = (l, tt)
low_put u v (w ∷ ws) l h = low_step u v w ws (nat_lt v w) (v == w) l h.0 h.1 (low_put u v ws l h.1)

rises_step : (v w : ℕ) (ws : List ℕ) (b c : Bool) → nat_lt v w ≡ b → (v == w) ≡ c → Rises (w ∷ ws)
    → Rises (put_value v ws) → Rises (cond b (v ∷ w ∷ ws) (cond c (w ∷ ws) (w ∷ put_value v ws)))
rises_step v w ws true c e q h k =
    let l : v < w = ltb-true v w e in
    ((l, each_weaker (λ y. w < y) (λ y. v < y) (λ y m. omega arith) ws h.0), h)
rises_step v w ws false true e q h k = h
rises_step v w ws false false e q h k = (low_put w v ws (above v w e q) h.0, k)
  where
    above : (v w : ℕ) → nat_lt v w ≡ false → (v == w) ≡ false → w < v
    above v w e q = let l : w ≤ v = ltb-false v w e in let ne : v ≡ w → ⊥ = λ s. eqb-false v w q s in omega arith

rises_put : (v : ℕ) (ws : List ℕ) → Rises ws → Rises (put_value v ws)
rises_put v [] h = (tt, tt)
rises_put v (w ∷ ws) h = rises_step v w ws (nat_lt v w) (v == w) refl refl h (rises_put v ws h.1)

pub rises_risen : (vs : List ℕ) → Rises (risen vs)
rises_risen [] = tt
rises_risen (v ∷ vs) = rises_put v (risen vs) (rises_risen vs)

-- Rows.

before_last : (front : List ℕ) (v w : ℕ) → v < w → is_before (front ++ v ∷ []) (front ++ w ∷ []) ≡ true
before_last [] v w l = or_left (nat_lt v w) ((v == w) && false) (lt-ltb v w l)
before_last (x ∷ xs) v w l =
    or_right (nat_lt x x) ((x == x) && is_before (xs ++ v ∷ []) (xs ++ w ∷ []))
    (and_from (x == x) (is_before (xs ++ v ∷ []) (xs ++ w ∷ [])) (eq-eqb x x refl) (before_last xs v w l))

before_front : (xs ys : List ℕ) (v w : ℕ) → length xs ≡ length ys → is_before xs ys ≡ true
    → is_before (xs ++ v ∷ []) (ys ++ w ∷ []) ≡ true
before_front [] ys v w e h = cc
before_front (x ∷ xs) [] v w e h = cc
before_front (x ∷ xs) (y ∷ ys) v w e h =
    go (λ l k. before_front xs ys v w l k) (or_cases (nat_lt x y) ((x == y) && is_before xs ys) h)
  where
    go : (length xs ≡ length ys → is_before xs ys ≡ true → is_before (xs ++ v ∷ []) (ys ++ w ∷ []) ≡ true)
        → (nat_lt x y ≡ true) ⊎ (((x == y) && is_before xs ys) ≡ true)
        → is_before (x ∷ xs ++ v ∷ []) (y ∷ ys ++ w ∷ []) ≡ true
    go rec (inl k) = or_left (nat_lt x y) ((x == y) && is_before (xs ++ v ∷ []) (ys ++ w ∷ [])) k
    go rec (inr k) =
        let p = and_parts (x == y) (is_before xs ys) k in
        let l : length xs ≡ length ys = omega arith in
        or_right (nat_lt x y) ((x == y) && is_before (xs ++ v ∷ []) (ys ++ w ∷ []))
        (and_from (x == y) (is_before (xs ++ v ∷ []) (ys ++ w ∷ [])) p.0 (rec l p.1))

abbrev AllAfter : List ℕ → List (List ℕ) → Type 0
AllAfter row rows = Each (λ later. is_before row later ≡ true) rows

rising_append : (xs ys : List (List ℕ)) → AreRising xs → AreRising ys → Each (λ x. AllAfter x ys) xs
    → AreRising (xs ++ ys)
rising_append [] ys h k c = k
rising_append (x ∷ xs) ys h k c =
    (each_append (λ later. is_before x later ≡ true) xs ys h.0 c.0, rising_append xs ys h.1 k c.1)

rising_kept_step : (x : List ℕ) (fs : List (List ℕ)) (b : Bool) → AllAfter x fs → AreRising fs
    → AreRising (cond b (x ∷ fs) fs)
rising_kept_step x fs true h k = (h, k)
rising_kept_step x fs false h k = k

rising_filter : (p : List ℕ → Bool) (xs : List (List ℕ)) → AreRising xs → AreRising (filter p xs)
rising_filter p [] h = tt
rising_filter p (x ∷ xs) h =
    rising_kept_step x (filter p xs) (p x) (each_filter (λ later. is_before x later ≡ true) p xs h.0)
    (rising_filter p xs h.1)

after_map : (front : List ℕ) (v : ℕ) (ws : List ℕ) → Each (λ w. v < w) ws
    → AllAfter (front ++ v ∷ []) (map (λ w. front ++ w ∷ []) ws)
after_map front v [] h = tt
after_map front v (w ∷ ws) h = (before_last front v w h.0, after_map front v ws h.1)

rising_map : (front : List ℕ) (vs : List ℕ) → Rises vs → AreRising (map (λ v. front ++ v ∷ []) vs)
rising_map front [] h = tt
rising_map front (v ∷ vs) h = (after_map front v vs h.0, rising_map front vs h.1)

abbrev pub AllLong : ℕ → List (List ℕ) → Type 0
AllLong k fronts = Each (λ front. length front ≡ k) fronts

pub in_each : {X : Type 0} (P : X → Type 0) (xs : List X) (y : X) → Each P xs → In y xs → P y
in_each P [] y h k = absurd k
in_each P (x ∷ xs) y h (inl e) = subst P (sym e) h.0
in_each P (x ∷ xs) y h (inr k) = in_each P xs y h.1 k

block_before : (possible : List ℕ → Bool) (values : List ℕ) (k : ℕ) (front : List ℕ) (fronts : List (List ℕ)) (v : ℕ)
    → length front ≡ k → AllLong k fronts → AllAfter front fronts
    → AllAfter (front ++ v ∷ []) (gone_on possible values fronts)
block_before possible values k front fronts v e long after =
    each_in (λ later. is_before (front ++ v ∷ []) later ≡ true) (gone_on possible values fronts) (λ row h.
    let g = gone_in possible values fronts row h in
    let same : length front ≡ length g.front = e ∙ sym (in_each (λ f. length f ≡ k) fronts g.front long g.in_fronts) in
    let P : List ℕ → Type 0 = λ l. is_before (front ++ v ∷ []) l ≡ true in
    subst P (sym g.is) (before_front front g.front v g.value same
    (in_each (λ later. is_before front later ≡ true) fronts g.front after g.in_fronts)))

each_of_map : {X Y : Type 0} (P : Y → Type 0) (f : X → Y) → ((x : X) → P (f x)) → (xs : List X) → Each P (map f xs)
each_of_map P f g [] = tt
each_of_map P f g (x ∷ xs) = (g x, each_of_map P f g xs)

pub rising_gone : (possible : List ℕ → Bool) (values : List ℕ) (k : ℕ) (fronts : List (List ℕ)) → Rises values
    → AllLong k fronts → AreRising fronts → AreRising (gone_on possible values fronts)
rising_gone possible values k [] rises long h = tt
rising_gone possible values k (front ∷ fronts) rises long h =
    let rows = map (λ v. front ++ v ∷ []) values in
    let later = gone_on possible values fronts in
    rising_append (filter possible rows) later (rising_filter possible rows (rising_map front values rises))
    (rising_gone possible values k fronts rises long.1 h.1)
    (each_filter (λ row. AllAfter row later) possible rows
    (each_of_map (λ row. AllAfter row later) (λ v. front ++ v ∷ [])
    (λ v. block_before possible values k front fronts v long.0 long.1 h.0) values))
