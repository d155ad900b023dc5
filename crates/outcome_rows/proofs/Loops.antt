-- What the loops of `rows` keep.
use Rattle.std.proofs.Common.{◌≡◌, ◌↔◌, ℕ, zero, suc, ◌+◌, ◌<◌, ◌≤◌, Bool, true, false, cond, List, [], ◌∷◌, ◌++◌, filter, length, map, take, get_or, refl, sym, ap, ◌∙◌, arith, subst, inl, inr, ◌⊎◌, append_assoc, append-nil, length-append, MatchOption, All, Option, None, Some}
use Rattle.std.proofs.lemmas.List.Elements.{All-from_recursion, recursion_from_All}
use Rattle.perp_base.proofs.Lists.{each_left, each_right, each_weaker}
use Rattle.std.proofs.lemmas.List.{length-map, length-take-le, map-append, take_all}
use Rattle.std.specs.List.{AllByRecursion as Each}
use Rattle.outcome_rows.specs.Listing.{AnswersBy, AreAllRows, ListsRows, front_with, gone_on, risen, rows_from, values_stored}
use Rattle.outcome_rows.specs.Limits.{GiveUp, GivesUp, IsManyFront, IsManyFronts, IsStop, KeepsFront, KeepsFronts}
use Rattle.outcome_rows.specs.declared.rows.Stop.{Stop}
use Rattle.outcome_rows.specs.declared.rows.Stop.TheVariants.{GaveUp, TooMany}
use Rattle.outcome_rows.specs.Rows.{HoldsRead, IsRow}
use Rattle.outcome_rows.proofs.Listed.{rows_are_listed_lem}
use Rattle.outcome_rows.proofs.Members.{In, each_in, gone_in}
use Rattle.outcome_rows.proofs.Told.{rows_are_told_lem}

-- One item more.

pub take_more : {X : Type 0} (xs : List X) (i : ℕ) (x d : X) → i < length xs → x ≡ get_or xs i d
    → take (i + 1) xs ≡ take i xs ++ x ∷ []
take_more [] i x d l e = absurd (omega arith)
take_more (y ∷ xs) zero x d l e = (λ i. sym e i ∷ take_zero xs i)
  where
    take_zero : {X : Type 0} (xs : List X) → take 0 xs ≡ []
    take_zero [] = refl
    take_zero (x ∷ xs) = refl
take_more (y ∷ xs) (suc i) x d l e =
    let k : suc i + 1 ≡ suc (i + 1) = omega arith in
    ap (λ z. take z (y ∷ xs)) k ∙ ap (λ l. y ∷ l) (take_more xs i x d (omega arith) e)

filter_append : {X : Type 0} (p : X → Bool) (xs ys : List X) → filter p (xs ++ ys) ≡ filter p xs ++ filter p ys
filter_append p [] ys = refl
filter_append p (x ∷ xs) ys = go (p x) (filter_append p xs ys)
  where
    go : (b : Bool) → filter p (xs ++ ys) ≡ filter p xs ++ filter p ys
        → cond b (x ∷ filter p (xs ++ ys)) (filter p (xs ++ ys)) ≡ cond b (x ∷ filter p xs) (filter p xs) ++ filter p ys
    go true e = ap (λ l. x ∷ l) e
    go false e = e

-- the rows of one front part, with a value more
block_more : (p : List ℕ → Bool) (front values : List ℕ) (v : ℕ) (old before after : List (List ℕ)) (b : Bool)
    → before ≡ old ++ front_with p front values → b ≡ p (front ++ v ∷ [])
    → after ≡ cond b (before ++ (front ++ v ∷ []) ∷ []) before
    → after ≡ old ++ front_with p front (values ++ v ∷ [])
block_more p front values v old before after b e h k =
    let f : ℕ → List ℕ = λ w. front ++ w ∷ [] in
    let whole : front_with p front (values ++ v ∷ []) ≡ front_with p front values ++ filter p (f v ∷ []) =
    ap (filter p) (map-append f values (v ∷ [])) ∙ filter_append p (map f values) (f v ∷ []) in
    k ∙ go b h ∙ ap (λ l. old ++ l) (sym whole)
  where
    one : (c : Bool) → c ≡ p (front ++ v ∷ [])
        → old ++ (front_with p front values ++ cond c ((front ++ v ∷ []) ∷ []) [])
        ≡ old ++ (front_with p front values ++ filter p ((front ++ v ∷ []) ∷ []))
    one c m = ap (λ z. old ++ (front_with p front values ++ cond z ((front ++ v ∷ []) ∷ []) [])) m

    go : (c : Bool) → c ≡ p (front ++ v ∷ [])
        → cond c (before ++ (front ++ v ∷ []) ∷ []) before
        ≡ old ++ (front_with p front values ++ filter p ((front ++ v ∷ []) ∷ []))
    go true m =
        ap (λ l. l ++ (front ++ v ∷ []) ∷ []) e ∙ append_assoc old (front_with p front values) ((front ++ v ∷ []) ∷ [])
        ∙ one true m
    go false m = e ∙ ap (λ l. old ++ l) (sym (append-nil (front_with p front values))) ∙ one false m

pub gone_more : (p : List ℕ → Bool) (values : List ℕ) (fronts : List (List ℕ)) (front : List ℕ)
    → gone_on p values (fronts ++ front ∷ []) ≡ gone_on p values fronts ++ front_with p front values
gone_more p values [] front = append-nil (front_with p front values)
gone_more p values (f ∷ fronts) front =
    ap (λ l. front_with p f values ++ l) (gone_more p values fronts front)
    ∙ sym (append_assoc (front_with p f values) (gone_on p values fronts) (front_with p front values))

pub rows_more : (p : List ℕ → Bool) (columns : List (List ℕ)) (column : List ℕ) (fronts : List (List ℕ))
    → rows_from p (columns ++ column ∷ []) fronts ≡ gone_on p column (rows_from p columns fronts)
rows_more p [] column fronts = refl
rows_more p (c ∷ columns) column fronts = rows_more p columns column (gone_on p c fronts)

-- Lengths.

long_more : {X : Type 0} (xs : List X) (x : X) → length (xs ++ x ∷ []) ≡ suc (length xs)
long_more [] x = refl
long_more (y ∷ xs) x = ap suc (long_more xs x)

in_long : (k : ℕ) (xs : List (List ℕ)) (y : List ℕ) → Each (λ x. length x ≡ k) xs → In y xs → length y ≡ k
in_long k [] y h m = absurd m
in_long k (x ∷ xs) y h (inl e) = ap length e ∙ h.0
in_long k (x ∷ xs) y h (inr m) = in_long k xs y h.1 m

pub rows_long : (p : List ℕ → Bool) (columns fronts : List (List ℕ)) (k : ℕ) → Each (λ x. length x ≡ k) fronts
    → Each (λ x. length x ≡ k + length columns) (rows_from p columns fronts)
rows_long p [] fronts k h =
    let e : k ≡ k + 0 = omega arith in
    let P : ℕ → Type 0 = λ z. Each (λ (x : List ℕ). length x ≡ z) fronts in subst P e h
rows_long p (column ∷ columns) fronts k h =
    let e : suc k + length columns ≡ k + suc (length columns) = omega arith in
    let P : ℕ → Type 0 = λ z. Each (λ (x : List ℕ). length x ≡ z) (rows_from p columns (gone_on p column fronts)) in
    subst P e (rows_long p columns (gone_on p column fronts) (suc k)
    (each_in (λ (x : List ℕ). length x ≡ suc k) (gone_on p column fronts) (λ row m.
    let g = gone_in p column fronts row m in
    ap length g.is ∙ long_more g.front g.value ∙ ap suc (in_long k fronts g.front h g.in_fronts))))

-- The end.

abbrev pub is_told : {P : Type 0} → P ⊎ (P → ⊥) → Bool
is_told (inl p) = true
is_told (inr n) = false

pub told_true : {P : Type 0} (t : P ⊎ (P → ⊥)) → (is_told t ≡ true) ↔ P
told_true (inl p) = (λ e. p, λ q. refl)
told_true (inr n) = (λ e. cc, λ q. absurd (n q))

pub same_bool : (a b : Bool) (P : Type 0) → (a ≡ true) ↔ P → (b ≡ true) ↔ P → a ≡ b
same_bool true b P h k = sym (k.1 (h.0 refl))
same_bool false true P h k = h.1 (k.0 refl)
same_bool false false P h k = refl

pub each_take : {X : Type 0} (P : X → Type 0) (n : ℕ) (xs : List X) → Each P xs → Each P (take n xs)
each_take P n [] h = go n
  where
    go : (n : ℕ) → Each P (take n [])
    go zero = tt
    go (suc n) = tt
each_take P zero (x ∷ xs) h = tt
each_take P (suc n) (x ∷ xs) h = (h.0, each_take P n xs h.1)

pub lists_rows : (answers : List ℕ → Option Bool → Type 0) (columns rows : List (List ℕ)) (n : ℕ) → n ≡ length columns
    → ((p : List ℕ → Bool) → AnswersBy answers n p → rows ≡ rows_from p columns ([] ∷ []))
    → ListsRows answers columns rows
lists_rows answers columns rows n is f test registers h holds same tells =
    let long : length columns ≡ length registers = ap length same
    ∙ length-map registers (λ register. risen (values_stored test register)) in
    let p : List ℕ → Bool = λ row. is_told (told row) in
    let P : List (List ℕ) → Type 0 = λ l. AreAllRows test registers l in
    subst P (sym (f p (λ row r l a. same_bool r (p row) (IsRow test (take (length row) registers) row)
    (tells row r (omega arith) a) (told_true (told row))) ∙ ap (λ l. rows_from p l ([] ∷ [])) same))
    (rows_are_listed_lem test registers p h holds (λ values l. told_true (told values)))
  where
    told : (row : List ℕ) → IsRow test (take (length row) registers) row
        ⊎ (IsRow test (take (length row) registers) row → ⊥)
    told row = rows_are_told_lem test (take (length row) registers) row h
        (each_take (HoldsRead test) (length row) registers
        holds)

-- A push.

pub pushed : {V : Type 0} (items : V → List ℕ) (xs ys : List V) (x : V) (l : List ℕ) → ys ≡ xs ++ x ∷ [] → items x ≡ l
    → map items ys ≡ map items xs ++ l ∷ []
pushed items xs ys x l e h =
    ap (map items) e ∙ map-append items xs (x ∷ []) ∙ (λ i. map items xs ++ h i ∷ [])

pub answer_at : (R : List ℕ → Option Bool → Type 0) (n : ℕ) (p : List ℕ → Bool) (front : List ℕ) (v : ℕ) (r : Bool)
    → length front + 1 ≤ n → AnswersBy R n p → R (front ++ v ∷ []) (Some r) → r ≡ p (front ++ v ∷ [])
answer_at R n p front v r l a h =
    let e : length (front ++ v ∷ []) ≡ suc (length front) = long_more front v in
    a (front ++ v ∷ []) r (omega arith) h

pub front_keeps : {V : Type 0} (items : V → List ℕ) (p : List ℕ → Bool) (front values : List ℕ) (i : ℕ)
    (old before after : List V) (b : Bool) → i < length values
    → map items before ≡ map items old ++ front_with p front (take i values)
    → b ≡ p (front ++ get_or values i 0 ∷ [])
    → map items after ≡ cond b (map items before ++ (front ++ get_or values i 0 ∷ []) ∷ []) (map items before)
    → map items after ≡ map items old ++ front_with p front (take (i + 1) values)
front_keeps items p front values i old before after b l h k e =
    let P : List ℕ → Type 0 = λ z. map items after ≡ map items old ++ front_with p front z in
    subst P (sym (take_more values i (get_or values i 0) 0 l refl))
    (block_more p front (take i values) (get_or values i 0) (map items old) (map items before)
    (map items after) b h k e)

pub front_ends : (p : List ℕ → Bool) (front values : List ℕ) (i : ℕ) (old after : List (List ℕ)) → length values ≤ i
    → after ≡ old ++ front_with p front (take i values) → after ≡ old ++ front_with p front values
front_ends p front values i old after l h = h ∙ ap (λ z. old ++ front_with p front z) (take_all i values l)

-- Each front part.

each_get : {X : Type 0} (P : X → Type 0) (xs : List X) (i : ℕ) (x : X) → i < length xs → x ≡ get_or xs i x → Each P xs
    → P x
each_get P [] i x l e h = absurd (omega arith)
each_get P (y ∷ xs) zero x l e h = subst P (sym e) h.0
each_get P (y ∷ xs) (suc i) x l e h = each_get P xs i x (omega arith) e h.1

pub all_get : {X : Type 0} (P : X → Type 0) (xs : List X) (i : ℕ) (x : X) → i < length xs → x ≡ get_or xs i x
    → All P xs → P x
all_get P xs i x l e h = each_get P xs i x l e (recursion_from_All P xs h)

pub go_keeps : {V : Type 0} (items : V → List ℕ) (p : List ℕ → Bool) (values : List ℕ) (fronts : List V) (i : ℕ)
    (front : V) (f : List ℕ) (old after : List V) → i < length fronts → front ≡ get_or fronts i front
    → f ≡ items front
    → map items old ≡ gone_on p values (map items (take i fronts))
    → map items after ≡ map items old ++ front_with p f values
    → map items after ≡ gone_on p values (map items (take (i + 1) fronts))
go_keeps items p values fronts i front f old after l e h k m =
    m ∙ (λ j. k j ++ front_with p (h j) values)
    ∙ sym (gone_more p values (map items (take i fronts)) (items front))
    ∙ ap (gone_on p values) (sym (ap (map items) (take_more fronts i front front l e)
    ∙ map-append items (take i fronts) (front ∷ [])))

pub go_ends : {V : Type 0} (items : V → List ℕ) (p : List ℕ → Bool) (values : List ℕ) (fronts : List V) (i : ℕ)
    (after : List V) → length fronts ≤ i → map items after ≡ gone_on p values (map items (take i fronts))
    → map items after ≡ gone_on p values (map items fronts)
go_ends items p values fronts i after l h =
    h ∙ ap (λ z. gone_on p values (map items z)) (take_all i fronts l)

-- Each column.

each_unmap : {X Y : Type 0} (P : Y → Type 0) (f : X → Y) (xs : List X) → Each P (map f xs) → Each (λ x. P (f x)) xs
each_unmap P f [] h = tt
each_unmap P f (x ∷ xs) h = (h.0, each_unmap P f xs h.1)

pub fronts_short : {V : Type 0} (items : V → List ℕ) (p : List ℕ → Bool) (columns rows fronts : List V) (i : ℕ)
    → i < length columns → map items rows ≡ rows_from p (map items (take i columns)) ([] ∷ []) → fronts ≡ rows
    → All (λ row. length (items row) + 1 ≤ length columns) fronts
fronts_short items p columns rows fronts i l h e =
    let n = length columns in
    let firsts = map items (take i columns) in
    let long : length firsts ≡ i = length-map (take i columns) items ∙ length-take-le i columns (omega arith) in
    let P : List (List ℕ) → Type 0 = λ z. Each (λ (x : List ℕ). length x + 1 ≤ n) z in
    let short : P (rows_from p firsts ([] ∷ [])) = each_weaker (λ (x : List ℕ). length x ≡ 0 + length firsts)
    (λ (x : List ℕ). length x + 1 ≤ n) (λ x k. omega arith) (rows_from p firsts ([] ∷ []))
    (rows_long p firsts ([] ∷ []) 0 (refl, tt)) in
    let Q : List _ → Type 0 = λ z. Each (λ row. length (items row) + 1 ≤ n) z in
    All-from_recursion (λ row. length (items row) + 1 ≤ n) fronts
    (subst Q (sym e) (each_unmap (λ (x : List ℕ). length x + 1 ≤ n) items rows (subst P (sym h) short)))

pub columns_keep : {V : Type 0} (items : V → List ℕ) (p : List ℕ → Bool) (columns : List V) (i : ℕ) (column : V)
    (values : List ℕ) (rows fronts after : List V) → i < length columns → column ≡ get_or columns i column
    → values ≡ items column → fronts ≡ rows
    → map items rows ≡ rows_from p (map items (take i columns)) ([] ∷ [])
    → map items after ≡ gone_on p values (map items fronts)
    → map items after ≡ rows_from p (map items (take (i + 1) columns)) ([] ∷ [])
columns_keep items p columns i column values rows fronts after l e h k m n =
    n ∙ (λ j. gone_on p (h j) (map items (k j))) ∙ ap (gone_on p (items column)) m
    ∙ sym (rows_more p (map items (take i columns)) (items column) ([] ∷ []))
    ∙ ap (λ z. rows_from p z ([] ∷ [])) (sym (ap (map items) (take_more columns i column column l e)
    ∙ map-append items (take i columns) (column ∷ [])))

pub columns_end : {V : Type 0} (items : V → List ℕ) (answers : List ℕ → Option Bool → Type 0) (columns : List V) (i : ℕ)
    (rows : List V) → length columns ≤ i
    → ((p : List ℕ → Bool) → AnswersBy answers (length columns) p
    → map items rows ≡ rows_from p (map items (take i columns)) ([] ∷ []))
    → ListsRows answers (map items columns) (map items rows)
columns_end items answers columns i rows l f =
    lists_rows answers (map items columns) (map items rows) (length columns) (sym (length-map columns items))
    (λ p a. f p a ∙ ap (λ z. rows_from p (map items z) ([] ∷ [])) (take_all i columns l))

-- Too many.

long_append : {X : Type 0} (xs ys : List X) → length xs ≤ length (xs ++ ys)
long_append [] ys = omega arith
long_append (x ∷ xs) ys = let h = long_append xs ys in omega arith

-- a value at place i, and more behind it
split_at : {X : Type 0} (xs : List X) (i : ℕ) (d : X) → i < length xs
    → (rest : List X) × (xs ≡ take i xs ++ get_or xs i d ∷ rest)
split_at [] i d l = absurd (omega arith)
split_at (x ∷ xs) zero d l = (xs, refl)
split_at (x ∷ xs) (suc i) d l = let r = split_at xs i d (omega arith) in (r.0, ap (λ z. x ∷ z) r.1)

pub front_many : {V : Type 0} (items : V → List ℕ) (p : List ℕ → Bool) (front values : List ℕ) (i limit : ℕ)
    (old before : List V) → i < length values → limit ≤ length before
    → map items before ≡ map items old ++ front_with p front (take i values)
    → true ≡ p (front ++ get_or values i 0 ∷ [])
    → limit < length (map items old ++ front_with p front values)
front_many items p front values i limit old before l m h k =
    let s = split_at values i 0 l in
    let v = get_or values i 0 in
    let f : ℕ → List ℕ = λ w. front ++ w ∷ [] in
    let first = front_with p front (take i values) in
    let tail = front_with p front (v ∷ s.0) in
    let whole : front_with p front values ≡ first ++ tail = ap (front_with p front) s.1
    ∙ ap (filter p) (map-append f (take i values) (v ∷ s.0)) ∙ filter_append p (map f (take i values)) (map f (v ∷ s.0))
    in
    let some : 1 ≤ length tail = one (p (f v)) k in
    let a = length-append (map items old) first in
    let b = length-append (map items old) (front_with p front values) in
    let c = ap length whole ∙ length-append first tail in
    let d = sym (length-map before items) ∙ ap length h in
    omega arith
  where
    one : (b : Bool) → true ≡ b → 1 ≤ length (cond b ((front ++ get_or values i 0 ∷ [])
        ∷ filter p (map (λ w. front ++ w ∷ []) (split_at values i 0 l).0)) (filter p (map (λ w. front ++ w ∷ [])
        (split_at values i 0 l).0)))
    one true e = omega arith
    one false e = cc

pub few_more : {V : Type 0} (items : V → List ℕ) (before after : List V) (x : V) (limit : ℕ) → after ≡ before ++ x ∷ []
    → length before < limit → length (map items after) ≤ limit
few_more items before after x limit e l =
    let a = length-map after items in
    let b = ap length e ∙ long_more before x in
    omega arith

gone_append : (p : List ℕ → Bool) (values : List ℕ) (xs ys : List (List ℕ))
    → gone_on p values (xs ++ ys) ≡ gone_on p values xs ++ gone_on p values ys
gone_append p values [] ys = refl
gone_append p values (x ∷ xs) ys =
    ap (λ l. front_with p x values ++ l) (gone_append p values xs ys)
    ∙ sym (append_assoc (front_with p x values) (gone_on p values xs) (gone_on p values ys))

gone_longer : (p : List ℕ → Bool) (values : List ℕ) (xs ys : List (List ℕ))
    → length (gone_on p values xs) ≤ length (gone_on p values (xs ++ ys))
gone_longer p values xs ys =
    let a = ap length (gone_append p values xs ys) in
    let b = long_append (gone_on p values xs) (gone_on p values ys) in
    omega arith

-- A stop.

pub stop_more : (P Q R S : Type 0) (stop : Stop) → (P → Q) → (R → S) → IsStop P R stop → IsStop Q S stop
stop_more P Q R S TooMany f g h = f h
stop_more P Q R S GaveUp f g h = g h

pub go_keeps_front : {V : Type 0} (items : V → List ℕ) (A : List ℕ → Option Bool → Type 0) (limit : ℕ) (values : List ℕ)
    (fronts : List V) (i : ℕ) (front : V) (f : List ℕ) (old after : List V) → i < length fronts
    → front ≡ get_or fronts i front → f ≡ items front
    → KeepsFronts A limit (map items (take i fronts)) values (map items old)
    → KeepsFront A limit f values (map items old) (map items after)
    → KeepsFronts A limit (map items (take (i + 1) fronts)) values (map items after)
go_keeps_front items A limit values fronts i front f old after l e h k m = (
  λ n p short a.
      let whole : map items (take (i + 1) fronts) ≡ map items (take i fronts) ++ items front ∷ [] =
      ap (map items) (take_more fronts i front front l e) ∙ map-append items (take i fronts) (front ∷ []) in
      let P : List (List ℕ) → Type 0 = λ z. Each (λ (row : List ℕ). length row + 1 ≤ n) z in
      let all = subst P whole short in
      let low : length f + 1 ≤ n = (let q : length (items front) + 1 ≤ n =
      (each_right (λ (row : List ℕ). length row + 1 ≤ n)
      (map items (take i fronts)) (items front ∷ []) all).0 in let r = ap length h in omega arith) in
      go_keeps items p values fronts i front f old after l e h
      (k.0 n p (each_left (λ (row : List ℕ). length row + 1 ≤ n) (map items (take i fronts)) (items front ∷ []) all) a)
      (m.0 n p low a),
  m.1 k.1,
)

pub go_many : {V : Type 0} (items : V → List ℕ) (A : List ℕ → Option Bool → Type 0) (limit : ℕ) (values : List ℕ)
    (fronts : List V) (i : ℕ) (front : V) (f : List ℕ) (old : List V) → i < length fronts
    → front ≡ get_or fronts i front → f ≡ items front
    → KeepsFronts A limit (map items (take i fronts)) values (map items old)
    → IsManyFront A limit f values (map items old) → IsManyFronts A limit (map items fronts) values
go_many items A limit values fronts i front f old l e h k m n p short a =
    let s = split_at fronts i front l in
    let first = map items (take i fronts) in
    let whole : map items fronts ≡ first ++ items front ∷ map items s.0 =
    ap (map items) s.1 ∙ map-append items (take i fronts) (get_or fronts i front ∷ s.0)
    ∙ (λ j. first ++ items (sym e j) ∷ map items s.0) in
    let P : List (List ℕ) → Type 0 = λ z. Each (λ (row : List ℕ). length row + 1 ≤ n) z in
    let all = subst P whole short in
    let low : length f + 1 ≤ n = (let q : length (items front) + 1 ≤ n =
    (each_right (λ (row : List ℕ). length row + 1 ≤ n)
    first (items front ∷ map items s.0) all).0 in let r = ap length h in omega arith) in
    let mine = k.0 n p (each_left (λ (row : List ℕ). length row + 1 ≤ n) first (items front ∷ map items s.0) all) a in
    let many = m n p low a in
    let more : map items old ++ front_with p f values ≡ gone_on p values (first ++ items front ∷ []) =
    (λ j. mine j ++ front_with p (h j) values) ∙ sym (gone_more p values first (items front)) in
    let b = ap length more in
    let c = gone_longer p values (first ++ items front ∷ []) (map items s.0) in
    let d = ap (λ z. length (gone_on p values z))
    (whole ∙ sym (append_assoc first (items front ∷ []) (map items s.0))) in
    omega arith

pub go_gives_up : {V : Type 0} (items : V → List ℕ) (A : List ℕ → Option Bool → Type 0) (fronts : List V) (i : ℕ)
    (front : V) (f : List ℕ) → i < length fronts → front ≡ get_or fronts i front → f ≡ items front
    → GivesUp A (length f + 1) → GiveUp A (map items fronts)
go_gives_up items A fronts i front f l e h g n short =
    let low : length (items front) + 1 ≤ n = each_get (λ v. length (items v) + 1 ≤ n) fronts i front l e
    (each_unmap (λ (x : List ℕ). length x + 1 ≤ n) items fronts short) in
    let r = ap length h in
    let k = g.1 in
    (g.0, (omega arith), g.2)

pub some_of : {T : Type 0} (o : Option T) (x : T) (P : Type 0) (Q : T → Type 0) → o ≡ Some x → MatchOption o P Q → Q x
some_of o x P Q e h = let R : Option _ → Type 0 = λ z. MatchOption z P Q in subst R e h

pub none_of : {T : Type 0} (o : Option T) (P : Type 0) (Q : T → Type 0) → o ≡ None → MatchOption o P Q → P
none_of o P Q e h = let R : Option _ → Type 0 = λ z. MatchOption z P Q in subst R e h

pub go_ended : {V : Type 0} (items : V → List ℕ) (A : List ℕ → Option Bool → Type 0) (limit : ℕ) (values : List ℕ)
    (fronts : List V) (i : ℕ) (after : List V) → length fronts ≤ i
    → KeepsFronts A limit (map items (take i fronts)) values (map items after)
    → KeepsFronts A limit (map items fronts) values (map items after)
go_ended items A limit values fronts i after l h =
    let P : List _ → Type 0 = λ z. KeepsFronts A limit (map items z) values (map items after) in
    subst P (take_all i fronts l) h
