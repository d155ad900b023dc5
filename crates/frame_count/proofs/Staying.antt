-- For how many iterations of a thread what is settled stays as it is.
use Rattle.std.proofs.Common.{◌≡◌, ◌≢◌, ℕ, zero, suc, ◌+◌, ◌-◌, ◌*◌, ◌/◌, ◌^◌, ◌<◌, ◌≤◌, ◌&&◌, ◌||◌, ◌⊎◌, inl, inr, Bool, true, false, not, List, [], ◌∷◌, All, count_by, drop, get_or, length, length-set, min, suc-mul, zero-mul, slice_index, slice_set, take, refl, sym, ap, ◌∙◌, arith}
use Rattle.std.proofs.lemmas.Bool.{cases_lt}
use Rattle.std.proofs.lemmas.Nat.{mul-le}
use Rattle.std.proofs.lemmas.List.{get_or-set_other, take-set}
use Rattle.std.specs.List.{list_all, range_with_len}
use Rattle.x86_subset.specs.Conjunctions.{conjunction_of}
use Rattle.load_log.specs.Values.{Values}
use Rattle.outcome_conv.specs.declared.cond.Cond.{Cond}
use Rattle.outcome_conv.specs.Conditions.{Conditions}
use Rattle.frame_count.specs.Block.{Alive, EndsAt, IsAlike, StayAlike, block_holds, so_far, test_now}
use Rattle.frame_count.proofs.Counts.{count_join, count_moved, count_outside}
use Rattle.frame_count.proofs.BlockCounts.{digit_below, inner_hits, set_front}
use Rattle.frame_count.proofs.Blocks.{alike_holds, all_more_now, all_same, get_any, so_same}

-- A test of thread p's iterations.

-- a condition that was settled before, or is not yet
pub settled_before : (s u h k : Bool) → s ≡ true → (s || not u || h) ≡ (s || not u || k)
settled_before s u h k e = ap (λ b. b || not u || h) e ∙ sym (ap (λ b. b || not u || k) e)

pub settled_later : (s u h k : Bool) → u ≡ false → (s || not u || h) ≡ (s || not u || k)
settled_later s u h k e = grind arith

pub settled_here : (s u h : Bool) → s ≡ false → u ≡ true → (s || not u || h) ≡ h
settled_here s u h e f = grind arith

-- Tests of all conditions of a conjunction.

pub one_fails : (p : Cond → Bool) (xs : List Cond) (k : ℕ) (d : Cond) → k < length xs → p (get_or xs k d) ≡ false
    → list_all p xs ≡ false
one_fails p [] k d l e = absurd (omega arith)
one_fails p (x ∷ xs) zero d l e = ap (λ b. b && list_all p xs) e
one_fails p (x ∷ xs) (suc k) d l e =
    ap (λ b. p x && b) (one_fails p xs k d (omega arith) e) ∙ and_none (p x)
  where
    and_none : (b : Bool) → (b && false) ≡ false
    and_none true = refl
    and_none false = refl

pub one_passes : (p : Cond → Bool) (xs : List Cond) (k : ℕ) (d : Cond) → k < length xs → p (get_or xs k d) ≡ true
    → list_all p (drop k xs) ≡ list_all p (drop (suc k) xs)
one_passes p [] k d l e = absurd (omega arith)
one_passes p (x ∷ xs) zero d l e = ap (λ b. b && list_all p xs) e
one_passes p (x ∷ xs) (suc k) d l e = one_passes p xs k d (omega arith) e

-- Conjunctions that are alike.

-- the iterations of the threads but p
other_same : (p i m : ℕ) (f : List ℕ) (q : ℕ) → q ≢ p → slice_index (slice_set f p i) q ≡ slice_index (slice_set f p m) q
other_same p i m f q ne = get_or-set_other f p q i 0 ne ∙ sym (get_or-set_other f p q m 0 ne)

one_alike : (p i m : ℕ) (f : List ℕ) (x : Cond) → EndsAt p x
    → IsAlike (p + 1) (slice_set f p i) (slice_set f p m) x
one_alike p i m f x h = (
  λ lt le. other_same p i m f x.reader (λ e. let w = h.0 e in omega arith),
  λ lt le. other_same p i m f x.writer (λ e. let w = h.1 e in omega arith),
)

pub ends_alike : (p i m : ℕ) (f : List ℕ) (xs : List Cond) → All (EndsAt p) xs
    → All (IsAlike (p + 1) (slice_set f p i) (slice_set f p m)) xs
ends_alike p i m f xs h = λ k d l. one_alike p i m f (get_or xs k d) (h k d l)

pub same_alike : (p i m : ℕ) (f : List ℕ) (xs : List Cond) → m ≡ i
    → All (IsAlike (p + 1) (slice_set f p i) (slice_set f p m)) xs
same_alike p i m f xs e = λ k d l.
    let same : (q : ℕ) → slice_index (slice_set f p i) q ≡ slice_index (slice_set f p m) q =
    λ q. ap (λ z. slice_index (slice_set f p z) q) (sym e) in
    (λ lt le. same (get_or xs k d).reader, λ lt le. same (get_or xs k d).writer)

-- what the first p threads settle does not hang on thread p
so_stays : (logs : List Values) (p m : ℕ) (f : List ℕ) (xs : List Cond)
    → list_all (so_far logs p (slice_set f p m)) xs ≡ list_all (so_far logs p f) xs
so_stays logs p m f xs =
    all_same (so_far logs p (slice_set f p m)) (so_far logs p f) xs (λ x. so_same logs p (slice_set f p m) f x (take-set f p m))

-- a conjunction that is left as before
pub stays_left : (c : Conditions) (logs : List Values) (p : ℕ) (f : List ℕ) (i m : ℕ) (now : List Bool) (j : ℕ) (d : Bool)
    → Alive c logs (p + 1) f now → f ≡ slice_set f p i → j < length c.ends
    → list_all (test_now logs p (slice_set f p m)) (conjunction_of c.ends c.conds j)
    ≡ list_all (test_now logs p (slice_set f p i)) (conjunction_of c.ends c.conds j)
    → get_or now j d ≡ list_all (so_far logs (p + 1) (slice_set f p m)) (conjunction_of c.ends c.conds j)
stays_left c logs p f i m now j d a here l same =
    let xs = conjunction_of c.ends c.conds j in
    a j d l ∙ ap (λ g. list_all (so_far logs (p + 1) g) xs) here
    ∙ all_more_now logs p (slice_set f p i) xs
    ∙ ap (λ b. b && list_all (test_now logs p (slice_set f p i)) xs) (so_stays logs p i f xs ∙ sym (so_stays logs p m f xs))
    ∙ ap (λ b. list_all (so_far logs p (slice_set f p m)) xs && b) (sym same)
    ∙ sym (all_more_now logs p (slice_set f p m) xs)

-- a conjunction that was not left before
pub stays_none : (c : Conditions) (logs : List Values) (p : ℕ) (f : List ℕ) (i m : ℕ) (before now : List Bool) (j : ℕ)
    (d e : Bool) → Alive c logs p f before → Alive c logs (p + 1) f now → j < length c.ends → get_or before j e ≡ false
    → StayAlike c logs p f i m now j d
stays_none c logs p f i m before now j d e b a l none =
    let xs = conjunction_of c.ends c.conds j in
    let dead : list_all (so_far logs p f) xs ≡ false = sym (b j e l) ∙ none in
    let here : get_or now j d ≡ false = a j d l ∙ all_more_now logs p f xs
    ∙ ap (λ z. z && list_all (test_now logs p f) xs) dead in
    let there : list_all (so_far logs (p + 1) (slice_set f p m)) xs ≡ false = all_more_now logs p (slice_set f p m) xs
    ∙ ap (λ z. z && list_all (test_now logs p (slice_set f p m)) xs) (so_stays logs p m f xs ∙ dead) in
    (here ∙ sym there, λ t. absurd (let z : true ≡ false = sym t ∙ here in cc))

-- one that was left before
pub stays_one : (c : Conditions) (logs : List Values) (p : ℕ) (f : List ℕ) (i m : ℕ) (now : List Bool) (k : ℕ) (a : Bool)
    → k < length now → Alive c logs (p + 1) f now → f ≡ slice_set f p i → k < length c.ends
    → list_all (test_now logs p (slice_set f p m)) (conjunction_of c.ends c.conds k)
    ≡ list_all (test_now logs p (slice_set f p i)) (conjunction_of c.ends c.conds k)
    → (get_or now k a ≡ true
    → All (IsAlike (p + 1) (slice_set f p i) (slice_set f p m)) (conjunction_of c.ends c.conds k))
    → (d : Bool) → StayAlike c logs p f i m now k d
stays_one c logs p f i m now k a long h here l same alike d =
    (stays_left c logs p f i m now k d h here l same, λ t. alike (get_any now k a d long ∙ t))

-- one conjunction more
pub stays_more : (c : Conditions) (logs : List Values) (p : ℕ) (f : List ℕ) (i m : ℕ) (now : List Bool) (k : ℕ)
    → ((d : Bool) → StayAlike c logs p f i m now k d)
    → ((j : ℕ) (d : Bool) → j < k → StayAlike c logs p f i m now j d)
    → (j : ℕ) (d : Bool) → j < k + 1 → StayAlike c logs p f i m now j d
stays_more c logs p f i m now k here below j d lt = go (cases_lt j k)
  where
    go : (j < k) ⊎ (k ≤ j) → StayAlike c logs p f i m now j d
    go (inl low) = below j d low
    go (inr high) = let e : j ≡ k = omega arith in rw e (here d)

-- The same block several times.

-- counts one after the other that are the same
pub sum_times : (q : ℕ → Bool) (at some hits k : ℕ)
    → ((m : ℕ) → m < k → hits ≡ count_by q (range_with_len (at + m * some) some))
    → k * hits ≡ count_by q (range_with_len at (k * some))
sum_times q at some hits zero h =
    let z : zero * some ≡ at - at = omega arith in
    zero-mul hits ∙ count_outside q at at (λ m low lt. absurd (omega arith))
    ∙ ap (λ n. count_by q (range_with_len at n)) (sym z)
sum_times q at some hits (suc k) h =
    let before = sum_times q at some hits k (λ m lt. h m (omega arith)) in
    let z : at + k * some - at ≡ k * some = omega arith in
    let t = before ∙ ap (λ n. count_by q (range_with_len at n)) (sym z) in
    let both = count_join q at (at + k * some) some (k * hits) hits (omega arith) t (h k (omega arith)) in
    let e = suc-mul k hits in
    let f : at + k * some + some - at ≡ suc k * some = let g = suc-mul k some in omega arith in
    e ∙ both ∙ ap (λ n. count_by q (range_with_len at n)) f

-- how many numbers they take
pub times_fit : (times some step start room : ℕ) → 1 ≤ times → some ≡ min (step - start) room
    → (2 ≤ times → (start ≡ 0) × (times * step ≤ room)) → times * some ≤ room
times_fit times some step start room one is whole = go (cases_lt times 2)
  where
    go : (times < 2) ⊎ (2 ≤ times) → times * some ≤ room
    go (inl lt) = let e : times ≡ 1 = omega arith in let f = ap (λ k. k * some) e in omega arith
    go (inr two) =
        let w = whole two in
        let m = mul-le times some times step (omega arith) (omega arith) in
        omega arith

-- where the loop is after them
pub times_here : (times some step start room i at : ℕ) → 1 ≤ times → some ≡ min (step - start) room → start < step
    → (2 ≤ times → (start ≡ 0) × (times * step ≤ room)) → i * step + start ≡ at → times * some < room
    → (i + times) * step + 0 ≡ at + times * some
times_here times some step start room i at one is low whole here more = go (cases_lt times 2)
  where
    go : (times < 2) ⊎ (2 ≤ times) → (i + times) * step + 0 ≡ at + times * some
    go (inl lt) =
        let e : times ≡ 1 = omega arith in
        let f = ap (λ k. k * some) e in
        let g = ap (λ k. (i + k) * step) e in
        omega arith
    go (inr two) =
        let w = whole two in
        let m = mul-le 2 step times step two (omega arith) in
        let e : some ≡ step = omega arith in
        let f = ap (λ k. times * k) e in
        omega arith

-- blocks that stay alike have the same hits
pub stays_count : (c : Conditions) (logs : List Values) (n p i m : ℕ) (f : List ℕ) (now : List Bool) (from some : ℕ)
    → p < length f → ((j : ℕ) (d : Bool) → j < length c.ends → StayAlike c logs p f i m now j d)
    → Alive c logs (p + 1) (slice_set f p i) now
    → count_by (block_holds c logs n (p + 1) (slice_set f p i)) (range_with_len from some)
    ≡ count_by (block_holds c logs n (p + 1) (slice_set f p m)) (range_with_len from some)
stays_count c logs n p i m f now from some lt stay alive =
    let one = length-set f p i in
    let two = length-set f p m in
    count_moved (block_holds c logs n (p + 1) (slice_set f p i)) (block_holds c logs n (p + 1) (slice_set f p m)) from from
    some
    (λ r _. alike_holds c logs n (p + 1) (slice_set f p i) (slice_set f p m) (slice_set f p i) now now (from + r)
    (omega arith) (one ∙ sym two) alive (λ j d l. (stay j d l).0) (λ q l. refl)
    (λ j d l. (refl, (stay j d l).1)))

pub set_again : (f : List ℕ) (p i : ℕ) → slice_set (slice_set f p i) p i ≡ slice_set f p i
set_again [] p i = refl
set_again (x ∷ f) zero i = refl
set_again (x ∷ f) (suc p) i = ap (λ l. x ∷ l) (set_again f p i)

-- the hits of a block and of those after it that stay alike
pub block_times : (c : Conditions) (logs : List Values) (n t p size step i start some room at times hits : ℕ)
    (f g : List ℕ) (now : List Bool)
    → 1 ≤ n → p < t → t ≡ length f → length f ≡ length g → size ≡ n ^ (t - p) → step ≡ size / n → size ≡ n * step
    → i * step + start ≡ at → at + room ≤ size → some ≡ min (step - start) room → i < n → start < step
    → take p g ≡ take p f
    → (2 ≤ times → (start ≡ 0) × (times * step ≤ room)) → Alive c logs (p + 1) (slice_set g p i) now
    → ((m : ℕ) → 1 ≤ m → m < times → i + m < n → (j : ℕ) (d : Bool) → j < length c.ends
    → StayAlike c logs p (slice_set g p i) i (i + m) now j d)
    → hits ≡ count_by (block_holds c logs n (p + 1) (slice_set g p i)) (range_with_len start (start + some - start))
    → times * hits ≡ count_by (block_holds c logs n p f) (range_with_len at (times * some))
block_times c logs n t p size step i start some room at times hits f g now one lt ft fg long e whole_size here end is below
    low front whole alive stay h = sum_times q at some hits times each
  where
    q : ℕ → Bool
    q = block_holds c logs n p f

    first : hits ≡ count_by q (range_with_len at some)
    first = inner_hits c logs n t p size step i start some at hits f g one lt ft fg long e below (omega arith) here front h

    later : (m : ℕ) → 1 ≤ m → m < times → hits ≡ count_by q (range_with_len (at + m * some) some)
    later m more less =
        let w = whole (omega arith) in
        let u = mul-le (m + 1) step times step (omega arith) (omega arith) in
        let v = mul-le 1 step times step (omega arith) (omega arith) in
        let same : some ≡ step = omega arith in
        let x : m * some ≡ m * step = ap (λ k. m * k) same in
        let there : (i + m) * step + 0 ≡ at + m * some = omega arith in
        let digit : i + m < n = digit_below n step size (i + m) 0 (at + m * some) whole_size there (omega arith) in
        let g2 : List ℕ = slice_set g p i in
        let kept : Alive c logs (p + 1) (slice_set g2 p i) now =
        rw (set_again g p i) alive in
        let z : start + some - start ≡ 0 + some - 0 = omega arith in
        let o : start ≡ 0 = w.0 in
        let begin : hits ≡ count_by (block_holds c logs n (p + 1) (slice_set g2 p i)) (range_with_len 0 (0 + some - 0)) =
        h ∙ ap (λ k. count_by (block_holds c logs n (p + 1) (slice_set g p i)) (range_with_len k (start + some - start))) o
        ∙ ap (λ k. count_by (block_holds c logs n (p + 1) (slice_set g p i)) (range_with_len 0 k)) z
        ∙ ap (λ l. count_by (block_holds c logs n (p + 1) l) (range_with_len 0 (0 + some - 0))) (sym (set_again g p i)) in
        inner_hits c logs n t p size step (i + m) 0 some (at + m * some) hits f g2 one lt ft
        (fg ∙ sym (length-set g p i)) long e digit (omega arith) there (set_front p i g f front)
        (begin ∙ stays_count c logs n p i (i + m) g2 now 0 (0 + some - 0)
        (let a = length-set g p i in omega arith) (stay m more less digit) kept)

    each : (m : ℕ) → m < times → hits ≡ count_by q (range_with_len (at + m * some) some)
    each m less = go (cases_lt m 1)
      where
        go : (m < 1) ⊎ (1 ≤ m) → hits ≡ count_by q (range_with_len (at + m * some) some)
        go (inl z) =
            let e : m ≡ 0 = omega arith in
            let x : at ≡ at + m * some = let y = ap (λ k. k * some) e in omega arith in
            first ∙ ap (λ k. count_by q (range_with_len k some)) x
        go (inr more) = later m more less
