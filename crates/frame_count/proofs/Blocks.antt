-- What the first threads settle, and the frames of a block.
use Rattle.std.proofs.Common.{◌≡◌, ℕ, zero, suc, ◌+◌, ◌-◌, ◌*◌, ◌/◌, ◌%◌, ◌^◌, ◌<◌, ◌≤◌, ◌&&◌, ◌||◌, ◌⊎◌, inl, inr, Bool, true, false, not, List, [], ◌∷◌, ◌++◌, All, append_assoc, count_by, drop, get_or, length, map, nat_lt, set, slice_index, take, refl, sym, ap, ◌∙◌, arith, length-set, lt-ltb}
use Rattle.std.proofs.lemmas.Bool.{and_parts, cases_lt, ltb-true}
use Rattle.std.proofs.lemmas.List.{get_or-set_other, get_or-take, set_split, take_more_set}
use Rattle.std.proofs.lemmas.Grind.{get_or-set_at}
use Rattle.std.proofs.lemmas.List.Elements.{recursion_from_All}
use Rattle.std.proofs.lemmas.Nat.{div-add-mod', div-mul-add, mod-mul-add, mod_below, mul-le}
use Rattle.std.specs.List.{AllByRecursion as Each, list_all, list_any, range_with_len}
use native.Mathlib.Nat.{pow-zero, pow-suc, div-one}
use Rattle.x86_subset.specs.Conjunctions.{conjunction_of, conjunctions_of}
use Rattle.load_log.specs.Values.{Values, value_at}
use Rattle.tso_machine.specs.Frame.{frame_of}
use Rattle.outcome_conv.specs.declared.cond.Cond.{Cond}
use Rattle.outcome_conv.specs.Conditions.{Conditions}
use Rattle.outcome_conv.specs.Conds.{cond_holds, kind_holds}
use Rattle.outcome_conv.specs.Holds.{iteration_in}
use Rattle.frame_count.specs.Block.{Alive, AreAlike, IsAlike, SettledBy, block_holds, is_settled, so_far, test_now}
use Rattle.frame_count.specs.Count.{frame_holds, with_last}
use Rattle.frame_count.proofs.Conjoining.{any_none}
use Rattle.frame_count.proofs.Counts.{count_moved}
use Rattle.frame_count.proofs.Reaches.{at_or}

-- The iterations of a frame of a block.

at_front : (p : ℕ) (f tail : List ℕ) (q : ℕ) → q < p → p ≤ length f → slice_index (take p f ++ tail) q ≡ slice_index f q
at_front zero f tail q l h = absurd (omega arith)
at_front (suc p) [] tail q l h = absurd (omega arith)
at_front (suc p) (x ∷ f) tail zero l h = refl
at_front (suc p) (x ∷ f) tail (suc q) l h = at_front p f tail q (omega arith) (omega arith)

at_back : (p : ℕ) (f g tail : List ℕ) (q : ℕ) → p ≤ q → p ≤ length f → p ≤ length g
    → slice_index (take p f ++ tail) q ≡ slice_index (take p g ++ tail) q
at_back zero f g tail q l h k = refl
at_back (suc p) [] g tail q l h k = absurd (omega arith)
at_back (suc p) (x ∷ f) [] tail q l h k = absurd (omega arith)
at_back (suc p) (x ∷ f) (y ∷ g) tail zero l h k = absurd (omega arith)
at_back (suc p) (x ∷ f) (y ∷ g) tail (suc q) l h k = at_back p f g tail q (omega arith) (omega arith) (omega arith)

at_taken : (p : ℕ) (f g : List ℕ) (q : ℕ) → q < p → take p f ≡ take p g → slice_index f q ≡ slice_index g q
at_taken p f g q l e = sym (get_or-take p f q 0 l) ∙ ap (λ z. slice_index z q) e ∙ get_or-take p g q 0 l

-- a condition tells of two iterations alone
cond_same : (v : ℕ → ℕ → ℕ → ℕ) (f g : List ℕ) (x : Cond) → slice_index f x.reader ≡ slice_index g x.reader
    → slice_index f x.writer ≡ slice_index g x.writer → cond_holds v f x ≡ cond_holds v g x
cond_same v f g x r w =
    let a : iteration_in f x.reader ≡ iteration_in g x.reader = at_or f x.reader ∙ r ∙ sym (at_or g x.reader) in
    let b : iteration_in f x.writer ≡ iteration_in g x.writer = at_or f x.writer ∙ w ∙ sym (at_or g x.writer) in
    ap (λ i. kind_holds x.kind (v x.reader x.column i) (iteration_in f x.writer)) a
    ∙ ap (λ i. kind_holds x.kind (v x.reader x.column (iteration_in g x.reader)) i) b

settled_parts : (p : ℕ) (x : Cond) → is_settled p x ≡ true → (x.reader < p) × (x.writer < p)
settled_parts p x e =
    let h = and_parts (nat_lt x.reader p) (nat_lt x.writer p) e in
    (ltb-true x.reader p h.0, ltb-true x.writer p h.1)

settled_from : (p : ℕ) (x : Cond) → x.reader < p → x.writer < p → is_settled p x ≡ true
settled_from p x r w = rw (lt-ltb x.reader p r, lt-ltb x.writer p w) refl

-- Tests of all conditions of a conjunction.

and_true : (b : Bool) → (b && true) ≡ b
and_true true = refl
and_true false = refl

and_shuffle : (p q r s : Bool) → ((p && q) && (r && s)) ≡ ((p && r) && (q && s))
and_shuffle true q true s = refl
and_shuffle true true false s = refl
and_shuffle true false false s = refl
and_shuffle false q r s = refl

pub all_same : (a b : Cond → Bool) (xs : List Cond) → ((x : Cond) → a x ≡ b x) → list_all a xs ≡ list_all b xs
all_same a b [] h = refl
all_same a b (x ∷ xs) h = ap (λ z. z && list_all a xs) (h x) ∙ ap (λ z. b x && z) (all_same a b xs h)

all_same_each : (a b : Cond → Bool) (xs : List Cond) → Each (λ x. a x ≡ b x) xs → list_all a xs ≡ list_all b xs
all_same_each a b [] h = refl
all_same_each a b (x ∷ xs) h = ap (λ z. z && list_all a xs) h.0 ∙ ap (λ z. b x && z) (all_same_each a b xs h.1)

all_both : (a b c : Cond → Bool) (xs : List Cond) → ((x : Cond) → a x ≡ (b x && c x))
    → list_all a xs ≡ (list_all b xs && list_all c xs)
all_both a b c [] h = refl
all_both a b c (x ∷ xs) h =
    ap (λ z. z && list_all a xs) (h x) ∙ ap (λ z. (b x && c x) && z) (all_both a b c xs h)
    ∙ and_shuffle (b x) (c x) (list_all b xs) (list_all c xs)

all_true : (a : Cond → Bool) (xs : List Cond) → Each (λ x. a x ≡ true) xs → list_all a xs ≡ true
all_true a [] h = refl
all_true a (x ∷ xs) h = ap (λ z. z && list_all a xs) h.0 ∙ all_true a xs h.1

-- The first threads' part.

pub so_same : (logs : List Values) (p : ℕ) (f g : List ℕ) (x : Cond) → take p f ≡ take p g
    → so_far logs p f x ≡ so_far logs p g x
so_same logs p f g x e = go (is_settled p x) refl
  where
    go : (b : Bool) → is_settled p x ≡ b → (not b || cond_holds (value_at logs) f x)
        ≡ (not b || cond_holds (value_at logs) g x)
    go true s =
        let h = settled_parts p x s in
        cond_same (value_at logs) f g x (at_taken p f g x.reader h.0 e) (at_taken p f g x.writer h.1 e)
    go false s = refl

pub alive_same : (c : Conditions) (logs : List Values) (p : ℕ) (f g : List ℕ) (alive : List Bool)
    → take p f ≡ take p g → Alive c logs p f alive → Alive c logs p g alive
alive_same c logs p f g alive e h j d l =
    h j d l ∙ all_same (so_far logs p f) (so_far logs p g) (conjunction_of c.ends c.conds j)
    (λ x. so_same logs p f g x e)

bools : (s u h : Bool) → (s ≡ true → u ≡ true) → (not u || h) ≡ ((not s || h) && (s || not u || h))
bools true true h i = sym (and_true h)
bools true false h i = let k = i refl in cc
bools false true true i = refl
bools false true false i = refl
bools false false h i = refl

so_more : (logs : List Values) (p : ℕ) (f : List ℕ) (x : Cond)
    → so_far logs (p + 1) f x ≡ (so_far logs p f x && test_now logs p f x)
so_more logs p f x =
    bools (is_settled p x) (is_settled (p + 1) x) (cond_holds (value_at logs) f x)
    (λ s. let h = settled_parts p x s in settled_from (p + 1) x (omega arith) (omega arith))

-- with one thread more
pub all_more_now : (logs : List Values) (p : ℕ) (f : List ℕ) (xs : List Cond)
    → list_all (so_far logs (p + 1) f) xs ≡ (list_all (so_far logs p f) xs && list_all (test_now logs p f) xs)
all_more_now logs p f xs =
    all_both (so_far logs (p + 1) f) (so_far logs p f) (test_now logs p f) xs (so_more logs p f)

nothing_so_far : (logs : List Values) (f : List ℕ) (x : Cond) → so_far logs 0 f x ≡ true
nothing_so_far logs f x = go (is_settled 0 x) refl
  where
    go : (b : Bool) → is_settled 0 x ≡ b → (not b || cond_holds (value_at logs) f x) ≡ true
    go true s = let h = settled_parts 0 x s in absurd (omega arith)
    go false s = refl

each_by : (P : Cond → Type 0) (xs : List Cond) → ((x : Cond) → P x) → Each P xs
each_by P [] h = tt
each_by P (x ∷ xs) h = (h x, each_by P xs h)

pub all_at_first : (logs : List Values) (f : List ℕ) (xs : List Cond) → list_all (so_far logs 0 f) xs ≡ true
all_at_first logs f xs =
    all_true (so_far logs 0 f) xs (each_by (λ x. so_far logs 0 f x ≡ true) xs (nothing_so_far logs f))

-- The rest.

abbrev rest : List Values → ℕ → List ℕ → Cond → Bool
rest logs p g x = is_settled p x || cond_holds (value_at logs) g x

splits_one : (logs : List Values) (p : ℕ) (f tail : List ℕ) (x : Cond) → p ≤ length f
    → cond_holds (value_at logs) (take p f ++ tail) x ≡ (so_far logs p f x && rest logs p (take p f ++ tail) x)
splits_one logs p f tail x l = go (is_settled p x) refl
  where
    go : (b : Bool) → is_settled p x ≡ b → cond_holds (value_at logs) (take p f ++ tail) x
        ≡ ((not b || cond_holds (value_at logs) f x) && (b || cond_holds (value_at logs) (take p f ++ tail) x))
    go true s =
        let h = settled_parts p x s in
        cond_same (value_at logs) (take p f ++ tail) f x (at_front p f tail x.reader h.0 l)
        (at_front p f tail x.writer h.1 l) ∙ sym (and_true (cond_holds (value_at logs) f x))
    go false s = refl

pub splits : (logs : List Values) (p : ℕ) (f tail : List ℕ) (xs : List Cond) → p ≤ length f
    → list_all (cond_holds (value_at logs) (take p f ++ tail)) xs
    ≡ (list_all (so_far logs p f) xs && list_all (rest logs p (take p f ++ tail)) xs)
splits logs p f tail xs l =
    all_both (cond_holds (value_at logs) (take p f ++ tail)) (so_far logs p f) (rest logs p (take p f ++ tail)) xs
    (λ x. splits_one logs p f tail x l)

-- A conjunction that is not left.
pub fails : (logs : List Values) (p : ℕ) (f tail : List ℕ) (xs : List Cond) → p ≤ length f
    → list_all (so_far logs p f) xs ≡ false → list_all (cond_holds (value_at logs) (take p f ++ tail)) xs ≡ false
fails logs p f tail xs l h =
    splits logs p f tail xs l ∙ ap (λ b. b && list_all (rest logs p (take p f ++ tail)) xs) h

-- No conjunction is left.
pub dead : (c : Conditions) (logs : List Values) (p : ℕ) (f tail : List ℕ) (alive : List Bool)
    → p ≤ length f → Alive c logs p f alive → ((j : ℕ) (d : Bool) → j < length c.ends → get_or alive j d ≡ false)
    → frame_holds c logs (take p f ++ tail) ≡ false
dead c logs p f tail alive l a none =
    any_none (list_all (cond_holds (value_at logs) (take p f ++ tail))) c.ends c.conds
    (λ j lt.
    fails logs p f tail (conjunction_of c.ends c.conds j) l (sym (a j true lt) ∙ none j true lt))

-- A conjunction is settled.

or_true : (b : Bool) → (b || true) ≡ true
or_true true = refl
or_true false = refl

any_found : (p : List Cond → Bool) (ends : List ℕ) (xs : List Cond) (a n i : ℕ) → i < n
    → p (conjunction_of ends xs (a + i)) ≡ true
    → list_any p (map (conjunction_of ends xs) (range_with_len a n)) ≡ true
any_found p ends xs a zero i l h = absurd (omega arith)
any_found p ends xs a (suc n) zero l h =
    let e : a + 0 ≡ a = omega arith in
    let first : p (conjunction_of ends xs a) ≡ true = ap (λ k. p (conjunction_of ends xs k)) (sym e) ∙ h in
    ap (λ b. b || list_any p (map (conjunction_of ends xs) (range_with_len (a + 1) n))) first
any_found p ends xs a (suc n) (suc i) l h =
    let e : a + 1 + i ≡ a + suc i = omega arith in
    let later = any_found p ends xs (a + 1) n i (omega arith) (ap (λ k. p (conjunction_of ends xs k)) e ∙ h) in
    ap (λ b. p (conjunction_of ends xs a) || b) later ∙ or_true (p (conjunction_of ends xs a))

all_settled : (logs : List Values) (p m : ℕ) (g : List ℕ) (xs : List Cond) → m ≤ p
    → Each (λ x. (x.reader < m) × (x.writer < m)) xs → list_all (rest logs p g) xs ≡ true
all_settled logs p m g [] l h = refl
all_settled logs p m g (x ∷ xs) l h =
    let r = h.0.0 in
    let w = h.0.1 in
    let s : is_settled p x ≡ true = settled_from p x (omega arith) (omega arith) in
    ap (λ b. (b || cond_holds (value_at logs) g x) && list_all (rest logs p g) xs) s
    ∙ all_settled logs p m g xs l h.1

pub whole : (c : Conditions) (logs : List Values) (p : ℕ) (f tail : List ℕ) (alive : List Bool) (by : List ℕ) (j : ℕ)
    → p ≤ length f → Alive c logs p f alive → SettledBy c by → j < length c.ends → get_or alive j false ≡ true
    → get_or by j 0 ≤ p → frame_holds c logs (take p f ++ tail) ≡ true
whole c logs p f tail alive by j l a s lt left few =
    let xs = conjunction_of c.ends c.conds j in
    let one : list_all (so_far logs p f) xs ≡ true = sym (a j false lt) ∙ left in
    let two = all_settled logs p (get_or by j 0) (take p f ++ tail) xs few
    (recursion_from_All (λ (x : Cond). (x.reader < get_or by j 0) × (x.writer < get_or by j 0)) xs (s j 0 lt)) in
    let all : list_all (cond_holds (value_at logs) (take p f ++ tail)) xs ≡ true = splits logs p f tail xs l
    ∙ ap (λ b. b && list_all (rest logs p (take p f ++ tail)) xs) one ∙ two in
    let e : 0 + j ≡ j = omega arith in
    any_found (list_all (cond_holds (value_at logs) (take p f ++ tail))) c.ends c.conds 0 (length c.ends) j lt
    (ap (λ k. list_all (cond_holds (value_at logs) (take p f ++ tail)) (conjunction_of c.ends c.conds k)) e ∙ all)

-- Blocks that are alike.

any_alike_from : (p q : List Cond → Bool) (ends : List ℕ) (xs : List Cond) (a n : ℕ)
    → ((i : ℕ) → i < n → p (conjunction_of ends xs (a + i)) ≡ q (conjunction_of ends xs (a + i)))
    → list_any p (map (conjunction_of ends xs) (range_with_len a n))
    ≡ list_any q (map (conjunction_of ends xs) (range_with_len a n))
any_alike_from p q ends xs a zero h = refl
any_alike_from p q ends xs a (suc n) h =
    let e : a + 0 ≡ a = omega arith in
    let first : p (conjunction_of ends xs a) ≡ q (conjunction_of ends xs a) =
    ap (λ k. p (conjunction_of ends xs k)) (sym e) ∙ h 0 (omega arith) ∙ ap (λ k. q (conjunction_of ends xs k)) e in
    let later = any_alike_from p q ends xs (a + 1) n (λ i lt. let f : a + 1 + i ≡ a + suc i = omega arith in
    ap (λ k. p (conjunction_of ends xs k)) f ∙ h (suc i) (omega arith) ∙ ap (λ k. q (conjunction_of ends xs k)) (sym f)) in
    ap (λ b. b || list_any p (map (conjunction_of ends xs) (range_with_len (a + 1) n))) first
    ∙ ap (λ b. q (conjunction_of ends xs a) || b) later

any_alike : (p q : List Cond → Bool) (ends : List ℕ) (xs : List Cond)
    → ((j : ℕ) → j < length ends → p (conjunction_of ends xs j) ≡ q (conjunction_of ends xs j))
    → list_any p (conjunctions_of ends xs) ≡ list_any q (conjunctions_of ends xs)
any_alike p q ends xs h =
    any_alike_from p q ends xs 0 (length ends) (λ i lt. let e : 0 + i ≡ i = omega arith in
    ap (λ k. p (conjunction_of ends xs k)) e ∙ h i lt ∙ ap (λ k. q (conjunction_of ends xs k)) (sym e))

-- the iteration of one thread
alike_at : (p : ℕ) (f g tail : List ℕ) (q r : ℕ) → p ≤ length f → p ≤ length g
    → (q < p → p ≤ r → slice_index f q ≡ slice_index g q) → (q < p → p ≤ r) → (q < p) ⊎ (p ≤ q)
    → slice_index (take p f ++ tail) q ≡ slice_index (take p g ++ tail) q
alike_at p f g tail q r l k h o (inl lt) =
    at_front p f tail q lt l ∙ h lt (o lt) ∙ sym (at_front p g tail q lt k)
alike_at p f g tail q r l k h o (inr le) = at_back p f g tail q le l k

late : (p : ℕ) (x : Cond) → is_settled p x ≡ false → x.reader < p → p ≤ x.writer
late p x s lt = go (cases_lt x.writer p)
  where
    go : (x.writer < p) ⊎ (p ≤ x.writer) → p ≤ x.writer
    go (inl w) = let t = settled_from p x lt w in absurd (let z : true ≡ false = sym t ∙ s in cc)
    go (inr w) = w

late' : (p : ℕ) (x : Cond) → is_settled p x ≡ false → x.writer < p → p ≤ x.reader
late' p x s lt = go (cases_lt x.reader p)
  where
    go : (x.reader < p) ⊎ (p ≤ x.reader) → p ≤ x.reader
    go (inl r) = let t = settled_from p x r lt in absurd (let z : true ≡ false = sym t ∙ s in cc)
    go (inr r) = r

rest_alike : (logs : List Values) (p : ℕ) (f g tail : List ℕ) (x : Cond) → p ≤ length f → p ≤ length g
    → IsAlike p f g x → rest logs p (take p f ++ tail) x ≡ rest logs p (take p g ++ tail) x
rest_alike logs p f g tail x l k h = go (is_settled p x) refl
  where
    go : (b : Bool) → is_settled p x ≡ b → (b || cond_holds (value_at logs) (take p f ++ tail) x)
        ≡ (b || cond_holds (value_at logs) (take p g ++ tail) x)
    go true s = refl
    go false s =
        cond_same (value_at logs) (take p f ++ tail) (take p g ++ tail) x
        (alike_at p f g tail x.reader x.writer l k h.0 (late p x s) (cases_lt x.reader p))
        (alike_at p f g tail x.writer x.reader l k h.1 (late' p x s) (cases_lt x.writer p))

each_alike : (logs : List Values) (p : ℕ) (f g tail : List ℕ) (xs : List Cond) → p ≤ length f → p ≤ length g
    → Each (IsAlike p f g) xs
    → Each (λ x. rest logs p (take p f ++ tail) x ≡ rest logs p (take p g ++ tail) x) xs
each_alike logs p f g tail [] l k h = tt
each_alike logs p f g tail (x ∷ xs) l k h =
    (rest_alike logs p f g tail x l k h.0, each_alike logs p f g tail xs l k h.1)

-- the iterations that are kept are those of the frame
alike_kept : (p : ℕ) (its f g : List ℕ) (xs : List Cond) → p ≤ length f
    → ((q : ℕ) → q < length f → slice_index its q ≡ slice_index f q)
    → Each (IsAlike p its g) xs → Each (IsAlike p f g) xs
alike_kept p its f g [] l same h = tt
alike_kept p its f g (x ∷ xs) l same h = (
  (
    λ lt le. sym (same x.reader (omega arith)) ∙ h.0.0 lt le,
    λ lt le. sym (same x.writer (omega arith)) ∙ h.0.1 lt le,
  ),
  alike_kept p its f g xs l same h.1,
)

pub alike_holds : (c : Conditions) (logs : List Values) (n p : ℕ) (f g its : List ℕ) (before alive : List Bool) (r : ℕ)
    → p ≤ length f → length f ≡ length g → Alive c logs p f before → Alive c logs p g alive
    → ((q : ℕ) → q < length f → slice_index its q ≡ slice_index f q)
    → AreAlike c p before alive its g → block_holds c logs n p f r ≡ block_holds c logs n p g r
alike_holds c logs n p f g its before alive r l long a b same alike =
    let tail = frame_of n (length f - p) r in
    let here : frame_holds c logs (take p f ++ tail) ≡ frame_holds c logs (take p g ++ tail) =
    any_alike (list_all (cond_holds (value_at logs) (take p f ++ tail)))
    (list_all (cond_holds (value_at logs) (take p g ++ tail))) c.ends c.conds
    (λ j lt. conj tail j lt (get_or alive j true) refl) in
    here ∙ ap (λ k. frame_holds c logs (take p g ++ frame_of n (k - p) r)) long
  where
    conj : (tail : List ℕ) (j : ℕ) → j < length c.ends → (v : Bool) → get_or alive j true ≡ v
        → list_all (cond_holds (value_at logs) (take p f ++ tail)) (conjunction_of c.ends c.conds j)
        ≡ list_all (cond_holds (value_at logs) (take p g ++ tail)) (conjunction_of c.ends c.conds j)
    conj tail j lt true e =
        let xs = conjunction_of c.ends c.conds j in
        let k : p ≤ length g = omega arith in
        let one : list_all (so_far logs p f) xs ≡ list_all (so_far logs p g) xs = sym (a j true lt)
        ∙ (alike j true lt).0 ∙ b j true lt in
        let two = all_same_each (rest logs p (take p f ++ tail)) (rest logs p (take p g ++ tail)) xs
        (each_alike logs p f g tail xs l k
        (alike_kept p its f g xs l same (recursion_from_All (IsAlike p its g) xs ((alike j true lt).1 e)))) in
        splits logs p f tail xs l ∙ ap (λ z. z && list_all (rest logs p (take p f ++ tail)) xs) one
        ∙ ap (λ z. list_all (so_far logs p g) xs && z) two ∙ sym (splits logs p g tail xs k)
    conj tail j lt false e =
        let xs = conjunction_of c.ends c.conds j in
        let k : p ≤ length g = omega arith in
        let one : list_all (so_far logs p f) xs ≡ false = sym (a j true lt) ∙ (alike j true lt).0 ∙ e in
        let two : list_all (so_far logs p g) xs ≡ false = sym (b j true lt) ∙ e in
        splits logs p f tail xs l ∙ ap (λ z. z && list_all (rest logs p (take p f ++ tail)) xs) one
        ∙ sym (splits logs p g tail xs k ∙ ap (λ z. z && list_all (rest logs p (take p g ++ tail)) xs) two)

-- Numbers of frames in a block.

div_add_mul : (a d s : ℕ) → 0 < d → (a * d + s) / d ≡ a + s / d
div_add_mul a d s some =
    let whole = div-add-mod' s d in
    let e : a * d + s ≡ (a + s / d) * d + s % d = omega arith in
    ap (λ x. x / d) e ∙ div-mul-add (a + s / d) d (s % d) (mod_below s d some)

mod_add_mul : (a d s : ℕ) → 0 < d → (a * d + s) % d ≡ s % d
mod_add_mul a d s some =
    let whole = div-add-mod' s d in
    let e : a * d + s ≡ (a + s / d) * d + s % d = omega arith in
    ap (λ x. x % d) e ∙ mod-mul-add (a + s / d) d (s % d) (mod_below s d some)

pub pow_some : (n k : ℕ) → 1 ≤ n → 0 < n ^ k
pow_some n zero h = let e = pow-zero n in omega arith
pow_some n (suc k) h =
    let p = pow_some n k h in let e = pow-suc n k in let m = mul-le 1 1 (n ^ k) n (omega arith) h in omega arith

-- whole blocks in front change nothing of the lower threads
frame_below : (n k a s : ℕ) → 1 ≤ n → frame_of n k (a * n ^ k + s) ≡ frame_of n k s
frame_below n zero a s some = refl
frame_below n (suc k) a s some =
    let d = n ^ k in
    let z = pow_some n k some in
    let e : a * n ^ suc k + s ≡ (a * n) * d + s = let w = pow-suc n k in
    let v : a * n ^ suc k ≡ a * (d * n) = ap (λ x. a * x) w in omega arith in
    let head : (a * n ^ suc k + s) / d % n ≡ s / d % n = ap (λ x. x / d % n) e
    ∙ ap (λ x. x % n) (div_add_mul (a * n) d s z) ∙ mod_add_mul a n (s / d) some in
    ap (λ x. x ∷ frame_of n k (a * n ^ suc k + s)) head
    ∙ ap (λ x. (s / d % n) ∷ x) (ap (frame_of n k) e ∙ frame_below n k (a * n) s some)

frame_step : (n k i s : ℕ) → i < n → s < n ^ k → frame_of n (suc k) (i * n ^ k + s) ≡ i ∷ frame_of n k s
frame_step n k i s lt low =
    let head : (i * n ^ k + s) / n ^ k % n ≡ i = ap (λ x. x % n) (div-mul-add i (n ^ k) s low)
    ∙ (let e : i ≡ 0 * n + i = omega arith in ap (λ x. x % n) e ∙ mod-mul-add 0 n i lt) in
    ap (λ x. x ∷ frame_of n k (i * n ^ k + s)) head
    ∙ ap (λ x. i ∷ x) (frame_below n k i s (omega arith))

-- a frame of a block is one of the block of one thread more
pub inner_frame : (n p i s k : ℕ) (f : List ℕ) → p < length f → length f - p ≡ suc k → i < n → s < n ^ k
    → take p f ++ frame_of n (length f - p) (i * n ^ k + s)
    ≡ take (p + 1) (set f p i) ++ frame_of n (length (set f p i) - (p + 1)) s
inner_frame n p i s k f lt e below low =
    let long : length (set f p i) - (p + 1) ≡ k = let l = length-set f p i in omega arith in
    ap (λ x. take p f ++ frame_of n x (i * n ^ k + s)) e
    ∙ ap (λ x. take p f ++ x) (frame_step n k i s below low)
    ∙ sym (append_assoc (take p f) (i ∷ []) (frame_of n k s))
    ∙ ap (λ x. x ++ frame_of n k s) (sym (take_more_set f p i lt))
    ∙ ap (λ x. take (p + 1) (set f p i) ++ frame_of n x s) (sym long)

pub inner_count : (c : Conditions) (logs : List Values) (n p i k start some at : ℕ) (f : List ℕ) → p < length f
    → length f - p ≡ suc k → i < n → start + some ≤ n ^ k → i * n ^ k + start ≡ at
    → count_by (block_holds c logs n p f) (range_with_len at some)
    ≡ count_by (block_holds c logs n (p + 1) (set f p i)) (range_with_len start some)
inner_count c logs n p i k start some at f lt e below few here =
    count_moved (block_holds c logs n p f) (block_holds c logs n (p + 1) (set f p i)) at start some
    (λ m l.
    let x : at + m ≡ i * n ^ k + (start + m) = omega arith in
    ap (block_holds c logs n p f) x
    ∙ ap (frame_holds c logs) (inner_frame n p i (start + m) k f lt e below (omega arith)))

-- a frame of the last row
pub last_frame : (n p r : ℕ) (f : List ℕ) → p + 1 ≡ length f → r < n
    → take p f ++ frame_of n (length f - p) r ≡ with_last f r
last_frame n p r f e lt =
    let one : length f - p ≡ suc 0 = omega arith in
    let q : length f - 1 ≡ p = omega arith in
    let head : r / n ^ 0 % n ≡ r = ap (λ d. r / d % n) (pow-zero n) ∙ ap (λ x. x % n) (div-one r)
    ∙ (let z : r ≡ 0 * n + r = omega arith in ap (λ x. x % n) z ∙ mod-mul-add 0 n r lt) in
    let end : drop (suc p) f ≡ [] = drop_end p f (omega arith) in
    ap (λ k. take p f ++ frame_of n k r) one ∙ ap (λ x. take p f ++ x ∷ []) head
    ∙ sym (ap (λ k. set f k r) q ∙ set_split f p r (omega arith) ∙ ap (λ x. take p f ++ r ∷ x) end)
  where
    drop_end : (p : ℕ) (f : List ℕ) → length f ≤ suc p → drop (suc p) f ≡ []
    drop_end p [] h = refl
    drop_end zero (x ∷ []) h = refl
    drop_end zero (x ∷ y ∷ f) h = absurd (omega arith)
    drop_end (suc p) (x ∷ f) h = drop_end p f (omega arith)

-- What loops keep.

pub get_any : {X : Type 0} (xs : List X) (i : ℕ) (d e : X) → i < length xs → get_or xs i d ≡ get_or xs i e
get_any [] i d e l = absurd (omega arith)
get_any (x ∷ xs) zero d e l = refl
get_any (x ∷ xs) (suc i) d e l = get_any xs i d e (omega arith)

pub settled_more : (c : Conditions) (by : List ℕ) (i most : ℕ) → i < length by
    → All (λ (x : Cond). (x.reader < most) × (x.writer < most)) (conjunction_of c.ends c.conds i)
    → ((j d : ℕ) → j < i → All (λ (x : Cond). (x.reader < get_or by j d) × (x.writer < get_or by j d))
    (conjunction_of c.ends c.conds j))
    → (j d : ℕ) → j < i + 1 → All (λ (x : Cond). (x.reader < get_or (set by i most) j d)
    × (x.writer < get_or (set by i most) j d)) (conjunction_of c.ends c.conds j)
settled_more c by i most l here before j d lt = go (cases_lt j i)
  where
    go : (j < i) ⊎ (i ≤ j) → All (λ (x : Cond). (x.reader < get_or (set by i most) j d)
        × (x.writer < get_or (set by i most) j d)) (conjunction_of c.ends c.conds j)
    go (inl low) =
        let e : get_or (set by i most) j d ≡ get_or by j d = get_or-set_other by i j most d (λ q. omega arith) in
        rw e (before j d low)
    go (inr high) =
        let q : j ≡ i = omega arith in
        let e : get_or (set by i most) j d ≡ most = get_or-set_at by i j most d q l in
        rw (e, q) here

pub left_now : (logs : List Values) (p : ℕ) (f : List ℕ) (c : Conditions) (alive : List Bool) (i : ℕ) (v d : Bool)
    → i < length alive
    → v ≡ (get_or alive i d && list_all (test_now logs p f) (conjunction_of c.ends c.conds i))
    → get_or alive i d ≡ list_all (so_far logs p f) (conjunction_of c.ends c.conds i)
    → ((j : ℕ) (e : Bool) → j < i → get_or alive j e
    ≡ list_all (so_far logs (p + 1) f) (conjunction_of c.ends c.conds j))
    → (j : ℕ) (e : Bool) → j < i + 1 → get_or (set alive i v) j e
    ≡ list_all (so_far logs (p + 1) f) (conjunction_of c.ends c.conds j)
left_now logs p f c alive i v d l is here before j e lt = go (cases_lt j i)
  where
    go : (j < i) ⊎ (i ≤ j) → get_or (set alive i v) j e
        ≡ list_all (so_far logs (p + 1) f) (conjunction_of c.ends c.conds j)
    go (inl low) = get_or-set_other alive i j v e (λ q. omega arith) ∙ before j e low
    go (inr high) =
        let q : j ≡ i = omega arith in
        let xs = conjunction_of c.ends c.conds i in
        get_or-set_at alive i j v e q l ∙ is ∙ ap (λ b. b && list_all (test_now logs p f) xs) here
        ∙ sym (all_more_now logs p f xs)
        ∙ ap (λ k. list_all (so_far logs (p + 1) f) (conjunction_of c.ends c.conds k)) (sym q)

pub left_later : (logs : List Values) (p : ℕ) (f : List ℕ) (c : Conditions) (alive : List Bool) (i : ℕ) (v : Bool)
    → ((j : ℕ) (e : Bool) → i ≤ j → j < length c.ends → get_or alive j e
    ≡ list_all (so_far logs p f) (conjunction_of c.ends c.conds j))
    → (j : ℕ) (e : Bool) → i + 1 ≤ j → j < length c.ends → get_or (set alive i v) j e
    ≡ list_all (so_far logs p f) (conjunction_of c.ends c.conds j)
left_later logs p f c alive i v before j e le lt =
    get_or-set_other alive i j v e (λ q. omega arith) ∙ before j e (omega arith) lt

pub kept_more : (its f : List ℕ) (i v : ℕ) → i < length its → v ≡ slice_index f i
    → ((q : ℕ) → q < i → slice_index its q ≡ slice_index f q)
    → (q : ℕ) → q < i + 1 → slice_index (set its i v) q ≡ slice_index f q
kept_more its f i v l is before q lt = go (cases_lt q i)
  where
    go : (q < i) ⊎ (i ≤ q) → slice_index (set its i v) q ≡ slice_index f q
    go (inl low) = get_or-set_other its i q v 0 (λ e. omega arith) ∙ before q low
    go (inr high) =
        let e : q ≡ i = omega arith in
        get_or-set_at its i q v 0 e l ∙ is ∙ ap (slice_index f) (sym e)

pub alike_more : (c : Conditions) (p : ℕ) (left alive : List Bool) (before frame : List ℕ) (i : ℕ) (a b : Bool)
    → i < length left → i < length alive
    → ((get_or left i a ≡ get_or alive i b)
    × (get_or alive i b ≡ true → All (IsAlike p before frame) (conjunction_of c.ends c.conds i)))
    → ((j : ℕ) (d : Bool) → j < i → (get_or left j d ≡ get_or alive j d)
    × (get_or alive j d ≡ true → All (IsAlike p before frame) (conjunction_of c.ends c.conds j)))
    → (j : ℕ) (d : Bool) → j < i + 1 → (get_or left j d ≡ get_or alive j d)
    × (get_or alive j d ≡ true → All (IsAlike p before frame) (conjunction_of c.ends c.conds j))
alike_more c p left alive before frame i a b l m here below j d lt = go (cases_lt j i)
  where
    go : (j < i) ⊎ (i ≤ j) → (get_or left j d ≡ get_or alive j d)
        × (get_or alive j d ≡ true → All (IsAlike p before frame) (conjunction_of c.ends c.conds j))
    go (inl low) = below j d low
    go (inr high) =
        let e : j ≡ i = omega arith in
        let x : get_or left j d ≡ get_or left i a = ap (λ k. get_or left k d) e ∙ get_any left i d a l in
        let y : get_or alive j d ≡ get_or alive i b = ap (λ k. get_or alive k d) e ∙ get_any alive i d b m in (
          x ∙ here.0 ∙ sym y,
          λ t. rw e (here.1 (sym y ∙ t)),
        )
