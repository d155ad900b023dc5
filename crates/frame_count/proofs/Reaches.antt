-- What the other threads' iterations settle of a condition along a row.
use Rattle.std.proofs.Common.{◌≡◌, ◌≢◌, slice_set, ℕ, zero, suc, ◌+◌, ◌-◌, ◌*◌, ◌<◌, ◌≤◌, ◌==◌, ◌&&◌, ◌||◌, ◌⊎◌, inl, inr, Bool, true, false, not, List, [], ◌∷◌, get_or, length, max, min, nat_le, nat_lt, slice_index, take, refl, sym, ap, ◌∙◌, arith, le-leb, le-ltb, lt-ltb, subst}
use Rattle.std.proofs.lemmas.Bool.{and_parts, both_ways, cases_Bool, cases_lt, eqb-true, leb-true, lt-leb, ltb-true}
use Rattle.std.proofs.lemmas.List.{get_or-set_other, get_or-set_same, get_or-take, length-take}
use Rattle.std.proofs.lemmas.Nat.{mul-le}
use Rattle.load_log.specs.Values.{AreWhole, Values, log_at, value_at}
use Rattle.outcome_conv.specs.declared.cond.Cond.{Cond}
use Rattle.outcome_conv.specs.Conds.{kind_holds}
use Rattle.outcome_conv.specs.Holds.{iteration_in}
use Rattle.std.specs.List.{list_all}
use Rattle.x86_subset.specs.Conjunctions.{conjunction_of}
use Rattle.outcome_conv.specs.Conditions.{Conditions}
use Rattle.frame_count.specs.Count.{frame_holds, with_last}
use Rattle.frame_count.specs.declared.stretch.Stretch.{Stretch}
use Rattle.frame_count.specs.Row.{Leaves, holds_along, is_within, left_along, own_along, row_along}
use Rattle.frame_count.proofs.Conjoining.{any_none}
use Rattle.frame_count.proofs.Thresholds.{and_false}

-- iterations of a frame

pub at_or : (frame : List ℕ) (t : ℕ) → iteration_in frame t ≡ slice_index frame t
at_or [] t = refl
at_or (x ∷ xs) zero = refl
at_or (x ∷ xs) (suc t) = at_or xs t

pub stays_at : (frame : List ℕ) (p t m : ℕ) → t ≢ p → iteration_in (slice_set frame p m) t ≡ slice_index frame t
stays_at frame p t m other = at_or (slice_set frame p m) t ∙ get_or-set_other frame p t m 0 other

pub moves_at : (frame : List ℕ) (p t m : ℕ) → t ≡ p → p < length frame → iteration_in (slice_set frame p m) t ≡ m
moves_at frame p t m e lt =
    at_or (slice_set frame p m) t ∙ ap (slice_index (slice_set frame p m)) e ∙ get_or-set_same frame p m 0 lt

pub stays : (frame : List ℕ) (t m : ℕ) → t ≢ length frame - 1 → iteration_in (with_last frame m) t ≡ slice_index frame t
stays frame t m other = stays_at frame (length frame - 1) t m other

pub moves : (frame : List ℕ) (t m : ℕ) → t ≡ length frame - 1 → t < length frame
    → iteration_in (with_last frame m) t ≡ m
moves frame t m e lt = moves_at frame (length frame - 1) t m e (omega arith)

-- whole logs

pub whole_at : (n : ℕ) (logs : List Values) (log : Values) (t : ℕ) → AreWhole n logs → t < length logs
    → log ≡ log_at logs t → length log.values ≡ n * log.columns
whole_at n logs log t w l e =
    subst (λ (log : Values). length log.values ≡ n * log.columns) (sym e)
    (w t (record { columns = 0; values = []; spare = 0 }) l)

pub inside : (n k m column : ℕ) → m < n → column < k → m * k + column < n * k
inside n k m column l h = let e = mul-le (m + 1) k n k (omega arith) (omega arith) in omega arith

in_column_by : (m k column len x : ℕ) → (m < len) ⊎ (len ≤ m) → m * k + column < x → x ≤ len * k → m < len
in_column_by m k column len x (inl l) h r = l
in_column_by m k column len x (inr l) h r = let e = mul-le len k m k l (omega arith) in absurd (omega arith)

pub in_column : (m k column len x : ℕ) → m * k + column < x → x ≤ len * k → m < len
in_column m k column len x h r = in_column_by m k column len x (cases_lt m len) h r

-- the log has a value of the column in each iteration
pub value_there : (n : ℕ) (logs : List Values) (log : Values) (t column m : ℕ) → AreWhole n logs → t < length logs
    → column < (log_at logs t).columns → log ≡ log_at logs t → m < n
    → m * log.columns + column < length log.values
value_there n logs log t column m w l k e lt =
    let long = whole_at n logs log t w l e in
    let some : column < log.columns = let same = ap (λ (log : Values). log.columns) e in omega arith in
    let there = inside n log.columns m column lt some in
    omega arith

-- a column of the log has its values
pub column_is : (n : ℕ) (logs : List Values) (log : Values) (words : List ℕ) (t column m : ℕ) → AreWhole n logs
    → t < length logs → column < (log_at logs t).columns → log ≡ log_at logs t
    → ((i : ℕ) → i * log.columns + column < length log.values
    → slice_index words i ≡ slice_index log.values (i * log.columns + column)) → m < n
    → slice_index words m ≡ value_at logs t column m
column_is n logs log words t column m w l k e same lt =
    same m (value_there n logs log t column m w l k e lt)
    ∙ ap (λ (log : Values). slice_index log.values (m * log.columns + column)) e

-- Booleans

-- what is left of a test that is a place and a rest
pub settles : (h w r s : Bool) → h ≡ (w && r) → (s ≡ false → r ≡ true) → h ≡ (w && (not s || h))
settles h true r false e f = e ∙ f refl
settles h false r false e f = e
settles h true r true e f = refl
settles h false r true e f = e

-- what a stretch tells of a test where nothing is left of it, where it is left of the row, and of the own
pub told_settled : (h w s t : Bool) → h ≡ w → s ≡ false → t ≡ false → h ≡ (w && (not (s || t) || h))
told_settled h w s t e f g = grind arith

pub told_row : (h w s t : Bool) → h ≡ (w && (not s || h)) → t ≡ false → h ≡ (w && (not (s || t) || h))
told_row h w s t e f = grind arith

pub told_own : (h w s t : Bool) → w ≡ true → t ≡ true → h ≡ (w && (not (s || t) || h))
told_own h w s t e f = grind arith

-- the same along a row, by the condition's reader x and writer y
pub row_settled : (h w s t k l : Bool) → h ≡ w → s ≡ false → t ≡ false → h ≡ (w && ((not s || k) && (not t || l)))
row_settled h w s t k l e f g = grind arith

pub row_row : (h w s t x y l : Bool) → x ≡ true → y ≡ false → h ≡ (w && (not s || h)) → t ≡ false
    → h ≡ (w && ((not s || (not (x && not y) || h)) && (not t || l)))
row_row h w s t x y l e f g i = grind arith

-- one more condition of a conjunction: all of them hold where the stretch is and those left hold, r of the row's and o
-- of its own
pub one_more : (a w s t r o h v x y k l : Bool) → a ≡ (w && ((not s || r) && (not t || o))) → (a && r) ≡ a
    → (a && o) ≡ a → h ≡ (v && ((not x || k) && (not y || l))) → (h && k) ≡ h → (h && l) ≡ h
    → (a && h) ≡ ((w && v) && ((not (s || x) || (r && k)) && (not (t || y) || (o && l))))
one_more a w s t r o h v x y k l e f g i j m = grind arith

pub one_more_left : (a r h k : Bool) → (a && r) ≡ a → (h && k) ≡ h → ((a && h) && (r && k)) ≡ (a && h)
one_more_left a r h k f g = grind arith

-- a condition that holds passes what is left to test of it
pub row_left : (h b : Bool) → (h && (not b || h)) ≡ h
row_left true true = refl
row_left true false = refl
row_left false b = refl

own_left : (h k b : Bool) → (b ≡ true → k ≡ h) → (h && (not b || k)) ≡ h
own_left true k true e = e refl
own_left true k false e = refl
own_left false k b e = refl

-- a test of the last thread's own stores is the same in each row
pub own_holds : (logs : List Values) (frame : List ℕ) (m : ℕ) (c : Cond) → 1 ≤ length frame
    → (c.reader == length frame - 1 && c.writer == length frame - 1) ≡ true
    → kind_holds c.kind (value_at logs (length frame - 1) c.column m) m ≡ holds_along logs frame m c
own_holds logs frame m c some e =
    let both = and_parts (c.reader == length frame - 1) (c.writer == length frame - 1) e in
    let reader = eqb-true _ _ both.0 in
    let writer = eqb-true _ _ both.1 in
    sym (ap (λ i. kind_holds c.kind (value_at logs c.reader c.column i) (iteration_in (with_last frame m) c.writer))
    (moves frame c.reader m reader (omega arith))
    ∙ ap (kind_holds c.kind (value_at logs c.reader c.column m)) (moves frame c.writer m writer (omega arith))
    ∙ ap (λ t. kind_holds c.kind (value_at logs t c.column m) m) reader)

pub own_passes : (logs : List Values) (frame : List ℕ) (m : ℕ) (c : Cond) → 1 ≤ length frame
    → (holds_along logs frame m c && own_along logs (length frame - 1) m c) ≡ holds_along logs frame m c
own_passes logs frame m c some =
    own_left (holds_along logs frame m c) _ (c.reader == length frame - 1 && c.writer == length frame - 1)
    (own_holds logs frame m c some)

-- what is left of a condition, by the condition's reader x and writer y, and by what its stretch leaves, s of the row's
-- and t of the own
pub left_by_reader : (x y s t h k : Bool) → x ≡ false
    → ((not s || (not (x && not y) || h)) && (not t || (not (x && y) || k))) ≡ true
left_by_reader x y s t h k e = grind arith

pub left_row : (x y s t h k : Bool) → x ≡ true → y ≡ false
    → ((not s || (not (x && not y) || h)) && (not t || (not (x && y) || k))) ≡ (not s || h)
left_row x y s t h k e f = grind arith

-- all is left of a condition of the last thread's own
pub own_stretch : (h w k x y s t : Bool) → x ≡ true → y ≡ true → w ≡ true → t ≡ true → k ≡ h
    → h ≡ (w && ((not s || (not (x && not y) || h)) && (not t || (not (x && y) || k))))
own_stretch h w k x y s t e f g i j = grind arith

-- what is left of all conditions
all_true : {X : Type 0} (p : X → Bool) (xs : List X) → ((x : X) → p x ≡ true) → list_all p xs ≡ true
all_true p [] h = refl
all_true p (x ∷ xs) h = ap (λ b. b && list_all p xs) (h x) ∙ all_true p xs h

pub all_same : {X : Type 0} (p q : X → Bool) (xs : List X) → ((x : X) → p x ≡ q x) → list_all p xs ≡ list_all q xs
all_same p q [] h = refl
all_same p q (x ∷ xs) h = ap (λ b. b && list_all p xs) (h x) ∙ ap (λ b. q x && b) (all_same p q xs h)

split_one : (s t r o a b : Bool) → (((not s || r) && (not t || o)) && ((not s || a) && (not t || b)))
    ≡ ((not s || (r && a)) && (not t || (o && b)))
split_one s t r o a b = grind arith

split_none : (s t : Bool) → true ≡ ((not s || true) && (not t || true))
split_none true true = refl
split_none true false = refl
split_none false true = refl
split_none false false = refl

pub left_splits : (logs : List Values) (frame : List ℕ) (s : Stretch) (m : ℕ) (xs : List Cond)
    → list_all (left_along logs frame s m) xs ≡ ((not s.row || list_all (row_along logs frame m) xs)
    && (not s.own || list_all (own_along logs (length frame - 1) m) xs))
left_splits logs frame s m [] = split_none s.row s.own
left_splits logs frame s m (x ∷ xs) =
    ap (λ b. left_along logs frame s m x && b) (left_splits logs frame s m xs)
    ∙ split_one s.row s.own (row_along logs frame m x) (own_along logs (length frame - 1) m x)
    (list_all (row_along logs frame m) xs) (list_all (own_along logs (length frame - 1) m) xs)

-- nothing is left of a settled stretch
pub left_settled : (logs : List Values) (frame : List ℕ) (s : Stretch) (m : ℕ) (xs : List Cond) → s.row ≡ false
    → s.own ≡ false → list_all (left_along logs frame s m) xs ≡ true
left_settled logs frame s m xs e f =
    all_true (left_along logs frame s m) xs
    (λ x. ap (λ b. (not b || row_along logs frame m x) && (not s.own || own_along logs (length frame - 1) m x)) e
    ∙ ap (λ b. not b || own_along logs (length frame - 1) m x) f)

-- a stretch that leaves nothing of the row leaves the same in each row
pub left_steady : (logs : List Values) (f g : List ℕ) (s : Stretch) (m : ℕ) (xs : List Cond) → length f ≡ length g
    → s.row ≡ false → list_all (left_along logs f s m) xs ≡ list_all (left_along logs g s m) xs
left_steady logs f g s m xs long e =
    all_same (left_along logs f s m) (left_along logs g s m) xs
    (λ x.
    ap (λ b. (not b || row_along logs f m x) && (not s.own || own_along logs (length f - 1) m x)) e
    ∙ ap (λ k. not s.own || own_along logs (k - 1) m x) long
    ∙ sym (ap (λ b. (not b || row_along logs g m x) && (not s.own || own_along logs (length g - 1) m x)) e))

-- a wider stretch
pub wider : (f t g u m : ℕ) → g ≤ f → t ≤ u → (nat_le f m && nat_lt m t) ≡ true → (nat_le g m && nat_lt m u) ≡ true
wider f t g u m low high e =
    let h = and_parts (nat_le f m) (nat_lt m t) e in
    let x = leb-true f m h.0 in
    let y = ltb-true m t h.1 in
    ap (λ b. b && nat_lt m u) (le-leb g m (omega arith)) ∙ lt-ltb m u (omega arith)

-- before a stretch, and after it
pub before : (s : Stretch) (m : ℕ) → m < s.from → is_within s m ≡ false
before s m lt = ap (λ b. b && nat_lt m s.to) (lt-leb s.from m lt)

pub after : (s : Stretch) (m : ℕ) → s.to ≤ m → is_within s m ≡ false
after s m le = ap (λ b. nat_le s.from m && b) (le-ltb m s.to le) ∙ and_false (nat_le s.from m)

not_within : (s hull : Stretch) (m : ℕ) → (is_within s m ≡ true → is_within hull m ≡ true) → is_within hull m ≡ false
    → (is_within s m ≡ true) ⊎ (is_within s m ≡ false) → is_within s m ≡ false
not_within s hull m h out (inl e) = absurd (both_ways (is_within hull m) out (h e))
not_within s hull m h out (inr e) = e

-- where a stretch has nothing of a row
pub none_between : (s : Stretch) (from to m : ℕ) → from ≤ m → m < to → min s.to to ≤ max s.from from
    → (m < s.from) ⊎ (s.from ≤ m) → is_within s m ≡ false
none_between s from to m low lt none (inl h) = before s m h
none_between s from to m low lt none (inr h) = after s m (omega arith)

-- outside of a stretch round those of all conjunctions none of them holds
pub none_outside : (c : Conditions) (logs : List Values) (frame : List ℕ) (n : ℕ) (stretches : List Stretch)
    (hull : Stretch) (k : ℕ) → k ≡ length c.ends → length c.ends ≤ length stretches
    → ((j : ℕ) (d : Stretch) → j < length c.ends
    → Leaves n logs frame (conjunction_of c.ends c.conds j) (get_or stretches j d))
    → ((j m : ℕ) (d : Stretch) → j < length (take k stretches) → is_within (get_or (take k stretches) j d) m ≡ true
    → is_within hull m ≡ true)
    → (m : ℕ) → m < n → is_within hull m ≡ false → frame_holds c logs (with_last frame m) ≡ false
none_outside c logs frame n stretches hull k count each leaves round m lt out =
    any_none (list_all (holds_along logs frame m)) c.ends c.conds
    (λ j l.
    let d : Stretch = record { from = 0; to = 0; row = false; own = false } in
    let s = get_or stretches j d in
    let long = length-take k stretches in
    let same : get_or (take k stretches) j d ≡ s = get_or-take k stretches j d (omega arith) in
    let here = not_within s hull m (λ e. round j m d (omega arith) (ap (λ (x : Stretch). is_within x m) same ∙ e)) out
    (cases_Bool (is_within s m)) in
    leaves j d l m lt ∙ ap (λ b. b && list_all (left_along logs frame s m) (conjunction_of c.ends c.conds j)) here)
