-- Which of sixty-four values pass, where all are on one side of a bound, and the row that one condition alone decides.
use Rattle.std.proofs.Common.{◌≡◌, ℕ, ◌+◌, ◌-◌, ◌%◌, ◌<◌, ◌≤◌, ◌==◌, ◌&&◌, ◌||◌, ◌⊎◌, inl, inr, All, Bool, true, false, cond, not, List, [], ◌∷◌, filter, get_or, length, max, min, nat_lt, slice_index, refl, sym, ap, ◌∙◌, arith, le-leb, le-ltb, lt-ltb, subst}
use Rattle.std.proofs.lemmas.Bool.{eqb-false, eqb-true, lt-leb, ne_eqb}
use Rattle.std.proofs.lemmas.List.{get_or_default}
use Rattle.std.proofs.lemmas.List.Elements.{filter_passes}
use Rattle.std.specs.List.{list_all}
use Rattle.x86_subset.specs.Conjunctions.{conjunction_of}
use Rattle.load_log.specs.Values.{Values, value_at}
use Rattle.outcome_conv.specs.declared.cond.Cond.{Cond}
use Rattle.outcome_conv.specs.declared.cond.CondKind.{CondKind}
use Rattle.outcome_conv.specs.declared.cond.CondKind.TheVariants.{AtLeast, Below, Exact}
use Rattle.outcome_conv.specs.Conditions.{Conditions}
use Rattle.outcome_conv.specs.Conds.{kind_holds}
use Rattle.outcome_conv.specs.Holds.{iteration_in}
use Rattle.frame_count.specs.Count.{frame_holds, with_last}
use Rattle.frame_count.specs.Known.{IsAlone, Knows}
use Rattle.frame_count.specs.Row.{Leaves, bound_of, holds_along, is_within, kind_test, left_along, mask_along, residue_fits}
use Rattle.frame_count.specs.declared.known.Word.{Word}
use Rattle.frame_count.specs.declared.stretch.Stretch.{Stretch}
use Rattle.frame_count.proofs.Along.{along_false, along_true}
use Rattle.frame_count.proofs.ByKind.{test_holds}
use Rattle.frame_count.proofs.Conjoining.{any_one}
use Rattle.frame_count.proofs.Reaches.{left_by_reader, left_row, left_settled, moves, stays}
use Rattle.frame_count.proofs.Thresholds.{along_within, and_true}

none_pass : (p : ℕ → Bool) (at : ℕ) → ((i : ℕ) → i < 64 → p (at + i) ≡ false) → 0 ≡ mask_along p at 64
none_pass p at h = sym (along_within p (λ m. false) at 64 h ∙ along_false at 64)

all_pass : (p : ℕ → Bool) (at : ℕ) → ((i : ℕ) → i < 64 → p (at + i) ≡ true) → 18446744073709551615 ≡ mask_along p at 64
all_pass p at h =
    let e = along_within p (λ m. true) at 64 h in
    let all = along_true at 64 in
    omega arith

pub at_least_by_side : (k a : ℕ) (value : ℕ → ℕ) (at bound w : ℕ) (known : Word) → Knows (AtLeast k a) value at known
    → ((known.most < bound) × (w ≡ 0)) ⊎ ((bound < known.least) × (w ≡ known.fits))
    → w ≡ mask_along (λ m. kind_test (AtLeast k a) (value m) bound) at 64
at_least_by_side k a value at bound w known knows (inl h) =
    h.1
    ∙ none_pass (λ m. kind_test (AtLeast k a) (value m) bound) at
    (λ i lt. let most = knows.most (at + i) (omega arith) (omega arith) in
    ap (λ b. b && (value (at + i) % k == a % k)) (lt-leb bound (value (at + i)) (let up = h.0 in omega arith)))
at_least_by_side k a value at bound w known knows (inr h) =
    h.1
    ∙ knows.fits
    ∙ sym (along_within (λ m. kind_test (AtLeast k a) (value m) bound) (λ m. value m % k == a % k) at 64
    (λ i lt. let least = knows.least (at + i) (omega arith) (omega arith) in
    ap (λ b. b && (value (at + i) % k == a % k)) (le-leb bound (value (at + i)) (let low = h.0 in omega arith))))

pub below_by_side : (k : ℕ) (value : ℕ → ℕ) (at bound w : ℕ) (known : Word) → Knows (Below k) value at known
    → ((known.most < bound) × (w ≡ 18446744073709551615)) ⊎ ((bound < known.least) × (w ≡ 0))
    → w ≡ mask_along (λ m. kind_test (Below k) (value m) bound) at 64
below_by_side k value at bound w known knows (inl h) =
    h.1
    ∙ all_pass (λ m. kind_test (Below k) (value m) bound) at
    (λ i lt. let most = knows.most (at + i) (omega arith) (omega arith) in let up = h.0 in
    lt-ltb (value (at + i)) bound (omega arith))
below_by_side k value at bound w known knows (inr h) =
    h.1
    ∙ none_pass (λ m. kind_test (Below k) (value m) bound) at
    (λ i lt. let least = knows.least (at + i) (omega arith) (omega arith) in let low = h.0 in
    le-ltb (value (at + i)) bound (omega arith))

pub exact_by_side : (k a : ℕ) (value : ℕ → ℕ) (at bound w : ℕ) (known : Word) → Knows (Exact k a) value at known
    → ((known.most < bound) × (w ≡ 0)) ⊎ ((bound < known.least) × (w ≡ 0))
    → w ≡ mask_along (λ m. kind_test (Exact k a) (value m) bound) at 64
exact_by_side k a value at bound w known knows (inl h) =
    h.1
    ∙ none_pass (λ m. kind_test (Exact k a) (value m) bound) at
    (λ i lt. let most = knows.most (at + i) (omega arith) (omega arith) in let up = h.0 in
    ne_eqb (value (at + i)) bound (λ e. omega arith))
exact_by_side k a value at bound w known knows (inr h) =
    h.1
    ∙ none_pass (λ m. kind_test (Exact k a) (value m) bound) at
    (λ i lt. let least = knows.least (at + i) (omega arith) (omega arith) in let low = h.0 in
    ne_eqb (value (at + i)) bound (λ e. omega arith))

-- the same of other values that agree
pub knows_moved : (kind : CondKind) (f g : ℕ → ℕ) (at : ℕ) (w : Word) → ((i : ℕ) → i < 64 → f (at + i) ≡ g (at + i))
    → Knows kind f at w → Knows kind g at w
knows_moved kind f g at w h knows =
    let same : (m : ℕ) → at ≤ m → m < at + 64 → f m ≡ g m = λ m low lt. let k : at + (m - at) ≡ m = omega arith in
    ap f (sym k) ∙ h (m - at) (omega arith) ∙ ap g k in
    record {
      least = λ m low lt. (let e = same m low lt in let l = knows.least m low lt in omega arith);
      most = λ m low lt. (let e = same m low lt in let l = knows.most m low lt in omega arith);
      fits =
          knows.fits ∙ along_within (λ m. residue_fits kind (f m)) (λ m. residue_fits kind (g m)) at 64
          (λ i lt. ap (residue_fits kind) (h i lt));
    }

-- what a test leaves out passes, so the others decide
filter_step : {X : Type 0} (p q : X → Bool) (x : X) (xs : List X) → (q x ≡ false → p x ≡ true) → (b : Bool) → q x ≡ b
    → (p x && list_all p xs) ≡ list_all p (cond b (x ∷ xs) xs)
filter_step p q x xs h true e = refl
filter_step p q x xs h false e = ap (λ b. b && list_all p xs) (h e)

all_filter : {X : Type 0} (p q : X → Bool) (xs : List X) → ((x : X) → q x ≡ false → p x ≡ true)
    → list_all p xs ≡ list_all p (filter q xs)
all_filter p q [] h = refl
all_filter p q (x ∷ xs) h = ap (λ b. p x && b) (all_filter p q xs h) ∙ filter_step p q x (filter q xs) (h x) (q x) refl

-- the condition that is alone is on what this thread logged
pub alone_reads : (conds : List Cond) (t : ℕ) (c : Cond) → IsAlone conds t c → (c.reader == t) ≡ true
alone_reads conds t c alone =
    subst (All (λ (x : Cond). (x.reader == t) ≡ true)) alone.only
    (filter_passes (λ (x : Cond). x.reader == t) conds) 0 c (omega arith)

-- it is what a stretch leaves of the row
pub alone_left : (logs : List Values) (frame : List ℕ) (s : Stretch) (m : ℕ) (conds : List Cond) (c : Cond)
    → s.row ≡ true → IsAlone conds (length frame - 1) c
    → list_all (left_along logs frame s m) conds ≡ holds_along logs frame m c
alone_left logs frame s m conds c row alone =
    let last : ℕ = length frame - 1 in
    all_filter (left_along logs frame s m) (λ (x : Cond). x.reader == last) conds
    (λ x e. left_by_reader (x.reader == last) (x.writer == last) s.row s.own (holds_along logs frame m x) _ e)
    ∙ ap (list_all (left_along logs frame s m)) alone.only
    ∙ and_true (left_along logs frame s m c)
    ∙ left_row (c.reader == last) (c.writer == last) s.row s.own (holds_along logs frame m c) _
    (alone_reads conds last c alone) alone.writer
    ∙ ap (λ b. not b || holds_along logs frame m c) row

-- a condition on what the last thread logged of another's stores, by its value and the bound of the row
pub tested_along : (logs : List Values) (frame : List ℕ) (m : ℕ) (c : Cond) → 1 ≤ length frame
    → (c.reader == length frame - 1) ≡ true → (c.writer == length frame - 1) ≡ false
    → kind_test c.kind (value_at logs c.reader c.column m) (bound_of c.kind (slice_index frame c.writer))
    ≡ holds_along logs frame m c
tested_along logs frame m c some reader writer =
    let last = eqb-true _ _ reader in
    let values = value_at logs c.reader c.column in
    test_holds c.kind (values m) (slice_index frame c.writer)
    ∙ sym (ap (λ i. kind_holds c.kind (values i) (iteration_in (with_last frame m) c.writer))
    (moves frame c.reader m last (omega arith))
    ∙ ap (kind_holds c.kind (values m)) (stays frame c.writer m (eqb-false _ _ writer)))

-- so it decides a row where the stretch of the one conjunction is
pub alone_decides : (c : Conditions) (logs : List Values) (frame : List ℕ) (s : Stretch) (n m : ℕ) (x : Cond)
    → length c.ends ≡ 1 → 1 ≤ length frame → length frame ≡ length logs
    → Leaves n logs frame (conjunction_of c.ends c.conds 0) s → m < n → is_within s m ≡ true → s.row ≡ true
    → IsAlone (conjunction_of c.ends c.conds 0) (length logs - 1) x
    → kind_test x.kind (value_at logs x.reader x.column m) (bound_of x.kind (slice_index frame x.writer))
    ≡ frame_holds c logs (with_last frame m)
alone_decides c logs frame s n m x one some long leaves lt within row alone =
    let group = conjunction_of c.ends c.conds 0 in
    let here : IsAlone group (length frame - 1) x = subst (λ k. IsAlone group (k - 1) x) (sym long) alone in
    tested_along logs frame m x some (alone_reads group (length frame - 1) x here) here.writer
    ∙ sym (any_one (list_all (holds_along logs frame m)) c.ends c.conds one
    ∙ leaves m lt
    ∙ ap (λ b. b && list_all (left_along logs frame s m) group) within
    ∙ alone_left logs frame s m group x row here)

-- an iteration between bounds of the first stretch is in it, and what that leaves
pub first_within : (xs : List Stretch) (d e : Stretch) (from to a b m : ℕ) → 0 < length xs
    → a ≡ max (get_or xs 0 d).from from → b ≡ min (get_or xs 0 d).to to → a ≤ m → m < b
    → is_within (get_or xs 0 e) m ≡ true
first_within xs d e from to a b m some low high le lt =
    let s = get_or xs 0 d in
    ap (λ (s : Stretch). is_within s m) (get_or_default xs 0 e d some)
    ∙ ap (λ b. b && nat_lt m s.to) (le-leb s.from m (omega arith)) ∙ lt-ltb m s.to (omega arith)

is_row : (b : Bool) → not b ≡ false → b ≡ true
is_row true e = refl
is_row false e = sym e

pub first_row : (xs : List Stretch) (d e : Stretch) → 0 < length xs → not (get_or xs 0 d).row ≡ false
    → (get_or xs 0 e).row ≡ true
first_row xs d e some row = ap (λ (s : Stretch). s.row) (get_or_default xs 0 e d some) ∙ is_row (get_or xs 0 d).row row

-- where nothing is left to test of the one conjunction, its stretch decides
pub settled_decides : (c : Conditions) (logs : List Values) (frame : List ℕ) (s : Stretch) (n m : ℕ) → length c.ends ≡ 1
    → Leaves n logs frame (conjunction_of c.ends c.conds 0) s → m < n
    → (s.row ≡ false) × (s.own ≡ false) → is_within s m ≡ frame_holds c logs (with_last frame m)
settled_decides c logs frame s n m one leaves lt settled =
    sym (any_one (list_all (holds_along logs frame m)) c.ends c.conds one
    ∙ leaves m lt
    ∙ ap (λ b. is_within s m && b) (left_settled logs frame s m (conjunction_of c.ends c.conds 0) settled.0 settled.1)
    ∙ and_true (is_within s m))
