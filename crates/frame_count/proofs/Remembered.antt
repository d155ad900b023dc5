-- Rows with the same stretches, where what these leave to test is the same in each row.
use Rattle.std.proofs.Common.{◌≡◌, ℕ, zero, suc, ◌+◌, ◌-◌, ◌<◌, ◌≤◌, ◌&&◌, ◌||◌, ◌∙◌, Bool, List, count_by, false, get_or, length, map, refl, sym, ap, arith}
use Rattle.std.specs.List.{list_all, list_any, range_with_len}
use Rattle.x86_subset.specs.Conjunctions.{conjunction_of, conjunctions_of}
use Rattle.load_log.specs.Values.{Values}
use Rattle.outcome_conv.specs.Conditions.{Conditions}
use Rattle.frame_count.specs.Count.{IsFrameOf, frame_holds, with_last}
use Rattle.frame_count.specs.Counted.{Counts, LeaveSteady}
use Rattle.frame_count.specs.Row.{Leaves, holds_along, is_within}
use Rattle.frame_count.specs.declared.counted.Counted.{Counted}
use Rattle.frame_count.specs.declared.stretch.Stretch.{Stretch}
use Rattle.frame_count.proofs.Counts.{count_moved}
use Rattle.frame_count.proofs.Reaches.{left_steady}

any_range_same : {A : Type 0} (p q : List A → Bool) (ends : List ℕ) (xs : List A) (a n : ℕ)
    → ((i : ℕ) → i < n → p (conjunction_of ends xs (a + i)) ≡ q (conjunction_of ends xs (a + i)))
    → list_any p (map (conjunction_of ends xs) (range_with_len a n))
    ≡ list_any q (map (conjunction_of ends xs) (range_with_len a n))
any_range_same p q ends xs a zero h = refl
any_range_same p q ends xs a (suc n) h =
    let e : a + 0 ≡ a = omega arith in
    let first : p (conjunction_of ends xs a) ≡ q (conjunction_of ends xs a) = ap (λ k. p (conjunction_of ends xs k))
    (sym e) ∙ h 0 (omega arith) ∙ ap (λ k. q (conjunction_of ends xs k)) e in
    let rest = any_range_same p q ends xs (a + 1) n
    (λ i lt. let f : a + 1 + i ≡ a + suc i = omega arith in ap (λ k. p (conjunction_of ends xs k)) f
    ∙ h (suc i) (omega arith) ∙ ap (λ k. q (conjunction_of ends xs k)) (sym f)) in
    ap (λ b. b || list_any p (map (conjunction_of ends xs) (range_with_len (a + 1) n))) first
    ∙ ap (λ b. q (conjunction_of ends xs a) || b) rest

-- two tests that agree on each conjunction
any_same : {A : Type 0} (p q : List A → Bool) (ends : List ℕ) (xs : List A)
    → ((j : ℕ) → j < length ends → p (conjunction_of ends xs j) ≡ q (conjunction_of ends xs j))
    → list_any p (conjunctions_of ends xs) ≡ list_any q (conjunctions_of ends xs)
any_same p q ends xs h =
    any_range_same p q ends xs 0 (length ends) (λ i lt. let e : 0 + i ≡ i = omega arith in
    ap (λ k. p (conjunction_of ends xs k)) e ∙ h i lt ∙ ap (λ k. q (conjunction_of ends xs k)) (sym e))

-- the same frames of two such rows pass
frames_alike : (c : Conditions) (logs : List Values) (n m : ℕ) (stretches : List Stretch) (f g : List ℕ)
    → length f ≡ length g → m < n → LeaveSteady c logs n stretches f → LeaveSteady c logs n stretches g
    → frame_holds c logs (with_last f m) ≡ frame_holds c logs (with_last g m)
frames_alike c logs n m stretches f g long lt left right =
    any_same (list_all (holds_along logs f m)) (list_all (holds_along logs g m)) c.ends c.conds
    (λ j l.
    let d : Stretch = record { from = 0; to = 0; row = false; own = false } in
    let s = get_or stretches j d in
    let xs = conjunction_of c.ends c.conds j in
    (left j d l).0 m lt ∙ ap (λ b. is_within s m && b) (left_steady logs f g s m xs long (left j d l).1)
    ∙ sym ((right j d l).0 m lt))

-- so a row's hits are those of each row with its stretches
pub counts_alike : (c : Conditions) (logs : List Values) (k : ℕ) (frame : List ℕ) (row : Counted) → row.from ≤ row.to
    → IsFrameOf logs k frame
    → ((j : ℕ) (d : Stretch) → j < length c.ends
    → Leaves row.to logs frame (conjunction_of c.ends c.conds j) (get_or row.stretches j d))
    → row.hits ≡ count_by (λ m. frame_holds c logs (with_last frame m)) (range_with_len row.from (row.to - row.from))
    → Counts c logs row
counts_alike c logs k frame row rises is leaves hits n other within is_other right =
    let left : LeaveSteady c logs row.to row.stretches frame = λ j d l. (leaves j d l, (right j d l).1) in
    let a = is.one_each in
    let b = is_other.one_each in
    let long : length frame ≡ length other = omega arith in
    hits
    ∙ count_moved (λ m. frame_holds c logs (with_last frame m))
    (λ m. frame_holds c logs (with_last other m)) row.from row.from (row.to - row.from)
    (λ i lt. frames_alike c logs row.to (row.from + i) row.stretches frame other long (omega arith) left right)
