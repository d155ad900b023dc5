-- Which spots stay open after an event, and what a read finds in its thread's store buffer.
use Rattle.std.proofs.Common.{◌≡◌, ℕ, zero, suc, ◌+◌, ◌-◌, ◌<◌, ◌≤◌, ◌==◌, Bool, true, false, cond, None, Some, [], ◌∷◌, ◌++◌, length, map, slice_get, refl, sym, ap, ◌∙◌, arith, subst, inl, inr, ◌⊎◌, add-zero, append-nil}
use Rattle.std.proofs.lemmas.Bool.{cases_eq}
use Rattle.std.proofs.lemmas.List.{map-append}
use Rattle.x86_subset.specs.Instr.{is_store_to}
use Rattle.x86_subset.specs.Test.{LitmusTest}
use Rattle.tso_machine.specs.Event.{Push}
use Rattle.tso_machine.specs.Machine.{newest, updated}
use Rattle.tso_machine.specs.Part.{Slot}
use Rattle.run_judge.proofs.Kept.{newest_push}
use Rattle.run_witness.specs.Marks.{Mark, is_storing, loop_of, waiting}
use Rattle.run_witness.specs.Stage.{slot_write}
use Rattle.run_witness.proofs.Slots.{has_item, not_store_to, waiting_none, waiting_push}
use Rattle.run_witness.proofs.Stands.{mark_at, stores_there}
use Rattle.verdict.specs.Edges.{is_access}
use Rattle.run_orders.specs.Orders.{Spot, slot_in}
use Rattle.run_orders.specs.Course.{IsOpen}
use Rattle.run_orders.proofs.Begun.{spot}
use Rattle.run_orders.proofs.Gone.{deed}

-- Open spots.

pub open_by : (test : LitmusTest) (n : ℕ) (marks : ℕ → Mark) (a : Spot) (s : Slot) → slot_in test n a ≡ Some s
    → is_access s.action ≡ true → cond (is_storing s.action) (marks a.thread).drained (marks a.thread).done ≤ a.index
    → IsOpen test n marks a
open_by test n marks a s e h l = record { slot = s; stands = e; access = h; late = l }

late_between : (b : Bool) (m r : Mark) (p : ℕ) → m.done ≤ r.done → m.drained ≤ r.drained
    → cond b r.drained r.done ≤ p → cond b m.drained m.done ≤ p
late_between true m r p h k l = omega arith
late_between false m r p h k l = omega arith

-- marks rise
pub open_back : (test : LitmusTest) (n : ℕ) (marks : ℕ → Mark) (t : ℕ) (r : Mark) (a : Spot) → (marks t).done ≤ r.done
    → (marks t).drained ≤ r.drained → IsOpen test n (updated marks t r) a → IsOpen test n marks a
open_back test n marks t r a h k o =
    open_by test n marks a o.slot o.stands o.access
    (mark_at (λ z. cond (is_storing o.slot.action) z.drained z.done ≤ a.index
    → cond (is_storing o.slot.action) (marks a.thread).drained (marks a.thread).done ≤ a.index) marks t r a.thread
    (λ e l.
    let P : ℕ → Type 0 = λ u. cond (is_storing o.slot.action) (marks u).drained (marks u).done ≤ a.index in
    subst P e (late_between (is_storing o.slot.action) (marks t) r a.index h k l)) (λ ne l. l) o.late)

-- a spot of thread t stays open by the new mark, and others stay open
pub open_stays : (test : LitmusTest) (n : ℕ) (marks : ℕ → Mark) (t : ℕ) (r : Mark) (a : Spot) (C : Type 0)
    → (o : IsOpen test n marks a)
    → (t ≡ a.thread → (cond (is_storing o.slot.action) r.drained r.done ≤ a.index) ⊎ C)
    → IsOpen test n (updated marks t r) a ⊎ C
open_stays test n marks t r a C o f = go (cases_eq t a.thread)
  where
    new : t ≡ a.thread → (cond (is_storing o.slot.action) r.drained r.done ≤ a.index) ⊎ C
        → IsOpen test n (updated marks t r) a ⊎ C
    new e (inl l) =
        inl (open_by test n (updated marks t r) a o.slot o.stands o.access
        (mark_at (λ z. cond (is_storing o.slot.action) z.drained z.done ≤ a.index) marks t r a.thread (λ k. l)
        (λ ne. absurd (ne e))))
    new e (inr c) = inr c

    go : (t ≡ a.thread) ⊎ (t ≡ a.thread → ⊥) → IsOpen test n (updated marks t r) a ⊎ C
    go (inl e) = new e (f e)
    go (inr ne) =
        inl (open_by test n (updated marks t r) a o.slot o.stands o.access
        (mark_at (λ z. cond (is_storing o.slot.action) z.drained z.done ≤ a.index) marks t r a.thread
        (λ k. absurd (ne k)) (λ k. o.late)))

-- no longer open
pub open_not : (test : LitmusTest) (n : ℕ) (marks : ℕ → Mark) (t p : ℕ) (r : Mark) → p < r.done → p < r.drained
    → IsOpen test n (updated marks t r) (spot t p) → ⊥
open_not test n marks t p r h k o =
    mark_at (λ z. cond (is_storing o.slot.action) z.drained z.done ≤ p → ⊥) marks t r t
    (λ e l. by (is_storing o.slot.action) l) (λ ne. absurd (ne refl)) o.late
  where
    by : (b : Bool) → cond b r.drained r.done ≤ p → ⊥
    by true l = omega arith
    by false l = omega arith

-- What waits.

abbrev pub NoStoreIn : LitmusTest → ℕ → ℕ → ℕ → ℕ → ℕ → Type 0
NoStoreIn test n t x from to =
    (i : ℕ) (s : Slot) → from ≤ i → i < to → slice_get (loop_of test n t) i ≡ Some s → is_store_to x s.action ≡ false

newest_by : (test : LitmusTest) (n t d place x : ℕ) (s : Slot) (b : Bool) → is_storing s.action ≡ b
    → slice_get (loop_of test n t) place ≡ Some s
    → newest x (map (slot_write test t) (waiting (loop_of test n t) d place ++ cond b (s ∷ []) []))
    ≡ cond (is_store_to x s.action) (Some (slot_write test t s).value) (newest x (map (slot_write test t)
    (waiting (loop_of test n t) d place)))
newest_by test n t d place x s false k at =
    rw (append-nil (waiting (loop_of test n t) d place), not_store_to x s.action k) refl
newest_by test n t d place x s true k at =
    let ws = waiting (loop_of test n t) d place in
    let here : ((slot_write test t s).location == x) ≡ is_store_to x s.action = sym (stores_there test n (deed t s Push)
    place s.action x at k) in
    ap (newest x) (map-append (slot_write test t) ws (s ∷ []))
    ∙ newest_push x (map (slot_write test t) ws) (slot_write test t s)
    ∙ ap (λ b. cond b (Some (slot_write test t s).value) (newest x (map (slot_write test t) ws))) here

-- one place more
newest_more : (test : LitmusTest) (n t d place x : ℕ) (s : Slot) → d ≤ place
    → slice_get (loop_of test n t) place ≡ Some s
    → newest x (map (slot_write test t) (waiting (loop_of test n t) d (place + 1)))
    ≡ cond (is_store_to x s.action) (Some (slot_write test t s).value) (newest x (map (slot_write test t)
    (waiting (loop_of test n t) d place)))
newest_more test n t d place x s l at =
    ap (λ ws. newest x (map (slot_write test t) ws)) (waiting_push (loop_of test n t) d place s l at)
    ∙ newest_by test n t d place x s (is_storing s.action) refl at

-- none of it is to x
none_in : (test : LitmusTest) (n t x d k : ℕ) → d + k ≤ length (loop_of test n t) → NoStoreIn test n t x d (d + k)
    → newest x (map (slot_write test t) (waiting (loop_of test n t) d (d + k))) ≡ None
none_in test n t x d zero l f =
    rw (add-zero d, waiting_none (loop_of test n t) d d (omega arith)) refl
none_in test n t x d (suc k) l f =
    let s = has_item (loop_of test n t) (d + k) (omega arith) in
    let e : d + k + 1 ≡ d + suc k = omega arith in
    let P : ℕ → Type 0 = λ z. newest x (map (slot_write test t) (waiting (loop_of test n t) d z)) ≡ None in
    subst P e (newest_more test n t d (d + k) x s.item (omega arith) s.stands
    ∙ (rw (f (d + k) s.item (omega arith) (omega arith) s.stands)
    (none_in test n t x d k (omega arith) (λ i a g h. f i a g (omega arith)))))

pub newest_of_none : (test : LitmusTest) (n t x d e : ℕ) → d ≤ e → e ≤ length (loop_of test n t)
    → NoStoreIn test n t x d e → newest x (map (slot_write test t) (waiting (loop_of test n t) d e)) ≡ None
newest_of_none test n t x d e l m f =
    let k = e - d in
    let s : d + k ≡ e = omega arith in
    let P : ℕ → Type 0 = λ z. newest x (map (slot_write test t) (waiting (loop_of test n t) d z)) ≡ None in
    subst P s (none_in test n t x d k (omega arith) (λ i a g h. f i a g (omega arith)))

-- the newest of it to x stands at place p
some_in : (test : LitmusTest) (n t x d p : ℕ) (s : Slot) (k : ℕ) → d ≤ p → p + 1 + k ≤ length (loop_of test n t)
    → slice_get (loop_of test n t) p ≡ Some s → is_store_to x s.action ≡ true
    → NoStoreIn test n t x (p + 1) (p + 1 + k)
    → newest x (map (slot_write test t) (waiting (loop_of test n t) d (p + 1 + k)))
    ≡ Some (slot_write test t s).value
some_in test n t x d p s zero g l at to f =
    let P : ℕ → Type 0 = λ z. newest x (map (slot_write test t) (waiting (loop_of test n t) d z))
    ≡ Some (slot_write test t s).value in
    let e : p + 1 ≡ p + 1 + 0 = omega arith in
    subst P e (newest_more test n t d p x s g at ∙ (rw to refl))
some_in test n t x d p s (suc k) g l at to f =
    let z = has_item (loop_of test n t) (p + 1 + k) (omega arith) in
    let e : p + 1 + k + 1 ≡ p + 1 + suc k = omega arith in
    let P : ℕ → Type 0 = λ y. newest x (map (slot_write test t) (waiting (loop_of test n t) d y))
    ≡ Some (slot_write test t s).value in
    subst P e (newest_more test n t d (p + 1 + k) x z.item (omega arith) z.stands
    ∙ (rw (f (p + 1 + k) z.item (omega arith) (omega arith) z.stands)
    (some_in test n t x d p s k g (omega arith) at to (λ i b u v. f i b u (omega arith)))))

pub newest_of_some : (test : LitmusTest) (n t x d p e : ℕ) (s : Slot) → d ≤ p → p < e
    → e ≤ length (loop_of test n t) → slice_get (loop_of test n t) p ≡ Some s → is_store_to x s.action ≡ true
    → NoStoreIn test n t x (p + 1) e
    → newest x (map (slot_write test t) (waiting (loop_of test n t) d e)) ≡ Some (slot_write test t s).value
newest_of_some test n t x d p e s g l m at to f =
    let k = e - (p + 1) in
    let q : p + 1 + k ≡ e = omega arith in
    let P : ℕ → Type 0 = λ z. newest x (map (slot_write test t) (waiting (loop_of test n t) d z))
    ≡ Some (slot_write test t s).value in
    subst P q (some_in test n t x d p s k g (omega arith) at to (λ i b u v. f i b u (omega arith)))
