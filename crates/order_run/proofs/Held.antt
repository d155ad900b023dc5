-- What edges hold back, by pairs of numbers and by a relation of spots.
use Rattle.std.proofs.Common.{◌≡◌, ℕ, ◌+◌, ◌*◌, ◌/◌, ◌%◌, ◌<◌, ◌≤◌, ◌==◌, Bool, true, false, cond, nat_le, le-leb, Option, None, Some, List, length, slice_get, refl, sym, ap, ◌∙◌, arith, subst, inl, inr, ◌⊎◌, eq-eqb}
use Rattle.std.proofs.lemmas.Bool.{and_from, and_parts, both_ways, cases_lt, eqb-true, false_from_ne_true, leb-true, true≢false}
use Rattle.std.proofs.lemmas.Option.{slice_get_within}
use Rattle.x86_subset.specs.Shape.{IsTest}
use Rattle.x86_subset.specs.Test.{LitmusTest, body_of}
use Rattle.x86_subset.specs.declared.instr.Instr.{Instr}
use Rattle.x86_subset.specs.declared.instr.Instr.TheVariants.{Store, Load, Fence, Exchange}
use Rattle.tso_machine.specs.Part.{Slot}
use Rattle.seq_conv.specs.Sequence.{action_at}
use Rattle.seq_conv.proofs.Numbering.{body_short}
use Rattle.run_witness.specs.Marks.{Mark, is_storing, loop_of}
use Rattle.run_witness.proofs.Slots.{loop_length}
use Rattle.verdict.specs.Edges.{is_access}
use Rattle.verdict.proofs.Finds.{any_among, any_found}
use Rattle.decision.proofs.Asks.{loop_slot}
use Rattle.decision.proofs.Nexts.{slot_action}
use Rattle.choice_search.specs.declared.graph.Pair.{Pair}
use Rattle.choice_search.specs.Graph.{has_pair, is_pair}
use Rattle.run_orders.specs.Course.{IsOldest, IsOpen, StoresNone}
use Rattle.run_orders.specs.Orders.{Spot}
use Rattle.run_orders.proofs.Begun.{IsFree, spot}
use Rattle.run_orders.proofs.Chances as orders
use Rattle.order_run.specs.Along.{StandFor, spot_at}
use Rattle.order_run.specs.Course.{CanDo, IsHeld, IsWaiting, holds_back, is_held, is_late, is_open}

-- ---- numbers

pub spot_number : (t p : ℕ) → p < 16 → spot_at (t * 16 + p) ≡ spot t p
spot_number t p h =
    let e : (t * 16 + p) / 16 ≡ t = omega arith in
    let f : (t * 16 + p) % 16 ≡ p = omega arith in
    (λ i. record { thread = e i; index = f i })

pub number_spot : (k : ℕ) → (k / 16) * 16 + k % 16 ≡ k
number_spot k = omega arith

-- what stands in a loop stands at a place below 16
pub small_place : (test : LitmusTest) (t p : ℕ) (s : Slot) → IsTest test → slice_get (loop_of test 1 t) p ≡ Some s → p < 16
small_place test t p s is h =
    let w = slice_get_within (loop_of test 1 t) p s h in
    let l = loop_length (body_of test t) 1 in
    let b = body_short test t is in
    omega arith

-- ---- open places

late_from : (a : Instr) (m : Mark) (p : ℕ) → is_access a ≡ true
    → cond (is_storing a) m.drained m.done ≤ p → is_late (Some a) m p ≡ true
late_from a m p h l =
    and_from (is_access a) (nat_le (cond (is_storing a) m.drained m.done) p) h
    (le-leb (cond (is_storing a) m.drained m.done) p l)

open_from : (test : LitmusTest) (marks : ℕ → Mark) (a : Spot) → IsOpen test 1 marks a
    → is_open test marks a.thread a.index ≡ true
open_from test marks a o =
    ap (λ z. is_late z (marks a.thread) a.index) (slot_action test a.thread a.index o.slot o.stands)
    ∙ late_from o.slot.action (marks a.thread) a.index o.access o.late

open_tells : (test : LitmusTest) (marks : ℕ → Mark) (t p : ℕ) → is_open test marks t p ≡ true
    → IsOpen test 1 marks (spot t p)
open_tells test marks t p h = go (action_at test (record { thread = t; place = p })) refl h
  where
    go : (o : Option Instr) → action_at test (record { thread = t; place = p }) ≡ o
        → is_late o (marks t) p ≡ true → IsOpen test 1 marks (spot t p)
    go None e k = cc
    go (Some a) e k =
        let q = and_parts (is_access a) (nat_le (cond (is_storing a) (marks t).drained (marks t).done) p) k in
        record {
          slot = record { iteration = 0; place = p; action = a };
          stands = loop_slot test t p a e;
          access = q.0;
          late = leb-true (cond (is_storing a) (marks t).drained (marks t).done) p q.1;
        }

-- ---- free places

-- a place that no edge of the list holds back is free
pub free_from : (test : LitmusTest) (edges : List Pair) (edge : Spot → Spot → Bool) (marks : ℕ → Mark) (t p : ℕ)
    → IsTest test → StandFor edges edge → p < 16 → is_held test edges marks (t * 16 + p) ≡ false
    → IsFree test 1 edge marks (spot t p)
free_from test edges edge marks t p is stand low none b h o =
    let k = b.thread * 16 + b.index in
    let m = t * 16 + p in
    let small = small_place test b.thread b.index o.slot is o.stands in
    let leads : has_pair edges k m ≡ true = stand k m
    ∙ (λ i. edge (spot_number b.thread b.index small i) (spot_number t p low i)) ∙ h in
    let f = any_found (is_pair k m) edges leads in
    let q = and_parts (f.here.first == k) (f.here.second == m) f.passes in
    let e : f.here.first ≡ k = eqb-true f.here.first k q.0 in
    let P : Spot → Type 0 = λ z. is_open test marks z.thread z.index ≡ true in
    let Q : ℕ → Type 0 = λ z. P (spot_at z) in
    let opened : P (spot_at f.here.first) = subst Q (sym e)
    (subst P (sym (spot_number b.thread b.index small)) (open_from test marks b o)) in
    both_ways (is_held test edges marks m) none
    (any_among (holds_back test marks m) f.here edges f.among
    (and_from (f.here.second == m) (is_open test marks (f.here.first / 16) (f.here.first % 16)) q.1 opened))

-- and one that an edge holds back is not
pub free_not : (test : LitmusTest) (edges : List Pair) (edge : Spot → Spot → Bool) (marks : ℕ → Mark) (t p : ℕ)
    → StandFor edges edge → p < 16 → is_held test edges marks (t * 16 + p) ≡ true
    → IsFree test 1 edge marks (spot t p) → ⊥
free_not test edges edge marks t p stand low held free =
    let m = t * 16 + p in
    let f = any_found (holds_back test marks m) edges held in
    let k = f.here.first in
    let q = and_parts (f.here.second == m) (is_open test marks (k / 16) (k % 16)) f.passes in
    let listed : has_pair edges k m ≡ true = any_among (is_pair k m) f.here edges f.among
    (and_from (f.here.first == k) (f.here.second == m) (eq-eqb f.here.first k refl) q.0) in
    let leads : edge (spot_at k) (spot t p) ≡ true = ap (edge (spot_at k)) (sym (spot_number t p low))
    ∙ sym (stand k m) ∙ listed in
    free (spot_at k) leads (open_tells test marks (k / 16) (k % 16) q.1)

-- ---- what a thread's next action waits for

pub can_from : (test : LitmusTest) (edges : List Pair) (edge : Spot → Spot → Bool) (marks : ℕ → Mark) (t : ℕ) (a : Instr)
    → IsTest test → StandFor edges edge → (marks t).done < 16 → CanDo test edges marks t a
    → orders.CanDo test 1 edge marks t a
can_from test edges edge marks t (Store loc written) is stand low can = tt
can_from test edges edge marks t (Load reg loc) is stand low can =
    free_from test edges edge marks t (marks t).done is stand low can
can_from test edges edge marks t Fence is stand low can = can
can_from test edges edge marks t (Exchange loc written reg) is stand low can =
    (can.0, free_from test edges edge marks t (marks t).done is stand low can.1)

not_held : (test : LitmusTest) (edges : List Pair) (edge : Spot → Spot → Bool) (marks : ℕ → Mark) (t p : ℕ)
    → StandFor edges edge → p < 16 → IsFree test 1 edge marks (spot t p)
    → is_held test edges marks (t * 16 + p) ≡ false
not_held test edges edge marks t p stand low free =
    false_from_ne_true (is_held test edges marks (t * 16 + p))
    (λ h. free_not test edges edge marks t p stand low h free)

can_back : (test : LitmusTest) (edges : List Pair) (edge : Spot → Spot → Bool) (marks : ℕ → Mark) (t : ℕ) (a : Instr)
    → StandFor edges edge → (marks t).done < 16 → orders.CanDo test 1 edge marks t a → CanDo test edges marks t a
can_back test edges edge marks t (Store loc written) stand low can = tt
can_back test edges edge marks t (Load reg loc) stand low can =
    not_held test edges edge marks t (marks t).done stand low can
can_back test edges edge marks t Fence stand low can = can
can_back test edges edge marks t (Exchange loc written reg) stand low can =
    (can.0, not_held test edges edge marks t (marks t).done stand low can.1)

-- ---- where every thread is held

one_oldest : (test : LitmusTest) (t from to p q : ℕ) (s z : Slot) → IsOldest test 1 t from to p s
    → IsOldest test 1 t from to q z → p ≡ q
one_oldest test t from to p q s z a b = go (cases_lt p q) (cases_lt q p)
  where
    go : (p < q) ⊎ (q ≤ p) → (q < p) ⊎ (p ≤ q) → p ≡ q
    go (inl l) m = absurd (true≢false (sym a.storing ∙ b.none_before p s a.after l a.stands))
    go (inr l) (inl m) = absurd (true≢false (sym b.storing ∙ a.none_before q z b.after m b.stands))
    go (inr l) (inr m) = omega arith

drain_not : (test : LitmusTest) (edges : List Pair) (edge : Spot → Spot → Bool) (marks : ℕ → Mark) (t : ℕ)
    → IsTest test → StandFor edges edge → IsHeld test edges marks t → orders.CanDrain test 1 edge marks t → ⊥
drain_not test edges edge marks t is stand h d = go h.drain
  where
    go : StoresNone test 1 t (marks t).drained (marks t).done
        ⊎ ((place : ℕ) × ((s : Slot) × IsOldest test 1 t (marks t).drained (marks t).done place s)
        × (is_held test edges marks (t * 16 + place) ≡ true)) → ⊥
    go (inl none) =
        true≢false (sym d.oldest.storing
        ∙ none d.place d.slot d.oldest.after d.oldest.below d.oldest.stands)
    go (inr w) =
        let same : w.0 ≡ d.place = one_oldest test t (marks t).drained (marks t).done w.0 d.place w.1.0 d.slot w.1.1
        d.oldest in
        let P : ℕ → Type 0 = λ z. is_held test edges marks (t * 16 + z) ≡ true in
        free_not test edges edge marks t d.place stand
        (small_place test t d.place d.slot is d.oldest.stands) (subst P same w.2) d.free

act_not : (test : LitmusTest) (edges : List Pair) (edge : Spot → Spot → Bool) (marks : ℕ → Mark) (t : ℕ)
    → IsTest test → StandFor edges edge → IsHeld test edges marks t → orders.CanAct test 1 edge marks t → ⊥
act_not test edges edge marks t is stand h a = go h.act
  where
    go : ((marks t).done ≡ length (body_of test t)) ⊎ IsWaiting test edges marks t → ⊥
    go (inl e) =
        let w = slice_get_within (loop_of test 1 t) (marks t).done a.slot a.stands in
        let l = loop_length (body_of test t) 1 in
        omega arith
    go (inr w) =
        let same : a.slot.action ≡ w.action = one_action a.slot.action w.action
        (sym (slot_action test t (marks t).done a.slot a.stands) ∙ w.stands) in
        let P : Instr → Type 0 = λ z. orders.CanDo test 1 edge marks t z in
        w.why (can_back test edges edge marks t w.action stand
        (small_place test t (marks t).done a.slot is a.stands) (subst P same a.can))
      where
        one_action : (x y : Instr) → Some x ≡ Some y → x ≡ y
        one_action x y k = cc

-- no thread has a chance
pub none_goes : (test : LitmusTest) (edges : List Pair) (edge : Spot → Spot → Bool) (marks : ℕ → Mark)
    → IsTest test → StandFor edges edge → ((t : ℕ) → t < length test.bodies → IsHeld test edges marks t)
    → orders.Chance test 1 edge marks → ⊥
none_goes test edges edge marks is stand held c = go c.can
  where
    go : orders.CanDrain test 1 edge marks c.thread ⊎ orders.CanAct test 1 edge marks c.thread → ⊥
    go (inl d) = drain_not test edges edge marks c.thread is stand (held c.thread c.below) d
    go (inr a) = act_not test edges edge marks c.thread is stand (held c.thread c.below) a
