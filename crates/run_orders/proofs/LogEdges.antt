-- The order that logs ask for: it has kept order, and puts each read after its source and before later stores.
use Rattle.std.proofs.Common.{◌≡◌, ℕ, ◌+◌, ◌<◌, ◌==◌, ◌&&◌, ◌||◌, not, nat_lt, lt-ltb, true, false, Some, List, slice_get, refl, ◌∙◌, arith, inl, inr, eq-eqb}
use Rattle.std.proofs.lemmas.Bool.{and_from, not_from_false, or_left, or_right}
use Rattle.x86_subset.specs.Instr.{is_reading}
use Rattle.x86_subset.specs.Test.{LitmusTest}
use Rattle.load_log.specs.Values.{Values}
use Rattle.tso_machine.specs.Part.{Slot}
use Rattle.verdict.specs.Edges.{is_access, is_barrier, keeps}
use Rattle.decision.proofs.Waits.{any_between, keeps_reading, keeps_storing}
use Rattle.run_witness.specs.Marks.{is_storing, loop_of}
use Rattle.run_witness.specs.Order.{stores_to}
use Rattle.run_witness.proofs.Reading.{store_stores}
use Rattle.run_orders.specs.Logs.{is_barred_in, keeps_slots, kept_in, log_edge, reads_before, reads_from, reads_other, slot_location, slot_logged, slot_stores}
use Rattle.run_orders.specs.Orders.{KeepsOrder, Spot, StoresAt, slot_in}
use Rattle.run_orders.proofs.Begun.{location_at, spot, storing_access}
use Rattle.run_orders.proofs.Going.{reading_access}

-- Kept order.

pub kept_edge : (test : LitmusTest) (n : ℕ) (logs : List Values) (t p q : ℕ) (a b : Slot) → p < q
    → slice_get (loop_of test n t) p ≡ Some a → slice_get (loop_of test n t) q ≡ Some b → is_access a.action ≡ true
    → is_access b.action ≡ true → keeps (is_barred_in test n t p q) a.action b.action ≡ true
    → log_edge test n logs (spot t p) (spot t q) ≡ true
kept_edge test n logs t p q a b l at bt v w k =
    let barred = is_barred_in test n t p q in
    let A = kept_in test n (spot t p) (spot t q) in
    let B = reads_from test logs t t (slice_get (loop_of test n t) p) (slice_get (loop_of test n t) q) in
    let C = reads_before test logs t t (slice_get (loop_of test n t) p) (slice_get (loop_of test n t) q) in
    let both : keeps_slots barred (slice_get (loop_of test n t) p) (slice_get (loop_of test n t) q) ≡ true =
    (λ i. keeps_slots barred (at i) (bt i))
    ∙ and_from (is_access a.action && is_access b.action) (keeps barred a.action b.action)
    (and_from (is_access a.action) (is_access b.action) v w) k in
    or_left (A || B) C (or_left A B
    (and_from ((t == t) && nat_lt p q) (keeps_slots barred (slice_get (loop_of test n t) p)
    (slice_get (loop_of test n t) q)) (and_from (t == t) (nat_lt p q) (eq-eqb t t refl) (lt-ltb p q l)) both))

pub order_of : (test : LitmusTest) (n : ℕ) (logs : List Values) → KeepsOrder test n (log_edge test n logs)
order_of test n logs = record {
  reading = λ t p q a b l at bt r acc. kept_edge test n logs t p q a b l at bt (reading_access a.action r) acc
      (keeps_reading (is_barred_in test n t p q) a.action b.action r);
  storing = λ t p q a b l at bt v w. kept_edge test n logs t p q a b l at bt (storing_access a.action v)
      (storing_access b.action w) (keeps_storing (is_barred_in test n t p q) a.action b.action v (inl w));
  barred = λ t p i q a c b l m at ct bt v w acc.
      let k : p < q = omega arith in
      kept_edge test n logs t p q a b k at bt (storing_access a.action v) acc
      (keeps_storing (is_barred_in test n t p q) a.action b.action v
      (inr (any_between (λ (s : Slot). is_barrier s.action) (loop_of test n t) (p + 1) q i c ct w (omega arith) m)));
}

-- Reads.

-- a read of another thread's location
pub record Reader (test : LitmusTest) (n : ℕ) (a : Spot) (s : Slot) : Type 0 where
  pub stands : slot_in test n a ≡ Some s
  pub reading : is_reading s.action ≡ true

pub from_edge : (test : LitmusTest) (n : ℕ) (logs : List Values) (a : Spot) (s : Slot) → Reader test n a s → (o : Spot)
    → (w : StoresAt test n (slot_location test a.thread s) o)
    → stores_to test a.thread (slot_location test a.thread s) ≡ false
    → slot_stores test o.thread w.slot ≡ slot_logged test logs a.thread s → log_edge test n logs o a ≡ true
from_edge test n logs a s r o w other value =
    let x = slot_location test a.thread s in
    let A = kept_in test n o a in
    let B = reads_from test logs o.thread a.thread (slot_in test n o) (slot_in test n a) in
    let C = reads_before test logs o.thread a.thread (slot_in test n o) (slot_in test n a) in
    let both : B ≡ true = (λ i. reads_from test logs o.thread a.thread (w.stands i) (r.stands i))
    ∙ and_from (is_storing w.slot.action && reads_other test a.thread s && (slot_location test o.thread w.slot == x))
    (slot_stores test o.thread w.slot == slot_logged test logs a.thread s)
    (and_from (is_storing w.slot.action && reads_other test a.thread s) (slot_location test o.thread w.slot == x)
    (and_from (is_storing w.slot.action) (reads_other test a.thread s) (store_stores x w.slot.action w.stores)
    (and_from (is_reading s.action) (not (stores_to test a.thread x)) r.reading
    (not_from_false (stores_to test a.thread x) other)))
    (eq-eqb (slot_location test o.thread w.slot) x (location_at test n x o w)))
    (eq-eqb (slot_stores test o.thread w.slot) (slot_logged test logs a.thread s) value) in
    or_left (A || B) C (or_right A B both)

pub before_edge : (test : LitmusTest) (n : ℕ) (logs : List Values) (a : Spot) (s : Slot) → Reader test n a s → (o : Spot)
    → (w : StoresAt test n (slot_location test a.thread s) o)
    → stores_to test a.thread (slot_location test a.thread s) ≡ false
    → slot_logged test logs a.thread s < slot_stores test o.thread w.slot → log_edge test n logs a o ≡ true
before_edge test n logs a s r o w other value =
    let x = slot_location test a.thread s in
    let A = kept_in test n a o in
    let B = reads_from test logs a.thread o.thread (slot_in test n a) (slot_in test n o) in
    let C = reads_before test logs a.thread o.thread (slot_in test n a) (slot_in test n o) in
    let both : C ≡ true = (λ i. reads_before test logs a.thread o.thread (r.stands i) (w.stands i))
    ∙ and_from (is_storing w.slot.action && reads_other test a.thread s && (slot_location test o.thread w.slot == x))
    (nat_lt (slot_logged test logs a.thread s) (slot_stores test o.thread w.slot))
    (and_from (is_storing w.slot.action && reads_other test a.thread s) (slot_location test o.thread w.slot == x)
    (and_from (is_storing w.slot.action) (reads_other test a.thread s) (store_stores x w.slot.action w.stores)
    (and_from (is_reading s.action) (not (stores_to test a.thread x)) r.reading
    (not_from_false (stores_to test a.thread x) other)))
    (eq-eqb (slot_location test o.thread w.slot) x (location_at test n x o w)))
    (lt-ltb (slot_logged test logs a.thread s) (slot_stores test o.thread w.slot) value) in
    or_right (A || B) C both
