-- Orders of the stores, loads and exchanges of loops, and what they say of a read: where its value comes from. Kept
-- order is that of x86-TSO (Sewell, Sarkar, Owens, Zappa Nardelli and Myreen, CACM 2010); reads-from and from-read are
-- those of axiomatic memory models (Alglave, Maranget and Tautschnig, "Herding cats", TOPLAS 2014).
use Rattle.std.specs.Prelude.{◌≡◌, ℕ, ◌<◌, ◌≤◌, ◌⊎◌, Bool, true, Option, Some, slice_get}
use Rattle.x86_subset.specs.Instr.{is_reading, is_store_to}
use Rattle.x86_subset.specs.Test.{LitmusTest}
use Rattle.tso_machine.specs.Event.{Event}
use Rattle.tso_machine.specs.Log.{value_read}
use Rattle.tso_machine.specs.Part.{Slot}
use Rattle.seq_conv.specs.Sequence.{site_location, value_of}
use Rattle.run_witness.specs.Marks.{index_of, is_storing, loop_of}
use Rattle.verdict.specs.Edges.{is_access, is_barrier}

-- an action of a thread's loop, by its place there
pub record Spot : Type 0 where
  pub thread : ℕ
  pub index : ℕ

abbrev pub slot_in : LitmusTest → ℕ → Spot → Option Slot
slot_in test n a = slice_get (loop_of test n a.thread) a.index

-- the spot of an event that is no Drain
abbrev pub spot_of : LitmusTest → Event → Spot
spot_of test e = record { thread = e.thread; index = index_of test e }

-- ---- kept order

-- The edges have kept order: what a thread does after a reading action comes after it; its stores come one after
-- another; and what it does after a fence or an exchange comes after its stores before.
pub record KeepsOrder (test : LitmusTest) (n : ℕ) (edge : Spot → Spot → Bool) : Type 0 where
  pub reading : (t p q : ℕ) (a b : Slot) → p < q → slice_get (loop_of test n t) p ≡ Some a
      → slice_get (loop_of test n t) q ≡ Some b → is_reading a.action ≡ true → is_access b.action ≡ true
      → edge (record { thread = t; index = p }) (record { thread = t; index = q }) ≡ true
  pub storing : (t p q : ℕ) (a b : Slot) → p < q → slice_get (loop_of test n t) p ≡ Some a
      → slice_get (loop_of test n t) q ≡ Some b → is_storing a.action ≡ true → is_storing b.action ≡ true
      → edge (record { thread = t; index = p }) (record { thread = t; index = q }) ≡ true
  pub barred : (t p i q : ℕ) (a c b : Slot) → p < i → i < q → slice_get (loop_of test n t) p ≡ Some a
      → slice_get (loop_of test n t) i ≡ Some c → slice_get (loop_of test n t) q ≡ Some b
      → is_storing a.action ≡ true → is_barrier c.action ≡ true → is_access b.action ≡ true
      → edge (record { thread = t; index = p }) (record { thread = t; index = q }) ≡ true

-- ---- where a read takes its value from

-- a store or an exchange to x stands at the spot
pub record StoresAt (test : LitmusTest) (n x : ℕ) (a : Spot) : Type 0 where
  pub slot : Slot
  pub stands : slot_in test n a ≡ Some slot
  pub stores : is_store_to x slot.action ≡ true

-- the value of such a store
abbrev pub value_at : (test : LitmusTest) (n x : ℕ) (a : Spot) → StoresAt test n x a → ℕ
value_at test n x a s = value_of test x (record { thread = a.thread; place = s.slot.place }) s.slot.iteration

-- the source stands in another thread: the read comes after it, and it after the reader's own stores before the read
pub record Afar (test : LitmusTest) (n : ℕ) (edge : Spot → Spot → Bool) (x : ℕ) (r s : Spot) : Type 0 where
  pub leads : edge s r ≡ true
  pub behind : (o : Spot) → StoresAt test n x o → o.thread ≡ r.thread → o.index < r.index → edge o s ≡ true

-- or it is the newest of the reader's own stores before the read
pub record Near (test : LitmusTest) (n x : ℕ) (r s : Spot) : Type 0 where
  pub own : s.thread ≡ r.thread
  pub before : s.index < r.index
  pub newest : (o : Spot) → StoresAt test n x o → o.thread ≡ r.thread → o.index < r.index → o.index ≤ s.index

-- the edges put each other store of x before the read's source, or after the read
pub record FromStore (test : LitmusTest) (n : ℕ) (edge : Spot → Spot → Bool) (x : ℕ) (r : Spot) : Type 0 where
  pub source : Spot
  pub stores : StoresAt test n x source
  pub either : (o : Spot) → StoresAt test n x o → (o ≡ source → ⊥) → (o ≡ r → ⊥)
      → (edge o source ≡ true) ⊎ (edge r o ≡ true)
  pub place : Afar test n edge x r source ⊎ Near test n x r source

-- or the read takes the initial value: they put each store of x after it, and none before it is the reader's own
pub record FromStart (test : LitmusTest) (n : ℕ) (edge : Spot → Spot → Bool) (x : ℕ) (r : Spot) : Type 0 where
  pub after : (o : Spot) → StoresAt test n x o → (o ≡ r → ⊥) → edge r o ≡ true
  pub other : (o : Spot) → StoresAt test n x o → o.thread ≡ r.thread → o.index < r.index → ⊥

-- the edges have the reading action at a spot read v
pub record Draws (test : LitmusTest) (n : ℕ) (edge : Spot → Spot → Bool) (r : Spot) (v : ℕ) : Type 0 where
  pub slot : Slot
  pub stands : slot_in test n r ≡ Some slot
  pub reading : is_reading slot.action ≡ true
  pub location : ℕ
  pub reads : site_location test (record { thread = r.thread; place = slot.place }) ≡ location
  pub source : (FromStart test n edge location r × (v ≡ 0))
      ⊎ ((f : FromStore test n edge location r) × (v ≡ value_at test n location f.source f.stores))

-- the edges have each reading action read what is wanted at its spot
abbrev pub AllDraw : LitmusTest → ℕ → (Spot → Spot → Bool) → (Spot → ℕ → Bool) → Type 0
AllDraw test n edge wanted = (r : Spot) (v : ℕ) → wanted r v ≡ true → Draws test n edge r v

-- the event reads what is wanted at its spot
abbrev pub IsWanted : LitmusTest → (Spot → ℕ → Bool) → Event → Type 0
IsWanted test wanted e = (v w : ℕ) → value_read e ≡ Some v → wanted (spot_of test e) w ≡ true → v ≡ w
