-- The order that logs ask for, where the stores of each location stand in one thread: kept order, read-from and
-- from-read, by the logged values (Alglave, Maranget and Tautschnig, "Herding cats", TOPLAS 2014). That a value tells
-- its store is this project's own, after PerpLE (Melissaris, Markakis, Shaw and Martonosi, MICRO 2020).
use Rattle.std.specs.Prelude.{ℕ, ◌+◌, ◌==◌, ◌&&◌, ◌||◌, Bool, false, not, nat_lt, Option, None, Some, List, drop, take}
use Rattle.std.specs.List.{list_any}
use Rattle.x86_subset.specs.Instr.{is_reading}
use Rattle.x86_subset.specs.Test.{LitmusTest}
use Rattle.load_log.specs.Values.{Values}
use Rattle.tso_machine.specs.Part.{Slot}
use Rattle.seq_conv.specs.Sequence.{site_location, value_of}
use Rattle.verdict.specs.Edges.{is_access, is_barrier, keeps}
use Rattle.run_witness.specs.Marks.{is_storing, loop_of}
use Rattle.run_witness.specs.Order.{logged, stores_to}
use Rattle.run_orders.specs.Orders.{Spot, slot_in}

-- the location of a slot of thread t, the value that it stores, and the one that it is logged to have read
abbrev pub slot_location : LitmusTest → ℕ → Slot → ℕ
slot_location test t s = site_location test (record { thread = t; place = s.place })

abbrev pub slot_stores : LitmusTest → ℕ → Slot → ℕ
slot_stores test t s = value_of test (slot_location test t s) (record { thread = t; place = s.place }) s.iteration

abbrev pub slot_logged : LitmusTest → List Values → ℕ → Slot → ℕ
slot_logged test logs t s = logged test logs t s.iteration s.place

-- kept order
abbrev pub is_barred_in : LitmusTest → ℕ → ℕ → ℕ → ℕ → Bool
is_barred_in test n t p q = list_any (λ (s : Slot). is_barrier s.action) (drop (p + 1) (take q (loop_of test n t)))

abbrev pub keeps_slots : Bool → Option Slot → Option Slot → Bool
keeps_slots barred None b = false
keeps_slots barred (Some a) None = false
keeps_slots barred (Some a) (Some b) = is_access a.action && is_access b.action && keeps barred a.action b.action

abbrev pub kept_in : LitmusTest → ℕ → Spot → Spot → Bool
kept_in test n a b =
    (a.thread == b.thread) && nat_lt a.index b.index
    && keeps_slots (is_barred_in test n a.thread a.index b.index) (slot_in test n a) (slot_in test n b)

-- whether a slot of thread t reads a location that its thread does not store to
abbrev pub reads_other : LitmusTest → ℕ → Slot → Bool
reads_other test t s = is_reading s.action && not (stores_to test t (slot_location test t s))

-- read-from: the store of the logged value leads to the read
abbrev pub reads_from : LitmusTest → List Values → ℕ → ℕ → Option Slot → Option Slot → Bool
reads_from test logs u t None b = false
reads_from test logs u t (Some a) None = false
reads_from test logs u t (Some a) (Some b) =
    is_storing a.action && reads_other test t b && (slot_location test u a == slot_location test t b)
    && (slot_stores test u a == slot_logged test logs t b)

-- from-read: the read leads to each store of a greater value
abbrev pub reads_before : LitmusTest → List Values → ℕ → ℕ → Option Slot → Option Slot → Bool
reads_before test logs t u None b = false
reads_before test logs t u (Some a) None = false
reads_before test logs t u (Some a) (Some b) =
    is_storing b.action && reads_other test t a && (slot_location test u b == slot_location test t a)
    && nat_lt (slot_logged test logs t a) (slot_stores test u b)

abbrev pub log_edge : LitmusTest → ℕ → List Values → Spot → Spot → Bool
log_edge test n logs a b =
    (kept_in test n a b || reads_from test logs a.thread b.thread (slot_in test n a) (slot_in test n b))
    || reads_before test logs a.thread b.thread (slot_in test n a) (slot_in test n b)
