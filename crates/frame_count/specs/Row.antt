-- A row of frames: all iterations of the last thread, with those of the other threads fixed. What is known of a
-- condition along a row, and what is left to test (the counter is after PerpLE's: Melissaris, Markakis, Shaw and
-- Martonosi, MICRO 2020; stretches and lanes are this project's own).
use Rattle.std.specs.Prelude.{◌≡◌, ℕ, ◌+◌, ◌-◌, ◌*◌, ◌<◌, ◌%◌, ◌==◌, ◌&&◌, ◌||◌, Bool, List, length, map, nat_le, nat_lt, not, slice_set, true}
use Rattle.std.specs.List.{list_all, range_with_len}
use Rattle.std.specs.Simd.Lanes.{mask_l}
use Rattle.load_log.specs.Values.{Values, value_at}
use Rattle.outcome_conv.specs.declared.cond.Cond.{Cond}
use Rattle.outcome_conv.specs.declared.cond.CondKind.{CondKind}
use Rattle.outcome_conv.specs.declared.cond.CondKind.TheVariants.{AtLeast, Below, Exact}
use Rattle.outcome_conv.specs.Conds.{cond_holds, kind_holds}
use Rattle.frame_count.specs.declared.stretch.Stretch.{Stretch}
use Rattle.frame_count.specs.Count.{with_last}

-- the bound where the writer is in iteration m
abbrev pub bound_of : CondKind → ℕ → ℕ
bound_of (AtLeast k a) m = k * m + a
bound_of (Below k) m = k * m + 1
bound_of (Exact k a) m = k * m + a

-- whether the value and the bound of a condition pass
abbrev pub kind_test : CondKind → ℕ → ℕ → Bool
kind_test (AtLeast k a) value bound = nat_le bound value && (value % k == a % k)
kind_test (Below k) value bound = nat_lt value bound
kind_test (Exact k a) value bound = value == bound

-- what the kind asks of the value beside its order to the bound
abbrev pub residue_fits : CondKind → ℕ → Bool
residue_fits (AtLeast k a) value = value % k == a % k
residue_fits (Below k) value = true
residue_fits (Exact k a) value = true

-- whether an iteration is in a stretch
abbrev pub is_within : Stretch → ℕ → Bool
is_within s m = nat_le s.from m && nat_lt m s.to

-- the mask of the n numbers from this one on that pass, the first in the lowest bit
unfoldable pub mask_along : (ℕ → Bool) → ℕ → ℕ → ℕ
mask_along p at n = mask_l (map p (range_with_len at n))

-- a test of iterations that a stretch tells of: below n it passes only in the stretch and, if the stretch leaves nothing
-- to test, everywhere there
abbrev pub IsToldBy : Stretch → ℕ → (ℕ → Bool) → Type 0
IsToldBy s n test = (m : ℕ) → m < n → test m ≡ (is_within s m && (not (s.row || s.own) || test m))

-- whether a condition holds at a frame with thread t in iteration m
abbrev pub holds_with : List Values → List ℕ → ℕ → ℕ → Cond → Bool
holds_with logs frame t m c = cond_holds (value_at logs) (slice_set frame t m) c

-- the same at a frame of the row
abbrev pub holds_along : List Values → List ℕ → ℕ → Cond → Bool
holds_along logs frame m c = cond_holds (value_at logs) (with_last frame m) c

-- the same of a condition on what the last thread logged of another thread's stores; nothing is asked of the others
abbrev pub row_along : List Values → List ℕ → ℕ → Cond → Bool
row_along logs frame m c =
    not (c.reader == length frame - 1 && not (c.writer == length frame - 1)) || holds_along logs frame m c

-- the same of a condition on what the last thread logged of its own stores, which is the same in each row
abbrev pub own_along : List Values → ℕ → ℕ → Cond → Bool
own_along logs last m c =
    not (c.reader == last && c.writer == last) || kind_holds c.kind (value_at logs last c.column m) m

-- what a stretch leaves to test of a condition
abbrev pub left_along : List Values → List ℕ → Stretch → ℕ → Cond → Bool
left_along logs frame s m c =
    (not s.row || row_along logs frame m c) && (not s.own || own_along logs (length frame - 1) m c)

-- the stretch leaves the row to the conditions: below n all of them hold where the stretch is and what it leaves to
-- test passes
abbrev pub Leaves : ℕ → List Values → List ℕ → List Cond → Stretch → Type 0
Leaves n logs frame conds s =
    (m : ℕ) → m < n → list_all (holds_along logs frame m) conds
    ≡ (is_within s m && list_all (left_along logs frame s m) conds)
