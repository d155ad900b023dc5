-- Where a read takes its value from: a waiting write of its own thread, or memory.
use Rattle.std.proofs.Common.{◌≡◌, ℕ, ◌≤◌, ◌==◌, true, false, not, ◌&&◌, Option, None, Some, List, refl, inl, inr, ◌⊎◌, option_map, nat_le}
use Rattle.std.proofs.lemmas.Bool.{and_parts, eqb-true, not-true, leb-true}
use Rattle.std.specs.List.{AllByRecursion as Each, list_any}
use Rattle.std.specs.Option.{option_or}
use Rattle.x86_subset.specs.Test.{LitmusTest}
use Rattle.tso_machine.specs.Event.{Event, Kind, Read, Exchanged, event_location, is_drain}
use Rattle.seq_conv.specs.Sequence.{Origin, Site, in_iteration}
use Rattle.perp_base.specs.Last.{last_that}
use Rattle.tso_machine.specs.Source.{is_memory_kind, is_memory_write, is_pending, is_push, origin_of, same_store, source_as}
use Rattle.perp_base.proofs.Lists.{Among, each_from_among}
use Rattle.outcome_conv.specs.Holds.{is_at_least}

pub among_self : {X : Type 0} (xs : List X) → Each (λ x. Among x xs) xs
among_self xs = each_from_among (λ x. Among x xs) xs (λ x a. a)

-- what is pending
pub record Pending (test : LitmusTest) (t x : ℕ) (before : List Event) (d : Event) : Type 0 where
  pub push : is_push d ≡ true
  pub thread : d.thread ≡ t
  pub location : event_location test d ≡ x
  pub waits : list_any (λ c. is_drain c && same_store c d) before ≡ false

pub pending_tells : (test : LitmusTest) (t x : ℕ) (before : List Event) (d : Event)
    → is_pending test t x before d ≡ true → Pending test t x before d
pending_tells test t x before d h =
    let drained = list_any (λ c. is_drain c && same_store c d) before in
    let a = and_parts ((is_push d && (d.thread == t)) && (event_location test d == x)) (not drained) h in
    let b = and_parts (is_push d && (d.thread == t)) (event_location test d == x) a.0 in
    let c = and_parts (is_push d) (d.thread == t) b.0 in
    record {
      push = c.0;
      thread = eqb-true d.thread t c.1;
      location = eqb-true (event_location test d) x b.1;
      waits = not-true drained a.1;
    }

-- the last own Push that waits
pub record FromBuffer (test : LitmusTest) (t x : ℕ) (before : List Event) (o : Origin) : Type 0 where
  pub event : Event
  pub last : last_that (is_pending test t x before) before ≡ Some event
  pub origin : origin_of event ≡ o

-- the last write to memory, where none waits or the read is an exchange
pub record FromMemory (test : LitmusTest) (t x : ℕ) (k : Kind) (before : List Event) (o : Origin) : Type 0 where
  pub event : Event
  pub last : last_that (is_memory_write test x) before ≡ Some event
  pub origin : origin_of event ≡ o
  pub none : (last_that (is_pending test t x before) before ≡ None) ⊎ (is_memory_kind k ≡ true)

memory_case : (test : LitmusTest) (t x : ℕ) (k : Kind) (before : List Event) (o : Origin) (m : Option Event)
    → last_that (is_memory_write test x) before ≡ m → option_map origin_of m ≡ Some o
    → (last_that (is_pending test t x before) before ≡ None) ⊎ (is_memory_kind k ≡ true)
    → FromMemory test t x k before o
memory_case test t x k before o None e h none = cc
memory_case test t x k before o (Some d) e h none =
    record { event = d; last = e; origin = (let s : origin_of d ≡ o = cc in s); none = none }

read_case : (test : LitmusTest) (t x : ℕ) (k : Kind) (before : List Event) (o : Origin) (p : Option Event)
    → last_that (is_pending test t x before) before ≡ p
    → option_map origin_of (option_or p (last_that (is_memory_write test x) before)) ≡ Some o
    → FromBuffer test t x before o ⊎ FromMemory test t x k before o
read_case test t x k before o None e h =
    inr (memory_case test t x k before o (last_that (is_memory_write test x) before) refl h (inl e))
read_case test t x k before o (Some d) e h =
    inl (record { event = d; last = e; origin = (let s : origin_of d ≡ o = cc in s) })

pub taken_from : (test : LitmusTest) (e : Event) (before : List Event) (o : Origin) (k : Kind)
    → source_as k test e before ≡ Some o
    → FromBuffer test e.thread (event_location test e) before o ⊎ FromMemory test e.thread (event_location test e) k
    before o
taken_from test e before o (Read v) h =
    let t = e.thread in
    let x = event_location test e in
    read_case test t x (Read v) before o (last_that (is_pending test t x before) before) refl h
taken_from test e before o (Exchanged v) h =
    let t = e.thread in
    let x = event_location test e in
    inr (memory_case test t x (Exchanged v) before o (last_that (is_memory_write test x) before) refl h (inr refl))
taken_from test e before o _ h = cc

-- what an atom says of its read's source
pub record AtLeast (store : Site) (m : ℕ) (source : Option Origin) : Type 0 where
  pub iteration : ℕ
  pub is : source ≡ Some (in_iteration store iteration)
  pub late : m ≤ iteration

pub at_least : (store : Site) (m : ℕ) (source : Option Origin) → is_at_least store m source ≡ true
    → AtLeast store m source
at_least store m None h = cc
at_least store m (Some o) h =
    let p = and_parts ((o.thread == store.thread) && (o.place == store.place)) (nat_le m o.iteration) h in
    let q = and_parts (o.thread == store.thread) (o.place == store.place) p.0 in
    let t : o.thread ≡ store.thread = eqb-true o.thread store.thread q.0 in
    let l : o.place ≡ store.place = eqb-true o.place store.place q.1 in
    record { iteration = o.iteration; is = rw (← t, ← l) refl; late = leb-true m o.iteration p.1 }
