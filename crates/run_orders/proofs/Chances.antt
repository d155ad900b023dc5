-- What a thread can do next, by what edges and its own stores hold back.
use Rattle.std.proofs.Common.{◌≡◌, ℕ, ◌<◌, Bool, Some, List, ◌++◌, ◌∷◌, [], length, slice_get, refl, ap, subst, sym, inl, inr, ◌⊎◌}
use Rattle.x86_subset.specs.Test.{LitmusTest}
use Rattle.x86_subset.specs.declared.instr.Instr.{Instr}
use Rattle.x86_subset.specs.declared.instr.Instr.TheVariants.{Store, Load, Fence, Exchange}
use Rattle.tso_machine.specs.Event.{Event, Kind, Push, Drain, Read, Fenced, Exchanged}
use Rattle.tso_machine.specs.Machine.{after_all, initial}
use Rattle.tso_machine.specs.Part.{Gives, Slot}
use Rattle.seq_conv.specs.Sequence.{site_location}
use Rattle.run_witness.specs.Marks.{Mark, is_storing, loop_of}
use Rattle.run_witness.specs.Order.{is_store}
use Rattle.verdict.specs.Edges.{is_access}
use Rattle.run_orders.specs.Course.{Begun, IsOldest, StoresNone, kind_now, mark_then, total}
use Rattle.run_orders.specs.Orders.{AllDraw, Spot}
use Rattle.run_orders.proofs.Begun.{IsFree, begun_step, marks_then, spot}
use Rattle.run_orders.proofs.Going.{Goes, goes_drain, goes_exchange, goes_fence, goes_push, goes_read, none_queue}
use Rattle.run_orders.proofs.Gone.{deed, total_less}

-- what the next action of a thread waits for: a read for its spot to be free, a fence and an exchange for the thread's
-- own stores
abbrev pub CanDo : LitmusTest → ℕ → (Spot → Spot → Bool) → (ℕ → Mark) → ℕ → Instr → Type 0
CanDo test n edge marks t (Store loc written) = Unit {0}
CanDo test n edge marks t (Load reg loc) = IsFree test n edge marks (spot t (marks t).done)
CanDo test n edge marks t Fence = StoresNone test n t (marks t).drained (marks t).done
CanDo test n edge marks t (Exchange loc written reg) =
    StoresNone test n t (marks t).drained (marks t).done × IsFree test n edge marks (spot t (marks t).done)

-- the oldest store of a thread that waits can go to memory
pub record CanDrain (test : LitmusTest) (n : ℕ) (edge : Spot → Spot → Bool) (marks : ℕ → Mark) (t : ℕ) : Type 0 where
  pub place : ℕ
  pub slot : Slot
  pub oldest : IsOldest test n t (marks t).drained (marks t).done place slot
  pub free : IsFree test n edge marks (spot t place)

-- the next action of a thread can be done
pub record CanAct (test : LitmusTest) (n : ℕ) (edge : Spot → Spot → Bool) (marks : ℕ → Mark) (t : ℕ) : Type 0 where
  pub slot : Slot
  pub stands : slice_get (loop_of test n t) (marks t).done ≡ Some slot
  pub can : CanDo test n edge marks t slot.action

-- some thread can go on
pub record Chance (test : LitmusTest) (n : ℕ) (edge : Spot → Spot → Bool) (marks : ℕ → Mark) : Type 0 where
  pub thread : ℕ
  pub below : thread < length test.bodies
  pub can : CanDrain test n edge marks thread ⊎ CanAct test n edge marks thread

pub goes_act : (test : LitmusTest) (n : ℕ) (edge : Spot → Spot → Bool) (wanted : Spot → ℕ → Bool) (marks : ℕ → Mark)
    (events : List Event) → AllDraw test n edge wanted → Begun test n edge wanted marks events → (t : ℕ) (s : Slot)
    → t < length test.bodies → slice_get (loop_of test n t) (marks t).done ≡ Some s
    → CanDo test n edge marks t s.action
    → Goes test n edge wanted marks events t (marks t).done s (kind_now s.action (after_all test initial events) t
    (site_location test (record { thread = t; place = s.place })))
goes_act test n edge wanted marks events draws b t s below at can = by s.action refl can
  where
    by : (a : Instr) → s.action ≡ a → CanDo test n edge marks t a
        → Goes test n edge wanted marks events t (marks t).done s (kind_now a (after_all test initial events) t
        (site_location test (record { thread = t; place = s.place })))
    by (Store loc written) e can =
        let P : Instr → Type 0 = λ a. Gives a Push in
        goes_push test n edge wanted marks events b t s below at (ap is_store e) (subst P (sym e) tt)
        (ap is_storing e)
    by (Load reg loc) e can =
        goes_read test n edge wanted marks events draws b t s below at
        (λ v. (let P : Instr → Type 0 = λ a. Gives a (Read v) in subst P (sym e) tt)) (ap is_storing e)
        (ap is_access e) can
    by Fence e can =
        let P : Instr → Type 0 = λ a. Gives a Fenced in
        goes_fence test n edge wanted marks events b t s below at (subst P (sym e) tt) (ap is_storing e)
        (ap is_access e) (none_queue test n marks t can)
    by (Exchange loc written reg) e can =
        goes_exchange test n edge wanted marks events draws b t s below at
        (λ v. (let P : Instr → Type 0 = λ a. Gives a (Exchanged v) in subst P (sym e) tt)) (ap is_storing e) can.0
        can.1

-- one event more
pub record Further (test : LitmusTest) (n : ℕ) (edge : Spot → Spot → Bool) (wanted : Spot → ℕ → Bool)
    (marks : ℕ → Mark) : Type 0 where
  pub then : ℕ → Mark
  pub events : List Event
  pub begun : Begun test n edge wanted then events
  pub less : total test n then (length test.bodies) < total test n marks (length test.bodies)

further_by : (test : LitmusTest) (n : ℕ) (edge : Spot → Spot → Bool) (wanted : Spot → ℕ → Bool) (marks : ℕ → Mark)
    (events : List Event) (t i : ℕ) (s : Slot) (k : Kind) → Begun test n edge wanted marks events
    → Goes test n edge wanted marks events t i s k → Further test n edge wanted marks
further_by test n edge wanted marks events t i s k b g = record {
  then = marks_then marks t i k;
  events = events ++ deed t s k ∷ [];
  begun = begun_step test n edge wanted marks events t i s k b g.next g.comes;
  less = total_less test n marks t (mark_then k i (marks t)) (length test.bodies) g.next.thread g.next.less;
}

pub chance_further : (test : LitmusTest) (n : ℕ) (edge : Spot → Spot → Bool) (wanted : Spot → ℕ → Bool)
    (marks : ℕ → Mark) (events : List Event) → AllDraw test n edge wanted → Begun test n edge wanted marks events
    → Chance test n edge marks → Further test n edge wanted marks
chance_further test n edge wanted marks events draws b c = go c.can
  where
    go : CanDrain test n edge marks c.thread ⊎ CanAct test n edge marks c.thread → Further test n edge wanted marks
    go (inl d) =
        further_by test n edge wanted marks events c.thread d.place d.slot Drain b
        (goes_drain test n edge wanted marks events b c.thread d.place d.slot c.below d.oldest d.free)
    go (inr a) =
        further_by test n edge wanted marks events c.thread (marks c.thread).done a.slot
        (kind_now a.slot.action (after_all test initial events) c.thread
        (site_location test (record { thread = c.thread; place = a.slot.place }))) b
        (goes_act test n edge wanted marks events draws b c.thread a.slot c.below a.stands a.can)
