-- What can be next: where a spot is open to which no edge leads from an open one, its thread can go on.
use Rattle.std.proofs.Common.{◌≡◌, ℕ, ◌+◌, ◌<◌, ◌≤◌, Bool, true, false, cond, None, Some, List, [], ◌∷◌, length, map, slice_get, refl, sym, ap, ◌∙◌, arith, subst, inl, inr, ◌⊎◌}
use Rattle.std.proofs.lemmas.Bool.{cases_Bool, cases_eq, cases_lt, false_from_ne_true, true≢false}
use Rattle.x86_subset.specs.Instr.{is_reading, is_store_to}
use Rattle.x86_subset.specs.Test.{LitmusTest, body_of}
use Rattle.x86_subset.specs.declared.instr.Instr.{Instr}
use Rattle.x86_subset.specs.declared.instr.Instr.TheVariants.{Fence}
use Rattle.tso_machine.specs.Event.{Event, Kind, Push, Drain, Read, Fenced, Exchanged, event_location}
use Rattle.tso_machine.specs.Machine.{after_all, initial, readable}
use Rattle.tso_machine.specs.Part.{Gives, Slot}
use Rattle.seq_conv.specs.Sequence.{site_location, value_of}
use Rattle.run_witness.specs.Marks.{Mark, index_of, is_storing, loop_of}
use Rattle.run_witness.specs.Order.{is_store}
use Rattle.run_witness.specs.Stage.{slot_write}
use Rattle.run_witness.proofs.Reading.{store_stores}
use Rattle.run_witness.proofs.Slots.{oldest, slot_at}
use Rattle.verdict.specs.Edges.{is_access}
use Rattle.run_orders.specs.Orders.{Afar, AllDraw, Draws, FromStart, FromStore, Near, Spot, slot_in, spot_of, value_at}
use Rattle.run_orders.specs.Course.{Begun, IsOldest, IsOpen, StoresNone}
use Rattle.run_orders.proofs.Begun.{Came, Comes, IsFree, location_at, one_slot, spot, storing_access}
use Rattle.run_orders.proofs.Gone.{Next, deed, next_drain, next_exchange, next_fence, next_push, next_read, queue}
use Rattle.run_orders.proofs.Opens.{NoStoreIn, newest_of_none, newest_of_some, open_back, open_by, open_not, open_stays}

pub late_load : (b : Bool) (m : Mark) (p : ℕ) → b ≡ false → cond b m.drained m.done ≤ p → m.done ≤ p
late_load true m p e h = cc
late_load false m p e h = h

pub late_write : (b : Bool) (m : Mark) (p : ℕ) → b ≡ true → cond b m.drained m.done ≤ p → m.drained ≤ p
late_write true m p e h = h
late_write false m p e h = cc

put_write : (b : Bool) (m : Mark) (p : ℕ) → b ≡ true → m.drained ≤ p → cond b m.drained m.done ≤ p
put_write true m p e h = h
put_write false m p e h = cc

put_load : (b : Bool) (m : Mark) (p : ℕ) → b ≡ false → m.done ≤ p → cond b m.drained m.done ≤ p
put_load true m p e h = cc
put_load false m p e h = h

put_either : (b : Bool) (m : Mark) (p : ℕ) → m.drained ≤ m.done → m.done ≤ p → cond b m.drained m.done ≤ p
put_either true m p o h = omega arith
put_either false m p o h = h

pub reading_access : (a : Instr) → is_reading a ≡ true → is_access a ≡ true
reading_access Fence h = cc
reading_access _ h = refl

-- a store of the own thread between its marks is open
pub own_open : (test : LitmusTest) (n : ℕ) (marks : ℕ → Mark) (t i : ℕ) (s : Slot) → (marks t).drained ≤ i
    → slice_get (loop_of test n t) i ≡ Some s → is_storing s.action ≡ true → IsOpen test n marks (spot t i)
own_open test n marks t i s l at k =
    open_by test n marks (spot t i) s at (storing_access s.action k)
    (put_write (is_storing s.action) (marks t) i k l)

-- what is not done is open
pub not_done : (test : LitmusTest) (n : ℕ) (marks : ℕ → Mark) (t i : ℕ) (s : Slot) → (marks t).drained ≤ (marks t).done
    → (marks t).done ≤ i → slice_get (loop_of test n t) i ≡ Some s → is_access s.action ≡ true
    → IsOpen test n marks (spot t i)
not_done test n marks t i s o l at k =
    open_by test n marks (spot t i) s at k (put_either (is_storing s.action) (marks t) i o l)

-- What a read finds.

finds_memory : (test : LitmusTest) (n : ℕ) (edge : Spot → Spot → Bool) (wanted : Spot → ℕ → Bool) (marks : ℕ → Mark)
    (events : List Event) → Begun test n edge wanted marks events → (t x : ℕ)
    → NoStoreIn test n t x (marks t).drained (marks t).done
    → readable (after_all test initial events) t x ≡ (after_all test initial events).memory x
finds_memory test n edge wanted marks events b t x f =
    let o = b.gone.stands.own t in
    let none = newest_of_none test n t x (marks t).drained (marks t).done o.order o.within f in
    rw (o.buffer, none) refl

finds_own : (test : LitmusTest) (n : ℕ) (edge : Spot → Spot → Bool) (wanted : Spot → ℕ → Bool) (marks : ℕ → Mark)
    (events : List Event) → Begun test n edge wanted marks events → (t x p : ℕ) (s : Slot)
    → (marks t).drained ≤ p → p < (marks t).done → slice_get (loop_of test n t) p ≡ Some s
    → is_store_to x s.action ≡ true → NoStoreIn test n t x (p + 1) (marks t).done
    → readable (after_all test initial events) t x ≡ (slot_write test t s).value
finds_own test n edge wanted marks events b t x p s l m at to f =
    let o = b.gone.stands.own t in
    let some = newest_of_some test n t x (marks t).drained p (marks t).done s l m o.within at to f in
    rw (o.buffer, some) refl

-- the read at a spot finds what the edges say
pub read_value : (test : LitmusTest) (n : ℕ) (edge : Spot → Spot → Bool) (wanted : Spot → ℕ → Bool)
    (marks : ℕ → Mark) (events : List Event) → Begun test n edge wanted marks events → (t v : ℕ)
    → (d : Draws test n edge (spot t (marks t).done) v) → IsOpen test n marks (spot t (marks t).done)
    → IsFree test n edge marks (spot t (marks t).done) → readable (after_all test initial events) t d.location ≡ v
read_value test n edge wanted marks events b t v d unread free = go d.source
  where
    r : Spot
    r = spot t (marks t).done

    start : FromStart test n edge d.location (spot t (marks t).done)
        → readable (after_all test initial events) t d.location ≡ 0
    start f =
        finds_memory test n edge wanted marks events b t d.location
        (λ i s l m at. false_from_ne_true (is_store_to d.location s.action) (λ k.
        f.other (spot t i) (record { slot = s; stands = at; stores = k }) refl m))
        ∙ b.start d.location (spot t (marks t).done) f unread

    memory : (f : FromStore test n edge d.location (spot t (marks t).done)) → (IsOpen test n marks f.source → ⊥)
        → NoStoreIn test n t d.location (marks t).drained (marks t).done
        → readable (after_all test initial events) t d.location ≡ value_at test n d.location f.source f.stores
    memory f shut none =
        finds_memory test n edge wanted marks events b t d.location none
        ∙ b.stored d.location (spot t (marks t).done) f unread shut

    source_access : (f : FromStore test n edge d.location (spot t (marks t).done))
        → is_access f.stores.slot.action ≡ true
    source_access f =
        storing_access f.stores.slot.action (store_stores d.location f.stores.slot.action f.stores.stores)

    afar : (f : FromStore test n edge d.location (spot t (marks t).done))
        → Afar test n edge d.location (spot t (marks t).done) f.source
        → readable (after_all test initial events) t d.location ≡ value_at test n d.location f.source f.stores
    afar f a =
        let shut : IsOpen test n marks f.source → ⊥ = λ o. free f.source a.leads o in
        memory f shut (λ i s l m at. false_from_ne_true (is_store_to d.location s.action) (λ k.
        shut (b.closed (spot t i) f.source (a.behind (spot t i) (record { slot = s; stands = at; stores = k }) refl m)
        (own_open test n marks t i s l at (store_stores d.location s.action k)) f.stores.slot f.stores.stands
        (source_access f))))

    low : (f : FromStore test n edge d.location (spot t (marks t).done))
        → Near test n d.location (spot t (marks t).done) f.source → (i : ℕ) (s : Slot)
        → i < (marks t).done → slice_get (loop_of test n t) i ≡ Some s → is_store_to d.location s.action ≡ true
        → i ≤ f.source.index
    low f a i s m at k = a.newest (spot t i) (record { slot = s; stands = at; stores = k }) refl m

    near : (f : FromStore test n edge d.location (spot t (marks t).done))
        → Near test n d.location (spot t (marks t).done) f.source
        → ((marks t).drained ≤ f.source.index) ⊎ (f.source.index < (marks t).drained)
        → readable (after_all test initial events) t d.location ≡ value_at test n d.location f.source f.stores
    near f a (inl l) =
        let mine : f.source.thread ≡ t = a.own in
        let sl = f.stores.slot in
        let P : ℕ → Type 0 = λ u. slice_get (loop_of test n u) f.source.index ≡ Some sl in
        let at : slice_get (loop_of test n t) f.source.index ≡ Some sl = subst P mine f.stores.stands in
        let loc : event_location test (deed t sl Push) ≡ d.location =
        (λ j. site_location test (record { thread = sym mine j; place = sl.place }))
        ∙ location_at test n d.location f.source f.stores in
        finds_own test n edge wanted marks events b t d.location f.source.index sl l a.before at f.stores.stores
        (λ i s g m h. false_from_ne_true (is_store_to d.location s.action) (λ k.
        let z = low f a i s m h k in omega arith))
        ∙ (λ j. value_of test (loc j) (record { thread = sym mine j; place = sl.place }) sl.iteration)
    near f a (inr l) =
        let mine : f.source.thread ≡ t = a.own in
        memory f (λ o.
        let S : ℕ → Type 0 = λ u. (marks u).drained ≤ f.source.index in
        let same : o.slot ≡ f.stores.slot = one_slot o.slot f.stores.slot (sym o.stands ∙ f.stores.stands) in
        let late : (marks t).drained ≤ f.source.index = subst S mine (late_write (is_storing o.slot.action)
        (marks f.source.thread) f.source.index
        (ap (λ (z : Slot). is_storing z.action) same
        ∙ store_stores d.location f.stores.slot.action f.stores.stores) o.late) in
        omega arith)
        (λ i s g m h. false_from_ne_true (is_store_to d.location s.action) (λ k.
        let z = low f a i s m h k in omega arith))

    cases : (p : ℕ) → ((marks t).drained ≤ p) ⊎ (p < (marks t).drained)
    cases p = turn (cases_lt p (marks t).drained)
      where
        turn : (p < (marks t).drained) ⊎ ((marks t).drained ≤ p) → ((marks t).drained ≤ p) ⊎ (p < (marks t).drained)
        turn (inl l) = inr l
        turn (inr l) = inl l

    by : (f : FromStore test n edge d.location (spot t (marks t).done))
        → Afar test n edge d.location (spot t (marks t).done) f.source
        ⊎ Near test n d.location (spot t (marks t).done) f.source
        → readable (after_all test initial events) t d.location ≡ value_at test n d.location f.source f.stores
    by f (inl a) = afar f a
    by f (inr a) = near f a (cases f.source.index)

    go : (FromStart test n edge d.location (spot t (marks t).done) × (v ≡ 0))
        ⊎ ((f : FromStore test n edge d.location (spot t (marks t).done))
        × (v ≡ value_at test n d.location f.source f.stores))
        → readable (after_all test initial events) t d.location ≡ v
    go (inl f) = start f.0 ∙ sym f.1
    go (inr f) = by f.0 f.0.place ∙ sym f.1

-- the event of a reading action reads what is wanted
wants_value : (test : LitmusTest) (n : ℕ) (edge : Spot → Spot → Bool) (wanted : Spot → ℕ → Bool) (marks : ℕ → Mark)
    (events : List Event) → AllDraw test n edge wanted → Begun test n edge wanted marks events → (t v : ℕ) (s : Slot)
    (k : Kind) → slice_get (loop_of test n t) (marks t).done ≡ Some s
    → IsOpen test n marks (spot t (marks t).done) → IsFree test n edge marks (spot t (marks t).done)
    → v ≡ readable (after_all test initial events) t (event_location test (deed t s k))
    → (w : ℕ) → wanted (spot_of test (deed t s k)) w ≡ true → v ≡ w
wants_value test n edge wanted marks events draws b t v s k at unread free value w h =
    let index : (marks t).done ≡ index_of test (deed t s k) = (slot_at (body_of test t) n (marks t).done s at).index in
    let W : ℕ → Type 0 = λ i. wanted (spot t i) w ≡ true in
    let d = draws (spot t (marks t).done) w (subst W (sym index) h) in
    let same : d.slot ≡ s = one_slot d.slot s (sym d.stands ∙ at) in
    let x : event_location test (deed t s k) ≡ d.location =
    sym (ap (λ (z : Slot). site_location test (record { thread = t; place = z.place })) same) ∙ d.reads in
    value ∙ ap (readable (after_all test initial events) t) x
    ∙ read_value test n edge wanted marks events b t w d unread free

-- Events.

no_value : (v : ℕ) → None ≡ Some v → ⊥
no_value v h = cc

some_is : (a b : ℕ) → Some a ≡ Some b → a ≡ b
some_is a b h = cc

-- an event can be next, and what is kept stays so
pub record Goes (test : LitmusTest) (n : ℕ) (edge : Spot → Spot → Bool) (wanted : Spot → ℕ → Bool) (marks : ℕ → Mark)
    (events : List Event) (t i : ℕ) (s : Slot) (k : Kind) : Type 0 where
  pub next : Next test n marks events t i s k
  pub comes : Comes test n edge wanted marks t i s k

abbrev LateOf : (marks : ℕ → Mark) → ℕ → Slot → Mark → ℕ → Type 0
LateOf marks t s m p = cond (is_storing s.action) m.drained m.done ≤ p

-- by the mark of its thread
late_in : (test : LitmusTest) (n : ℕ) (marks : ℕ → Mark) (t : ℕ) (a : Spot) → (o : IsOpen test n marks a)
    → t ≡ a.thread → cond (is_storing o.slot.action) (marks t).drained (marks t).done ≤ a.index
late_in test n marks t a o e =
    let P : ℕ → Type 0 = λ u. cond (is_storing o.slot.action) (marks u).drained (marks u).done ≤ a.index in
    subst P (sym e) o.late

-- the spot's slot in thread t
slot_here : (test : LitmusTest) (n : ℕ) (marks : ℕ → Mark) (t : ℕ) (a : Spot) → (o : IsOpen test n marks a)
    → t ≡ a.thread → slice_get (loop_of test n t) a.index ≡ Some o.slot
slot_here test n marks t a o e =
    let P : ℕ → Type 0 = λ u. slice_get (loop_of test n u) a.index ≡ Some o.slot in subst P (sym e) o.stands

-- the mark moves over one action, which is no store in memory
stays_done : (test : LitmusTest) (n : ℕ) (marks : ℕ → Mark) (t : ℕ) (s : Slot) (C : Spot → Type 0)
    → slice_get (loop_of test n t) (marks t).done ≡ Some s
    → ((a : Spot) → is_storing s.action ≡ false → is_access s.action ≡ true → a ≡ spot t (marks t).done → C a)
    → (a : Spot) → (o : IsOpen test n marks a)
    → (t ≡ a.thread
    → (cond (is_storing o.slot.action) (marks t).drained ((marks t).done + 1) ≤ a.index) ⊎ C a)
stays_done test n marks t s C at f a o e = go (cases_Bool (is_storing o.slot.action))
  where
    late : cond (is_storing o.slot.action) (marks t).drained (marks t).done ≤ a.index
    late = late_in test n marks t a o e

    by : is_storing o.slot.action ≡ false → ((marks t).done ≡ a.index) ⊎ ((marks t).done ≡ a.index → ⊥)
        → (cond (is_storing o.slot.action) (marks t).drained ((marks t).done + 1) ≤ a.index) ⊎ C a
    by q (inl i) =
        let is : a ≡ spot t (marks t).done = (λ j. record { thread = sym e j; index = sym i j }) in
        let P : ℕ → Type 0 = λ z. slice_get (loop_of test n t) z ≡ Some s in
        let same : o.slot ≡ s = one_slot o.slot s (sym (slot_here test n marks t a o e) ∙ subst P i at) in
        inr (f a (sym (ap (λ (z : Slot). is_storing z.action) same) ∙ q)
        (sym (ap (λ (z : Slot). is_access z.action) same) ∙ o.access) is)
    by q (inr ne) =
        let l : (marks t).done ≤ a.index = late_load (is_storing o.slot.action) (marks t) a.index q late in
        inl (put_load (is_storing o.slot.action) (record { done = (marks t).done + 1; drained = (marks t).drained })
        a.index q (omega arith))

    go : (is_storing o.slot.action ≡ true) ⊎ (is_storing o.slot.action ≡ false)
        → (cond (is_storing o.slot.action) (marks t).drained ((marks t).done + 1) ≤ a.index) ⊎ C a
    go (inl q) =
        inl (put_write (is_storing o.slot.action) (record { done = (marks t).done + 1; drained = (marks t).drained })
        a.index q (late_write (is_storing o.slot.action) (marks t) a.index q late))
    go (inr q) = by q (cases_eq (marks t).done a.index)

pub goes_push : (test : LitmusTest) (n : ℕ) (edge : Spot → Spot → Bool) (wanted : Spot → ℕ → Bool) (marks : ℕ → Mark)
    (events : List Event) → Begun test n edge wanted marks events → (t : ℕ) (s : Slot) → t < length test.bodies
    → slice_get (loop_of test n t) (marks t).done ≡ Some s → is_store s.action ≡ true → Gives s.action Push
    → is_storing s.action ≡ true → Goes test n edge wanted marks events t (marks t).done s Push
goes_push test n edge wanted marks events b t s below at store gives storing =
    let r : Mark = record { done = (marks t).done + 1; drained = (marks t).drained } in
    record {
      next = next_push test n marks events t s b.gone below at store gives storing;
      comes = record {
        back = λ a o. open_back test n marks t r a (omega arith) (omega arith) o;
        stays = λ a o. open_stays test n marks t r a (Came test n edge marks t (marks t).done Push a) o
            (stays_done test n marks t s (Came test n edge marks t (marks t).done Push) at
            (λ m q h e. absurd (true≢false (sym storing ∙ q))) a o);
        comes = λ k. cc;
        wants = λ v w k. absurd (no_value v k);
      };
    }

pub goes_fence : (test : LitmusTest) (n : ℕ) (edge : Spot → Spot → Bool) (wanted : Spot → ℕ → Bool) (marks : ℕ → Mark)
    (events : List Event) → Begun test n edge wanted marks events → (t : ℕ) (s : Slot) → t < length test.bodies
    → slice_get (loop_of test n t) (marks t).done ≡ Some s → Gives s.action Fenced → is_storing s.action ≡ false
    → is_access s.action ≡ false → queue test n marks t ≡ [] → Goes test n edge wanted marks events t (marks t).done s Fenced
goes_fence test n edge wanted marks events b t s below at gives quiet none q =
    let r : Mark = record { done = (marks t).done + 1; drained = (marks t).drained } in
    record {
      next = next_fence test n marks events t s b.gone below at gives quiet q;
      comes = record {
        back = λ a o. open_back test n marks t r a (omega arith) (omega arith) o;
        stays = λ a o. open_stays test n marks t r a (Came test n edge marks t (marks t).done Fenced a) o
            (stays_done test n marks t s (Came test n edge marks t (marks t).done Fenced) at
            (λ m z h e. absurd (true≢false (sym h ∙ none))) a o);
        comes = λ k. cc;
        wants = λ v w k. absurd (no_value v k);
      };
    }

free_at : (test : LitmusTest) (n : ℕ) (edge : Spot → Spot → Bool) (marks : ℕ → Mark) (a c : Spot) → a ≡ c
    → IsFree test n edge marks c → IsFree test n edge marks a
free_at test n edge marks a c e f = let P : Spot → Type 0 = λ z. IsFree test n edge marks z in subst P (sym e) f

pub goes_read : (test : LitmusTest) (n : ℕ) (edge : Spot → Spot → Bool) (wanted : Spot → ℕ → Bool) (marks : ℕ → Mark)
    (events : List Event) → AllDraw test n edge wanted → Begun test n edge wanted marks events → (t : ℕ) (s : Slot)
    → t < length test.bodies → slice_get (loop_of test n t) (marks t).done ≡ Some s
    → ((v : ℕ) → Gives s.action (Read v)) → is_storing s.action ≡ false → is_access s.action ≡ true
    → IsFree test n edge marks (spot t (marks t).done) → Goes test n edge wanted marks events t (marks t).done s (Read (readable (after_all test initial events) t (event_location test (deed t s Drain))))
goes_read test n edge wanted marks events draws b t s below at gives quiet access free =
    let v = readable (after_all test initial events) t (event_location test (deed t s Drain)) in
    let r : Mark = record { done = (marks t).done + 1; drained = (marks t).drained } in
    let unread = not_done test n marks t (marks t).done s (b.gone.stands.own t).order (omega arith) at access in
    record {
      next = next_read test n marks events t s v b.gone below at (gives v) quiet refl;
      comes = record {
        back = λ a o. open_back test n marks t r a (omega arith) (omega arith) o;
        stays = λ a o. open_stays test n marks t r a (Came test n edge marks t (marks t).done (Read v) a) o
            (stays_done test n marks t s (Came test n edge marks t (marks t).done (Read v)) at (λ m z h q. record {
              is = q;
              free = free_at test n edge marks m (spot t (marks t).done) q free;
              writes = λ x w.
                  let P : Spot → Type 0 = λ y. slot_in test n y ≡ Some w.slot in
                  let same : w.slot ≡ s = one_slot w.slot s (sym (subst P q w.stands) ∙ at) in
                  absurd (true≢false (sym (store_stores x w.slot.action w.stores)
                  ∙ ap (λ (y : Slot). is_storing y.action) same ∙ quiet));
            }) a o);
        comes = λ k. cc;
        wants = λ u w k h. sym (some_is v u k)
            ∙ wants_value test n edge wanted marks events draws b t v s (Read v) at unread free refl w h;
      };
    }

pub goes_drain : (test : LitmusTest) (n : ℕ) (edge : Spot → Spot → Bool) (wanted : Spot → ℕ → Bool) (marks : ℕ → Mark)
    (events : List Event) → Begun test n edge wanted marks events → (t place : ℕ) (s : Slot)
    → t < length test.bodies → IsOldest test n t (marks t).drained (marks t).done place s
    → IsFree test n edge marks (spot t place) → Goes test n edge wanted marks events t place s Drain
goes_drain test n edge wanted marks events b t place s below old free =
    let r : Mark = record { done = (marks t).done; drained = place + 1 } in
    let from = old.after in
    let under = old.below in
    record {
      next = next_drain test n marks events t place s b.gone below old;
      comes = record {
        back = λ a o. open_back test n marks t r a (omega arith) (omega arith) o;
        stays = λ a o. open_stays test n marks t r a (Came test n edge marks t place Drain a) o (λ q. stays a o q);
        comes = λ k. (
          own_open test n marks t place s old.after old.stands old.storing,
          free,
          open_not test n marks t place r under (omega arith),
        );
        wants = λ v w k. absurd (no_value v k);
      };
    }
  where
    stays : (a : Spot) → (o : IsOpen test n marks a) → t ≡ a.thread
        → (cond (is_storing o.slot.action) (place + 1) (marks t).done ≤ a.index)
        ⊎ Came test n edge marks t place Drain a
    stays a o e = go (cases_Bool (is_storing o.slot.action))
      where
        late : cond (is_storing o.slot.action) (marks t).drained (marks t).done ≤ a.index
        late = late_in test n marks t a o e

        by : is_storing o.slot.action ≡ true → (a.index < place) ⊎ (place ≤ a.index)
            → (place ≡ a.index) ⊎ (place ≡ a.index → ⊥)
            → (cond (is_storing o.slot.action) (place + 1) (marks t).done ≤ a.index)
            ⊎ Came test n edge marks t place Drain a
        by q (inl l) z =
            absurd (true≢false (sym q ∙ old.none_before a.index o.slot
            (late_write (is_storing o.slot.action) (marks t) a.index q late) l (slot_here test n marks t a o e)))
        by q (inr l) (inl z) =
            let is : a ≡ spot t place = (λ i. record { thread = sym e i; index = sym z i }) in
            inr (record {
              is = is;
              free = free_at test n edge marks a (spot t place) is free;
              writes = λ x w. refl;
            })
        by q (inr l) (inr ne) =
            inl (put_write (is_storing o.slot.action) (record { done = (marks t).done; drained = place + 1 }) a.index q
            (omega arith))

        go : (is_storing o.slot.action ≡ true) ⊎ (is_storing o.slot.action ≡ false)
            → (cond (is_storing o.slot.action) (place + 1) (marks t).done ≤ a.index)
            ⊎ Came test n edge marks t place Drain a
        go (inl q) = by q (cases_lt a.index place) (cases_eq place a.index)
        go (inr q) =
            inl (put_load (is_storing o.slot.action) (record { done = (marks t).done; drained = place + 1 }) a.index q
            (late_load (is_storing o.slot.action) (marks t) a.index q late))

-- where no action between the marks stores, nothing waits
pub none_queue : (test : LitmusTest) (n : ℕ) (marks : ℕ → Mark) (t : ℕ)
    → StoresNone test n t (marks t).drained (marks t).done → queue test n marks t ≡ []
none_queue test n marks t none = go (queue test n marks t) refl
  where
    go : (ws : List Slot) → queue test n marks t ≡ ws → queue test n marks t ≡ []
    go [] e = e
    go (w ∷ ws) e =
        let o = oldest (loop_of test n t) (marks t).drained (marks t).done w ws e in
        absurd (true≢false (sym o.storing ∙ none o.place w o.from o.below o.stands))

pub goes_exchange : (test : LitmusTest) (n : ℕ) (edge : Spot → Spot → Bool) (wanted : Spot → ℕ → Bool)
    (marks : ℕ → Mark)
    (events : List Event) → AllDraw test n edge wanted → Begun test n edge wanted marks events → (t : ℕ) (s : Slot)
    → t < length test.bodies → slice_get (loop_of test n t) (marks t).done ≡ Some s
    → ((v : ℕ) → Gives s.action (Exchanged v)) → is_storing s.action ≡ true
    → StoresNone test n t (marks t).drained (marks t).done
    → IsFree test n edge marks (spot t (marks t).done) → Goes test n edge wanted marks events t (marks t).done s (Exchanged ((after_all test initial events).memory (event_location test (deed t s Drain))))
goes_exchange test n edge wanted marks events draws b t s below at gives storing none free =
    let z = after_all test initial events in
    let v = z.memory (event_location test (deed t s Drain)) in
    let q : queue test n marks t ≡ [] = none_queue test n marks t none in
    let empty : z.buffer t ≡ [] = (b.gone.stands.own t).buffer ∙ ap (map (slot_write test t)) q in
    let found : v ≡ readable z t (event_location test (deed t s Drain)) = rw empty refl in
    let r : Mark = record { done = (marks t).done + 1; drained = (marks t).done + 1 } in
    let order : (marks t).drained ≤ (marks t).done = (b.gone.stands.own t).order in
    let unread = not_done test n marks t (marks t).done s order (omega arith) at (storing_access s.action storing) in
    record {
      next = next_exchange test n marks events t s v b.gone below at (gives v) storing q (empty, refl);
      comes = record {
        back = λ a o. open_back test n marks t r a (omega arith) (omega arith) o;
        stays = λ a o. open_stays test n marks t r a (Came test n edge marks t (marks t).done (Exchanged v) a) o
            (λ e. stays v a o e);
        comes = λ k. (unread, free, open_not test n marks t (marks t).done r (omega arith) (omega arith));
        wants = λ u w k h. sym (some_is v u k)
            ∙ wants_value test n edge wanted marks events draws b t v s (Exchanged v) at unread free found w h;
      };
    }
  where
    stays : (v : ℕ) (a : Spot) → (o : IsOpen test n marks a) → t ≡ a.thread
        → (cond (is_storing o.slot.action) ((marks t).done + 1) ((marks t).done + 1) ≤ a.index)
        ⊎ Came test n edge marks t (marks t).done (Exchanged v) a
    stays v a o e = go (cases_Bool (is_storing o.slot.action))
      where
        late : cond (is_storing o.slot.action) (marks t).drained (marks t).done ≤ a.index
        late = late_in test n marks t a o e

        here : (marks t).done ≡ a.index → Came test n edge marks t (marks t).done (Exchanged v) a
        here q =
            let is : a ≡ spot t (marks t).done = (λ i. record { thread = sym e i; index = sym q i }) in
            record {
              is = is;
              free = free_at test n edge marks a (spot t (marks t).done) is free;
              writes = λ x w. refl;
            }

        past : ((marks t).done + 1 ≤ a.index)
            → (cond (is_storing o.slot.action) ((marks t).done + 1) ((marks t).done + 1) ≤ a.index)
        past l = both (is_storing o.slot.action)
          where
            both : (c : Bool) → cond c ((marks t).done + 1) ((marks t).done + 1) ≤ a.index
            both true = l
            both false = l

        by : is_storing o.slot.action ≡ true → (a.index < (marks t).done) ⊎ ((marks t).done ≤ a.index)
            → ((marks t).done ≡ a.index) ⊎ ((marks t).done ≡ a.index → ⊥)
            → (cond (is_storing o.slot.action) ((marks t).done + 1) ((marks t).done + 1) ≤ a.index)
            ⊎ Came test n edge marks t (marks t).done (Exchanged v) a
        by q (inl l) z =
            absurd (true≢false (sym q ∙ none a.index o.slot
            (late_write (is_storing o.slot.action) (marks t) a.index q late) l (slot_here test n marks t a o e)))
        by q (inr l) (inl z) = inr (here z)
        by q (inr l) (inr ne) = inl (past (omega arith))

        quiet : is_storing o.slot.action ≡ false → ((marks t).done ≡ a.index) ⊎ ((marks t).done ≡ a.index → ⊥)
            → (cond (is_storing o.slot.action) ((marks t).done + 1) ((marks t).done + 1) ≤ a.index)
            ⊎ Came test n edge marks t (marks t).done (Exchanged v) a
        quiet q (inl z) = inr (here z)
        quiet q (inr ne) =
            let l : (marks t).done ≤ a.index = late_load (is_storing o.slot.action) (marks t) a.index q late in
            inl (past (omega arith))

        go : (is_storing o.slot.action ≡ true) ⊎ (is_storing o.slot.action ≡ false)
            → (cond (is_storing o.slot.action) ((marks t).done + 1) ((marks t).done + 1) ≤ a.index)
            ⊎ Came test n edge marks t (marks t).done (Exchanged v) a
        go (inl q) = by q (cases_lt a.index (marks t).done) (cases_eq (marks t).done a.index)
        go (inr q) = quiet q (cases_eq (marks t).done a.index)
