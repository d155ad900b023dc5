-- The order of a run's moments has kept order.
use Rattle.std.proofs.Common.{◌≡◌, ℕ, ◌<◌, nat_lt, lt-ltb, true, false, Some, List, ◌∷◌, ◌++◌, length, slice_get, refl, sym, ◌∙◌, arith, subst, inl, inr, ◌⊎◌}
use Rattle.std.proofs.lemmas.Bool.{cases_Bool}
use Rattle.std.specs.List.{list_any}
use Rattle.x86_subset.specs.Test.{LitmusTest, body_of}
use Rattle.x86_subset.specs.declared.instr.Instr.{Instr}
use Rattle.x86_subset.specs.declared.instr.Instr.TheVariants.{Store}
use Rattle.tso_machine.specs.Event.{Event, is_drain}
use Rattle.tso_machine.specs.Part.{Slot}
use Rattle.tso_machine.specs.Run.{IsRunOf}
use Rattle.tso_machine.specs.Source.{is_push}
use Rattle.seq_conv.specs.Sequence.{Origin, action_at, store_of}
use Rattle.perp_base.proofs.Lists.{among_append_left}
use Rattle.verdict.specs.Edges.{is_barrier}
use Rattle.verdict.proofs.Deeds.{HasDeed, IsEarlier, deed_before_drain, deed_gives, deed_order, has_in, run_cut, store_before_barrier, write_order}
use Rattle.verdict.proofs.EventKinds.{is_store, is_storing}
use Rattle.verdict.proofs.InOrder.{goes_forward, moment_writes}
use Rattle.verdict.proofs.Moments.{event_tells, has_moment, moment_drains, moment_of_deed, moment_of_write}
use Rattle.verdict.proofs.ReadEdges.{reading_no_store}
use Rattle.run_witness.specs.Marks.{loop_of}
use Rattle.run_witness.proofs.Slots.{earlier_index, slot_at}
use Rattle.run_orders.specs.Orders.{KeepsOrder, Spot, slot_in}
use Rattle.run_orders.proofs.Begun.{slot_action, spot}
use Rattle.run_orders.proofs.Making.{slot_thread}
use Rattle.once.specs.Moments.{comes_before, moment_by}
use Rattle.once.proofs.Turns.{Leads, is_come, moment}

-- Spots and origins.

abbrev pub origin_at : Spot → Slot → Origin
origin_at a s = record { thread = a.thread; place = s.place; iteration = s.iteration }

pub leads_edge : (test : LitmusTest) (n : ℕ) (run : List Event) (a b : Spot) (s z : Slot) → slot_in test n a ≡ Some s
    → slot_in test n b ≡ Some z → Leads run (origin_at a s) (origin_at b z) → comes_before test n run a b ≡ true
leads_edge test n run a b s z at bt l =
    (λ i. nat_lt (moment_by run a.thread (at i)) (moment_by run b.thread (bt i)))
    ∙ lt-ltb (moment run (origin_at a s)) (moment run (origin_at b z)) l

pub earlier_in : (test : LitmusTest) (n t p q : ℕ) (a b : Slot) → p < q → slice_get (loop_of test n t) p ≡ Some a
    → slice_get (loop_of test n t) q ≡ Some b → IsEarlier a.iteration a.place b.iteration b.place
earlier_in test n t p q a b l at bt =
    let x = slot_at (body_of test t) n p a at in
    let y = slot_at (body_of test t) n q b bt in
    let i = x.index in
    let j = y.index in
    earlier_index (length (body_of test t)) a.iteration a.place b.iteration b.place x.within y.within (omega arith)

-- two slots of a thread, and the moment of the second
record Two (test : LitmusTest) (n t : ℕ) (a b : Slot) (before : List Event) (e : Event) (after : List Event) : Type 0
  where
    run : IsRunOf test n (before ++ e ∷ after)
    below : t < length test.bodies
    thread : e.thread ≡ t
    place : e.place ≡ b.place
    iteration : e.iteration ≡ b.iteration
    stays : is_push e ≡ false
    early : a.iteration < n
    earlier : IsEarlier a.iteration a.place e.iteration e.place
    first : action_at test (record { thread = t; place = a.place }) ≡ Some a.action
    second : action_at test (record { thread = t; place = b.place }) ≡ Some b.action
    drains : is_drain e ≡ is_store b.action

two_leads : (test : LitmusTest) (n : ℕ) (run : List Event) (t p q : ℕ) (a b : Slot) → IsRunOf test n run → p < q
    → slice_get (loop_of test n t) p ≡ Some a → slice_get (loop_of test n t) q ≡ Some b
    → ((before : List Event) (e : Event) (after : List Event) → Two test n t a b before e after
    → list_any (is_come (origin_at (spot t p) a)) before ≡ true)
    → comes_before test n run (spot t p) (spot t q) ≡ true
two_leads test n run t p q a b r l at bt f =
    let oa = origin_at (spot t p) a in
    let ob = origin_at (spot t q) b in
    let below = slot_thread test n (spot t p) a at in
    let first = slot_action test n (spot t p) a at in
    let second = slot_action test n (spot t q) b bt in
    let x = slot_at (body_of test t) n p a at in
    let y = slot_at (body_of test t) n q b bt in
    let early = earlier_in test n t p q a b l at bt in
    leads_edge test n run (spot t p) (spot t q) a b at bt
    (goes_forward (is_come oa) (is_come ob) run (has_moment test n run (store_of ob) b.iteration b.action r below second
    y.early)
    (λ before e after w none passes.
    let cut = subst (IsRunOf test n) w r in
    let m = event_tells is_push (store_of ob) b.iteration e passes in
    f before e after (record {
      run = cut;
      below = below;
      thread = m.thread;
      place = m.place;
      iteration = m.iteration;
      stays = m.stays;
      early = x.early;
      earlier = (let P : ℕ → ℕ → Type 0 = λ i j. IsEarlier a.iteration a.place i j in
          let Q : ℕ → Type 0 = λ i. P i b.place in
          let R : ℕ → Type 0 = λ j. P e.iteration j in
          subst R (sym m.place) (subst Q (sym m.iteration) early));
      first = first;
      second = second;
      drains = moment_drains test n before e after (store_of ob) b.iteration b.action cut m second;
    })))

deed_leads : (test : LitmusTest) (n t p : ℕ) (a b : Slot) (before : List Event) (e : Event) (after : List Event)
    → Two test n t a b before e after → is_store a.action ≡ false
    → list_any (is_come (origin_at (spot t p) a)) before ≡ true
deed_leads test n t p a b before e after w h =
    moment_of_deed test n (record { thread = t; place = a.place }) a.iteration before
    (e ∷ after) a.action w.run w.first h
    (go (cases_Bool (is_drain e)))
  where
    go : (is_drain e ≡ true) ⊎ (is_drain e ≡ false) → HasDeed t a.place a.iteration before
    go (inl d) = deed_before_drain test n before e after t a.place a.iteration a.action w.run w.below w.thread d w.earlier
        w.first w.early
    go (inr d) = deed_order test n before e after t a.place a.iteration a.action w.run w.below w.thread d w.earlier
        w.first w.early

store_leads : (test : LitmusTest) (n t p : ℕ) (a b : Slot) (before : List Event) (e : Event) (after : List Event)
    → Two test n t a b before e after → is_storing a.action ≡ true → is_storing b.action ≡ true
    → list_any (is_come (origin_at (spot t p) a)) before ≡ true
store_leads test n t p a b before e after w h k =
    moment_of_write (record { thread = t; place = a.place }) a.iteration before
    (write_order test n before e after t a.place a.iteration a.action w.run w.below w.thread
    (moment_writes test n before e after (record { thread = t; place = b.place }) b.iteration b.action w.run
    (record { stays = w.stays; thread = w.thread; place = w.place; iteration = w.iteration }) w.second k)
    w.earlier w.first h w.early)

barrier_leads : (test : LitmusTest) (n t p : ℕ) (a c b : Slot) (before : List Event) (e : Event) (after : List Event)
    → Two test n t a b before e after → Two test n t c b before e after
    → IsEarlier a.iteration a.place c.iteration c.place → is_store a.action ≡ true → is_store b.action ≡ false
    → is_barrier c.action ≡ true → list_any (is_come (origin_at (spot t p) a)) before ≡ true
barrier_leads test n t p a c b before e after w u l h k z =
    let f = deed_order test n before e after t c.place c.iteration c.action u.run u.below u.thread
    (u.drains ∙ k) u.earlier
    u.first u.early in
    let d = f.event in
    let gives = deed_gives test n (before ++ e ∷ after) d t c.place c.action u.run
    (among_append_left d before (e ∷ after) f.among) f.is f.thread f.place u.first in
    let P : ℕ → ℕ → Type 0 = λ i j. IsEarlier a.iteration a.place i j in
    let Q : ℕ → Type 0 = λ i. P i c.place in
    let R : ℕ → Type 0 = λ j. P d.iteration j in
    let early = subst R (sym f.place) (subst Q (sym f.iteration) l) in
    let g = store_before_barrier test n f.among.front d (f.among.rest ++ e ∷ after) t a.place a.iteration c.action
    a.action (run_cut test n before (e ∷ after) d f.among w.run) w.below f.thread gives z early w.first h w.early in
    moment_of_write (record { thread = t; place = a.place }) a.iteration before (has_in d before f.among g)

quiet_store : (a : Instr) → is_storing a ≡ false → is_store a ≡ false
quiet_store (Store loc written) h = cc
quiet_store _ h = refl

-- the same with another first slot
two_of : (test : LitmusTest) (n t i q : ℕ) (a c b : Slot) (before : List Event) (e : Event) (after : List Event)
    → Two test n t a b before e after → i < q → slice_get (loop_of test n t) i ≡ Some c
    → slice_get (loop_of test n t) q ≡ Some b → Two test n t c b before e after
two_of test n t i q a c b before e after w l ct bt = record {
  run = w.run;
  below = w.below;
  thread = w.thread;
  place = w.place;
  iteration = w.iteration;
  stays = w.stays;
  early = (slot_at (body_of test t) n i c ct).early;
  earlier = (let P : ℕ → ℕ → Type 0 = λ j k. IsEarlier c.iteration c.place j k in
      let Q : ℕ → Type 0 = λ j. P j b.place in
      let R : ℕ → Type 0 = λ k. P e.iteration k in
      subst R (sym w.place) (subst Q (sym w.iteration) (earlier_in test n t i q c b l ct bt)));
  first = slot_action test n (spot t i) c ct;
  second = w.second;
  drains = w.drains;
}

pub keeps_order : (test : LitmusTest) (n : ℕ) (run : List Event) → IsRunOf test n run
    → KeepsOrder test n (comes_before test n run)
keeps_order test n run r = record {
  reading = λ t p q a b l at bt h acc. two_leads test n run t p q a b r l at bt (λ before e after w.
      deed_leads test n t p a b before e after w (reading_no_store a.action h));
  storing = λ t p q a b l at bt h k. two_leads test n run t p q a b r l at bt (λ before e after w.
      store_leads test n t p a b before e after w h k);
  barred = λ t p i q a c b l m at ct bt h k acc.
      let pq : p < q = omega arith in
      two_leads test n run t p q a b r pq at bt (λ before e after w.
      by t p i q a c b l m at ct bt h k before e after w (cases_Bool (is_storing b.action))
      (cases_Bool (is_store a.action)));
}
  where
    by : (t p i q : ℕ) (a c b : Slot) → p < i → i < q → slice_get (loop_of test n t) p ≡ Some a
        → slice_get (loop_of test n t) i ≡ Some c → slice_get (loop_of test n t) q ≡ Some b
        → is_storing a.action ≡ true → is_barrier c.action ≡ true → (before : List Event) (e : Event)
        (after : List Event) → Two test n t a b before e after
        → (is_storing b.action ≡ true) ⊎ (is_storing b.action ≡ false)
        → (is_store a.action ≡ true) ⊎ (is_store a.action ≡ false)
        → list_any (is_come (origin_at (spot t p) a)) before ≡ true
    by t p i q a c b l m at ct bt h k before e after w (inl z) y = store_leads test n t p a b before e after w h z
    by t p i q a c b l m at ct bt h k before e after w (inr z) (inr y) = deed_leads test n t p a b before e after w y
    by t p i q a c b l m at ct bt h k before e after w (inr z) (inl y) =
        barrier_leads test n t p a c b before e after w (two_of test n t i q a c b before e after w m ct bt)
        (earlier_in test n t p i a c l at ct) y (quiet_store b.action z) k
