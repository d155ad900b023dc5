-- The moments of a run are an order of the kind that runs are made along.
use Rattle.std.proofs.Common.{◌≡◌, ℕ, ◌+◌, ◌*◌, ◌<◌, ◌≤◌, ◌==◌, not, true, false, Option, None, Some, List, ◌∷◌, ◌++◌, length, slice_get, refl, sym, ap, ◌∙◌, arith, subst, inl, inr, ◌⊎◌}
use Rattle.std.proofs.lemmas.Bool.{and_parts, both_ways, cases_eq, cases_lt, false_from_ne_true, ltb-true, not_from_false}
use Rattle.std.specs.List.{list_any}
use Rattle.x86_subset.specs.Instr.{is_reading, is_store_to}
use Rattle.x86_subset.specs.Test.{LitmusTest, body_of}
use Rattle.x86_subset.specs.declared.instr.Instr.{Instr}
use Rattle.tso_machine.specs.Event.{Event, event_location, is_drain}
use Rattle.tso_machine.specs.Laws.{NamesSource}
use Rattle.tso_machine.specs.Log.{value_read}
use Rattle.tso_machine.specs.Part.{Slot}
use Rattle.tso_machine.specs.Run.{IsRunOf}
use Rattle.tso_machine.specs.Source.{is_memory_kind, is_memory_write, is_pending, is_push, origin_of, source_of}
use Rattle.tso_machine.proofs.Parts.{deed_does}
use Rattle.tso_machine.proofs.Sources.{values_name_their_source_lem}
use Rattle.seq_conv.specs.Sequence.{Origin, action_at, site_location, store_of, stores_of, value_of}
use Rattle.seq_conv.proofs.Stores.{IsStoreOf, stores_are}
use Rattle.perp_base.specs.Last.{last_that}
use Rattle.perp_base.proofs.Lists.{Among, Apart, any_none, among_from_contains, each_among, each_from_among, last_found}
use Rattle.outcome_conv.proofs.Agree.{thread_below}
use Rattle.verdict.specs.Edges.{is_cycle_of}
use Rattle.verdict.proofs.Deeds.{HasDeed, IsEarlier, deed_order, has_in, run_cut}
use Rattle.verdict.proofs.EventKinds.{gives_kind, push_no_drain}
use Rattle.verdict.proofs.Forward.{no_cycle}
use Rattle.verdict.proofs.Moments.{event_from, event_tells, moment_drains, moment_of_deed}
use Rattle.verdict.proofs.ReadEdges.{reading_no_store}
use Rattle.verdict.proofs.Taken.{FromBuffer, among_self, pending_tells}
use Rattle.run_witness.specs.Marks.{index_of, loop_of}
use Rattle.run_witness.proofs.Reading.{store_stores}
use Rattle.tso_machine.proofs.Parts.{deeds}
use Rattle.run_witness.proofs.Slots.{slot_at, slot_of}
use Rattle.decision.proofs.OwnReads.{deed_of_write, deeds_turn, in_front, last_from, same_turn, turn, twice}
use Rattle.run_orders.specs.Orders.{Afar, Draws, FromStart, FromStore, Near, Spot, StoresAt, slot_in, spot_of, value_at}
use Rattle.run_orders.proofs.Begun.{one_slot, slot_action, spot}
use Rattle.run_orders.proofs.Logged.{gives_reading, no_drain_reads}
use Rattle.once.specs.Moments.{RunsAreOrdered, comes_before, moment_by}
use Rattle.once.proofs.Turns.{At, EarlierIn, Leads, Stores, Taken, Waiting, come_first, either_leads, initial_leads, initial_own, is_come, own_came, own_state, source_leads, taken_at, waits_buffer}
use Rattle.once.proofs.KeptMoments.{earlier_in, keeps_order, leads_edge, origin_at}

-- What a read takes.

-- an origin of a spot
stores_origin : (test : LitmusTest) (n x : ℕ) (b : Spot) → (w : StoresAt test n x b)
    → Stores test x (origin_at b w.slot)
stores_origin test n x b w = record {
  action = w.slot.action;
  stands = slot_action test n b w.slot w.stands;
  stores = w.stores;
}

index_is : (test : LitmusTest) (n : ℕ) (b : Spot) (s : Slot) → slot_in test n b ≡ Some s
    → b.index ≡ s.iteration * length (body_of test b.thread) + s.place
index_is test n b s h = (slot_at (body_of test b.thread) n b.index s h).index

-- spots of one origin are one
one_spot : (test : LitmusTest) (n : ℕ) (a b : Spot) (s z : Slot) → slot_in test n a ≡ Some s → slot_in test n b ≡ Some z
    → origin_at a s ≡ origin_at b z → a ≡ b
one_spot test n a b s z at bt e =
    let t : a.thread ≡ b.thread = ap (λ (o : Origin). o.thread) e in
    let i : a.index ≡ b.index = index_is test n a s at
    ∙ (λ j. (e j).iteration * length (body_of test (e j).thread) + (e j).place) ∙ sym (index_is test n b z bt) in
    (λ j. record { thread = t j; index = i j })

-- program order by places of the loop
earlier_spot : (test : LitmusTest) (n : ℕ) (a b : Spot) (s z : Slot) → slot_in test n a ≡ Some s
    → slot_in test n b ≡ Some z → a.thread ≡ b.thread → a.index < b.index → EarlierIn (origin_at a s) (origin_at b z)
earlier_spot test n a b s z at bt e l =
    let P : ℕ → Type 0 = λ t. slice_get (loop_of test n t) b.index ≡ Some z in
    earlier_in test n a.thread a.index b.index s z l at (subst P (sym e) bt)

early_of : (test : LitmusTest) (n : ℕ) (a : Spot) (s : Slot) → slot_in test n a ≡ Some s → s.iteration < n
early_of test n a s h = (slot_at (body_of test a.thread) n a.index s h).early

-- a read, at its event
record ReadHere (test : LitmusTest) (n : ℕ) (before : List Event) (e : Event) (after : List Event) (v : ℕ) : Type 0
  where
    slot : Slot
    stands : slot_in test n (spot_of test e) ≡ Some slot
    reading : is_reading slot.action ≡ true
    origin : origin_at (spot_of test e) slot ≡ origin_of e
    at : At test n (origin_of e) before e after
    value : value_read e ≡ Some v

read_here : (test : LitmusTest) (n : ℕ) (before : List Event) (e : Event) (after : List Event) (v : ℕ)
    → IsRunOf test n (before ++ e ∷ after) → value_read e ≡ Some v → ReadHere test n before e after v
read_here test n before e after v r value =
    let run = before ++ e ∷ after in
    let me : Among e run = record { front = before; rest = after; whole = refl } in
    let drain = no_drain_reads e.kind v value in
    let d = deed_does test n run e r me drain in
    let g = gives_reading d.action e.kind v d.gives value in
    let below = thread_below test e.thread e.place d.action d.stands in
    let push : is_push e ≡ false = (gives_kind d.action e.kind d.gives).push ∙ reading_no_store d.action g.0 in
    record {
      slot = record { iteration = e.iteration; place = e.place; action = d.action };
      stands = slot_of (body_of test e.thread) n e.iteration e.place d.action d.early d.stands;
      reading = g.0;
      origin = refl;
      value = value;
      at = record {
        run = r;
        early = d.early;
        action = d.action;
        stands = d.stands;
        reading = g.0;
        none_before = each_from_among (λ c. is_come (origin_of e) c ≡ false) before (λ c am.
            false_from_ne_true (is_come (origin_of e) c) (λ k.
            let m = event_tells is_push (store_of (origin_of e)) e.iteration c k in
            let quiet : is_drain c ≡ false = moment_drains test n am.front c (am.rest ++ e ∷ after)
            (store_of (origin_of e)) e.iteration d.action (run_cut test n before (e ∷ after) c am r) m d.stands
            ∙ reading_no_store d.action g.0 in
            both_ways (same_turn c e) (in_front same_turn (λ y. not (is_drain y)) e.thread before e after c
            (deeds_turn test n e.thread run (r.performs e.thread below)) refl (not_from_false (is_drain e) drain) am
            m.thread (not_from_false (is_drain c) quiet)) (turn c e m.place m.iteration)));
        passes = event_from is_push (store_of (origin_of e)) e.iteration e push refl refl refl;
      };
    }

start_draws : (test : LitmusTest) (n : ℕ) (before : List Event) (e : Event) (after : List Event) (v : ℕ)
    → IsRunOf test n (before ++ e ∷ after) → ReadHere test n before e after v → source_of test e before ≡ None
    → FromStart test n (comes_before test n (before ++ e ∷ after)) (event_location test e) (spot_of test e)
start_draws test n before e after v r h none =
    let x = event_location test e in
    let run = before ++ e ∷ after in
    record {
      after = λ b w ne.
          let o = origin_at b w.slot in
          leads_edge test n run (spot_of test e) b h.slot w.slot h.stands w.stands
          (subst (λ z. Leads run z o) (sym h.origin)
          (initial_leads test n (origin_of e) o before e after h.at x refl none
          (stores_origin test n x b w)
          (λ q. ne (one_spot test n b (spot_of test e) w.slot h.slot w.stands h.stands (q ∙ sym h.origin)))));
      other = λ b w q l.
          initial_own test n (origin_of e) (origin_at b w.slot) before e after h.at x refl none
          (stores_origin test n x b w) q (early_of test n b w.slot w.stands)
          (subst (EarlierIn (origin_at b w.slot)) h.origin
          (earlier_spot test n b (spot_of test e) w.slot h.slot w.stands h.stands q l));
    }

-- A read that has a source.

record Sourced (test : LitmusTest) (n x v : ℕ) (o : Origin) : Type 0 where
  action : Instr
  stands : action_at test (store_of o) ≡ Some action
  stores : is_store_to x action ≡ true
  early : o.iteration < n
  value : v ≡ value_of test x (store_of o) o.iteration

sourced : (test : LitmusTest) (n x v : ℕ) (o : Origin) → NamesSource test n x v (Some o) → Sourced test n x v o
sourced test n x v o h =
    let k = each_among (IsStoreOf test x) (store_of o) (stores_of test x)
    (among_from_contains (stores_of test x) (store_of o) h.store.0) (stores_are test x) in
    record { action = k.action; stands = k.stands; stores = k.stores; early = h.store.1; value = h.value }

abbrev spot_in : LitmusTest → Origin → Spot
spot_in test o = record { thread = o.thread; index = o.iteration * length (body_of test o.thread) + o.place }

store_draws : (test : LitmusTest) (n : ℕ) (before : List Event) (e : Event) (after : List Event) (v : ℕ) (o : Origin)
    → IsRunOf test n (before ++ e ∷ after) → ReadHere test n before e after v → source_of test e before ≡ Some o
    → Sourced test n (event_location test e) v o
    → (f : FromStore test n (comes_before test n (before ++ e ∷ after)) (event_location test e) (spot_of test e))
    × (v ≡ value_at test n (event_location test e) f.source f.stores)
store_draws test n before e after v o r h source s = (
  record {
    source = spot_in test o;
    stores = record {
      slot = record { iteration = o.iteration; place = o.place; action = s.action };
      stands = slot_of (body_of test o.thread) n o.iteration o.place s.action s.early s.stands;
      stores = s.stores;
    };
    either = either;
    place = place (cases_eq o.thread e.thread);
  },
  s.value,
)
  where
    run : List Event
    run = before ++ e ∷ after

    x : ℕ
    x = event_location test e

    at_source : Slot
    at_source = record { iteration = o.iteration; place = o.place; action = s.action }

    slot_source : slot_in test n (spot_in test o) ≡ Some (record {
      iteration = o.iteration;
      place = o.place;
      action = s.action;
    })
    slot_source = slot_of (body_of test o.thread) n o.iteration o.place s.action s.early s.stands

    stores : Stores test (event_location test e) o
    stores = record { action = s.action; stands = s.stands; stores = s.stores }

    apart : (b : Spot) → (w : StoresAt test n (event_location test e) b) → (b ≡ spot_in test o → ⊥)
        → origin_at b w.slot ≡ o → ⊥
    apart b w ns q = ns (one_spot test n b (spot_in test o) w.slot (record {
      iteration = o.iteration;
      place = o.place;
      action = s.action;
    }) w.stands slot_source q)

    to_source : (b : Spot) → (w : StoresAt test n (event_location test e) b)
        → Leads (before ++ e ∷ after) (origin_at b w.slot) o
        → comes_before test n (before ++ e ∷ after) b (spot_in test o) ≡ true
    to_source b w l =
        leads_edge test n (before ++ e ∷ after) b (spot_in test o) w.slot (record {
          iteration = o.iteration;
          place = o.place;
          action = s.action;
        }) w.stands slot_source l

    from_read : (b : Spot) → (w : StoresAt test n (event_location test e) b)
        → Leads (before ++ e ∷ after) (origin_of e) (origin_at b w.slot)
        → comes_before test n (before ++ e ∷ after) (spot_of test e) b ≡ true
    from_read b w l =
        leads_edge test n (before ++ e ∷ after) (spot_of test e) b h.slot w.slot h.stands w.stands
        (subst (λ z. Leads (before ++ e ∷ after) z (origin_at b w.slot)) (sym h.origin) l)

    either : (b : Spot) → StoresAt test n (event_location test e) b → (b ≡ spot_in test o → ⊥)
        → (b ≡ spot_of test e → ⊥)
        → (comes_before test n (before ++ e ∷ after) b (spot_in test o) ≡ true)
        ⊎ (comes_before test n (before ++ e ∷ after) (spot_of test e) b ≡ true)
    either b w ns nr =
        go (either_leads test n (origin_of e) o (origin_at b w.slot) before e after h.at (event_location test e) refl
        source stores (stores_origin test n (event_location test e) b w) (apart b w ns)
        (λ q. nr (one_spot test n b (spot_of test e) w.slot h.slot w.stands h.stands (q ∙ sym h.origin))))
      where
        go : Leads (before ++ e ∷ after) (origin_at b w.slot) o
            ⊎ Leads (before ++ e ∷ after) (origin_of e) (origin_at b w.slot)
            → (comes_before test n (before ++ e ∷ after) b (spot_in test o) ≡ true)
            ⊎ (comes_before test n (before ++ e ∷ after) (spot_of test e) b ≡ true)
        go (inl l) = inl (to_source b w l)
        go (inr l) = inr (from_read b w l)

    earlier : (b : Spot) → (w : StoresAt test n (event_location test e) b) → b.thread ≡ e.thread
        → b.index < index_of test e → EarlierIn (origin_at b w.slot) (origin_of e)
    earlier b w q l =
        subst (EarlierIn (origin_at b w.slot)) h.origin
        (earlier_spot test n b (spot_of test e) w.slot h.slot w.stands h.stands q l)

    afar : (o.thread ≡ e.thread → ⊥)
        → Afar test n (comes_before test n (before ++ e ∷ after)) (event_location test e) (spot_of test e)
        (spot_in test o)
    afar ne = record {
      leads =
          leads_edge test n (before ++ e ∷ after) (spot_in test o) (spot_of test e) (record {
            iteration = o.iteration;
            place = o.place;
            action = s.action;
          }) h.slot slot_source h.stands
          (subst (λ z. Leads (before ++ e ∷ after) o z) (sym h.origin)
          (source_leads test n (origin_of e) o before e after h.at (event_location test e) refl source ne));
      behind = λ b w q l.
          to_source b w (come_first test n (origin_of e) o (origin_at b w.slot) before e after h.at
          (event_location test e) refl source stores (stores_origin test n (event_location test e) b w)
          (λ z. ne (sym (ap (λ (y : Origin). y.thread) z) ∙ q))
          (own_came test n (origin_of e) o (origin_at b w.slot) before e after h.at
          (event_location test e) refl source ne
          (stores_origin test n (event_location test e) b w) q (early_of test n b w.slot w.stands)
          (earlier b w q l)));
    }

    taken : Taken test (event_location test e) before e o
    taken = taken_at test n (origin_of e) o before e after h.at (event_location test e) refl source

    -- the source is done before the read
    done : HasDeed o.thread o.place o.iteration before
    done = go taken
      where
        go : Taken test (event_location test e) before e o → HasDeed o.thread o.place o.iteration before
        go (inl b) =
            let f = last_found (λ c. Among c before)
            (is_pending test e.thread (event_location test e) before) before b.event
            (among_self before) b.last in
            record {
              event = b.event;
              among = f.1;
              thread = ap (λ (z : Origin). z.thread) b.origin;
              place = ap (λ (z : Origin). z.place) b.origin;
              iteration = ap (λ (z : Origin). z.iteration) b.origin;
              is = push_no_drain b.event.kind
                  ((pending_tells test e.thread (event_location test e) before b.event f.0).push);
            }
        go (inr m) =
            let f = last_found (λ c. Among c before) (is_memory_write test (event_location test e)) before m.event
            (among_self before) m.last in
            let P : Origin → Type 0 = λ z. HasDeed z.thread z.place z.iteration before in
            subst P m.origin (deed_of_write test n before (e ∷ after) m.event r f.1
            ((and_parts (is_memory_kind m.event.kind) (event_location test m.event == event_location test e) f.0).0))

    -- the read is done by its own event alone
    not_twice : HasDeed e.thread e.place e.iteration before → ⊥
    not_twice d =
        both_ways (list_any (is_come (origin_of e)) before)
        (any_none (is_come (origin_of e)) before h.at.none_before)
        (moment_of_deed test n (store_of (origin_of e)) e.iteration before (e ∷ after) h.at.action r h.at.stands
        (reading_no_store h.at.action h.at.reading) d)

    low : o.thread ≡ e.thread → (spot_in test o).index < index_of test e
    low t = go (cases_lt (spot_in test o).index (index_of test e)) (cases_eq (spot_in test o).index (index_of test e))
      where
        go : ((spot_in test o).index < index_of test e) ⊎ (index_of test e ≤ (spot_in test o).index)
            → ((spot_in test o).index ≡ index_of test e) ⊎ ((spot_in test o).index ≡ index_of test e → ⊥)
            → (spot_in test o).index < index_of test e
        go (inl l) q = l
        go (inr l) (inl q) =
            let is : spot_in test o ≡ spot_of test e = (λ i. record { thread = t i; index = q i }) in
            let P : Spot → Type 0 = λ z. slot_in test n z ≡ Some (record {
              iteration = o.iteration;
              place = o.place;
              action = s.action;
            }) in
            let same = one_slot (record { iteration = o.iteration; place = o.place; action = s.action }) h.slot
            (sym (subst P is slot_source) ∙ h.stands) in
            let one : o ≡ origin_of e = (λ i. origin_at (is i) (same i)) ∙ h.origin in
            let Q : Origin → Type 0 = λ z. HasDeed z.thread z.place z.iteration before in
            absurd (not_twice (subst Q one done))
        go (inr l) (inr d) =
            let early = earlier_spot test n (spot_of test e) (spot_in test o) h.slot (record {
              iteration = o.iteration;
              place = o.place;
              action = s.action;
            }) h.stands slot_source (sym t) (omega arith) in
            let f = done in
            let P : Origin → Type 0 = λ z. IsEarlier z.iteration z.place o.iteration o.place in
            let a = subst P h.origin early in
            let b : IsEarlier e.iteration e.place f.event.iteration f.event.place =
            (let R : ℕ → ℕ → Type 0 = λ i j. IsEarlier e.iteration e.place i j in
            let AtPlace : ℕ → Type 0 = λ i. R i o.place in
            let AtIteration : ℕ → Type 0 = λ j. R f.event.iteration j in
            subst AtIteration (sym f.place) (subst AtPlace (sym f.iteration) a)) in
            let g = deed_order test n f.among.front f.event (f.among.rest ++ e ∷ after) e.thread e.place e.iteration
            h.at.action (run_cut test n before (e ∷ after) f.event f.among r)
            (thread_below test e.thread e.place h.at.action h.at.stands) (f.thread ∙ t) f.is b h.at.stands h.at.early in
            absurd (not_twice (has_in f.event before f.among g))

    -- no own store stands between them
    none_between : o.thread ≡ e.thread → (b : Spot) → (w : StoresAt test n (event_location test e) b)
        → b.thread ≡ e.thread → b.index < index_of test e → (spot_in test o).index < b.index → ⊥
    none_between t b w q l g =
        by (own_state test n (origin_of e) (origin_at b w.slot) before e after h.at (event_location test e)
        (stores_origin test n (event_location test e) b w) q (early_of test n b w.slot w.stands) (earlier b w q l))
      where
        ns : b ≡ spot_in test o → ⊥
        ns z = let k : b.index ≡ (spot_in test o).index = ap (λ (y : Spot). y.index) z in omega arith

        early : EarlierIn o (origin_at b w.slot)
        early = earlier_spot test n (spot_in test o) b (record {
          iteration = o.iteration;
          place = o.place;
          action = s.action;
        }) w.slot slot_source w.stands (t ∙ sym q) g

        by : (list_any (is_come (origin_at b w.slot)) before ≡ true)
            ⊎ Waiting test (event_location test e) before e (origin_at b w.slot) → ⊥
        by (inl k) =
            let back = to_source b w (come_first test n (origin_of e) o (origin_at b w.slot) before e after h.at
            (event_location test e) refl source stores (stores_origin test n (event_location test e) b w)
            (apart b w ns) k) in
            let c = spot o.thread b.index in
            let is : c ≡ b = (λ i. record { thread = (t ∙ sym q) i; index = b.index }) in
            let P : Spot → Type 0 = λ z. slot_in test n z ≡ Some w.slot in
            let there : slice_get (loop_of test n o.thread) b.index ≡ Some w.slot = subst P (sym is) w.stands in
            let forth = (keeps_order test n (before ++ e ∷ after) r).storing o.thread (spot_in test o).index b.index
            (record { iteration = o.iteration; place = o.place; action = s.action }) w.slot g slot_source there
            (store_stores (event_location test e) s.action s.stores)
            (store_stores (event_location test e) w.slot.action w.stores) in
            let Q : Spot → Type 0 = λ z. comes_before test n (before ++ e ∷ after) (spot_in test o) z ≡ true in
            let on = subst Q is forth in
            let A = moment_by (before ++ e ∷ after) o.thread (slot_in test n (spot_in test o)) in
            let B = moment_by (before ++ e ∷ after) b.thread (slot_in test n b) in
            let ab : A < B = ltb-true A B on in
            let ba : B < A = ltb-true B A back in
            omega arith
        by (inr k) =
            let x = event_location test e in
            let bf = waits_buffer test x before e (origin_at b w.slot) o k taken in
            let f = k.among in
            let q1 = last_from (is_pending test e.thread x before) f.front k.event f.rest k.pending in
            let one : Some q1.last ≡ Some bf.event = sym q1.is
            ∙ sym (ap (last_that (is_pending test e.thread x before)) f.whole) ∙ bf.last in
            let same : q1.last ≡ bf.event = cc in
            behind k bf same q1.behind
          where
            behind : (k : Waiting test (event_location test e) before e (origin_at b w.slot))
                → (bf : FromBuffer test e.thread (event_location test e) before o) → {last : Event} → last ≡ bf.event
                → (k.event ≡ last) ⊎ Among last k.among.rest → ⊥
            behind k bf z (inl y) =
                let u : k.event ≡ bf.event = y ∙ z in
                let v = bf.origin in
                apart b w ns (λ i. record {
                  thread = (sym k.thread ∙ ap (λ (c : Event). c.thread) u ∙ ap (λ (y : Origin). y.thread) v) i;
                  place = (sym k.place ∙ ap (λ (c : Event). c.place) u ∙ ap (λ (y : Origin). y.place) v) i;
                  iteration = (sym k.iteration ∙ ap (λ (c : Event). c.iteration) u
                      ∙ ap (λ (y : Origin). y.iteration) v) i;
                })
            behind k bf z (inr y) =
                let x = event_location test e in
                let f = k.among in
                let mine : k.event.thread ≡ o.thread = k.thread ∙ q ∙ sym t in
                let R : ℕ → ℕ → Type 0 = λ i j. IsEarlier o.iteration o.place i j in
                let AtPlace : ℕ → Type 0 = λ i. R i w.slot.place in
                let AtIteration : ℕ → Type 0 = λ j. R k.event.iteration j in
                let a = subst AtIteration (sym k.place) (subst AtPlace (sym k.iteration) early) in
                let below = thread_below test o.thread o.place s.action s.stands in
                let d = deed_order test n f.front k.event (f.rest ++ e ∷ after) o.thread o.place o.iteration s.action
                (run_cut test n before (e ∷ after) k.event f r) below mine k.deed a s.stands s.early in
                let passes = (last_found (λ c. Among c before) (is_pending test e.thread x before) before bf.event
                (among_self before) bf.last).0 in
                let P : List Event → Type 0 = λ l. Apart same_turn (deeds o.thread (l ++ e ∷ after)) in
                let v = bf.origin in
                twice (λ c. not (is_drain c)) o.thread f.front k.event f.rest (e ∷ after) d.event bf.event
                (subst P f.whole (deeds_turn test n o.thread (before ++ e ∷ after) (r.performs o.thread below))) d.among
                (subst (λ c. Among c f.rest) z y) d.thread (ap (λ (y : Origin). y.thread) v)
                (not_from_false (is_drain d.event) d.is)
                (not_from_false (is_drain bf.event) (push_no_drain bf.event.kind
                ((pending_tells test e.thread x before bf.event passes).push)))
                (d.place ∙ sym (ap (λ (y : Origin). y.place) v))
                (d.iteration ∙ sym (ap (λ (y : Origin). y.iteration) v))

    near : o.thread ≡ e.thread → Near test n (event_location test e) (spot_of test e) (spot_in test o)
    near t = record {
      own = t;
      before = low t;
      newest = λ b w q l. go b w q l (cases_lt (spot_in test o).index b.index);
    }
      where
        go : (b : Spot) → StoresAt test n (event_location test e) b → b.thread ≡ e.thread → b.index < index_of test e
            → ((spot_in test o).index < b.index) ⊎ (b.index ≤ (spot_in test o).index)
            → b.index ≤ (spot_in test o).index
        go b w q l (inr g) = g
        go b w q l (inl g) = absurd (none_between t b w q l g)

    place : (o.thread ≡ e.thread) ⊎ (o.thread ≡ e.thread → ⊥)
        → Afar test n (comes_before test n (before ++ e ∷ after)) (event_location test e) (spot_of test e)
        (spot_in test o) ⊎ Near test n (event_location test e) (spot_of test e) (spot_in test o)
    place (inl t) = inr (near t)
    place (inr ne) = inl (afar ne)

-- The order of a run.

draws_at : (test : LitmusTest) (n : ℕ) (before : List Event) (e : Event) (after : List Event) (v : ℕ)
    → IsRunOf test n (before ++ e ∷ after) → value_read e ≡ Some v
    → Draws test n (comes_before test n (before ++ e ∷ after)) (spot_of test e) v
draws_at test n before e after v r value =
    let h = read_here test n before e after v r value in
    let names = values_name_their_source_lem test n (before ++ e ∷ after) before after e v r refl value in
    record {
      slot = h.slot;
      stands = h.stands;
      reading = h.reading;
      location = event_location test e;
      reads = ap (λ (z : Origin). site_location test (store_of z)) h.origin;
      source = go h (source_of test e before) refl names;
    }
  where
    go : ReadHere test n before e after v → (o : Option Origin) → source_of test e before ≡ o
        → NamesSource test n (event_location test e) v (source_of test e before)
        → (FromStart test n (comes_before test n (before ++ e ∷ after)) (event_location test e) (spot_of test e)
        × (v ≡ 0))
        ⊎ ((f : FromStore test n (comes_before test n (before ++ e ∷ after)) (event_location test e) (spot_of test e))
        × (v ≡ value_at test n (event_location test e) f.source f.stores))
    go h None k names = inl (start_draws test n before e after v r h k, names.initial.1 k)
    go h (Some o) k names =
        let P : Option Origin → Type 0 = λ z. NamesSource test n (event_location test e) v z in
        inr (store_draws test n before e after v o r h k (sourced test n (event_location test e) v o (subst P k names)))

pub runs_are_ordered_lem : RunsAreOrdered
runs_are_ordered_lem test n run r = record {
  keeps = keeps_order test n run r;
  draws = λ e v c value.
      let a = among_from_contains run e c in
      let P : List Event → Type 0 = λ l. Draws test n (comes_before test n l) (spot_of test e) v in
      subst P (sym a.whole) (draws_at test n a.front e a.rest v (subst (IsRunOf test n) a.whole r) value);
  acyclic = λ cycle. false_from_ne_true (is_cycle_of (comes_before test n run) cycle)
      (no_cycle (comes_before test n run) (λ a. moment_by run a.thread (slot_in test n a))
      (λ a b h. ltb-true (moment_by run a.thread (slot_in test n a)) (moment_by run b.thread (slot_in test n b)) h)
      cycle);
}
