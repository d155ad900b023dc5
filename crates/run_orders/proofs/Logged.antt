-- Logs as the case of runs along an order in which each read has its logged value.
use Rattle.std.proofs.Common.{◌≡◌, ℕ, zero, suc, ◌+◌, ◌-◌, ◌*◌, ◌/◌, ◌<◌, ◌≤◌, ◌==◌, ◌&&◌, not, Bool, true, false, Option, None, Some, List, [], ◌∷◌, All, length, map, slice_get, refl, sym, ap, ◌∙◌, arith, subst, inl, inr, ◌⊎◌, eq-eqb, mul-le-mul_right}
use Rattle.std.proofs.lemmas.Bool.{MatchBool-at_true, MatchBool-at_false, and_from, and_parts, cases_Bool, cases_eq, cases_lt, eqb-true, both_ways}
use Rattle.std.proofs.lemmas.Option.{slice_get_within}
use Rattle.std.proofs.lemmas.List.Elements.{recursion_from_All}
use Rattle.std.specs.List.{AllZip, AllByRecursion as Each, filter_map}
use Rattle.x86_subset.specs.Instr.{is_reading, is_store_to}
use Rattle.x86_subset.specs.Test.{LitmusTest, body_of}
use Rattle.x86_subset.specs.declared.instr.Instr.{Instr}
use Rattle.x86_subset.specs.declared.instr.Instr.TheVariants.{Store, Load, Fence, Exchange}
use Rattle.load_log.specs.Values.{Values}
use Rattle.tso_machine.specs.Event.{Event, Kind, Push, Drain, Read, Fenced, Exchanged, event_location, is_drain, is_drain_kind}
use Rattle.tso_machine.specs.Log.{value_read, value_read_as}
use Rattle.tso_machine.specs.Part.{Fills, Gives, Slot, part_of}
use Rattle.tso_machine.specs.Run.{IsRunOf}
use Rattle.tso_machine.proofs.ReadEvents.{drains_unread}
use Rattle.seq_conv.specs.Sequence.{rank_of, store_count, stores_of, value_of}
use Rattle.seq_conv.specs.Laws.{HasOneOwner}
use Rattle.tso_machine.proofs.Parts.{deed_does}
use Rattle.seq_conv.proofs.Stores.{IsStoreOf, one_owner, rank_within, stores_are}
use Rattle.perp_base.proofs.Lists.{Among, among_from_contains, each_among, each_filter, each_from_among}
use Rattle.verdict.specs.Edges.{is_cycle_of}
use Rattle.run_witness.specs.Marks.{loop_of, stored}
use Rattle.run_witness.specs.Order.{HasLogs, HasWriters, IsWriter, deed_kind, logged, stores_to}
use Rattle.run_witness.specs.Right.{AreRight, IsRight, last_stored}
use Rattle.run_witness.specs.Stage.{deed_of}
use Rattle.run_witness.proofs.Finished.{deeds_log}
use Rattle.run_witness.proofs.Forbids.{writer_stores}
use Rattle.run_witness.proofs.Reading.{last_is, no_store, store_stores}
use Rattle.run_witness.proofs.Slots.{IsSlotAt, has_item, slot_at, slot_of, stored_lt, stored_none, stored_same, stored_suc}
use Rattle.run_witness.proofs.Stands.{value_is, writer_is}
use Rattle.run_orders.specs.Laws.{LogsOrCycle}
use Rattle.run_orders.specs.Logs.{log_edge, slot_location, slot_logged, slot_stores}
use Rattle.run_orders.specs.Orders.{Draws, FromStart, FromStore, IsWanted, Spot, StoresAt, slot_in, value_at}
use Rattle.run_orders.proofs.Begun.{location_at, one_slot, slot_action, spot, storing_access}
use Rattle.run_orders.specs.Course.{deeds}
use Rattle.run_orders.proofs.Gone.{deed}
use Rattle.run_orders.proofs.LogEdges.{Reader, before_edge, from_edge, order_of}
use Rattle.run_orders.proofs.Making.{run_along_lem, slot_thread}
use Rattle.run_orders.proofs.Opens.{NoStoreIn}

-- Stores of one thread.

-- the value of a store by those before it
value_at_index : (test : LitmusTest) (n x w : ℕ) (o : Spot) → IsWriter test x w → (s : StoresAt test n x o)
    → slot_stores test o.thread s.slot ≡ stored x (loop_of test n o.thread) o.index + 1
value_at_index test n x w o ws s =
    let e = deed o.thread s.slot Push in
    let at : event_location test e ≡ x = location_at test n x o s in
    let P : ℕ → Type 0 = λ z. IsWriter test z w in
    value_is test n e o.index s.slot.action w (subst P (sym at) ws) s.stands
    (store_stores x s.slot.action s.stores)
    ∙ ap (λ z. stored z (loop_of test n o.thread) o.index + 1) at

value_same : (test : LitmusTest) (n x : ℕ) (o : Spot) → (s : StoresAt test n x o)
    → slot_stores test o.thread s.slot ≡ value_at test n x o s
value_same test n x o s =
    ap (λ z. value_of test z (record { thread = o.thread; place = s.slot.place }) s.slot.iteration)
    (location_at test n x o s)

store_thread : (test : LitmusTest) (n x w : ℕ) (o : Spot) → IsWriter test x w → StoresAt test n x o → o.thread ≡ w
store_thread test n x w o ws s =
    writer_is test n (deed o.thread s.slot Push) o.index s.slot.action x w ws s.stands s.stores

-- two stores of one thread
in_order : (test : LitmusTest) (n : ℕ) (logs : List Values) (x : ℕ) (a b : Spot) → StoresAt test n x a
    → StoresAt test n x b → a.thread ≡ b.thread → a.index < b.index → log_edge test n logs a b ≡ true
in_order test n logs x a b v w e l =
    let c = spot a.thread b.index in
    let is : c ≡ b = (λ i. record { thread = e i; index = b.index }) in
    let P : Spot → Type 0 = λ z. StoresAt test n x z in
    let u : StoresAt test n x c = subst P (sym is) w in
    let Q : Spot → Type 0 = λ z. log_edge test n logs a z ≡ true in
    subst Q is ((order_of test n logs).storing a.thread a.index b.index v.slot u.slot l v.stands u.stands
    (store_stores x v.slot.action v.stores) (store_stores x u.slot.action u.stores))

same_spot : (a b : Spot) → a.thread ≡ b.thread → a.index ≡ b.index → a ≡ b
same_spot a b e f = (λ i. record { thread = e i; index = f i })

-- a read of another thread's location
draws_other : (test : LitmusTest) (n : ℕ) (logs : List Values) (a : Spot) (s : Slot) (w : ℕ) → Reader test n a s
    → IsWriter test (slot_location test a.thread s) w
    → stores_to test a.thread (slot_location test a.thread s) ≡ false
    → slot_logged test logs a.thread s ≤ store_count test (slot_location test a.thread s) * n
    → Draws test n (log_edge test n logs) a (slot_logged test logs a.thread s)
draws_other test n logs a s w r ws other most = record {
  slot = s;
  stands = r.stands;
  reading = r.reading;
  location = slot_location test a.thread s;
  reads = refl;
  source = by (cases_lt 0 (slot_logged test logs a.thread s));
}
  where
    x : ℕ
    x = slot_location test a.thread s

    v : ℕ
    v = slot_logged test logs a.thread s

    none_own : (o : Spot) → StoresAt test n (slot_location test a.thread s) o → o.thread ≡ a.thread → ⊥
    none_own o k e =
        let P : ℕ → Type 0 = λ u. slice_get (loop_of test n u) o.index ≡ Some k.slot in
        both_ways (is_store_to (slot_location test a.thread s) k.slot.action)
        (no_store test n a.thread (slot_location test a.thread s) o.index k.slot other (subst P e k.stands)) k.stores

    start : slot_logged test logs a.thread s ≡ 0
        → FromStart test n (log_edge test n logs) (slot_location test a.thread s) a
    start z = record {
      after = λ o k ne. (let p = value_at_index test n (slot_location test a.thread s) w o ws k in
          before_edge test n logs a s r o k other (omega arith));
      other = λ o k e l. none_own o k e;
    }

    source : 0 < slot_logged test logs a.thread s
        → (f : FromStore test n (log_edge test n logs) (slot_location test a.thread s) a)
        × (slot_logged test logs a.thread s ≡ value_at test n (slot_location test a.thread s) f.source f.stores)
    source l = (
      record {
        source = at;
        stores = stores;
        either = λ o k ne nr. either o k ne;
        place = inl (record {
          leads = from_edge test n logs a s r at stores other value;
          behind = λ o k e m. absurd (none_own o k e);
        });
      },
      sym value ∙ value_same test n (slot_location test a.thread s) at stores,
    )
      where
        some_count : 1 ≤ store_count test (slot_location test a.thread s)
        some_count = positive (store_count test (slot_location test a.thread s)) most
          where
            positive : (k : ℕ) → slot_logged test logs a.thread s ≤ k * n → 1 ≤ k
            positive zero h = let z : zero * n ≡ 0 = omega arith in absurd (omega arith)
            positive (suc k) h = omega arith

        owner : HasOneOwner test (slot_location test a.thread s) (slot_logged test logs a.thread s)
        owner = one_owner test (slot_location test a.thread s) (slot_logged test logs a.thread s) some_count l

        m : ℕ
        m = (slot_logged test logs a.thread s - 1) / store_count test (slot_location test a.thread s)

        among : Among owner.owner (stores_of test (slot_location test a.thread s))
        among = among_from_contains (stores_of test (slot_location test a.thread s)) owner.owner owner.stands

        here : IsStoreOf test (slot_location test a.thread s) owner.owner
        here = each_among (IsStoreOf test (slot_location test a.thread s)) owner.owner
            (stores_of test (slot_location test a.thread s)) among (stores_are test (slot_location test a.thread s))

        early : (slot_logged test logs a.thread s - 1) / store_count test (slot_location test a.thread s) < n
        early = below (store_count test (slot_location test a.thread s))
            ((slot_logged test logs a.thread s - 1) / store_count test (slot_location test a.thread s))
            (rank_of test (slot_location test a.thread s) owner.owner) owner.writes most
            ((rank_within test (slot_location test a.thread s) owner.owner among).positive)
            (cases_lt ((slot_logged test logs a.thread s - 1) / store_count test (slot_location test a.thread s)) n)
          where
            below : (k i r : ℕ) → k * i + r ≡ slot_logged test logs a.thread s
                → slot_logged test logs a.thread s ≤ k * n → 1 ≤ r → (i < n) ⊎ (n ≤ i) → i < n
            below k i r e h p (inl g) = g
            below k i r e h p (inr g) = let q : n * k ≤ i * k = mul-le-mul_right k g in absurd (omega arith)

        at : Spot
        at = spot owner.owner.thread (((slot_logged test logs a.thread s - 1)
            / store_count test (slot_location test a.thread s)) * length (body_of test owner.owner.thread)
            + owner.owner.place)

        stores : StoresAt test n (slot_location test a.thread s) (spot owner.owner.thread
            (((slot_logged test logs a.thread s - 1)
            / store_count test (slot_location test a.thread s)) * length (body_of test owner.owner.thread)
            + owner.owner.place))
        stores = record {
          slot = record {
            iteration = (slot_logged test logs a.thread s - 1) / store_count test (slot_location test a.thread s);
            place = owner.owner.place;
            action = here.action;
          };
          stands = slot_of (body_of test owner.owner.thread) n ((slot_logged test logs a.thread s - 1)
              / store_count test (slot_location test a.thread s)) owner.owner.place here.action early here.stands;
          stores = here.stores;
        }

        value : slot_stores test owner.owner.thread stores.slot ≡ slot_logged test logs a.thread s
        value = value_same test n (slot_location test a.thread s) at stores ∙ owner.writes

        either : (o : Spot) → StoresAt test n (slot_location test a.thread s) o → (o ≡ at → ⊥)
            → (log_edge test n logs o at ≡ true) ⊎ (log_edge test n logs a o ≡ true)
        either o k ne = go (cases_lt o.index at.index) (cases_eq o.index at.index)
          where
            one : o.thread ≡ at.thread
            one = store_thread test n (slot_location test a.thread s) w o ws k
                ∙ sym (store_thread test n (slot_location test a.thread s) w at ws stores)

            go : (o.index < at.index) ⊎ (at.index ≤ o.index) → (o.index ≡ at.index) ⊎ (o.index ≡ at.index → ⊥)
                → (log_edge test n logs o at ≡ true) ⊎ (log_edge test n logs a o ≡ true)
            go (inl g) e = inl (in_order test n logs (slot_location test a.thread s) o at k stores one g)
            go (inr g) (inl e) = absurd (ne (same_spot o at one e))
            go (inr g) (inr d) =
                let p = value_at_index test n (slot_location test a.thread s) w o ws k in
                let q = value_at_index test n (slot_location test a.thread s) w at ws stores in
                let P : ℕ → Type 0 = λ u. slice_get (loop_of test n u) at.index ≡ Some stores.slot in
                let u = stored_lt (slot_location test a.thread s) (loop_of test n o.thread) at.index o.index stores.slot
                (subst P (sym one) stores.stands) stores.stores (omega arith) in
                let same : stored (slot_location test a.thread s) (loop_of test n o.thread) at.index
                ≡ stored (slot_location test a.thread s) (loop_of test n at.thread) at.index =
                ap (λ z. stored (slot_location test a.thread s) (loop_of test n z) at.index) one in
                let z = value in
                inr (before_edge test n logs a s r o k other (omega arith))

    by : (0 < slot_logged test logs a.thread s) ⊎ (slot_logged test logs a.thread s ≤ 0)
        → (FromStart test n (log_edge test n logs) (slot_location test a.thread s) a
        × (slot_logged test logs a.thread s ≡ 0))
        ⊎ ((f : FromStore test n (log_edge test n logs) (slot_location test a.thread s) a)
        × (slot_logged test logs a.thread s ≡ value_at test n (slot_location test a.thread s) f.source f.stores))
    by (inl l) = inr (source l)
    by (inr l) = let z : slot_logged test logs a.thread s ≡ 0 = omega arith in inl (start z, z)

-- A read of the own location.

-- the newest store before a place of a loop
record NewestIn (test : LitmusTest) (n t x j : ℕ) : Type 0 where
  place : ℕ
  slot : Slot
  stands : slice_get (loop_of test n t) place ≡ Some slot
  stores : is_store_to x slot.action ≡ true
  below : place < j
  none : NoStoreIn test n t x (place + 1) j

newest_in : (test : LitmusTest) (n t x j : ℕ) → j ≤ length (loop_of test n t)
    → NoStoreIn test n t x 0 j ⊎ NewestIn test n t x j
newest_in test n t x zero l = inl (λ i s a b. absurd (omega arith))
newest_in test n t x (suc j) l =
    let s = has_item (loop_of test n t) j (omega arith) in
    go s.item s.stands (cases_Bool (is_store_to x s.item.action)) (newest_in test n t x j (omega arith))
  where
    more : (d : ℕ) (s : Slot) → slice_get (loop_of test n t) j ≡ Some s → is_store_to x s.action ≡ false
        → NoStoreIn test n t x d j → NoStoreIn test n t x d (suc j)
    more d s at none f i z a b h = by (cases_eq i j)
      where
        by : (i ≡ j) ⊎ (i ≡ j → ⊥) → is_store_to x z.action ≡ false
        by (inl e) =
            let P : ℕ → Type 0 = λ k. slice_get (loop_of test n t) k ≡ Some z in
            let same : z ≡ s = one_slot z s (sym (subst P e h) ∙ at) in
            ap (λ (y : Slot). is_store_to x y.action) same ∙ none
        by (inr ne) = f i z a (omega arith) h

    go : (s : Slot) → slice_get (loop_of test n t) j ≡ Some s
        → (is_store_to x s.action ≡ true) ⊎ (is_store_to x s.action ≡ false)
        → NoStoreIn test n t x 0 j ⊎ NewestIn test n t x j
        → NoStoreIn test n t x 0 (suc j) ⊎ NewestIn test n t x (suc j)
    go s at (inl k) rec = inr (record {
      place = j;
      slot = s;
      stands = at;
      stores = k;
      below = omega arith;
      none = λ i z a b. absurd (omega arith);
    })
    go s at (inr k) (inl f) = inl (more 0 s at k f)
    go s at (inr k) (inr m) = inr (record {
      place = m.place;
      slot = m.slot;
      stands = m.stands;
      stores = m.stores;
      below = (let b = m.below in omega arith);
      none = more (m.place + 1) s at k m.none;
    })

stored_over : (test : LitmusTest) (n t x d k : ℕ) → d + k ≤ length (loop_of test n t) → NoStoreIn test n t x d (d + k)
    → stored x (loop_of test n t) (d + k) ≡ stored x (loop_of test n t) d
stored_over test n t x d k l f =
    stored_same x (loop_of test n t) d k l (λ i s a b h. f i s a b h)

draws_own : (test : LitmusTest) (n : ℕ) (logs : List Values) (a : Spot) (s : Slot) → Reader test n a s
    → IsWriter test (slot_location test a.thread s) a.thread
    → slot_logged test logs a.thread s ≡ stored (slot_location test a.thread s) (loop_of test n a.thread) a.index
    → Draws test n (log_edge test n logs) a (slot_logged test logs a.thread s)
draws_own test n logs a s r ws value = record {
  slot = s;
  stands = r.stands;
  reading = r.reading;
  location = slot_location test a.thread s;
  reads = refl;
  source = by (newest_in test n a.thread (slot_location test a.thread s) a.index
      (let l = slice_get_within (loop_of test n a.thread) a.index s r.stands in omega arith));
}
  where
    within : a.index < length (loop_of test n a.thread)
    within = slice_get_within (loop_of test n a.thread) a.index s r.stands

    own : (o : Spot) → StoresAt test n (slot_location test a.thread s) o → o.thread ≡ a.thread
    own o k = store_thread test n (slot_location test a.thread s) a.thread o ws k

    -- a store that stands after the read
    after : (o : Spot) → StoresAt test n (slot_location test a.thread s) o → a.index < o.index
        → log_edge test n logs a o ≡ true
    after o k l =
        let c = spot a.thread o.index in
        let is : c ≡ o = (λ i. record { thread = sym (own o k) i; index = o.index }) in
        let P : Spot → Type 0 = λ z. StoresAt test n (slot_location test a.thread s) z in
        let u : StoresAt test n (slot_location test a.thread s) c = subst P (sym is) k in
        let Q : Spot → Type 0 = λ z. log_edge test n logs a z ≡ true in
        subst Q is ((order_of test n logs).reading a.thread a.index o.index s u.slot l r.stands u.stands r.reading
        (storing_access u.slot.action (store_stores (slot_location test a.thread s) u.slot.action u.stores)))

    -- one that stands before it
    before : (o : Spot) → StoresAt test n (slot_location test a.thread s) o → (d : ℕ)
        → NoStoreIn test n a.thread (slot_location test a.thread s) d a.index → o.index < a.index → o.index < d
    before o k d f l = go (cases_lt o.index d)
      where
        go : (o.index < d) ⊎ (d ≤ o.index) → o.index < d
        go (inl g) = g
        go (inr g) =
            let P : ℕ → Type 0 = λ u. slice_get (loop_of test n u) o.index ≡ Some k.slot in
            absurd (both_ways (is_store_to (slot_location test a.thread s) k.slot.action)
            (f o.index k.slot g l (subst P (own o k) k.stands)) k.stores)

    apart : (o : Spot) → StoresAt test n (slot_location test a.thread s) o → (o ≡ a → ⊥) → a.index ≤ o.index
        → a.index < o.index
    apart o k ne l = go (cases_eq o.index a.index)
      where
        go : (o.index ≡ a.index) ⊎ (o.index ≡ a.index → ⊥) → a.index < o.index
        go (inl e) = absurd (ne (same_spot o a (own o k) e))
        go (inr d) = omega arith

    start : NoStoreIn test n a.thread (slot_location test a.thread s) 0 a.index
        → FromStart test n (log_edge test n logs) (slot_location test a.thread s) a
    start f = record {
      after = λ o k ne. after o k (apart o k ne (late o k (cases_lt o.index a.index)));
      other = λ o k e l. (let z = before o k 0 f l in omega arith);
    }
      where
        late : (o : Spot) → StoresAt test n (slot_location test a.thread s) o
            → (o.index < a.index) ⊎ (a.index ≤ o.index) → a.index ≤ o.index
        late o k (inl l) = let z = before o k 0 f l in absurd (omega arith)
        late o k (inr l) = l

    source : NewestIn test n a.thread (slot_location test a.thread s) a.index
        → (f : FromStore test n (log_edge test n logs) (slot_location test a.thread s) a)
        × (slot_logged test logs a.thread s ≡ value_at test n (slot_location test a.thread s) f.source f.stores)
    source m = (
      record {
        source = spot a.thread m.place;
        stores = record { slot = m.slot; stands = m.stands; stores = m.stores };
        either = λ o k ne nr. either o k ne nr (cases_lt o.index a.index);
        place = inr (record {
          own = refl;
          before = m.below;
          newest = λ o k e l. (let z = before o k (m.place + 1) m.none l in omega arith);
        });
      },
      value ∙ whole ∙ sym (value_at_index test n (slot_location test a.thread s) a.thread (spot a.thread m.place) ws
          (record { slot = m.slot; stands = m.stands; stores = m.stores }))
          ∙ value_same test n (slot_location test a.thread s) (spot a.thread m.place)
          (record { slot = m.slot; stands = m.stands; stores = m.stores }),
    )
      where
        whole : stored (slot_location test a.thread s) (loop_of test n a.thread) a.index
            ≡ stored (slot_location test a.thread s) (loop_of test n a.thread) m.place + 1
        whole =
            let x = slot_location test a.thread s in
            let L = loop_of test n a.thread in
            let b = m.below in
            let k = a.index - (m.place + 1) in
            let e : m.place + 1 + k ≡ a.index = omega arith in
            let w = within in
            let over = stored_over test n a.thread x (m.place + 1) k (omega arith)
            (λ i z p q h. m.none i z p (omega arith) h) in
            ap (stored x L) (sym e) ∙ over ∙ stored_suc x L m.place m.slot m.stands ∙ (rw (m.stores) refl)

        either : (o : Spot) → StoresAt test n (slot_location test a.thread s) o → (o ≡ spot a.thread m.place → ⊥)
            → (o ≡ a → ⊥) → (o.index < a.index) ⊎ (a.index ≤ o.index)
            → (log_edge test n logs o (spot a.thread m.place) ≡ true) ⊎ (log_edge test n logs a o ≡ true)
        either o k ne nr (inl l) = go (cases_eq o.index m.place)
          where
            go : (o.index ≡ m.place) ⊎ (o.index ≡ m.place → ⊥)
                → (log_edge test n logs o (spot a.thread m.place) ≡ true) ⊎ (log_edge test n logs a o ≡ true)
            go (inl e) = absurd (ne (same_spot o (spot a.thread m.place) (own o k) e))
            go (inr d) =
                let z = before o k (m.place + 1) m.none l in
                inl (in_order test n logs (slot_location test a.thread s) o (spot a.thread m.place) k
                (record { slot = m.slot; stands = m.stands; stores = m.stores }) (own o k) (omega arith))
        either o k ne nr (inr l) = inr (after o k (apart o k nr l))

    by : NoStoreIn test n a.thread (slot_location test a.thread s) 0 a.index
        ⊎ NewestIn test n a.thread (slot_location test a.thread s) a.index
        → (FromStart test n (log_edge test n logs) (slot_location test a.thread s) a
        × (slot_logged test logs a.thread s ≡ 0))
        ⊎ ((f : FromStore test n (log_edge test n logs) (slot_location test a.thread s) a)
        × (slot_logged test logs a.thread s ≡ value_at test n (slot_location test a.thread s) f.source f.stores))
    by (inl f) =
        let x = slot_location test a.thread s in
        let w = within in
        let over = stored_over test n a.thread x 0 a.index (omega arith) (λ i z p q h. f i z p (omega arith) h) in
        let e : 0 + a.index ≡ a.index = omega arith in
        inl (
          start f,
          value ∙ ap (stored x (loop_of test n a.thread)) (sym e) ∙ over ∙ stored_none x
              (loop_of test n a.thread),
        )
    by (inr m) = inr (source m)

-- All reads.

abbrev wants_slot : LitmusTest → List Values → ℕ → Option Slot → ℕ → Bool
wants_slot test logs t None v = false
wants_slot test logs t (Some s) v = is_reading s.action && (v == slot_logged test logs t s)

abbrev wanted_in : LitmusTest → ℕ → List Values → Spot → ℕ → Bool
wanted_in test n logs a v = wants_slot test logs a.thread (slot_in test n a) v

draws_slot : (test : LitmusTest) (n : ℕ) (logs : List Values) → HasWriters test → AreRight test n logs → (a : Spot)
    → (s : Slot) → slot_in test n a ≡ Some s → is_reading s.action ≡ true
    → Draws test n (log_edge test n logs) a (slot_logged test logs a.thread s)
draws_slot test n logs writers right a s at reading =
    go (cases_Bool (stores_to test a.thread (slot_location test a.thread s)))
  where
    here : IsSlotAt (body_of test a.thread) n a.index s
    here = slot_at (body_of test a.thread) n a.index s at

    is_right : IsRight test n logs a.thread s.iteration s.place
    is_right = right a.thread s.iteration s.place (record {
      thread = slot_thread test n a s at;
      action = s.action;
      stands = slot_action test n a s at;
      reading = reading;
    }) here.early

    go : (stores_to test a.thread (slot_location test a.thread s) ≡ true)
        ⊎ (stores_to test a.thread (slot_location test a.thread s) ≡ false)
        → Draws test n (log_edge test n logs) a (slot_logged test logs a.thread s)
    go (inl k) =
        let x = slot_location test a.thread s in
        let w = (writers x).0 in
        let ws = (writers x).1 in
        let mine = writer_stores test a.thread x w ws k in
        let P : ℕ → Type 0 = λ u. IsWriter test x u in
        let own : IsWriter test x a.thread = subst P (sym mine) ws in
        let last = MatchBool-at_true (slot_logged test logs a.thread s
        ≡ last_stored test n a.thread x s.iteration s.place)
        (slot_logged test logs a.thread s ≤ store_count test x * n) k is_right in
        draws_own test n logs a s (record { stands = at; reading = reading }) own
        (last ∙ last_is test n a.thread x a.thread s.iteration s.place own here.early here.within
        ∙ ap (stored x (loop_of test n a.thread)) (sym here.index))
    go (inr k) =
        let x = slot_location test a.thread s in
        let most = MatchBool-at_false (slot_logged test logs a.thread s
        ≡ last_stored test n a.thread x s.iteration s.place)
        (slot_logged test logs a.thread s ≤ store_count test x * n) k is_right in
        draws_other test n logs a s (writers x).0 (record { stands = at; reading = reading }) (writers x).1 k most

draws_log : (test : LitmusTest) (n : ℕ) (logs : List Values) → HasWriters test → AreRight test n logs → (a : Spot)
    (v : ℕ) → wanted_in test n logs a v ≡ true → Draws test n (log_edge test n logs) a v
draws_log test n logs writers right a v h = go (slot_in test n a) refl h
  where
    go : (o : Option Slot) → slot_in test n a ≡ o → wants_slot test logs a.thread o v ≡ true
        → Draws test n (log_edge test n logs) a v
    go None e k = cc
    go (Some s) e k =
        let p = and_parts (is_reading s.action) (v == slot_logged test logs a.thread s) k in
        let P : ℕ → Type 0 = λ z. Draws test n (log_edge test n logs) a z in
        subst P (sym (eqb-true v (slot_logged test logs a.thread s) p.1))
        (draws_slot test n logs writers right a s e p.0)

-- The logs of the run.

pub gives_reading : (a : Instr) (k : Kind) (v : ℕ) → Gives a k → value_read_as k ≡ Some v
    → (is_reading a ≡ true) × (is_drain_kind k ≡ false)
gives_reading (Load reg loc) (Read w) v g h = (refl, refl)
gives_reading (Exchange loc written reg) (Exchanged w) v g h = (refl, refl)
gives_reading (Store loc written) Push v g h = cc
gives_reading Fence Fenced v g h = cc
gives_reading _ _ v g h = absurd g

pub no_drain_reads : (k : Kind) (v : ℕ) → value_read_as k ≡ Some v → is_drain_kind k ≡ false
no_drain_reads Drain v h = cc
no_drain_reads _ v h = refl

abbrev IsLogged : LitmusTest → List Values → Event → Type 0
IsLogged test logs e = (v : ℕ) → value_read e ≡ Some v → v ≡ logged test logs e.thread e.iteration e.place

logged_of : (test : LitmusTest) (n : ℕ) (logs : List Values) (run : List Event) (e : Event) → IsRunOf test n run
    → Among e run → IsWanted test (wanted_in test n logs) e → IsLogged test logs e
logged_of test n logs run e r am h v value =
    let d = deed_does test n run e r am (no_drain_reads e.kind v value) in
    let g = gives_reading d.action e.kind v d.gives value in
    let w = logged test logs e.thread e.iteration e.place in
    let at = slot_of (body_of test e.thread) n e.iteration e.place d.action d.early d.stands in
    h v w value ((λ i. wants_slot test logs e.thread (at i) w)
    ∙ and_from (is_reading d.action) (w == w) g.0 (eq-eqb w w refl))

kind_is : (a : Instr) (k : Kind) (w : ℕ) → Gives a k → ((v : ℕ) → value_read_as k ≡ Some v → v ≡ w)
    → k ≡ deed_kind a w
kind_is (Store loc written) Push w g h = refl
kind_is (Load reg loc) (Read v) w g h = ap (λ z. Read z) (h v refl)
kind_is Fence Fenced w g h = refl
kind_is (Exchange loc written reg) (Exchanged v) w g h = ap (λ z. Exchanged z) (h v refl)
kind_is _ _ w g h = absurd g

deeds_are : (test : LitmusTest) (logs : List Values) (t : ℕ) (slots : List Slot) (es : List Event)
    → AllZip (Fills t) slots es → Each (IsLogged test logs) es → es ≡ map (deed_of test logs t) slots
deeds_are test logs t [] [] z h = refl
deeds_are test logs t [] (e ∷ es) z h = absurd z
deeds_are test logs t (s ∷ slots) [] z h = absurd z
deeds_are test logs t (s ∷ slots) (e ∷ es) z h =
    let f = z.0 in
    let value : (v : ℕ) → value_read e ≡ Some v → v ≡ logged test logs t s.iteration s.place =
    λ v k. h.0 v k ∙ (λ i. logged test logs (f.thread i) (f.iteration i) (f.place i)) in
    let kind = kind_is s.action e.kind (logged test logs t s.iteration s.place) f.kind value in
    let one : e ≡ deed_of test logs t s = (λ i. record {
      thread = f.thread i;
      iteration = f.iteration i;
      place = f.place i;
      kind = kind i;
    }) in
    let rest = deeds_are test logs t slots es z.1 h.1 in
    (λ i. one i ∷ rest i)

pub logs_or_cycle_lem : LogsOrCycle
logs_or_cycle_lem test n logs writers given right =
    put (run_along_lem test n (log_edge test n logs) (wanted_in test n logs) (order_of test n logs)
    (λ a v h. draws_log test n logs writers right a v h))
  where
    put : ((cycle : List Spot) × (is_cycle_of (log_edge test n logs) cycle ≡ true))
        ⊎ ((run : List Event) × IsRunOf test n run × All (IsWanted test (wanted_in test n logs)) run)
        → ((cycle : List Spot) × (is_cycle_of (log_edge test n logs) cycle ≡ true))
        ⊎ ((run : List Event) × IsRunOf test n run × HasLogs test logs run)
    put (inl l) = inl l
    put (inr m) =
        let run = m.0 in
        let each = recursion_from_All (IsWanted test (wanted_in test n logs)) run m.2 in
        let all : Each (IsLogged test logs) run = each_from_among (IsLogged test logs) run (λ e am.
        logged_of test n logs run e m.1 am (each_among (IsWanted test (wanted_in test n logs)) e run am each)) in
        inr (
          run,
          m.1,
          λ t l.
              let own = each_filter (IsLogged test logs) (λ (e : Event). e.thread == t) run all in
              let done = each_filter (IsLogged test logs) (λ e. not (is_drain e)) (part_of t run) own in
              sym (drains_unread (part_of t run))
              ∙ ap (filter_map value_read) (deeds_are test logs t (loop_of test n t) (deeds t run)
              (m.1.performs t l) done)
              ∙ deeds_log test n logs t given l,
        )
