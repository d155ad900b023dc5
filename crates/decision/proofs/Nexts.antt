-- The events that can be next.
use Rattle.std.proofs.Common.{◌≡◌, ℕ, ◌+◌, ◌*◌, ◌<◌, ◌≤◌, ◌==◌, true, false, None, Some, List, [], ◌∷◌, ◌++◌, length, map, slice_get, nat_le, le-leb, refl, sym, ap, ◌∙◌, arith, subst, inl, inr, ◌⊎◌, eq-eqb, zero-mul, zero-add}
use Rattle.std.proofs.lemmas.Option.{slice_get_within}
use Rattle.std.proofs.lemmas.Bool.{and_from, cases_lt, cases_eq, false_from_ne_true, true≢false}
use Rattle.std.specs.List.{AllByRecursion as Each, list_any}
use Rattle.x86_subset.specs.Test.{LitmusTest, body_of}
use Rattle.x86_subset.specs.declared.instr.Instr.{Instr}
use Rattle.x86_subset.specs.declared.instr.Reg.{Reg}
use Rattle.x86_subset.specs.declared.instr.Instr.TheVariants.{Store, Load, Fence, Exchange}
use Rattle.tso_machine.specs.Event.{Event, Kind, Push, Drain, Read, Fenced, Exchanged, is_drain_kind}
use Rattle.tso_machine.specs.Machine.{Needs, after, after_all, initial, readable, updated, write_of}
use Rattle.tso_machine.specs.Part.{Gives, Slot, slots_of_loop}
use Rattle.tso_machine.specs.Source.{is_memory_kind}
use Rattle.seq_conv.specs.Sequence.{action_at, site_location}
use Rattle.perp_base.proofs.Lists.{Among, among_from_contains, each_among}
use Rattle.profile_check.specs.declared.kind.AtomKind.{AtomKind}
use Rattle.verdict.specs.declared.node.Node.{Node}
use Rattle.verdict.specs.Edges.{asked_of, is_the, same_node}
use Rattle.verdict.proofs.Walks.{same_node_self}
use Rattle.decision.proofs.Asks.{Between, FollowerOf, LastOf, Newest, Ordering, loop_slot}
use Rattle.decision.proofs.Blockers.{any_false, blocks_read, blocks_write, right_value}
use Rattle.decision.proofs.Stage.{KeepsFollowers, drains, performs, stage_step}
use Rattle.run_witness.proofs.Stands.{all_drained, done_more, stands_deed, stands_drain, stands_exchange, stands_push}
use Rattle.decision.specs.Course.{IsNext, IsOldest, left, mark_after, queue}
use Rattle.decision.specs.Stage.{IsWanted, Stage, WaitsStores, wanted}
use Rattle.run_witness.proofs.Forbids.{writer_stores}
use Rattle.run_witness.proofs.Reading.{store_stores, view_other, view_own}
use Rattle.run_witness.proofs.Slots.{Oldest, none_waits, oldest, slot_at}
use Rattle.run_witness.specs.Marks.{Mark, is_storing, loop_of, stored}
use Rattle.run_witness.specs.Order.{is_store, stores_to}
use Rattle.run_witness.specs.Stage.{Stands, slot_write}

-- Deeds.

abbrev pub deed_event : ℕ → ℕ → Kind → Event
deed_event t d k = record { thread = t; iteration = 0; place = d; kind = k }

abbrev pub deed_node : ℕ → ℕ → Node
deed_node t d = record { thread = t; place = d }

pub some_is : {X : Type 0} (a b : X) → Some a ≡ Some b → a ≡ b
some_is a b h = cc

-- a deed that is no exchange
next_deed : (test : LitmusTest) (kinds : List AtomKind) (marks : ℕ → Mark) (events : List Event) (t : ℕ) (a : Instr)
    (k : Kind) → Stage test kinds marks events → t < length test.bodies
    → action_at test (record { thread = t; place = (marks t).done }) ≡ Some a → Gives a k → is_drain_kind k ≡ false
    → is_memory_kind k ≡ false
    → mark_after k (marks t).done (marks t) ≡ done_more marks t → (is_storing a ≡ true → is_store a ≡ true)
    → Needs test (after_all test initial events) (deed_event t (marks t).done k)
    → Stands test 1 (after test (after_all test initial events) (deed_event t (marks t).done k))
    (updated marks t (done_more marks t))
    → IsWanted test kinds (deed_event t (marks t).done k)
    → IsNext test kinds marks events (deed_event t (marks t).done k)
next_deed test kinds marks events t a k st below at gives d quiet same store needs stands want =
    let e = deed_event t (marks t).done k in
    let r = done_more marks t in
    let L = loop_of test 1 t in
    let slot : Slot = record { iteration = 0; place = (marks t).done; action = a } in
    let of : slice_get L (marks t).done ≡ Some slot = loop_slot test t (marks t).done a at in
    let within : (marks t).done < length L = slice_get_within L (marks t).done slot of in
    let waits : WaitsStores test t r = λ i s l m h q. here i s l m h q (cases_lt i (marks t).done) in
    let less : left test t r < left test t (marks t) = omega arith in
    let P : Mark → Type 0 = λ z. Stage test kinds (updated marks t z) (events ++ e ∷ []) in
    let Q : Mark → Type 0 = λ z. left test t z < left test t (marks t) in
    record {
      thread = below;
      iteration = refl;
      place = slice_get_within (body_of test t) (marks t).done a at;
      writes = λ m. absurd (true≢false (sym m ∙ quiet));
      stage =
          subst P (sym same) (stage_step test kinds marks events e r st below needs stands
          (performs d refl a of (record { thread = refl; iteration = refl; place = refl; kind = gives })) waits
          (λ kind am q f g l. (let R : ℕ → Type 0 = λ u. (marks u).drained ≤ q.place in
          subst R g (st.follows kind am q f l))) want);
      less = subst Q (sym same) less;
    }
  where
    here : (i : ℕ) (s : Slot) → (marks t).drained ≤ i → i < (marks t).done + 1 → slice_get (loop_of test 1 t) i ≡ Some s
        → is_storing s.action ≡ true → (i < (marks t).done) ⊎ ((marks t).done ≤ i) → is_store s.action ≡ true
    here i s l m h q (inl b) = st.stores t i s l b h q
    here i s l m h q (inr b) =
        let e : i ≡ (marks t).done = omega arith in
        let P : ℕ → Type 0 = λ z. slice_get (loop_of test 1 t) z ≡ Some s in
        let same : s ≡ record { iteration = 0; place = (marks t).done; action = a } = some_is s
        (record { iteration = 0; place = (marks t).done; action = a })
        (sym (subst P e h) ∙ loop_slot test t (marks t).done a at) in
        let act : s.action ≡ a = ap (λ (z : Slot). z.action) same in
        ap is_store act ∙ store (sym (ap is_storing act) ∙ q)

-- the node of the event is the reader of the atom
reader_is : (test : LitmusTest) (kind : AtomKind) (t d : ℕ) → t ≡ (asked_of test kind).reader.thread
    → d ≡ (asked_of test kind).reader.place → same_node (asked_of test kind).reader (deed_node t d) ≡ true
reader_is test kind t d h k =
    let r = (asked_of test kind).reader in
    and_from (r.thread == t) (r.place == d) (eq-eqb r.thread t (sym h)) (eq-eqb r.place d (sym k))

reads_of : (test : LitmusTest) (kind : AtomKind) (o : Ordering test kind) (t d : ℕ)
    → t ≡ (asked_of test kind).reader.thread → d ≡ (asked_of test kind).reader.place
    → (t ≡ o.thread) × (site_location test (record { thread = t; place = d }) ≡ o.location)
reads_of test kind o t d h k =
    let a : t ≡ o.thread = h ∙ ap (λ (n : Node). n.thread) o.reader in
    let b : d ≡ o.place = k ∙ ap (λ (n : Node). n.place) o.reader in
    (a, (λ i. site_location test (record { thread = a i; place = b i })) ∙ o.reads)

-- what is read from memory, between two stores of another thread
between_read : (test : LitmusTest) (kinds : List AtomKind) (marks : ℕ → Mark) (events : List Event) (t : ℕ)
    (kind : AtomKind) → Stage test kinds marks events → Among kind kinds → (o : Ordering test kind)
    → Between test kind o.location o.writer o.thread
    → list_any (blocks_read test marks (deed_node t (marks t).done)) kinds ≡ false
    → t ≡ (asked_of test kind).reader.thread → (marks t).done ≡ (asked_of test kind).reader.place
    → readable (after_all test initial events) t o.location ≡ wanted test kind
between_read test kinds marks events t kind st am o b free h k =
    let x = o.location in
    let mine : t ≡ o.thread = (reads_of test kind o t (marks t).done h k).0 in
    let other : stores_to test t x ≡ false = false_from_ne_true (stores_to test t x)
    (λ e. b.apart (sym mine ∙ writer_stores test t x o.writer o.stores e)) in
    view_other test 1 (after_all test initial events) marks t x st.stands other
    ∙ right_value test kinds marks events (deed_node t (marks t).done) kind st am o b
    (reader_is test kind t (marks t).done h k) (omega arith) free

-- what is read of the own stores
newest_read : (test : LitmusTest) (kinds : List AtomKind) (marks : ℕ → Mark) (events : List Event) (t : ℕ)
    (kind : AtomKind) → Stage test kinds marks events → (o : Ordering test kind)
    → Newest test kind o.location o.writer o.thread o.place
    → t ≡ (asked_of test kind).reader.thread → (marks t).done ≡ (asked_of test kind).reader.place
    → readable (after_all test initial events) t o.location ≡ wanted test kind
newest_read test kinds marks events t kind st o b h k =
    let mine : t ≡ o.writer = (reads_of test kind o t (marks t).done h k).0 ∙ b.own in
    let place : (marks t).done ≡ o.place = k ∙ ap (λ (n : Node). n.place) o.reader in
    view_own test 1 (after_all test initial events) marks t o.location o.writer o.stores st.stands mine
    ∙ (λ i. stored o.location (loop_of test 1 (mine i)) (place i)) ∙ b.before

wanted_read : (test : LitmusTest) (kinds : List AtomKind) (marks : ℕ → Mark) (events : List Event) (t : ℕ)
    (kind : AtomKind) → Stage test kinds marks events → Among kind kinds → (o : Ordering test kind)
    → list_any (blocks_read test marks (deed_node t (marks t).done)) kinds ≡ false
    → t ≡ (asked_of test kind).reader.thread → (marks t).done ≡ (asked_of test kind).reader.place
    → readable (after_all test initial events) t (site_location test (record { thread = t; place = (marks t).done }))
    ≡ wanted test kind
wanted_read test kinds marks events t kind st am o free h k =
    ap (readable (after_all test initial events) t) (reads_of test kind o t (marks t).done h k).1 ∙ go o.among
  where
    go : Between test kind o.location o.writer o.thread ⊎ Newest test kind o.location o.writer o.thread o.place
        → readable (after_all test initial events) t o.location ≡ wanted test kind
    go (inl b) = between_read test kinds marks events t kind st am o b free h k
    go (inr b) = newest_read test kinds marks events t kind st o b h k

-- Writes.

keeps_write : (test : LitmusTest) (kinds : List AtomKind) (marks : ℕ → Mark) (events : List Event) (t place : ℕ)
    (r : Mark) → Stage test kinds marks events → Each (Ordering test) kinds
    → ((i : ℕ) (s : Slot) → (marks t).drained ≤ i → i < place → slice_get (loop_of test 1 t) i ≡ Some s
    → is_storing s.action ≡ false)
    → list_any (blocks_write test marks (deed_node t place)) kinds ≡ false → r.drained ≡ place + 1
    → KeepsFollowers test kinds marks t r
keeps_write test kinds marks events t place r st orders none free e kind am q f g l =
    here (each_among (Ordering test) kind kinds (among_from_contains kinds kind am) orders).among
  where
    old : (marks t).drained ≤ q.place
    old = let P : ℕ → Type 0 = λ u. (marks u).drained ≤ q.place in subst P g (st.follows kind am q f l)

    apart : (place ≡ q.place) ⊎ (place ≡ q.place → ⊥) → place ≤ q.place → r.drained ≤ q.place
    apart (inl same) m =
        let is : q ≡ deed_node t place = (λ i. record { thread = g i; place = sym same i }) in
        let P : Node → Type 0 = λ z. same_node q z ≡ true in
        absurd (any_false (blocks_write test marks (deed_node t place)) kind kinds free
        (among_from_contains kinds kind am)
        (and_from (is_the (asked_of test kind).follower (deed_node t place))
        (nat_le (marks (asked_of test kind).reader.thread).done (asked_of test kind).reader.place)
        (ap (λ o. is_the o (deed_node t place)) f ∙ subst P is (same_node_self q))
        (le-leb (marks (asked_of test kind).reader.thread).done (asked_of test kind).reader.place l)))
    apart (inr ne) m = omega arith

    go : FollowerOf test (asked_of test kind) (each_among (Ordering test) kind kinds
        (among_from_contains kinds kind am) orders).location (each_among (Ordering test) kind kinds
        (among_from_contains kinds kind am) orders).writer (wanted test kind)
        ⊎ LastOf test (asked_of test kind) (each_among (Ordering test) kind kinds
        (among_from_contains kinds kind am) orders).location (each_among (Ordering test) kind kinds
        (among_from_contains kinds kind am) orders).writer (wanted test kind) → r.drained ≤ q.place
    go (inr z) = let no : None ≡ Some q = sym z.is ∙ f in cc
    go (inl z) =
        let o = each_among (Ordering test) kind kinds (among_from_contains kinds kind am) orders in
        let is : record { thread = o.writer; place = z.place }
        ≡ q = some_is (record { thread = o.writer; place = z.place }) q (sym z.is ∙ f) in
        let P : Node → Type 0 = λ n. slice_get (loop_of test 1 n.thread) n.place
        ≡ Some (record { iteration = 0; place = z.place; action = z.action }) in
        let Q : ℕ → Type 0 = λ u. slice_get (loop_of test 1 u) q.place
        ≡ Some (record { iteration = 0; place = z.place; action = z.action }) in
        let slot = subst Q g (subst P is (loop_slot test o.writer z.place z.action z.stands)) in
        let storing = store_stores o.location z.action z.stores in
        by slot storing (cases_lt q.place place)
      where
        by : slice_get (loop_of test 1 t) q.place ≡ Some (record { iteration = 0; place = z.place; action = z.action })
            → is_storing z.action ≡ true → (q.place < place) ⊎ (place ≤ q.place) → r.drained ≤ q.place
        by slot storing (inl m) =
            absurd (true≢false (sym storing ∙ none q.place (record {
              iteration = 0;
              place = z.place;
              action = z.action;
            }) old m slot))
        by slot storing (inr m) = apart (cases_eq place q.place) m

    here : Between test kind (each_among (Ordering test) kind kinds (among_from_contains kinds kind am) orders).location
        (each_among (Ordering test) kind kinds (among_from_contains kinds kind am) orders).writer
        (each_among (Ordering test) kind kinds (among_from_contains kinds kind am) orders).thread
        ⊎ Newest test kind (each_among (Ordering test) kind kinds (among_from_contains kinds kind am) orders).location
        (each_among (Ordering test) kind kinds (among_from_contains kinds kind am) orders).writer
        (each_among (Ordering test) kind kinds (among_from_contains kinds kind am) orders).thread
        (each_among (Ordering test) kind kinds (among_from_contains kinds kind am) orders).place
        → r.drained ≤ q.place
    here (inl b) = go b.follower
    here (inr b) = let no : None ≡ Some q = sym b.follower ∙ f in cc

pub slot_place : (body : List Instr) (d : ℕ) (s : Slot) → slice_get (slots_of_loop body 1) d ≡ Some s → s.place ≡ d
slot_place body d s h =
    let r = slot_at body 1 d s h in
    let early : s.iteration < 1 = r.early in
    let zero_is : s.iteration ≡ 0 = omega arith in
    sym (r.index ∙ ap (λ z. z * length body + s.place) zero_is ∙ ap (λ z. z + s.place) (zero-mul (length body))
    ∙ zero-add s.place)

pub slot_action : (test : LitmusTest) (t d : ℕ) (s : Slot) → slice_get (loop_of test 1 t) d ≡ Some s
    → action_at test (record { thread = t; place = d }) ≡ Some s.action
slot_action test t d s h =
    let P : ℕ → Type 0 = λ z. slice_get (body_of test t) z ≡ Some s.action in
    subst P (slot_place (body_of test t) d s h) (slot_at (body_of test t) 1 d s h).stands

-- Which events.

no_value : (v : ℕ) → None ≡ Some v → ⊥
no_value v h = cc

pub next_push : (test : LitmusTest) (kinds : List AtomKind) (marks : ℕ → Mark) (events : List Event) (t loc written : ℕ)
    → Stage test kinds marks events → t < length test.bodies
    → action_at test (record { thread = t; place = (marks t).done }) ≡ Some (Store loc written)
    → IsNext test kinds marks events (deed_event t (marks t).done Push)
next_push test kinds marks events t loc written st below at =
    next_deed test kinds marks events t (Store loc written) Push st below at tt refl refl refl (λ k. refl) tt
    (stands_push test 1 (after_all test initial events) marks (deed_event t (marks t).done Push)
    (Store loc written) st.stands (loop_slot test t (marks t).done (Store loc written) at) refl)
    (λ kind am x y z v h. absurd (no_value v h))

pub next_fence : (test : LitmusTest) (kinds : List AtomKind) (marks : ℕ → Mark) (events : List Event) (t : ℕ)
    → Stage test kinds marks events → t < length test.bodies
    → action_at test (record { thread = t; place = (marks t).done }) ≡ Some Fence → queue test marks t ≡ []
    → IsNext test kinds marks events (deed_event t (marks t).done Fenced)
next_fence test kinds marks events t st below at q =
    next_deed test kinds marks events t Fence Fenced st below at tt refl refl refl (λ k. cc)
    ((st.stands.own t).buffer ∙ ap (map (slot_write test t)) q)
    (stands_deed test 1 (after_all test initial events) marks (deed_event t (marks t).done Fenced) Fence st.stands
    (loop_slot test t (marks t).done Fence at) refl)
    (λ kind am x y z v h. absurd (no_value v h))

pub next_read : (test : LitmusTest) (kinds : List AtomKind) (marks : ℕ → Mark) (events : List Event) (t : ℕ) (reg : Reg)
    (loc v : ℕ) → Stage test kinds marks events → Each (Ordering test) kinds → t < length test.bodies
    → action_at test (record { thread = t; place = (marks t).done }) ≡ Some (Load reg loc)
    → list_any (blocks_read test marks (deed_node t (marks t).done)) kinds ≡ false
    → v ≡ readable (after_all test initial events) t (site_location test
    (record { thread = t; place = (marks t).done }))
    → IsNext test kinds marks events (deed_event t (marks t).done (Read v))
next_read test kinds marks events t reg loc v st orders below at e value =
    next_deed test kinds marks events t (Load reg loc) (Read v) st below at tt refl refl refl (λ k. cc) value
    (stands_deed test 1 (after_all test initial events) marks (deed_event t (marks t).done (Read v))
    (Load reg loc) st.stands (loop_slot test t (marks t).done (Load reg loc) at) refl)
    (λ kind am y g h z k. sym (some_is v z k) ∙ value
    ∙ wanted_read test kinds marks events t kind st (among_from_contains kinds kind am)
    (each_among (Ordering test) kind kinds (among_from_contains kinds kind am) orders) e g h)

pub next_exchange : (test : LitmusTest) (kinds : List AtomKind) (marks : ℕ → Mark) (events : List Event)
    (t loc written : ℕ) (reg : Reg) (v : ℕ) → Stage test kinds marks events → Each (Ordering test) kinds
    → t < length test.bodies
    → action_at test (record { thread = t; place = (marks t).done }) ≡ Some (Exchange loc written reg)
    → queue test marks t ≡ []
    → list_any (blocks_read test marks (deed_node t (marks t).done)) kinds ≡ false
    → list_any (blocks_write test marks (deed_node t (marks t).done)) kinds ≡ false
    → v ≡ (after_all test initial events).memory (site_location test (record { thread = t; place = (marks t).done }))
    → IsNext test kinds marks events (deed_event t (marks t).done (Exchanged v))
next_exchange test kinds marks events t loc written reg v st orders below at q e f value =
    let s = after_all test initial events in
    let a : Instr = Exchange loc written reg in
    let ev = deed_event t (marks t).done (Exchanged v) in
    let r = all_drained marks t in
    let of = loop_slot test t (marks t).done a at in
    let empty : s.buffer t ≡ [] = (st.stands.own t).buffer ∙ ap (map (slot_write test t)) q in
    let x = site_location test (record { thread = t; place = (marks t).done }) in
    let found : s.memory x ≡ readable s t x = rw empty refl in
    let within : (marks t).done < length (loop_of test 1 t) = slice_get_within (loop_of test 1 t) (marks t).done
    (record { iteration = 0; place = (marks t).done; action = a }) of in
    let order : (marks t).drained ≤ (marks t).done = (st.stands.own t).order in
    let less : left test t r < left test t (marks t) = omega arith in
    record {
      thread = below;
      iteration = refl;
      place = slice_get_within (body_of test t) (marks t).done a at;
      writes = λ m. record { action = a; stands = at; storing = refl };
      stage =
          stage_step test kinds marks events ev r st below (empty, value)
          (stands_exchange test 1 s marks ev a st.stands of refl empty)
          (performs refl refl a of (record { thread = refl; iteration = refl; place = refl; kind = tt }))
          (λ i z l m. absurd (omega arith))
          (keeps_write test kinds marks events t (marks t).done r st orders
          (none_waits (loop_of test 1 t) (marks t).drained (marks t).done q) f refl)
          (λ kind am y g h z k. sym (some_is v z k) ∙ value ∙ found
          ∙ wanted_read test kinds marks events t kind st (among_from_contains kinds kind am)
          (each_among (Ordering test) kind kinds (among_from_contains kinds kind am) orders) e g h);
      less = less;
    }

-- the oldest write stands first in the queue
pub first_waits : (test : LitmusTest) (marks : ℕ → Mark) (t place : ℕ)
    (o : IsOldest test t (marks t).drained (marks t).done place)
    → (ws : List Slot) × (queue test marks t ≡ record { iteration = 0; place = place; action = o.action } ∷ ws)
first_waits test marks t place o = go (queue test marks t) refl
  where
    here : slice_get (loop_of test 1 t) place ≡ Some (record { iteration = 0; place = place; action = o.action })
    here = loop_slot test t place o.action o.stands

    go : (ws : List Slot) → queue test marks t ≡ ws
        → (ws : List Slot) × (queue test marks t ≡ record { iteration = 0; place = place; action = o.action } ∷ ws)
    go [] h =
        absurd (true≢false (sym o.storing ∙ none_waits (loop_of test 1 t) (marks t).drained (marks t).done h place
        (record { iteration = 0; place = place; action = o.action }) o.after o.below here))
    go (w ∷ ws) h =
        let f = oldest (loop_of test 1 t) (marks t).drained (marks t).done w ws h in
        let same : f.place ≡ place = first f (cases_lt f.place place) (cases_lt place f.place) in
        let P : ℕ → Type 0 = λ z. slice_get (loop_of test 1 t) z ≡ Some w in
        let is : w ≡ record { iteration = 0; place = place; action = o.action } = some_is w
        (record { iteration = 0; place = place; action = o.action }) (sym (subst P same f.stands) ∙ here) in
        (ws, h ∙ ap (λ z. z ∷ ws) is)
      where
        first : (f : Oldest (loop_of test 1 t) (marks t).drained (marks t).done w ws)
            → (f.place < place) ⊎ (place ≤ f.place) → (place < f.place) ⊎ (f.place ≤ place) → f.place ≡ place
        first f (inl l) m =
            absurd (true≢false (sym f.storing ∙ o.none_before f.place w.action f.from l
            (slot_action test t f.place w f.stands)))
        first f (inr l) (inl m) =
            absurd (true≢false (sym o.storing ∙ f.none_before place (record {
              iteration = 0;
              place = place;
              action = o.action;
            }) o.after m here))
        first f (inr l) (inr m) = omega arith

pub next_drain : (test : LitmusTest) (kinds : List AtomKind) (marks : ℕ → Mark) (events : List Event) (t place : ℕ)
    → Stage test kinds marks events → Each (Ordering test) kinds → t < length test.bodies
    → IsOldest test t (marks t).drained (marks t).done place
    → list_any (blocks_write test marks (deed_node t place)) kinds ≡ false
    → IsNext test kinds marks events (deed_event t place Drain)
next_drain test kinds marks events t place st orders below o free =
    let s = after_all test initial events in
    let e = deed_event t place Drain in
    let m = marks t in
    let w = first_waits test marks t place o in
    let needs : slice_get (s.buffer t) 0 ≡ Some (write_of test e) = ap (λ b. slice_get b 0)
    ((st.stands.own t).buffer ∙ ap (map (slot_write test t)) w.1) in
    let d = stands_drain test 1 s marks e st.stands needs in
    let same : place ≡ d.place = slot_place (body_of test t) d.place
    (record { iteration = 0; place = place; action = d.action }) d.of in
    let r : Mark = record { done = m.done; drained = place + 1 } in
    let P : ℕ → Type 0 = λ z. Stands test 1 (after test s e) (updated marks t
    (record { done = m.done; drained = z + 1 })) in
    let from : m.drained ≤ place = o.after in
    let under : place < m.done = o.below in
    let within : m.done ≤ length (loop_of test 1 t) = (st.stands.own t).within in
    let less : left test t r < left test t m = omega arith in
    record {
      thread = below;
      iteration = refl;
      place = slice_get_within (body_of test t) place o.action o.stands;
      writes = λ k. record { action = o.action; stands = o.stands; storing = o.storing };
      stage =
          stage_step test kinds marks events e r st below needs (subst P (sym same) d.stands) (drains refl refl)
          (λ i z l n. st.stores t i z (omega arith) n)
          (keeps_write test kinds marks events t place r st orders (λ i z l n h. o.none_before i z.action l n
          (slot_action test t i z h)) free refl) (λ kind am x. cc);
      less = less;
    }
