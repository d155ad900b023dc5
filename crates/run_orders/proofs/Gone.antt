-- How far a run that has been begun has come, and the events that can be next.
use Rattle.std.proofs.Common.{◌≡◌, ℕ, zero, suc, ◌+◌, ◌*◌, ◌<◌, ◌≤◌, ◌==◌, true, false, not, Some, List, [], ◌∷◌, ◌++◌, length, map, filter, take, slice_get, refl, sym, ap, ◌∙◌, arith, subst, inl, inr, ◌⊎◌, append-nil, eq-eqb, ne_eqb}
use Rattle.std.proofs.lemmas.Bool.{cases_eq, cases_lt, true≢false}
use Rattle.std.proofs.lemmas.List.{take_all, take_more}
use Rattle.std.proofs.lemmas.List.Elements.{All-from_recursion, filter-append}
use Rattle.std.proofs.lemmas.Option.{get_or_from_slice_get, slice_get_within}
use Rattle.std.specs.List.{AllZip}
use Rattle.x86_subset.specs.Test.{LitmusTest, body_of}
use Rattle.x86_subset.specs.declared.instr.Instr.{Instr}
use Rattle.tso_machine.specs.Event.{Event, Kind, Push, Drain, Read, Fenced, Exchanged, is_drain, is_drain_kind}
use Rattle.tso_machine.specs.Machine.{Needs, State, after, after_all, initial, updated, write_of}
use Rattle.tso_machine.specs.Part.{Fills, Gives, Slot, part_of}
use Rattle.tso_machine.specs.Run.{IsRunOf}
use Rattle.tso_machine.specs.Source.{is_memory_kind}
use Rattle.perp_base.proofs.Lists.{each_append, zip_push}
use Rattle.run_witness.proofs.Begun.{after_push, steps_push}
use Rattle.run_witness.proofs.Slots.{Oldest, none_waits, oldest, slot_at}
use Rattle.run_witness.proofs.Stands.{IsOf, all_drained, done_more, mark_at, stands_deed, stands_drain, stands_exchange, stands_push}
use Rattle.run_witness.specs.Marks.{Mark, is_storing, loop_of, waiting}
use Rattle.run_witness.specs.Order.{is_store}
use Rattle.run_witness.specs.Stage.{Stands, slot_write}
use Rattle.run_orders.specs.Course.{Gone, IsOldest, WaitsStores, deeds, left, mark_then, total}

-- what waits
abbrev pub queue : LitmusTest → ℕ → (ℕ → Mark) → ℕ → List Slot
queue test n marks t = waiting (loop_of test n t) (marks t).drained (marks t).done

updated_same : {A : Type 0} (f : ℕ → A) (t : ℕ) (a : A) → updated f t a t ≡ a
updated_same f t a = rw (eq-eqb t t refl) refl

updated_other : {A : Type 0} (f : ℕ → A) (t u : ℕ) (a : A) → (t ≡ u → ⊥) → updated f t a u ≡ f u
updated_other f t u a ne = rw (ne_eqb t u ne) refl

total_same : (test : LitmusTest) (n : ℕ) (marks : ℕ → Mark) (t : ℕ) (r : Mark) (k : ℕ) → k ≤ t
    → total test n (updated marks t r) k ≡ total test n marks k
total_same test n marks t r zero l = refl
total_same test n marks t r (suc k) l =
    let a : left test n k (updated marks t r k) ≡ left test n k (marks k) = ap (left test n k)
    (updated_other marks t k r (λ e. omega arith)) in
    let b = total_same test n marks t r k (omega arith) in
    (λ i. a i + b i)

pub total_less : (test : LitmusTest) (n : ℕ) (marks : ℕ → Mark) (t : ℕ) (r : Mark) (k : ℕ) → t < k
    → left test n t r < left test n t (marks t) → total test n (updated marks t r) k < total test n marks k
total_less test n marks t r zero l h = absurd (omega arith)
total_less test n marks t r (suc k) l h = go (λ m. total_less test n marks t r k m h) (cases_eq t k)
  where
    go : (t < k → total test n (updated marks t r) k < total test n marks k) → (t ≡ k) ⊎ (t ≡ k → ⊥)
        → left test n k (updated marks t r k) + total test n (updated marks t r) k
        < left test n k (marks k) + total test n marks k
    go rec (inl e) =
        let b : total test n (updated marks t r) k ≡ total test n marks k =
        total_same test n marks t r k (omega arith) in
        let P : ℕ → Type 0 = λ u. left test n u (updated marks t r u) < left test n u (marks u) in
        let Q : ℕ → Type 0 = λ z. z < left test n t (marks t) in
        let a : left test n k (updated marks t r k) < left test n k (marks k) = subst P e
        (subst Q (sym (ap (left test n t) (updated_same marks t r))) h) in
        omega arith
    go rec (inr ne) =
        let a : left test n k (updated marks t r k) ≡ left test n k (marks k) = ap (left test n k)
        (updated_other marks t k r ne) in
        let b = rec (omega arith) in
        omega arith

-- One event more.

more_deeds : (t : ℕ) (before : List Event) (e : Event) → deeds t (before ++ e ∷ []) ≡ deeds t before ++ deeds t (e ∷ [])
more_deeds t before e =
    ap (filter (λ d. not (is_drain d))) (filter-append (λ (d : Event). d.thread == t) before (e ∷ []))
    ∙ filter-append (λ d. not (is_drain d)) (part_of t before) (part_of t (e ∷ []))

-- the event is a Drain, or the next deed of its thread
pub data Advances (test : LitmusTest) (n : ℕ) (marks : ℕ → Mark) (e : Event) (r : Mark) : Type 0 where
  drains : is_drain e ≡ true → r.done ≡ (marks e.thread).done → Advances test n marks e r
  performs : is_drain e ≡ false → r.done ≡ (marks e.thread).done + 1 → (a : Instr)
      → IsOf test n e (marks e.thread).done a → Fills e.thread (record {
        iteration = e.iteration;
        place = e.place;
        action = a;
      }) e → Advances test n marks e r

performed_here : (test : LitmusTest) (n : ℕ) (marks : ℕ → Mark) (before : List Event) (e : Event) (r : Mark)
    → Advances test n marks e r → AllZip (Fills e.thread) (take (marks e.thread).done (loop_of test n e.thread))
    (deeds e.thread before)
    → AllZip (Fills e.thread) (take r.done (loop_of test n e.thread)) (deeds e.thread (before ++ e ∷ []))
performed_here test n marks before e r (drains d h) z =
    let t = e.thread in
    let L = loop_of test n t in
    let alone : deeds t (e ∷ []) ≡ [] = rw (eq-eqb t t refl, d) refl in
    let more : deeds t (before ++ e ∷ []) ≡ deeds t before = more_deeds t before e ∙ ap (λ l. deeds t before ++ l) alone
    ∙ append-nil (deeds t before) in
    let P : List Event → ℕ → Type 0 = λ l k. AllZip (Fills t) (take k L) l in
    let Q : ℕ → Type 0 = λ k. P (deeds t before) k in
    let R : List Event → Type 0 = λ l. P l r.done in
    subst R (sym more) (subst Q (sym h) z)
performed_here test n marks before e r (performs d h a at fills) z =
    let t = e.thread in
    let L = loop_of test n t in
    let m = (marks t).done in
    let slot : Slot = record { iteration = e.iteration; place = e.place; action = a } in
    let alone : deeds t (e ∷ []) ≡ e ∷ [] = rw (eq-eqb t t refl, d) refl in
    let more : deeds t (before ++ e ∷ []) ≡ deeds t before ++ e ∷ [] = more_deeds t before e
    ∙ ap (λ l. deeds t before ++ l) alone in
    let below = slice_get_within L m slot at in
    let cut : take r.done L ≡ take m L ++ slot ∷ [] = ap (λ k. take k L) h ∙ take_more L m slot below
    ∙ ap (λ z. take m L ++ z ∷ []) (get_or_from_slice_get L m slot slot at) in
    let longer = zip_push (Fills t) (take m L) (deeds t before) slot e z fills in
    let Q : List Slot → Type 0 = λ l. AllZip (Fills t) l (deeds t before ++ e ∷ []) in
    let R : List Event → Type 0 = λ l. AllZip (Fills t) (take r.done L) l in
    subst R (sym more) (subst Q (sym cut) longer)

performed_more : (test : LitmusTest) (n : ℕ) (marks : ℕ → Mark) (before : List Event) (e : Event) (r : Mark)
    → Advances test n marks e r → (t : ℕ) → AllZip (Fills t) (take (marks t).done (loop_of test n t)) (deeds t before)
    → AllZip (Fills t) (take (updated marks e.thread r t).done (loop_of test n t)) (deeds t (before ++ e ∷ []))
performed_more test n marks before e r adv t z =
    mark_at (λ m. AllZip (Fills t) (take m.done (loop_of test n t)) (deeds t (before ++ e ∷ []))) marks e.thread r t
    (λ q.
    let P : ℕ → Type 0 = λ u. AllZip (Fills u) (take (marks u).done (loop_of test n u)) (deeds u before) in
    let Q : ℕ → Type 0 = λ u. AllZip (Fills u) (take r.done (loop_of test n u)) (deeds u (before ++ e ∷ [])) in
    subst Q q (performed_here test n marks before e r adv (subst P (sym q) z)))
    (λ ne.
    let alone : deeds t (e ∷ []) ≡ [] = rw (ne_eqb e.thread t ne) refl in
    let more : deeds t (before ++ e ∷ []) ≡ deeds t before = more_deeds t before e ∙ ap (λ l. deeds t before ++ l) alone
    ∙ append-nil (deeds t before) in
    let R : List Event → Type 0 = λ l. AllZip (Fills t) (take (marks t).done (loop_of test n t)) l in
    subst R (sym more) z)

gone_step : (test : LitmusTest) (n : ℕ) (marks : ℕ → Mark) (events : List Event) (e : Event) (r : Mark)
    → Gone test n marks events → e.thread < length test.bodies → Needs test (after_all test initial events) e
    → Stands test n (after test (after_all test initial events) e) (updated marks e.thread r)
    → Advances test n marks e r → WaitsStores test n e.thread r
    → Gone test n (updated marks e.thread r) (events ++ e ∷ [])
gone_step test n marks events e r g below needs stands adv waits =
    let S : State → Type 0 = λ z. Stands test n z (updated marks e.thread r) in
    record {
      steps = steps_push test initial events e g.steps needs;
      stands = subst S (sym (after_push test initial events e)) stands;
      performed = λ t l. performed_more test n marks events e r adv t (g.performed t l);
      threads = each_append (λ z. z.thread < length test.bodies) events (e ∷ []) g.threads (below, tt);
      stores =
          λ t. mark_at (λ m. WaitsStores test n t m) marks e.thread r t
          (λ q. (let P : ℕ → Type 0 = λ u. WaitsStores test n u r in subst P q waits)) (λ ne. g.stores t);
    }

-- Which events.

-- what a slot does
abbrev pub deed : ℕ → Slot → Kind → Event
deed t s k = record { thread = t; iteration = s.iteration; place = s.place; kind = k }

-- the event of a slot can be next, and leaves less to do
pub record Next (test : LitmusTest) (n : ℕ) (marks : ℕ → Mark) (events : List Event) (t i : ℕ) (s : Slot)
    (k : Kind) : Type 0 where
  pub thread : t < length test.bodies
  pub stands : slice_get (loop_of test n t) i ≡ Some s
  pub writes : is_memory_kind k ≡ true → is_storing s.action ≡ true
  pub gone : Gone test n (updated marks t (mark_then k i (marks t))) (events ++ deed t s k ∷ [])
  pub less : left test n t (mark_then k i (marks t)) < left test n t (marks t)

one_slot : (a b : Slot) → Some a ≡ Some b → a ≡ b
one_slot a b h = cc

-- a deed that is no exchange
next_deed : (test : LitmusTest) (n : ℕ) (marks : ℕ → Mark) (events : List Event) (t : ℕ) (s : Slot) (k : Kind)
    → Gone test n marks events → t < length test.bodies → slice_get (loop_of test n t) (marks t).done ≡ Some s
    → Gives s.action k → is_drain_kind k ≡ false → is_memory_kind k ≡ false
    → mark_then k (marks t).done (marks t) ≡ done_more marks t
    → (is_storing s.action ≡ true → is_store s.action ≡ true)
    → Needs test (after_all test initial events) (deed t s k)
    → Stands test n (after test (after_all test initial events) (deed t s k)) (updated marks t (done_more marks t))
    → Next test n marks events t (marks t).done s k
next_deed test n marks events t s k g below at gives d quiet same store needs stands =
    let e = deed t s k in
    let r = done_more marks t in
    let within : (marks t).done < length (loop_of test n t) = slice_get_within (loop_of test n t) (marks t).done s at in
    let waits : WaitsStores test n t r = λ i z l m h q. here i z l m h q (cases_lt i (marks t).done) in
    let less : left test n t r < left test n t (marks t) = omega arith in
    let P : Mark → Type 0 = λ z. Gone test n (updated marks t z) (events ++ e ∷ []) in
    let Q : Mark → Type 0 = λ z. left test n t z < left test n t (marks t) in
    record {
      thread = below;
      stands = at;
      writes = λ m. absurd (true≢false (sym m ∙ quiet));
      gone =
          subst P (sym same) (gone_step test n marks events e r g below needs stands
          (performs d refl s.action at (record { thread = refl; iteration = refl; place = refl; kind = gives })) waits);
      less = subst Q (sym same) less;
    }
  where
    here : (i : ℕ) (z : Slot) → (marks t).drained ≤ i → i < (marks t).done + 1
        → slice_get (loop_of test n t) i ≡ Some z → is_storing z.action ≡ true
        → (i < (marks t).done) ⊎ ((marks t).done ≤ i) → is_store z.action ≡ true
    here i z l m h q (inl b) = g.stores t i z l b h q
    here i z l m h q (inr b) =
        let e : i ≡ (marks t).done = omega arith in
        let P : ℕ → Type 0 = λ j. slice_get (loop_of test n t) j ≡ Some z in
        let same : z ≡ s = one_slot z s (sym (subst P e h) ∙ at) in
        let act : z.action ≡ s.action = ap (λ (y : Slot). y.action) same in
        ap is_store act ∙ store (sym (ap is_storing act) ∙ q)

pub next_push : (test : LitmusTest) (n : ℕ) (marks : ℕ → Mark) (events : List Event) (t : ℕ) (s : Slot)
    → Gone test n marks events → t < length test.bodies → slice_get (loop_of test n t) (marks t).done ≡ Some s
    → is_store s.action ≡ true → Gives s.action Push → is_storing s.action ≡ true
    → Next test n marks events t (marks t).done s Push
next_push test n marks events t s g below at store gives storing =
    next_deed test n marks events t s Push g below at gives refl refl refl (λ k. store) tt
    (stands_push test n (after_all test initial events) marks (deed t s Push) s.action g.stands at storing)

pub next_fence : (test : LitmusTest) (n : ℕ) (marks : ℕ → Mark) (events : List Event) (t : ℕ) (s : Slot)
    → Gone test n marks events → t < length test.bodies → slice_get (loop_of test n t) (marks t).done ≡ Some s
    → Gives s.action Fenced → is_storing s.action ≡ false → queue test n marks t ≡ []
    → Next test n marks events t (marks t).done s Fenced
next_fence test n marks events t s g below at gives quiet q =
    next_deed test n marks events t s Fenced g below at gives refl refl refl (λ k. absurd (true≢false (sym k ∙ quiet)))
    ((g.stands.own t).buffer ∙ ap (map (slot_write test t)) q)
    (stands_deed test n (after_all test initial events) marks (deed t s Fenced) s.action g.stands at quiet)

pub next_read : (test : LitmusTest) (n : ℕ) (marks : ℕ → Mark) (events : List Event) (t : ℕ) (s : Slot) (v : ℕ)
    → Gone test n marks events → t < length test.bodies → slice_get (loop_of test n t) (marks t).done ≡ Some s
    → Gives s.action (Read v) → is_storing s.action ≡ false
    → Needs test (after_all test initial events) (deed t s (Read v))
    → Next test n marks events t (marks t).done s (Read v)
next_read test n marks events t s v g below at gives quiet needs =
    next_deed test n marks events t s (Read v) g below at gives refl refl refl
    (λ k. absurd (true≢false (sym k ∙ quiet))) needs
    (stands_deed test n (after_all test initial events) marks (deed t s (Read v)) s.action g.stands at quiet)

pub next_exchange : (test : LitmusTest) (n : ℕ) (marks : ℕ → Mark) (events : List Event) (t : ℕ) (s : Slot) (v : ℕ)
    → Gone test n marks events → t < length test.bodies → slice_get (loop_of test n t) (marks t).done ≡ Some s
    → Gives s.action (Exchanged v) → is_storing s.action ≡ true → queue test n marks t ≡ []
    → Needs test (after_all test initial events) (deed t s (Exchanged v))
    → Next test n marks events t (marks t).done s (Exchanged v)
next_exchange test n marks events t s v g below at gives storing q needs =
    let z = after_all test initial events in
    let e = deed t s (Exchanged v) in
    let r = all_drained marks t in
    let empty : z.buffer t ≡ [] = (g.stands.own t).buffer ∙ ap (map (slot_write test t)) q in
    let within : (marks t).done < length (loop_of test n t) = slice_get_within (loop_of test n t) (marks t).done s at in
    let order : (marks t).drained ≤ (marks t).done = (g.stands.own t).order in
    let less : left test n t r < left test n t (marks t) = omega arith in
    record {
      thread = below;
      stands = at;
      writes = λ m. storing;
      gone =
          gone_step test n marks events e r g below needs
          (stands_exchange test n z marks e s.action g.stands at storing empty)
          (performs refl refl s.action at (record { thread = refl; iteration = refl; place = refl; kind = gives }))
          (λ i y l m. absurd (omega arith));
      less = less;
    }

first_waits : (test : LitmusTest) (n : ℕ) (marks : ℕ → Mark) (t place : ℕ) (s : Slot)
    → (o : IsOldest test n t (marks t).drained (marks t).done place s)
    → (ws : List Slot) × (queue test n marks t ≡ s ∷ ws)
first_waits test n marks t place s o = go (queue test n marks t) refl
  where
    go : (ws : List Slot) → queue test n marks t ≡ ws → (ws : List Slot) × (queue test n marks t ≡ s ∷ ws)
    go [] h =
        absurd (true≢false (sym o.storing ∙ none_waits (loop_of test n t) (marks t).drained (marks t).done h place s
        o.after o.below o.stands))
    go (w ∷ ws) h =
        let f = oldest (loop_of test n t) (marks t).drained (marks t).done w ws h in
        let same : f.place ≡ place = first f (cases_lt f.place place) (cases_lt place f.place) in
        let P : ℕ → Type 0 = λ z. slice_get (loop_of test n t) z ≡ Some w in
        let is : w ≡ s = one_slot w s (sym (subst P same f.stands) ∙ o.stands) in
        (ws, h ∙ ap (λ z. z ∷ ws) is)
      where
        first : (f : Oldest (loop_of test n t) (marks t).drained (marks t).done w ws)
            → (f.place < place) ⊎ (place ≤ f.place) → (place < f.place) ⊎ (f.place ≤ place) → f.place ≡ place
        first f (inl l) m = absurd (true≢false (sym f.storing ∙ o.none_before f.place w f.from l f.stands))
        first f (inr l) (inl m) =
            absurd (true≢false (sym o.storing ∙ f.none_before place s o.after m o.stands))
        first f (inr l) (inr m) = omega arith

pub next_drain : (test : LitmusTest) (n : ℕ) (marks : ℕ → Mark) (events : List Event) (t place : ℕ) (s : Slot)
    → Gone test n marks events → t < length test.bodies
    → IsOldest test n t (marks t).drained (marks t).done place s → Next test n marks events t place s Drain
next_drain test n marks events t place s g below o =
    let z = after_all test initial events in
    let e = deed t s Drain in
    let m = marks t in
    let w = first_waits test n marks t place s o in
    let needs : slice_get (z.buffer t) 0 ≡ Some (write_of test e) = ap (λ b. slice_get b 0)
    ((g.stands.own t).buffer ∙ ap (map (slot_write test t)) w.1) in
    let d = stands_drain test n z marks e g.stands needs in
    let same : place ≡ d.place =
    here d.place (record { iteration = s.iteration; place = s.place; action = d.action }) d.of
    refl refl in
    let r : Mark = record { done = m.done; drained = place + 1 } in
    let P : ℕ → Type 0 = λ y. Stands test n (after test z e) (updated marks t
    (record { done = m.done; drained = y + 1 })) in
    let from : m.drained ≤ place = o.after in
    let under : place < m.done = o.below in
    let within : m.done ≤ length (loop_of test n t) = (g.stands.own t).within in
    let less : left test n t r < left test n t m = omega arith in
    record {
      thread = below;
      stands = o.stands;
      writes = λ k. o.storing;
      gone =
          gone_step test n marks events e r g below needs (subst P (sym same) d.stands) (drains refl refl)
          (λ i y l k. g.stores t i y (omega arith) k);
      less = less;
    }
  where
    -- slots of one iteration and place stand at one place of the loop
    here : (j : ℕ) (y : Slot) → slice_get (loop_of test n t) j ≡ Some y → y.iteration ≡ s.iteration
        → y.place ≡ s.place → place ≡ j
    here j y h i p =
        let a = (slot_at (body_of test t) n place s o.stands).index in
        let b = (slot_at (body_of test t) n j y h).index in
        a ∙ sym (b ∙ (λ k. i k * length (body_of test t) + p k))

-- The end.

pub ended_run : (test : LitmusTest) (n : ℕ) (marks : ℕ → Mark) (events : List Event) → Gone test n marks events
    → ((t : ℕ) → t < length test.bodies → (marks t).done ≡ length (loop_of test n t))
    → ((t : ℕ) → queue test n marks t ≡ []) → IsRunOf test n events
ended_run test n marks events g done empty = record {
  legal = record {
    steps = g.steps;
    drained = λ t. (g.stands.own t).buffer ∙ ap (map (slot_write test t)) (empty t);
  };
  performs = λ t l.
      let P : List Slot → Type 0 = λ s. AllZip (Fills t) s (filter (λ e. not (is_drain e)) (part_of t events)) in
      let e : (marks t).done ≡ length (loop_of test n t) = done t l in
      subst P (take_all (marks t).done (loop_of test n t) (omega arith)) (g.performed t l);
  threads = All-from_recursion (λ e. e.thread < length test.bodies) events g.threads;
}
