-- Lemmas on parts that perform their body: the slots of a loop, which stand there once, and the events that fill them.
use Rattle.std.proofs.Common.{◌≡◌, ℕ, zero, suc, ◌+◌, ◌*◌, ◌<◌, ◌≤◌, ◌==◌, Bool, true, false, cond, not, ◌&&◌, Some, List, [], ◌∷◌, ◌++◌, length, map, filter, take, count_by, slice_get, refl, sym, ap, ◌∙◌, arith, subst, append_assoc, append-nil, unwrap_or, eq-eqb, ne_eqb, add-zero, le_refl, zero-add, zero-mul, ◌⊎◌, inl, inr, option_and_then}
use Rattle.std.proofs.lemmas.Bool.{and_left, and_right, eqb-true, eqb-false, both_ways, not_from_false}
use Rattle.std.proofs.lemmas.List.Elements.{recursion_from_All}
use Rattle.std.proofs.lemmas.List.Sums.{sum_by-append, sum_by-cons}
use Rattle.std.specs.List.{AllByRecursion as Each}
use Rattle.x86_subset.specs.Test.{LitmusTest, body_of}
use Rattle.x86_subset.specs.declared.instr.Instr.{Instr}
use Rattle.x86_subset.specs.declared.instr.Instr.TheVariants.{Store, Load, Fence, Exchange}
use Rattle.tso_machine.specs.Event.{Event, Kind, Push, Drain, Read, Fenced, Exchanged, event_location, is_drain, is_drain_kind, site_of}
use Rattle.tso_machine.specs.Machine.{write_of, initial}
use Rattle.tso_machine.specs.Part.{Slot, slots_of_body, slots_of_loop, Fills, Gives, Performs, part_of}
use Rattle.tso_machine.specs.Run.{IsRunOf}
use Rattle.x86_subset.specs.Instr.{is_reading, is_store_to, location_of}
use Rattle.seq_conv.specs.Sequence.{action_at, stores_of}
use Rattle.tso_machine.specs.Source.{is_memory_kind, same_store}
use Rattle.perp_base.proofs.Lists.{each_along, Among, Apart, apart_append, apart_zip, each_among, each_append, each_both, each_weaker, each_zip, each_unfilter, each_passes, each_filter, filter_inner}
use Rattle.seq_conv.proofs.Stores.{store_at}
use Rattle.tso_machine.proofs.Runs.{goes_in, goes_in_kind, comes_out, comes_out_kind, queue_after}

-- Slots.

abbrev pub same_slot : Slot → Slot → Bool
same_slot a b = (a.place == b.place) && (a.iteration == b.iteration)

-- a slot of iteration n that the body has from place p on
pub record IsSlotOf (body : List Instr) (slot : Slot) : Type 0 where
  pub stands : slice_get body slot.place ≡ Some slot.action

body_slots : (n p : ℕ) (whole body : List Instr) → ((q : ℕ) → slice_get whole (p + q) ≡ slice_get body q)
    → Each (λ s. (s.iteration ≡ n) × (p ≤ s.place) × IsSlotOf whole s) (slots_of_body n p body)
body_slots n p whole [] f = tt
body_slots n p whole (a ∷ body) f =
    let here : slice_get whole p ≡ Some a = ap (slice_get whole) (sym (add-zero p)) ∙ f 0 in
    let rest : (q : ℕ) → slice_get whole (p + 1 + q) ≡ slice_get body q =
    λ q. (let e : p + 1 + q ≡ p + suc q = omega arith in rw e (f (suc q))) in (
      (refl, le_refl p, record { stands = here }),
      each_weaker (λ s. (s.iteration ≡ n) × (p + 1 ≤ s.place) × IsSlotOf whole s)
          (λ s. (s.iteration ≡ n) × (p ≤ s.place) × IsSlotOf whole s)
          (λ s k. (k.0, (let l : p + 1 ≤ s.place = k.1 in omega arith), k.2)) (slots_of_body n (p + 1) body)
          (body_slots n (p + 1) whole body rest),
    )

abbrev pub IsLoopSlot : List Instr → ℕ → Slot → Type 0
IsLoopSlot body n s = (s.iteration < n) × IsSlotOf body s

pub loop_slots : (body : List Instr) (n : ℕ) → Each (IsLoopSlot body n) (slots_of_loop body n)
loop_slots body zero = tt
loop_slots body (suc n) =
    each_append (IsLoopSlot body (suc n)) (slots_of_loop body n) (slots_of_body n 0 body)
    (each_weaker (IsLoopSlot body n) (IsLoopSlot body (suc n)) (λ s k.
    ((let l : s.iteration < n = k.0 in omega arith), k.1)) (slots_of_loop body n) (loop_slots body n))
    (each_weaker (λ s. (s.iteration ≡ n) × (0 ≤ s.place) × IsSlotOf body s) (IsLoopSlot body (suc n))
    (λ s k. ((let l : s.iteration ≡ n = k.0 in omega arith), k.2)) (slots_of_body n 0 body)
    (body_slots n 0 body body (λ q. ap (slice_get body) (zero-add q))))

body_apart : (n p : ℕ) (body : List Instr) → Apart same_slot (slots_of_body n p body)
body_apart n p [] = tt
body_apart n p (a ∷ body) = (
  each_weaker (λ s. p + 1 ≤ s.place) (λ s. same_slot (record { iteration = n; place = p; action = a }) s ≡ false)
      (λ s k. and_left (p == s.place) (n == s.iteration) (ne_eqb p s.place (λ e. omega arith)))
      (slots_of_body n (p + 1) body) (places_from n (p + 1) body),
  body_apart n (p + 1) body,
)
  where
    places_from : (n p : ℕ) (body : List Instr) → Each (λ s. p ≤ s.place) (slots_of_body n p body)
    places_from n p [] = tt
    places_from n p (a ∷ body) = (
      le_refl p,
      each_weaker (λ s. p + 1 ≤ s.place) (λ s. p ≤ s.place) (λ s k. omega arith)
          (slots_of_body n (p + 1) body) (places_from n (p + 1) body),
    )

-- no two slots have one place and iteration
pub loop_apart : (body : List Instr) (n : ℕ) → Apart same_slot (slots_of_loop body n)
loop_apart body zero = tt
loop_apart body (suc n) =
    apart_append same_slot (slots_of_loop body n) (slots_of_body n 0 body) (loop_apart body n) (body_apart n 0 body)
    (each_weaker (IsLoopSlot body n) (λ s. Each (λ r. same_slot s r ≡ false) (slots_of_body n 0 body))
    (λ s k. each_weaker (λ r. (r.iteration ≡ n) × (0 ≤ r.place) × IsSlotOf body r) (λ r. same_slot s r ≡ false)
    (λ r l. and_right (s.place == r.place) (s.iteration == r.iteration)
    (ne_eqb s.iteration r.iteration (λ e. omega (arith, k.0, l.0))))
    (slots_of_body n 0 body) (body_slots n 0 body body (λ q. ap (slice_get body) (zero-add q))))
    (slots_of_loop body n) (loop_slots body n))

-- the slots on both sides of the one at place p of iteration n
pub record SlotSplit (body : List Instr) (slots : List Slot) (n p : ℕ) (action : Instr) (reads : ℕ) : Type 0 where
  pub front : List Slot
  pub rest : List Slot
  pub whole : slots ≡ front ++ record { iteration = n; place = p; action = action } ∷ rest
  pub reads_before : count_by (λ (s : Slot). is_reading s.action) front ≡ reads

abbrev pub reads_in : List Slot → ℕ
reads_in slots = count_by (λ (s : Slot). is_reading s.action) slots

slot_in_body : (n q : ℕ) (body : List Instr) (p r : ℕ) (a : Instr) → slice_get body p ≡ Some a → r ≡ q + p
    → SlotSplit body (slots_of_body n q body) n r a (count_by is_reading (take p body))
slot_in_body n q [] p r a e h = cc
slot_in_body n q (b ∷ body) zero r a e h =
    let m : b ≡ a = cc in
    let k : q ≡ r = omega arith in
    record { front = []; rest = slots_of_body n (q + 1) body; whole = cc; reads_before = refl }
slot_in_body n q (b ∷ body) (suc p) r a e h =
    let s = slot_in_body n (q + 1) body p r a e (omega arith) in
    record {
      front = record { iteration = n; place = q; action = b } ∷ s.front;
      rest = s.rest;
      whole = ap (λ l. record { iteration = n; place = q; action = b } ∷ l) s.whole;
      reads_before =
          sum_by-cons (λ (s : Slot). cond (is_reading s.action) 1 0) (record { iteration = n; place = q; action = b })
          s.front
          ∙ ap (λ k. cond (is_reading b) 1 0 + k) s.reads_before
          ∙ sym (sum_by-cons (λ a. cond (is_reading a) 1 0) b (take p body));
    }

reads_of_body : (n q : ℕ) (body : List Instr) → reads_in (slots_of_body n q body) ≡ count_by is_reading body
reads_of_body n q [] = refl
reads_of_body n q (b ∷ body) =
    sum_by-cons (λ (s : Slot). cond (is_reading s.action) 1 0) (record { iteration = n; place = q; action = b })
    (slots_of_body n (q + 1) body)
    ∙ ap (λ k. cond (is_reading b) 1 0 + k) (reads_of_body n (q + 1) body)
    ∙ sym (sum_by-cons (λ a. cond (is_reading a) 1 0) b body)

pub reads_of_loop : (body : List Instr) (n : ℕ) → reads_in (slots_of_loop body n) ≡ n * count_by is_reading body
reads_of_loop body zero = sym (zero-mul (count_by is_reading body))
reads_of_loop body (suc n) =
    let a = sum_by-append (λ (s : Slot). cond (is_reading s.action) 1 0) (slots_of_loop body n)
    (slots_of_body n 0 body) in
    let b = reads_of_loop body n in
    let c = reads_of_body n 0 body in
    omega arith

slot_in_loop_step : (body : List Instr) (m n p : ℕ) (a : Instr) → slice_get body p ≡ Some a → (n ≡ m) ⊎ (n < m)
    → (n < m → SlotSplit body (slots_of_loop body m) n p a (n * count_by is_reading body + count_by is_reading
    (take p body)))
    → SlotSplit body (slots_of_loop body m ++ slots_of_body m 0 body) n p a
    (n * count_by is_reading body + count_by is_reading (take p body))
slot_in_loop_step body m n p a e (inl k) rec =
    let s = slot_in_body n 0 body p p a e (omega arith) in
    let b = sum_by-append (λ (s : Slot). cond (is_reading s.action) 1 0) (slots_of_loop body n) s.front in
    let c = reads_of_loop body n in
    let d = s.reads_before in
    record {
      front = slots_of_loop body m ++ s.front;
      rest = s.rest;
      whole =
          rw (← k) (ap (λ l. slots_of_loop body n ++ l) s.whole
          ∙ sym (append_assoc (slots_of_loop body n) s.front (record { iteration = n; place = p; action = a }
          ∷ s.rest)));
      reads_before = rw (← k) (omega arith);
    }
slot_in_loop_step body m n p a e (inr k) rec =
    let s = rec k in
    record {
      front = s.front;
      rest = s.rest ++ slots_of_body m 0 body;
      whole =
          ap (λ l. l ++ slots_of_body m 0 body) s.whole
          ∙ append_assoc s.front (record { iteration = n; place = p; action = a } ∷ s.rest)
          (slots_of_body m 0 body);
      reads_before = s.reads_before;
    }

-- the slot of a place of the body in an iteration stands in the loop, after so many reads
pub slot_in_loop : (body : List Instr) (m n p : ℕ) (a : Instr) → n < m → slice_get body p ≡ Some a
    → SlotSplit body (slots_of_loop body m) n p a (n * count_by is_reading body + count_by is_reading (take p body))
slot_in_loop body zero n p a h e = absurd (omega arith)
slot_in_loop body (suc m) n p a h e =
    slot_in_loop_step body m n p a e (let l : (n ≡ m) ⊎ (n < m) = grind arith in l) (λ k. slot_in_loop body m n p a k e)

-- Events that fill slots.

-- the event does an action of its thread's body in one of n iterations
pub record DoesAction (test : LitmusTest) (n : ℕ) (e : Event) : Type 0 where
  pub early : e.iteration < n
  pub action : Instr
  pub stands : action_at test (site_of e) ≡ Some action
  pub gives : Gives action e.kind

fills_does : (test : LitmusTest) (n t : ℕ) (slot : Slot) (e : Event) → Fills t slot e
    → IsLoopSlot (body_of test t) n slot → DoesAction test n e
fills_does test n t slot e f k =
    record {
      early = (let l : e.iteration ≡ slot.iteration = f.iteration in let m : slot.iteration < n = k.0 in omega arith);
      action = slot.action;
      stands = rw (f.thread, f.place) (k.1.stands);
      gives = f.kind;
    }

-- the events of a thread that are no Drains
abbrev pub deeds : ℕ → List Event → List Event
deeds t run = filter (λ e. not (is_drain e)) (part_of t run)

pub deeds_do : (test : LitmusTest) (n t : ℕ) (run : List Event) → Performs test n t (part_of t run)
    → Each (DoesAction test n) (deeds t run)
deeds_do test n t run h =
    each_zip (Fills t) (IsLoopSlot (body_of test t) n) (DoesAction test n) (fills_does test n t)
    (slots_of_loop (body_of test t) n) (deeds t run) h (loop_slots (body_of test t) n)

deed_apart : (t : ℕ) (a b : Slot) (c d : Event) → Fills t a c → Fills t b d → same_slot a b ≡ false
    → same_store c d ≡ false
deed_apart t a b c d f g h = rw (f.thread, g.thread, eq-eqb t t refl, f.place, g.place, f.iteration, g.iteration) h

pub deeds_apart : (test : LitmusTest) (n t : ℕ) (run : List Event) → Performs test n t (part_of t run)
    → Apart same_store (deeds t run)
deeds_apart test n t run h =
    apart_zip (Fills t) same_slot same_store (deed_apart t) (slots_of_loop (body_of test t) n) (deeds t run) h
    (loop_apart (body_of test t) n)

-- The events of a run.

-- what holds of each that passes in the part of a thread
pub at_part : (P : Event → Type 0) (q : Event → Bool) (t : ℕ) (run : List Event) (e : Event)
    → Each P (filter q (part_of t run)) → Among e run → e.thread ≡ t → q e ≡ true → P e
at_part P q t run e h a =
    let R : Event → Type 0 = λ d. d.thread ≡ t → q d ≡ true → P d in
    each_among R e run a
    (each_unfilter R (λ d. d.thread == t) (λ d k l m. absurd (eqb-false d.thread t k l)) run
    (each_unfilter R q (λ d k l m. absurd (both_ways (q d) k m)) (part_of t run)
    (each_weaker P R (λ d k l m. k) (filter q (part_of t run)) h)))

pub thread_below : (test : LitmusTest) (n : ℕ) (run : List Event) (e : Event) → IsRunOf test n run → Among e run
    → e.thread < length test.bodies
thread_below test n run e r a =
    each_among (λ (d : Event). d.thread < length test.bodies) e run a
    (recursion_from_All (λ (d : Event). d.thread < length test.bodies) run r.threads)

-- each event that is no Drain does an action
pub deed_does : (test : LitmusTest) (n : ℕ) (run : List Event) (e : Event) → IsRunOf test n run → Among e run
    → is_drain e ≡ false → DoesAction test n e
deed_does test n run e r a h =
    at_part (DoesAction test n) (λ d. not (is_drain d)) e.thread run e
    (deeds_do test n e.thread run (r.performs e.thread (thread_below test n run e r a))) a refl
    (not_from_false (is_drain e) h)

-- Stores.

abbrev pub writes_kind : Kind → Bool
writes_kind Push = true
writes_kind Drain = true
writes_kind (Read v) = false
writes_kind Fenced = false
writes_kind (Exchanged v) = true

abbrev pub is_write : Event → Bool
is_write e = writes_kind e.kind

pub memory_writes : (k : Kind) → is_memory_kind k ≡ true → writes_kind k ≡ true
memory_writes Push h = cc
memory_writes Drain h = refl
memory_writes (Read v) h = cc
memory_writes Fenced h = cc
memory_writes (Exchanged v) h = refl

-- the event is that of a store or an exchange of its location, in one of n iterations
pub record IsStoring (test : LitmusTest) (n : ℕ) (e : Event) : Type 0 where
  pub early : e.iteration < n
  pub action : Instr
  pub stands : action_at test (site_of e) ≡ Some action
  pub stores : is_store_to (event_location test e) action ≡ true

gives_store : (action : Instr) (k : Kind) → Gives action k → goes_in_kind true k ≡ true
    → is_store_to (unwrap_or (option_and_then location_of (Some action)) 0) action ≡ true
gives_store (Store loc written) Push g h = eq-eqb loc loc refl
gives_store (Exchange loc written reg) (Exchanged v) g h = eq-eqb loc loc refl
gives_store (Load reg loc) (Read v) g h = cc
gives_store Fence Fenced g h = cc
gives_store _ _ g h = absurd g

deed_stores : (test : LitmusTest) (n : ℕ) (e : Event) → DoesAction test n e → goes_in true e ≡ true → IsStoring test n e
deed_stores test n e d h = record {
  early = d.early;
  action = d.action;
  stands = d.stands;
  stores = rw (d.stands) (gives_store d.action e.kind d.gives h);
}

same_write : (test : LitmusTest) (n t : ℕ) (a b : Event) → write_of test a ≡ write_of test b → a.thread ≡ t
    → b.thread ≡ t → IsStoring test n a → IsStoring test n b
same_write test n t a b e h k s =
    let p : a.place ≡ b.place = ap (λ w. w.place) e in
    let i : a.iteration ≡ b.iteration = ap (λ w. w.iteration) e in
    let th : a.thread ≡ b.thread = h ∙ sym k in
    record {
      early = (let l : a.iteration < n = s.early in omega arith);
      action = s.action;
      stands = rw (← th, ← p) (s.stands);
      stores = rw (← th, ← p) (s.stores);
    }

goes_in_no_drain : (b : Bool) (k : Kind) → goes_in_kind b k ≡ true → not (is_drain_kind k) ≡ true
goes_in_no_drain b Push h = refl
goes_in_no_drain b Drain h = cc
goes_in_no_drain b (Read v) h = refl
goes_in_no_drain b Fenced h = refl
goes_in_no_drain b (Exchanged v) h = refl

-- what goes into the queue stands among the deeds
pub fed_is : (b : Bool) (t : ℕ) (run : List Event)
    → filter (goes_in b) (deeds t run) ≡ filter (goes_in b) (part_of t run)
fed_is b t run = filter_inner (goes_in b) (λ e. not (is_drain e)) (λ e h. goes_in_no_drain b e.kind h) (part_of t run)

-- in a whole legal run what goes in comes out
pub queue_whole : (test : LitmusTest) (n : ℕ) (run : List Event) (b : Bool) (t : ℕ) → IsRunOf test n run
    → map (write_of test) (filter (goes_in b) (part_of t run))
    ≡ map (write_of test) (filter (comes_out b) (part_of t run))
queue_whole test n run b t r =
    queue_after test b t initial run r.legal.steps
    ∙ ap (λ l. map (write_of test) (filter (comes_out b) (part_of t run)) ++ l) (r.legal.drained t)
    ∙ append-nil (map (write_of test) (filter (comes_out b) (part_of t run)))

-- what stands in the part of a thread is of it
pub of_part : (t : ℕ) (q : Event → Bool) (es : List Event)
    → Each (λ e. (e.thread ≡ t) × (q e ≡ true)) (filter q (part_of t es))
of_part t q es =
    each_both (λ e. e.thread ≡ t) (λ e. q e ≡ true) (filter q (part_of t es))
    (each_filter (λ e. e.thread ≡ t) q (part_of t es) (each_weaker (λ (e : Event). (e.thread == t) ≡ true)
    (λ e. e.thread ≡ t) (λ e h. eqb-true e.thread t h) (part_of t es)
    (each_passes (λ (e : Event). e.thread == t) es)))
    (each_passes q (part_of t es))

each_part : (t : ℕ) (q : Event → Bool) (run : List Event) → Each (λ e. e.thread ≡ t) (filter q (part_of t run))
each_part t q run =
    each_weaker (λ e. (e.thread ≡ t) × (q e ≡ true)) (λ e. e.thread ≡ t) (λ e k. k.0) (filter q (part_of t run))
    (of_part t q run)

fed_store : (test : LitmusTest) (n t : ℕ) (run : List Event) → Performs test n t (part_of t run)
    → Each (IsStoring test n) (filter (goes_in true) (part_of t run))
fed_store test n t run h =
    subst (Each (IsStoring test n)) (fed_is true t run)
    (each_weaker (λ e. DoesAction test n e × (goes_in true e ≡ true)) (IsStoring test n)
    (λ e k. deed_stores test n e k.0 k.1) (filter (goes_in true) (deeds t run))
    (each_both (DoesAction test n) (λ e. goes_in true e ≡ true) (filter (goes_in true) (deeds t run))
    (each_filter (DoesAction test n) (goes_in true) (deeds t run) (deeds_do test n t run h))
    (each_passes (goes_in true) (deeds t run))))

drawn_store : (test : LitmusTest) (n t : ℕ) (run : List Event) → IsRunOf test n run → t < length test.bodies
    → Each (IsStoring test n) (filter (comes_out true) (part_of t run))
drawn_store test n t run r l =
    let fed = filter (goes_in true) (part_of t run) in
    let drawn = filter (comes_out true) (part_of t run) in
    each_weaker (λ e. (e.thread ≡ t → IsStoring test n e) × (e.thread ≡ t)) (IsStoring test n) (λ e k. k.0 k.1) drawn
    (each_both (λ e. e.thread ≡ t → IsStoring test n e) (λ e. e.thread ≡ t) drawn
    (each_along (write_of test) (λ e. IsStoring test n e × (e.thread ≡ t)) (λ e. e.thread ≡ t → IsStoring test n e)
    (λ a b e k m. same_write test n t a b e k.1 m k.0) fed drawn
    (queue_whole test n run true t r)
    (each_both (IsStoring test n) (λ e. e.thread ≡ t) fed (fed_store test n t run (r.performs t l))
    (each_part t (goes_in true) run)))
    (each_part t (comes_out true) run))

storing_by_kind : (test : LitmusTest) (n : ℕ) (run : List Event) (e : Event) (k : Kind) → e.kind ≡ k
    → IsRunOf test n run → Among e run → writes_kind k ≡ true → IsStoring test n e
storing_by_kind test n run e Push h r a w =
    deed_stores test n e (deed_does test n run e r a (ap is_drain_kind h)) (ap (goes_in_kind true) h)
storing_by_kind test n run e Drain h r a w =
    at_part (IsStoring test n) (comes_out true) e.thread run e (drawn_store test n e.thread run r
    (thread_below test n run e r a)) a refl (ap (comes_out_kind true) h)
storing_by_kind test n run e (Read v) h r a w = cc
storing_by_kind test n run e Fenced h r a w = cc
storing_by_kind test n run e (Exchanged v) h r a w =
    deed_stores test n e (deed_does test n run e r a (ap is_drain_kind h)) (ap (goes_in_kind true) h)

-- each Push, Drain and Exchange is that of a store
pub write_stores : (test : LitmusTest) (n : ℕ) (run : List Event) (e : Event) → IsRunOf test n run → Among e run
    → is_write e ≡ true → IsStoring test n e
write_stores test n run e r a w = storing_by_kind test n run e e.kind refl r a w

-- which is among the stores of its location
pub write_among : (test : LitmusTest) (n : ℕ) (run : List Event) (e : Event) (x : ℕ) → IsRunOf test n run → Among e run
    → is_write e ≡ true → event_location test e ≡ x → Among (site_of e) (stores_of test x)
write_among test n run e x r a w h =
    let s = write_stores test n run e r a w in
    store_at x test e.thread e.place s.action s.stands (rw (← h) (s.stores))
