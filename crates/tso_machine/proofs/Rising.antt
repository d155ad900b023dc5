-- The values of a location whose stores stand in one thread.
use Rattle.std.proofs.Common.{◌≡◌, ℕ, zero, suc, ◌+◌, ◌*◌, ◌<◌, ◌==◌, Bool, true, false, cond, ◌&&◌, Option, None, Some, List, [], ◌∷◌, ◌++◌, length, map, filter, slice_get, refl, sym, ap, ◌∙◌, arith, unwrap_or, eq-eqb, zero-mul, mul-zero, option_and_then}
use Rattle.std.proofs.lemmas.Bool.{and_right, and_from, and_parts, eqb-true}
use Rattle.std.proofs.lemmas.List.{map-append}
use Rattle.std.proofs.lemmas.List.Elements.{filter-append, recursion_from_All}
use Rattle.std.proofs.lemmas.Option.{slice_get_within}
use Rattle.std.specs.List.{AllByRecursion as Each, range_with_len}
use Rattle.std.specs.Option.{option_map_or}
use Rattle.x86_subset.specs.Test.{Code, LitmusTest, body_of}
use Rattle.x86_subset.specs.declared.instr.Instr.{Instr}
use Rattle.x86_subset.specs.declared.instr.Instr.TheVariants.{Store, Load, Fence, Exchange}
use Rattle.tso_machine.specs.Event.{Event, Kind, Push, Drain, Read, Fenced, Exchanged, event_location, site_of, written_value}
use Rattle.tso_machine.specs.Laws.{ValuesRise, memory_values}
use Rattle.tso_machine.specs.Machine.{Write, write_of}
use Rattle.tso_machine.specs.Part.{Slot, slots_of_body, slots_of_loop, Fills, Gives, Performs, part_of}
use Rattle.tso_machine.specs.Run.{IsRunOf}
use Rattle.x86_subset.specs.Instr.{is_store_to, location_of}
use Rattle.seq_conv.specs.Sequence.{Site, store_count, stores_in_body, stores_of, value_of}
use Rattle.tso_machine.specs.Source.{is_memory_kind, is_memory_write}
use Rattle.perp_base.proofs.Lists.{filter_filter, map_filter, zip_values, zip_with_each, Among, each_among, each_from_among, filter_none, filter_same, range_append, range_front}
use Rattle.tso_machine.proofs.Parts.{IsLoopSlot, deeds, fed_is, loop_slots, memory_writes, queue_whole, write_among}
use Rattle.tso_machine.proofs.Runs.{comes_out, comes_out_kind, goes_in, goes_in_kind}
use Rattle.seq_conv.proofs.Stores.{stores_of_one, values_of_iteration}

-- Lists.

-- The values of a loop.

abbrev slot_value : LitmusTest → ℕ → ℕ → Slot → ℕ
slot_value test x t slot = value_of test x (record { thread = t; place = slot.place }) slot.iteration

abbrev stores_slot : ℕ → Slot → Bool
stores_slot x slot = is_store_to x slot.action

body_values_step : (test : LitmusTest) (x t n p : ℕ) (a : Instr) (slots : List Slot) (sites : List Site) (b : Bool)
    → map (slot_value test x t) slots ≡ map (λ s. value_of test x s n) sites
    → map (slot_value test x t) (cond b (record { iteration = n; place = p; action = a } ∷ slots) slots)
    ≡ map (λ s. value_of test x s n) (cond b (record { thread = t; place = p } ∷ sites) sites)
body_values_step test x t n p a slots sites true h =
    ap (λ l. value_of test x (record { thread = t; place = p }) n ∷ l) h
body_values_step test x t n p a slots sites false h = h

body_values : (test : LitmusTest) (x t n p : ℕ) (body : List Instr)
    → map (slot_value test x t) (filter (stores_slot x) (slots_of_body n p body))
    ≡ map (λ s. value_of test x s n) (stores_in_body x t p body)
body_values test x t n p [] = refl
body_values test x t n p (a ∷ body) =
    body_values_step test x t n p a (filter (stores_slot x) (slots_of_body n (p + 1) body))
    (stores_in_body x t (p + 1) body) (is_store_to x a) (body_values test x t n (p + 1) body)

pub loop_values : (test : LitmusTest) (x t n : ℕ) → stores_of test x ≡ stores_in_body x t 0 (body_of test t)
    → map (slot_value test x t) (filter (stores_slot x) (slots_of_loop (body_of test t) n))
    ≡ range_with_len 1 (store_count test x * n)
loop_values test x t zero h = ap (range_with_len 1) (sym (mul-zero (store_count test x)))
loop_values test x t (suc n) h =
    let body = body_of test t in
    let k = store_count test x in
    let here : map (λ s. value_of test x s n) (stores_in_body x t 0 body) ≡ range_with_len (k * n + 1) k =
    ap (map (λ s. value_of test x s n)) (sym h) ∙ values_of_iteration test x n in
    ap (map (slot_value test x t)) (filter-append (stores_slot x) (slots_of_loop body n) (slots_of_body n 0 body))
    ∙ map-append (slot_value test x t) (filter (stores_slot x) (slots_of_loop body n))
    (filter (stores_slot x) (slots_of_body n 0 body))
    ∙ ap (λ l. l ++ map (slot_value test x t) (filter (stores_slot x) (slots_of_body n 0 body)))
    (loop_values test x t n h)
    ∙ ap (λ l. range_with_len 1 (k * n) ++ l) (body_values test x t n 0 body ∙ here)
    ∙ ap (λ a. range_with_len 1 (k * n) ++ range_with_len a k) (let e : k * n + 1 ≡ 1 + k * n = omega arith in e)
    ∙ sym (range_append 1 (k * n) k)
    ∙ ap (range_with_len 1) (let e : k * n + k ≡ k * suc n = omega arith in e)

-- The events of the loop.

abbrev feeds : LitmusTest → ℕ → Event → Bool
feeds test x e = goes_in true e && (event_location test e == x)

feeds_by : (x : ℕ) (a : Instr) (k : Kind) → Gives a k
    → is_store_to x a ≡ (goes_in_kind true k && (unwrap_or (option_and_then location_of (Some a)) 0 == x))
feeds_by x (Store loc written) Push g = refl
feeds_by x (Exchange loc written reg) (Exchanged v) g = refl
feeds_by x (Load reg loc) (Read v) g = refl
feeds_by x Fence Fenced g = refl
feeds_by x _ _ g = absurd g

deeds_values : (test : LitmusTest) (n x t : ℕ) (run : List Event) → Performs test n t (part_of t run)
    → map (slot_value test x t) (filter (stores_slot x) (slots_of_loop (body_of test t) n))
    ≡ map (written_value test) (filter (feeds test x) (deeds t run))
deeds_values test n x t run h =
    let body = body_of test t in
    let slots = slots_of_loop body n in
    let R : Slot → Event → Type 0 = λ slot e. Fills t slot e × IsLoopSlot body n slot in
    let tests : (slot : Slot) (e : Event) → R slot e
    → stores_slot x slot ≡ feeds test x e = λ slot e r. rw (r.0.thread, r.0.place, r.1.1.stands)
    (feeds_by x slot.action e.kind r.0.kind) in
    zip_values R (stores_slot x) (feeds test x) (slot_value test x t) (written_value test) tests
    (λ slot e r s.
    let l : event_location test e ≡ x = eqb-true (event_location test e) x
    ((and_parts (goes_in true e) (event_location test e == x) (sym (tests slot e r) ∙ s)).1) in
    rw (l, r.0.thread, r.0.place, r.0.iteration) refl)
    slots (deeds t run) (zip_with_each (Fills t) (IsLoopSlot body n) slots (deeds t run) h (loop_slots body n))

-- Memory.

writes_by : (k : Kind) (b : Bool) → (comes_out_kind true k && b) ≡ (is_memory_kind k && b)
writes_by Push b = refl
writes_by Drain b = refl
writes_by (Read v) b = refl
writes_by Fenced b = refl
writes_by (Exchanged v) b = refl

abbrev drawn : LitmusTest → ℕ → Event → Bool
drawn test x e = comes_out true e && (event_location test e == x)

-- each write to memory at x is one of the thread of its stores
memory_thread : (test : LitmusTest) (n x t : ℕ) (run : List Event) → IsRunOf test n run
    → Each (λ s. s.thread ≡ t) (stores_of test x) → (e : Event) → Among e run → is_memory_write test x e ≡ true
    → e.thread ≡ t
memory_thread test n x t run r h e a m =
    let p = and_parts (is_memory_kind e.kind) (event_location test e == x) m in
    each_among (λ s. s.thread ≡ t) (site_of e) (stores_of test x)
    (write_among test n run e x r a (memory_writes e.kind p.0) (eqb-true (event_location test e) x p.1)) h

memory_agrees : (test : LitmusTest) (n x t : ℕ) (run : List Event) → IsRunOf test n run
    → Each (λ s. s.thread ≡ t) (stores_of test x) → (e : Event) → Among e run → (b : Bool)
    → is_memory_write test x e ≡ b → ((e.thread == t) && drawn test x e) ≡ b
memory_agrees test n x t run r h e a true m =
    and_from (e.thread == t) (drawn test x e) (eq-eqb e.thread t (memory_thread test n x t run r h e a m))
    (writes_by e.kind (event_location test e == x) ∙ m)
memory_agrees test n x t run r h e a false m =
    and_right (e.thread == t) (drawn test x e) (writes_by e.kind (event_location test e == x) ∙ m)

memory_is_drawn : (test : LitmusTest) (n x t : ℕ) (run : List Event) → IsRunOf test n run
    → Each (λ s. s.thread ≡ t) (stores_of test x)
    → filter (is_memory_write test x) run ≡ filter (drawn test x) (part_of t run)
memory_is_drawn test n x t run r h =
    sym (filter_filter (drawn test x) (λ e. e.thread == t) run
    ∙ filter_same (λ e. (e.thread == t) && drawn test x e) (is_memory_write test x) run
    (each_from_among (λ e. ((e.thread == t) && drawn test x e) ≡ is_memory_write test x e) run
    (λ e a. memory_agrees test n x t run r h e a (is_memory_write test x e) refl)))

at_location : ℕ → Write → Bool
at_location x w = w.location == x

-- in the order in which they leave the buffer, which is that in which they enter it
drawn_values : (test : LitmusTest) (n x t : ℕ) (run : List Event) → IsRunOf test n run
    → map (written_value test) (filter (drawn test x) (part_of t run))
    ≡ map (written_value test) (filter (feeds test x) (deeds t run))
unfolding at_location
drawn_values test n x t run r =
    let fed = filter (goes_in true) (part_of t run) in
    let out = filter (comes_out true) (part_of t run) in
    ap (map (written_value test)) (sym (filter_filter (λ e. event_location test e == x) (comes_out true)
    (part_of t run)))
    ∙ map_filter (λ w. w.value) (at_location x) (write_of test) out
    ∙ ap (λ l. map (λ (w : Write). w.value) (filter (at_location x) l)) (sym (queue_whole test n run true t r))
    ∙ sym (map_filter (λ w. w.value) (at_location x) (write_of test) fed)
    ∙ ap (λ l. map (written_value test) (filter (λ e. event_location test e == x) l)) (sym (fed_is true t run))
    ∙ ap (map (written_value test)) (filter_filter (λ e. event_location test e == x) (goes_in true) (deeds t run))

rise_by_body : (test : LitmusTest) (n x t : ℕ) (run : List Event) → IsRunOf test n run
    → Each (λ s. s.thread ≡ t) (stores_of test x) → t < length test.bodies
    → memory_values test x run ≡ range_with_len 1 (store_count test x * n)
rise_by_body test n x t run r h l =
    ap (map (written_value test)) (memory_is_drawn test n x t run r h)
    ∙ drawn_values test n x t run r
    ∙ sym (deeds_values test n x t run (r.performs t l))
    ∙ loop_values test x t n (stores_of_one test x t h)

no_write : (test : LitmusTest) (n x : ℕ) (run : List Event) → IsRunOf test n run → stores_of test x ≡ [] → (e : Event)
    → Among e run → (b : Bool) → is_memory_write test x e ≡ b → is_memory_write test x e ≡ false
no_write test n x run r h e a true m =
    let p = and_parts (is_memory_kind e.kind) (event_location test e == x) m in
    absurd (each_among (λ s. ⊥) (site_of e) (stores_of test x) (write_among test n run e x r a
    (memory_writes e.kind p.0) (eqb-true (event_location test e) x p.1)) (rw h tt))
no_write test n x run r h e a false m = m

rise_by_code : (test : LitmusTest) (n x t : ℕ) (run : List Event) (o : Option Code) → slice_get test.bodies t ≡ o
    → IsRunOf test n run → Each (λ s. s.thread ≡ t) (stores_of test x)
    → memory_values test x run ≡ range_with_len 1 (store_count test x * n)
rise_by_code test n x t run None e r h =
    let none : stores_of test x ≡ [] = stores_of_one test x t h
    ∙ ap (λ o. stores_in_body x t 0 (option_map_or (λ (code : Code). code.actions) o [])) e in
    let count : store_count test x * n ≡ 0 = ap (λ (l : List Site). length l * n) none ∙ zero-mul n in
    ap (map (written_value test)) (filter_none (is_memory_write test x) run
    (each_from_among (λ e. is_memory_write test x e ≡ false) run
    (λ e a. no_write test n x run r none e a (is_memory_write test x e) refl)))
    ∙ ap (range_with_len 1) (sym count)
rise_by_code test n x t run (Some code) e r h = rise_by_body test n x t run r h (slice_get_within test.bodies t code e)

pub values_rise_lem : ValuesRise
values_rise_lem test n run x t r h =
    rise_by_code test n x t run (slice_get test.bodies t) refl r
    (recursion_from_All (λ s. s.thread ≡ t) (stores_of test x) h)

-- so they do before each place of the run
pub memory_values_before : (test : LitmusTest) (n x t : ℕ) (before rest : List Event) → IsRunOf test n (before ++ rest)
    → Each (λ s. s.thread ≡ t) (stores_of test x)
    → memory_values test x before ≡ range_with_len 1 (length (memory_values test x before))
memory_values_before test n x t before rest r h =
    let p = is_memory_write test x in
    let cut : memory_values test x (before ++ rest) ≡ memory_values test x before ++ memory_values test x rest =
    ap (map (written_value test)) (filter-append p before rest)
    ∙ map-append (written_value test) (filter p before) (filter p rest) in
    range_front (memory_values test x before) (memory_values test x rest) 1 (store_count test x * n)
    (sym cut ∙ rise_by_code test n x t (before ++ rest) (slice_get test.bodies t) refl r h)
