-- A run along edges: made to its end, or the edges have a cycle.
use Rattle.std.proofs.Common.{◌≡◌, ℕ, zero, suc, ◌+◌, ◌*◌, ◌<◌, ◌≤◌, ◌&&◌, Bool, true, false, cond, Option, None, Some, List, [], ◌∷◌, ◌++◌, length, filter, slice_get, take, All, nat_le, le-leb, refl, sym, ap, ◌∙◌, arith, subst, inl, inr, ◌⊎◌, mul-zero}
use Rattle.std.proofs.lemmas.Bool.{and_from, and_parts, both_ways, cases_Bool, cases_eq, cases_lt, false_from_ne_true, leb-true}
use Rattle.std.proofs.lemmas.List.Elements.{All-from_recursion}
use Rattle.std.proofs.lemmas.Option.{slice_get_within}
use Rattle.std.specs.List.{AllZip, AllByRecursion as Each}
use Rattle.std.specs.Option.{option_map_or}
use Rattle.x86_subset.specs.Instr.{is_reading}
use Rattle.x86_subset.specs.Test.{Code, LitmusTest, body_of}
use Rattle.x86_subset.specs.declared.instr.Instr.{Instr}
use Rattle.x86_subset.specs.declared.instr.Instr.TheVariants.{Store, Load, Fence, Exchange}
use Rattle.tso_machine.specs.Event.{Event}
use Rattle.tso_machine.specs.Part.{Fills, Slot}
use Rattle.tso_machine.specs.Run.{IsRunOf}
use Rattle.perp_base.proofs.Lists.{Among, among_append_left, among_append_right, each_among}
use Rattle.run_witness.specs.Marks.{Mark, is_storing, loop_of}
use Rattle.run_witness.proofs.Reading.{store_stores}
use Rattle.run_witness.proofs.Slots.{has_item, loop_length}
use Rattle.run_witness.proofs.Stands.{fresh, stands_fresh}
use Rattle.verdict.specs.Edges.{is_access, is_barrier, is_cycle_of}
use Rattle.run_orders.specs.Laws.{RunAlong}
use Rattle.run_orders.specs.Orders.{AllDraw, IsWanted, KeepsOrder, Spot, slot_in}
use Rattle.run_orders.specs.Course.{Begun, Gone, IsOpen, StoresNone, total}
use Rattle.run_orders.proofs.Begun.{IsFree, one_slot, spot, storing_access}
use Rattle.run_orders.proofs.Chances.{CanDo, Chance, chance_further}
use Rattle.run_orders.proofs.Going.{late_load, late_write, none_queue, not_done, own_open, reading_access}
use Rattle.run_orders.proofs.Gone.{ended_run}
use Rattle.run_orders.proofs.Least.{Least, Loop, further, least, loop_cycle}

-- Threads of the test.

get_past : {X : Type 0} (xs : List X) (i : ℕ) → length xs ≤ i → slice_get xs i ≡ None
get_past [] i h = refl
get_past (x ∷ xs) zero h = absurd (omega arith)
get_past (x ∷ xs) (suc i) h = get_past xs i (omega arith)

no_loop_past : (test : LitmusTest) (n t : ℕ) → length test.bodies ≤ t → length (loop_of test n t) ≡ 0
no_loop_past test n t h =
    let none : body_of test t ≡ [] = ap (λ o. option_map_or (λ (code : Code). code.actions) o [])
    (get_past test.bodies t h) in
    loop_length (body_of test t) n ∙ ap (λ (b : List Instr). n * length b) none ∙ mul-zero n

pub slot_thread : (test : LitmusTest) (n : ℕ) (a : Spot) (s : Slot) → slot_in test n a ≡ Some s
    → a.thread < length test.bodies
slot_thread test n a s h = go (cases_lt a.thread (length test.bodies))
  where
    go : (a.thread < length test.bodies) ⊎ (length test.bodies ≤ a.thread) → a.thread < length test.bodies
    go (inl l) = l
    go (inr l) =
        let z = no_loop_past test n a.thread l in
        let w = slice_get_within (loop_of test n a.thread) a.index s h in
        absurd (omega arith)

-- The thread of an open spot that no open one is before.

chosen : (test : LitmusTest) (n : ℕ) (edge : Spot → Spot → Bool) (wanted : Spot → ℕ → Bool) (marks : ℕ → Mark)
    (events : List Event) → KeepsOrder test n edge → Begun test n edge wanted marks events → (m : Spot)
    → IsOpen test n marks m → IsFree test n edge marks m → Chance test n edge marks
chosen test n edge wanted marks events order b m o free = go (cases_lt m.index (marks m.thread).done)
  where
    below : m.thread < length test.bodies
    below = slot_thread test n m o.slot o.stands

    marks_order : (marks m.thread).drained ≤ (marks m.thread).done
    marks_order = (b.gone.stands.own m.thread).order

    -- no store of the thread that waits is before a store
    none : is_storing o.slot.action ≡ true → (i : ℕ) (s : Slot) → (marks m.thread).drained ≤ i → i < m.index
        → slice_get (loop_of test n m.thread) i ≡ Some s → is_storing s.action ≡ false
    none w i s l k at =
        false_from_ne_true (is_storing s.action) (λ q. free (spot m.thread i)
        (order.storing m.thread i m.index s o.slot k at o.stands q w) (own_open test n marks m.thread i s l at q))

    waits : m.index < (marks m.thread).done → (is_storing o.slot.action ≡ true) ⊎ (is_storing o.slot.action ≡ false)
        → Chance test n edge marks
    waits l (inr q) =
        let late : (marks m.thread).done ≤ m.index =
        late_load (is_storing o.slot.action) (marks m.thread) m.index q o.late
        in
        absurd (omega arith)
    waits l (inl q) =
        record {
          thread = m.thread;
          below = below;
          can = inl (record {
            place = m.index;
            slot = o.slot;
            oldest = record {
              stands = o.stands;
              storing = q;
              after = late_write (is_storing o.slot.action) (marks m.thread) m.index q o.late;
              below = l;
              none_before = λ i s g k at. none q i s g k at;
            };
            free = free;
          });
        }

    -- the next action can be done
    act : (s : Slot) (a : Instr) → s.action ≡ a
        → slice_get (loop_of test n m.thread) (marks m.thread).done ≡ Some s
        → CanDo test n edge marks m.thread a → Chance test n edge marks
    act s a e at can =
        let P : Instr → Type 0 = λ a. CanDo test n edge marks m.thread a in
        record {
          thread = m.thread;
          below = below;
          can = inr (record { slot = s; stands = at; can = subst P (sym e) can });
        }

    -- the next action is the spot's own
    own : (marks m.thread).done ≡ m.index → IsFree test n edge marks (spot m.thread (marks m.thread).done)
    own e = let P : ℕ → Type 0 = λ z. IsFree test n edge marks (spot m.thread z) in subst P (sym e) free

    own_slot : (s : Slot) → slice_get (loop_of test n m.thread) (marks m.thread).done ≡ Some s
        → (marks m.thread).done ≡ m.index → o.slot ≡ s
    own_slot s at e =
        let P : ℕ → Type 0 = λ z. slice_get (loop_of test n m.thread) z ≡ Some s in
        one_slot o.slot s (sym o.stands ∙ subst P e at)

    -- a reading action before the spot would be before it
    reads_here : (s : Slot) → slice_get (loop_of test n m.thread) (marks m.thread).done ≡ Some s
        → is_reading s.action ≡ true → (marks m.thread).done < m.index → ⊥
    reads_here s at reads l =
        free (spot m.thread (marks m.thread).done)
        (order.reading m.thread (marks m.thread).done m.index s o.slot l at o.stands reads o.access)
        (not_done test n marks m.thread (marks m.thread).done s marks_order (omega arith) at
        (reading_access s.action reads))

    fence : (s : Slot) → s.action ≡ Fence → slice_get (loop_of test n m.thread) (marks m.thread).done ≡ Some s
        → (marks m.thread).done ≤ m.index
        → ((marks m.thread).done ≡ m.index) ⊎ ((marks m.thread).done ≡ m.index → ⊥)
        → Chance test n edge marks
    fence s f at l (inl e) =
        absurd (both_ways (is_access s.action) (ap is_access f)
        (sym (ap (λ (z : Slot). is_access z.action) (own_slot s at e)) ∙ o.access))
    fence s f at l (inr ne) =
        act s Fence f at (λ i z g k q. false_from_ne_true (is_storing z.action) (λ w. free (spot m.thread i)
        (order.barred m.thread i (marks m.thread).done m.index z s o.slot k (omega arith) q at o.stands w
        (ap is_barrier f) o.access) (own_open test n marks m.thread i z g q w)))

    by : (s : Slot) (a : Instr) → s.action ≡ a → slice_get (loop_of test n m.thread) (marks m.thread).done ≡ Some s
        → (marks m.thread).done ≤ m.index
        → ((marks m.thread).done ≡ m.index) ⊎ ((marks m.thread).done ≡ m.index → ⊥)
        → Chance test n edge marks
    by s (Store loc written) e at l c = act s (Store loc written) e at tt
    by s (Load reg loc) e at l (inl c) = act s (Load reg loc) e at (own c)
    by s (Load reg loc) e at l (inr ne) = absurd (reads_here s at (ap is_reading e) (omega arith))
    by s Fence e at l c = fence s e at l c
    by s (Exchange loc written reg) e at l (inl c) =
        let w : is_storing o.slot.action ≡ true = ap (λ (z : Slot). is_storing z.action) (own_slot s at c)
        ∙ ap is_storing e in
        act s (Exchange loc written reg) e at ((λ i z g k q. none w i z g (omega arith) q), own c)
    by s (Exchange loc written reg) e at l (inr ne) = absurd (reads_here s at (ap is_reading e) (omega arith))

    go : (m.index < (marks m.thread).done) ⊎ ((marks m.thread).done ≤ m.index) → Chance test n edge marks
    go (inl l) = waits l (cases_Bool (is_storing o.slot.action))
    go (inr l) =
        let w = slice_get_within (loop_of test n m.thread) m.index o.slot o.stands in
        let s = has_item (loop_of test n m.thread) (marks m.thread).done (omega arith) in
        by s.item s.item.action refl s.stands l (cases_eq (marks m.thread).done m.index)

-- Where no spot is open.

abbrev NoneOpen : LitmusTest → ℕ → (ℕ → Mark) → Type 0
NoneOpen test n marks = (a : Spot) → IsOpen test n marks a → ⊥

-- the thread has done all, and none of its stores waits
abbrev IsEnded : LitmusTest → ℕ → (ℕ → Mark) → ℕ → Type 0
IsEnded test n marks t =
    ((marks t).done ≡ length (loop_of test n t)) × StoresNone test n t (marks t).drained (marks t).done

abbrev pub AllEnded : LitmusTest → ℕ → (ℕ → Mark) → Type 0
AllEnded test n marks =
    (t : ℕ) → t < length test.bodies
    → ((marks t).done ≡ length (loop_of test n t)) × StoresNone test n t (marks t).drained (marks t).done

none_stored : (test : LitmusTest) (n : ℕ) (marks : ℕ → Mark) → NoneOpen test n marks → (t : ℕ)
    → StoresNone test n t (marks t).drained (marks t).done
none_stored test n marks none t i s g k q =
    false_from_ne_true (is_storing s.action) (λ w. none (spot t i) (own_open test n marks t i s g q w))

-- where all is done the events are a run
pub all_ended : (test : LitmusTest) (n : ℕ) (marks : ℕ → Mark) (events : List Event) → Gone test n marks events
    → AllEnded test n marks → IsRunOf test n events
all_ended test n marks events g ended =
    ended_run test n marks events g (λ t l. (ended t l).0)
    (λ t. none_queue test n marks t (λ i s k m q. (ended t (slot_thread test n (spot t i) s q)).1 i s k m q))

rest_of : (test : LitmusTest) (n : ℕ) (edge : Spot → Spot → Bool) (wanted : Spot → ℕ → Bool) (marks : ℕ → Mark)
    (events : List Event) → Begun test n edge wanted marks events → NoneOpen test n marks → (t : ℕ)
    → t < length test.bodies → Chance test n edge marks ⊎ IsEnded test n marks t
rest_of test n edge wanted marks events b none t below = go (cases_lt (marks t).done (length (loop_of test n t)))
  where
    act : (s : Slot) → slice_get (loop_of test n t) (marks t).done ≡ Some s → is_access s.action ≡ true
        → Chance test n edge marks ⊎ IsEnded test n marks t
    act s at acc =
        absurd (none (spot t (marks t).done) (not_done test n marks t (marks t).done s (b.gone.stands.own t).order
        (omega arith) at acc))

    by : (s : Slot) (a : Instr) → s.action ≡ a → slice_get (loop_of test n t) (marks t).done ≡ Some s
        → Chance test n edge marks ⊎ IsEnded test n marks t
    by s Fence e at =
        let P : Instr → Type 0 = λ a. CanDo test n edge marks t a in
        inl (record {
          thread = t;
          below = below;
          can = inr (record { slot = s; stands = at; can = subst P (sym e) (none_stored test n marks none t) });
        })
    by s (Store loc written) e at = act s at (ap is_access e)
    by s (Load reg loc) e at = act s at (ap is_access e)
    by s (Exchange loc written reg) e at = act s at (ap is_access e)

    go : ((marks t).done < length (loop_of test n t)) ⊎ (length (loop_of test n t) ≤ (marks t).done)
        → Chance test n edge marks ⊎ IsEnded test n marks t
    go (inl l) = let s = has_item (loop_of test n t) (marks t).done l in by s.item s.item.action refl s.stands
    go (inr l) =
        let w : (marks t).done ≤ length (loop_of test n t) = (b.gone.stands.own t).within in
        let e : (marks t).done ≡ length (loop_of test n t) = omega arith in
        inr (e, none_stored test n marks none t)

rest_to : (test : LitmusTest) (n : ℕ) (edge : Spot → Spot → Bool) (wanted : Spot → ℕ → Bool) (marks : ℕ → Mark)
    (events : List Event) → Begun test n edge wanted marks events → NoneOpen test n marks → (k : ℕ)
    → k ≤ length test.bodies → Chance test n edge marks ⊎ ((t : ℕ) → t < k → IsEnded test n marks t)
rest_to test n edge wanted marks events b none zero l = inr (λ t h. absurd (omega arith))
rest_to test n edge wanted marks events b none (suc k) l =
    put (rest_of test n edge wanted marks events b none k (omega arith))
    (rest_to test n edge wanted marks events b none k (omega arith))
  where
    last : IsEnded test n marks k → ((t : ℕ) → t < k → IsEnded test n marks t) → (t : ℕ) → t < suc k
        → (t ≡ k) ⊎ (t ≡ k → ⊥) → IsEnded test n marks t
    last s f t h (inl e) = let P : ℕ → Type 0 = λ u. IsEnded test n marks u in subst P (sym e) s
    last s f t h (inr ne) = f t (omega arith)

    put : Chance test n edge marks ⊎ IsEnded test n marks k
        → Chance test n edge marks ⊎ ((t : ℕ) → t < k → IsEnded test n marks t)
        → Chance test n edge marks ⊎ ((t : ℕ) → t < suc k → IsEnded test n marks t)
    put (inl g) r = inl g
    put (inr s) (inl g) = inl g
    put (inr s) (inr f) = inr (λ t h. last s f t h (cases_eq t k))

-- An open spot that no open one is before.

abbrev open_as : Option Slot → Mark → ℕ → Bool
open_as None m p = false
open_as (Some s) m p = is_access s.action && nat_le (cond (is_storing s.action) m.drained m.done) p

abbrev is_open : LitmusTest → ℕ → (ℕ → Mark) → Spot → Bool
is_open test n marks a = open_as (slot_in test n a) (marks a.thread) a.index

open_tells : (test : LitmusTest) (n : ℕ) (marks : ℕ → Mark) (a : Spot) → is_open test n marks a ≡ true
    → IsOpen test n marks a
open_tells test n marks a h = go (slot_in test n a) refl h
  where
    go : (s : Option Slot) → slot_in test n a ≡ s → open_as s (marks a.thread) a.index ≡ true → IsOpen test n marks a
    go None e k = cc
    go (Some s) e k =
        let p = and_parts (is_access s.action)
        (nat_le (cond (is_storing s.action) (marks a.thread).drained (marks a.thread).done) a.index) k in
        record {
          slot = s;
          stands = e;
          access = p.0;
          late = leb-true (cond (is_storing s.action) (marks a.thread).drained (marks a.thread).done) a.index p.1;
        }

open_from : (test : LitmusTest) (n : ℕ) (marks : ℕ → Mark) (a : Spot) → IsOpen test n marks a
    → is_open test n marks a ≡ true
open_from test n marks a o =
    ap (λ s. open_as s (marks a.thread) a.index) o.stands
    ∙ and_from (is_access o.slot.action)
    (nat_le (cond (is_storing o.slot.action) (marks a.thread).drained (marks a.thread).done) a.index) o.access
    (le-leb (cond (is_storing o.slot.action) (marks a.thread).drained (marks a.thread).done) a.index o.late)

filter_step : {X : Type 0} (p : X → Bool) (P : X → Type 0) (x : X) (xs : List X) (b : Bool) → p x ≡ b
    → (Each P (filter p xs) → Each (λ y. p y ≡ true → P y) xs) → Each P (cond b (x ∷ filter p xs) (filter p xs))
    → Each (λ y. p y ≡ true → P y) (x ∷ xs)
filter_step p P x xs true e rec h = (λ k. h.0, rec h.1)
filter_step p P x xs false e rec h = (λ k. absurd (both_ways (p x) e k), rec h)

each_filtered : {X : Type 0} (p : X → Bool) (P : X → Type 0) (xs : List X) → Each P (filter p xs)
    → Each (λ y. p y ≡ true → P y) xs
each_filtered p P [] h = tt
each_filtered p P (x ∷ xs) h = filter_step p P x xs (p x) refl (each_filtered p P xs) h

passes_step : {X : Type 0} (p : X → Bool) (x : X) (fs : List X) (b : Bool) → p x ≡ b → Each (λ y. p y ≡ true) fs
    → Each (λ y. p y ≡ true) (cond b (x ∷ fs) fs)
passes_step p x fs true e h = (e, h)
passes_step p x fs false e h = h

each_passes : {X : Type 0} (p : X → Bool) (xs : List X) → Each (λ y. p y ≡ true) (filter p xs)
each_passes p [] = tt
each_passes p (x ∷ xs) = passes_step p x (filter p xs) (p x) refl (each_passes p xs)

-- all spots of the first threads
abbrev spots_in : ℕ → ℕ → List Spot
spots_in t zero = []
spots_in t (suc p) = spot t p ∷ spots_in t p

abbrev spots_to : LitmusTest → ℕ → ℕ → List Spot
spots_to test n zero = []
spots_to test n (suc k) = spots_in k (length (loop_of test n k)) ++ spots_to test n k

in_loop : (t p q : ℕ) → q < p → Among (spot t q) (spots_in t p)
in_loop t zero q h = absurd (omega arith)
in_loop t (suc p) q h = go (λ l. in_loop t p q l) (cases_eq q p)
  where
    go : (q < p → Among (spot t q) (spots_in t p)) → (q ≡ p) ⊎ (q ≡ p → ⊥)
        → Among (spot t q) (spot t p ∷ spots_in t p)
    go rec (inl e) = record { front = []; rest = spots_in t p; whole = (λ i. spot t (sym e i) ∷ spots_in t p) }
    go rec (inr ne) = further (spot t q) (spot t p) (spots_in t p) (rec (omega arith))

in_loops : (test : LitmusTest) (n k : ℕ) (a : Spot) → a.thread < k → a.index < length (loop_of test n a.thread)
    → Among a (spots_to test n k)
in_loops test n zero a h l = absurd (omega arith)
in_loops test n (suc k) a h l = go (λ m. in_loops test n k a m l) (cases_eq a.thread k)
  where
    go : (a.thread < k → Among a (spots_to test n k)) → (a.thread ≡ k) ⊎ (a.thread ≡ k → ⊥)
        → Among a (spots_in k (length (loop_of test n k)) ++ spots_to test n k)
    go rec (inl e) =
        let P : ℕ → Type 0 = λ u. Among a (spots_in u (length (loop_of test n u)) ++ spots_to test n k) in
        subst P e (among_append_left a (spots_in a.thread (length (loop_of test n a.thread))) (spots_to test n k)
        (in_loop a.thread (length (loop_of test n a.thread)) a.index l))
    go rec (inr ne) =
        among_append_right a (spots_in k (length (loop_of test n k))) (spots_to test n k) (rec (omega arith))

-- what holds of each open one of these holds of each open spot
all_open : (test : LitmusTest) (n : ℕ) (marks : ℕ → Mark) (P : Spot → Type 0)
    → Each P (filter (is_open test n marks) (spots_to test n (length test.bodies))) → (a : Spot)
    → IsOpen test n marks a → P a
all_open test n marks P h a o =
    let spots = spots_to test n (length test.bodies) in
    let among = in_loops test n (length test.bodies) a (slot_thread test n a o.slot o.stands)
    (slice_get_within (loop_of test n a.thread) a.index o.slot o.stands) in
    each_among (λ y. is_open test n marks y ≡ true → P y) a spots among
    (each_filtered (is_open test n marks) P spots h) (open_from test n marks a o)

record First (test : LitmusTest) (n : ℕ) (edge : Spot → Spot → Bool) (marks : ℕ → Mark) : Type 0 where
  first : Spot
  still : IsOpen test n marks first
  free : IsFree test n edge marks first

first_open : (test : LitmusTest) (n : ℕ) (edge : Spot → Spot → Bool) (marks : ℕ → Mark)
    → NoneOpen test n marks ⊎ (Loop edge ⊎ First test n edge marks)
first_open test n edge marks = go (filter (is_open test n marks) (spots_to test n (length test.bodies))) refl
  where
    by : (x : Spot) (xs : List Spot)
        → filter (is_open test n marks) (spots_to test n (length test.bodies)) ≡ x ∷ xs
        → Loop edge ⊎ Least edge (x ∷ xs) → Loop edge ⊎ First test n edge marks
    by x xs e (inl l) = inl l
    by x xs e (inr l) =
        let P : List Spot → Type 0 = λ ys. Each (λ y. is_open test n marks y ≡ true) ys in
        let opened : P (x ∷ xs) = subst P e (each_passes (is_open test n marks)
        (spots_to test n (length test.bodies))) in
        let Q : List Spot → Type 0 = λ ys. Each (λ y. edge y l.node ≡ false) ys in
        let none : Q (filter (is_open test n marks) (spots_to test n (length test.bodies))) = subst Q (sym e) l.none in
        inr (record {
          first = l.node;
          still = open_tells test n marks l.node
              (each_among (λ y. is_open test n marks y ≡ true) l.node (x ∷ xs) l.among opened);
          free = λ a h o. both_ways (edge a l.node) (all_open test n marks (λ y. edge y l.node ≡ false) none a o) h;
        })

    go : (ys : List Spot) → filter (is_open test n marks) (spots_to test n (length test.bodies)) ≡ ys
        → NoneOpen test n marks ⊎ (Loop edge ⊎ First test n edge marks)
    go [] e =
        inl (λ a o. all_open test n marks (λ y. ⊥)
        (let Q : List Spot → Type 0 = λ ys. Each (λ y. ⊥) ys in subst Q (sym e) tt) a o)
    go (x ∷ xs) e = inr (by x xs e (least edge x xs))

-- From the beginning to the end.

take_none : {X : Type 0} (xs : List X) → take 0 xs ≡ []
take_none [] = refl
take_none (x ∷ xs) = refl

pub begun_begins : (test : LitmusTest) (n : ℕ) (edge : Spot → Spot → Bool) (wanted : Spot → ℕ → Bool)
    → Begun test n edge wanted fresh []
begun_begins test n edge wanted = record {
  gone = record {
    steps = tt;
    stands = stands_fresh test n;
    performed = λ t l. (let P : List Slot → Type 0 = λ s. AllZip (Fills t) s [] in
        subst P (sym (take_none (loop_of test n t))) tt);
    threads = tt;
    stores = λ t i s a b. absurd (omega arith);
  };
  closed = λ a b h o s at acc.
      record { slot = s; stands = at; access = acc; late = either (is_storing s.action) b.index };
  start = λ x r f o. refl;
  stored = λ x r f o shut.
      let s = f.stores.slot in
      absurd (shut (record {
        slot = s;
        stands = f.stores.stands;
        access = storing_access s.action (store_stores x s.action f.stores.stores);
        late = either (is_storing s.action) f.source.index;
      }));
  reads = tt;
}
  where
    either : (b : Bool) (p : ℕ) → cond b 0 0 ≤ p
    either true p = omega arith
    either false p = omega arith

abbrev Made : LitmusTest → ℕ → (Spot → ℕ → Bool) → Type 0
Made test n wanted = (run : List Event) × IsRunOf test n run × Each (IsWanted test wanted) run

abbrev pub Closed : (Spot → Spot → Bool) → Type 0
Closed edge = (cycle : List Spot) × (is_cycle_of edge cycle ≡ true)

-- where a run has been begun that keeps the order: a thread can go on, all is done, or the edges have a cycle
go_or_end : (test : LitmusTest) (n : ℕ) (edge : Spot → Spot → Bool) (wanted : Spot → ℕ → Bool) (marks : ℕ → Mark)
    (events : List Event) → KeepsOrder test n edge → Begun test n edge wanted marks events
    → Chance test n edge marks ⊎ (Closed edge ⊎ AllEnded test n marks)
go_or_end test n edge wanted marks events order b = by (first_open test n edge marks)
  where
    end : Chance test n edge marks ⊎ ((t : ℕ) → t < length test.bodies → IsEnded test n marks t)
        → Chance test n edge marks ⊎ (Closed edge ⊎ AllEnded test n marks)
    end (inl c) = inl c
    end (inr e) = inr (inr (λ t l. e t l))

    by : NoneOpen test n marks ⊎ (Loop edge ⊎ First test n edge marks)
        → Chance test n edge marks ⊎ (Closed edge ⊎ AllEnded test n marks)
    by (inl none) = end (rest_to test n edge wanted marks events b none (length test.bodies) (omega arith))
    by (inr (inl l)) = inr (inl (loop_cycle edge l))
    by (inr (inr f)) = inl (chosen test n edge wanted marks events order b f.first f.still f.free)

go_on : (test : LitmusTest) (n : ℕ) (edge : Spot → Spot → Bool) (wanted : Spot → ℕ → Bool) (fuel : ℕ)
    (marks : ℕ → Mark) (events : List Event) → KeepsOrder test n edge → AllDraw test n edge wanted
    → Begun test n edge wanted marks events → total test n marks (length test.bodies) < fuel
    → Closed edge ⊎ Made test n wanted
go_on test n edge wanted zero marks events order draws b h = absurd (omega arith)
go_on test n edge wanted (suc fuel) marks events order draws b h =
    by (λ marks events b h. go_on test n edge wanted fuel marks events order draws b h)
    (go_or_end test n edge wanted marks events order b)
  where
    by : ((marks : ℕ → Mark) (events : List Event) → Begun test n edge wanted marks events
        → total test n marks (length test.bodies) < fuel → Closed edge ⊎ Made test n wanted)
        → Chance test n edge marks ⊎ (Closed edge ⊎ AllEnded test n marks) → Closed edge ⊎ Made test n wanted
    by rec (inl c) =
        let f = chance_further test n edge wanted marks events draws b c in
        let l : total test n f.then (length test.bodies) < total test n marks (length test.bodies) = f.less in
        rec f.then f.events f.begun (omega arith)
    by rec (inr (inl l)) = inl l
    by rec (inr (inr e)) = inr (events, all_ended test n marks events b.gone e, b.reads)

pub made : (test : LitmusTest) (n : ℕ) (edge : Spot → Spot → Bool) (wanted : Spot → ℕ → Bool)
    → KeepsOrder test n edge → AllDraw test n edge wanted → Closed edge ⊎ Made test n wanted
made test n edge wanted order draws =
    go_on test n edge wanted (total test n fresh (length test.bodies) + 1) fresh [] order draws
    (begun_begins test n edge wanted) (omega arith)

-- where no thread can go on, in whatever order it was done, all is done or the edges have a cycle
pub stuck_ends : (test : LitmusTest) (n : ℕ) (edge : Spot → Spot → Bool) (wanted : Spot → ℕ → Bool) (marks : ℕ → Mark)
    (events : List Event) → KeepsOrder test n edge → Begun test n edge wanted marks events
    → (Chance test n edge marks → ⊥) → Closed edge ⊎ AllEnded test n marks
stuck_ends test n edge wanted marks events order b stuck =
    put (go_or_end test n edge wanted marks events order b)
  where
    put : Chance test n edge marks ⊎ (Closed edge ⊎ AllEnded test n marks) → Closed edge ⊎ AllEnded test n marks
    put (inl c) = absurd (stuck c)
    put (inr e) = e

pub run_along_lem : RunAlong
run_along_lem test n edge wanted order draws = put (made test n edge wanted order draws)
  where
    put : Closed edge ⊎ Made test n wanted
        → ((cycle : List Spot) × (is_cycle_of edge cycle ≡ true))
        ⊎ ((run : List Event) × IsRunOf test n run × All (IsWanted test wanted) run)
    put (inl l) = inl l
    put (inr m) = inr (m.0, m.1, All-from_recursion (IsWanted test wanted) m.0 m.2)
