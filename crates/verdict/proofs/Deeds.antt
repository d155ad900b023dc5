-- The events of one thread in a run: deeds in program order, and stores that reach memory in program order.
use Rattle.std.proofs.Common.{◌≡◌, ℕ, zero, suc, ◌+◌, ◌<◌, ◌≤◌, ◌==◌, Bool, true, false, not, ◌&&◌, ◌||◌, Option, Some, List, [], ◌∷◌, ◌++◌, map, filter, length, slice_get, nat_lt, nat_le, refl, sym, ap, ◌∙◌, arith, subst, inl, inr, ◌⊎◌, append-nil, append_assoc, drop, eq-eqb}
use Rattle.std.proofs.lemmas.Bool.{and_from, and_parts, eqb-true, le-ltb, lt-leb, lt-ltb, le-leb, ne_eqb, not-true, not_from_false, or_left, or_right, true≢false}
use Rattle.std.proofs.lemmas.List.{map-append}
use Rattle.std.proofs.lemmas.List.Elements.{filter-append}
use Rattle.std.specs.List.{AllZip, AllByRecursion as Each, list_any}
use Rattle.x86_subset.specs.Test.{LitmusTest, body_of}
use Rattle.x86_subset.specs.declared.instr.Instr.{Instr}
use Rattle.x86_subset.specs.declared.instr.Instr.TheVariants.{Store, Load, Fence, Exchange}
use Rattle.tso_machine.specs.Event.{Event, Kind, Push, Drain, Read, Fenced, Exchanged, is_drain, is_drain_kind, site_of}
use Rattle.tso_machine.specs.Machine.{State, Write, write_of, initial, after_all, NeedsAs, Steps}
use Rattle.tso_machine.specs.Part.{Slot, slots_of_body, slots_of_loop, Fills, Gives, Performs, part_of}
use Rattle.tso_machine.specs.Run.{IsRunOf}
use Rattle.seq_conv.specs.Sequence.{action_at}
use Rattle.tso_machine.specs.Source.{is_memory_kind, is_push}
use Rattle.verdict.specs.Edges.{is_barrier}
use Rattle.perp_base.proofs.Lists.{Among, Apart, among_append_left, any_filter, any_map, apart_append, apart_filter, apart_zip, each_weaker, map_split, zip_split}
use Rattle.tso_machine.proofs.Parts.{IsLoopSlot, deed_does, deeds, fed_is, loop_slots, queue_whole, slot_in_loop}
use Rattle.tso_machine.proofs.Runs.{comes_out, goes_in, goes_in_kind, queue_after, steps_left, steps_right}
use Rattle.verdict.proofs.Finds.{any_found, any_among, any_front, apart_after, kept}
use Rattle.verdict.proofs.EventKinds.{gives_kind, in_pushes, is_store, is_storing, memory_out, out_writes, push_no_drain}

-- Program order: by iteration, and then by place.

-- whether the second pair of iteration and place is not after the first
abbrev pub goes_back : ℕ → ℕ → ℕ → ℕ → Bool
goes_back i p j q = nat_lt j i || ((j == i) && nat_le q p)

abbrev pub IsEarlier : ℕ → ℕ → ℕ → ℕ → Type 0
IsEarlier i p j q = (i < j) ⊎ ((i ≡ j) × (p < q))

rises : (i p j q : ℕ) → IsEarlier i p j q → goes_back i p j q ≡ false
rises i p j q (inl h) = rw (le-ltb j i (omega arith), ne_eqb j i (λ e. omega arith)) refl
rises i p j q (inr h) =
    let a = h.0 in let b = h.1 in rw (le-ltb j i (omega arith), lt-leb q p b, eq-eqb j i (sym a)) refl

goes : (i p j q : ℕ) → IsEarlier i p j q → goes_back j q i p ≡ true
goes i p j q (inl h) = or_left (nat_lt i j) ((i == j) && nat_le p q) (lt-ltb i j h)
goes i p j q (inr h) =
    let a = h.0 in
    let b = h.1 in
    or_right (nat_lt i j) ((i == j) && nat_le p q) (and_from (i == j) (nat_le p q) (eq-eqb i j a)
    (le-leb p q (omega arith)))

-- whether an event has this place and iteration
abbrev pub is_at : ℕ → ℕ → Event → Bool
is_at p i e = (e.place == p) && (e.iteration == i)

abbrev is_write_at : ℕ → ℕ → Write → Bool
is_write_at p i w = (w.place == p) && (w.iteration == i)

at_step : (i p j q k r : ℕ) (b : Bool) → ((r == p) && (k == i)) ≡ b → IsEarlier i p j q → goes_back j q k r ≡ false
    → b ≡ false
at_step i p j q k r false e h g = refl
at_step i p j q k r true e h g =
    let s = and_parts (r == p) (k == i) e in
    let a : r ≡ p = eqb-true r p s.0 in
    let c : k ≡ i = eqb-true k i s.1 in
    absurd (true≢false (sym (goes i p j q h) ∙ (rw (a, c) at g)))

not_at : (i p j q : ℕ) (y : Event) → IsEarlier i p j q → goes_back j q y.iteration y.place ≡ false → is_at p i y ≡ false
not_at i p j q y h g = at_step i p j q y.iteration y.place (is_at p i y) refl h g

not_here : (i p : ℕ) (y : Event) → IsEarlier i p y.iteration y.place → is_at p i y ≡ false
not_here i p y h = go (is_at p i y) refl h
  where
    go : (b : Bool) → is_at p i y ≡ b → IsEarlier i p y.iteration y.place → b ≡ false
    go false e k = refl
    go true e (inl k) =
        let s = and_parts (y.place == p) (y.iteration == i) e in
        absurd (let c : y.iteration ≡ i = eqb-true y.iteration i s.1 in omega arith)
    go true e (inr k) =
        let s = and_parts (y.place == p) (y.iteration == i) e in
        absurd (let c : y.place ≡ p = eqb-true y.place p s.0 in let l : p < y.place = k.1 in omega arith)

abbrev pub back : Event → Event → Bool
back a b = goes_back a.iteration a.place b.iteration b.place

abbrev back_slot : Slot → Slot → Bool
back_slot a b = goes_back a.iteration a.place b.iteration b.place

-- in a list in program order the earlier stands in front
order_in : (i p : ℕ) (es fs : List Event) (y : Event) (cs : List Event) → es ≡ fs ++ y ∷ cs → Apart back es
    → IsEarlier i p y.iteration y.place → list_any (is_at p i) es ≡ true → list_any (is_at p i) fs ≡ true
order_in i p es fs y cs e a h k =
    let b : Apart back (fs ++ y ∷ cs) = subst (Apart back) e a in
    any_front (is_at p i) fs y cs (not_here i p y h)
    (each_weaker (λ c. back y c ≡ false) (λ c. is_at p i c ≡ false) (λ c g. not_at i p y.iteration y.place c h g) cs
    (apart_after back fs y cs b))
    (rw e at k)

places_from : (n p : ℕ) (body : List Instr) → Each (λ s. (s.iteration ≡ n) × (p ≤ s.place)) (slots_of_body n p body)
places_from n p [] = tt
places_from n p (a ∷ body) = (
  (refl, (let l : p ≤ p = omega arith in l)),
  each_weaker (λ s. (s.iteration ≡ n) × (p + 1 ≤ s.place)) (λ s. (s.iteration ≡ n) × (p ≤ s.place))
      (λ s k. (k.0, (let l : p + 1 ≤ s.place = k.1 in let m : p ≤ s.place = omega arith in m)))
      (slots_of_body n (p + 1) body) (places_from n (p + 1) body),
)

body_rises : (n p : ℕ) (body : List Instr) → Apart back_slot (slots_of_body n p body)
body_rises n p [] = tt
body_rises n p (a ∷ body) = (
  each_weaker (λ s. (s.iteration ≡ n) × (p + 1 ≤ s.place)) (λ s. back_slot
      (record { iteration = n; place = p; action = a }) s ≡ false)
      (λ s k. rises n p s.iteration s.place (inr (
        sym k.0,
        (let l : p + 1 ≤ s.place = k.1 in let m : p < s.place = omega arith in m),
      ))) (slots_of_body n (p + 1) body)
      (places_from n (p + 1) body),
  body_rises n (p + 1) body,
)

loop_rises : (body : List Instr) (n : ℕ) → Apart back_slot (slots_of_loop body n)
loop_rises body zero = tt
loop_rises body (suc n) =
    apart_append back_slot (slots_of_loop body n) (slots_of_body n 0 body) (loop_rises body n) (body_rises n 0 body)
    (each_weaker (IsLoopSlot body n) (λ s. Each (λ r. back_slot s r ≡ false) (slots_of_body n 0 body))
    (λ s k. each_weaker (λ r. (r.iteration ≡ n) × (0 ≤ r.place)) (λ r. back_slot s r ≡ false)
    (λ r l. rises s.iteration s.place r.iteration r.place (inl (let a : s.iteration < n = k.0 in
    let b : r.iteration ≡ n = l.0 in let c : s.iteration < r.iteration = omega arith in c)))
    (slots_of_body n 0 body) (places_from n 0 body))
    (slots_of_loop body n) (loop_slots body n))

deed_rises : (t : ℕ) (a b : Slot) (c d : Event) → Fills t a c → Fills t b d → back_slot a b ≡ false → back c d ≡ false
deed_rises t a b c d f g h = rw (f.place, g.place, f.iteration, g.iteration) h

-- the deeds of a thread stand in program order
deeds_rise : (test : LitmusTest) (n t : ℕ) (run : List Event) → Performs test n t (part_of t run)
    → Apart back (deeds t run)
deeds_rise test n t run h =
    apart_zip (Fills t) back_slot back (deed_rises t) (slots_of_loop (body_of test t) n) (deeds t run) h
    (loop_rises (body_of test t) n)

pub at_here : (p i : ℕ) (e : Event) → e.place ≡ p → e.iteration ≡ i → is_at p i e ≡ true
at_here p i e a b = and_from (e.place == p) (e.iteration == i) (eq-eqb e.place p a) (eq-eqb e.iteration i b)

-- Events of a thread at a place and iteration.

-- one of which this holds
pub record HasEvent (P : Event → Type 0) (t p i : ℕ) (es : List Event) : Type 0 where
  pub event : Event
  pub among : Among event es
  pub thread : event.thread ≡ t
  pub place : event.place ≡ p
  pub iteration : event.iteration ≡ i
  pub is : P event

-- one that is no Drain
abbrev pub HasDeed : ℕ → ℕ → ℕ → List Event → Type 0
HasDeed t p i es = HasEvent (λ e. is_drain e ≡ false) t p i es

-- a Drain or an Exchange
abbrev pub HasWrite : ℕ → ℕ → ℕ → List Event → Type 0
HasWrite t p i es = HasEvent (λ e. is_memory_kind e.kind ≡ true) t p i es

-- a run, cut at an event of its front part
pub run_cut : (test : LitmusTest) (n : ℕ) (before rest : List Event) (d : Event) (a : Among d before)
    → IsRunOf test n (before ++ rest) → IsRunOf test n (a.front ++ d ∷ (a.rest ++ rest))
run_cut test n before rest d a r =
    subst (IsRunOf test n) (ap (λ l. l ++ rest) a.whole ∙ append_assoc a.front (d ∷ a.rest) rest) r

-- what stands in front of one of the events
pub has_in : {P : Event → Type 0} {t p i : ℕ} (y : Event) (es : List Event) (a : Among y es)
    → HasEvent P t p i a.front → HasEvent P t p i es
has_in y es a h = record {
  event = h.event;
  among = subst (Among h.event) (sym a.whole) (among_append_left h.event a.front (y ∷ a.rest) h.among);
  thread = h.thread;
  place = h.place;
  iteration = h.iteration;
  is = h.is;
}

pub has_also : {P Q : Event → Type 0} {t p i : ℕ} {es : List Event} → (h : HasEvent P t p i es) → Q h.event
    → HasEvent Q t p i es
has_also h q = record {
  event = h.event;
  among = h.among;
  thread = h.thread;
  place = h.place;
  iteration = h.iteration;
  is = q;
}

-- one that a filter keeps
found_at : (P : Event → Type 0) (q : Event → Bool) → ((e : Event) → q e ≡ true → P e) → (t p i : ℕ) (es : List Event)
    → list_any (is_at p i) (filter q (part_of t es)) ≡ true → HasEvent P t p i es
found_at P q f t p i es h =
    let x = any_found (is_at p i) (filter q (part_of t es)) h in
    let k = kept q x.here (part_of t es) x.among in
    let l = kept (λ (d : Event). d.thread == t) x.here es k.among in
    let a = and_parts (x.here.place == p) (x.here.iteration == i) x.passes in
    record {
      event = x.here;
      among = l.among;
      thread = eqb-true x.here.thread t l.passes;
      place = eqb-true x.here.place p a.0;
      iteration = eqb-true x.here.iteration i a.1;
      is = f x.here k.passes;
    }

-- the deed of an action in an iteration
pub deed_at : (test : LitmusTest) (n : ℕ) (run : List Event) (t p i : ℕ) (action : Instr)
    → Performs test n t (part_of t run) → i < n → action_at test (record { thread = t; place = p }) ≡ Some action
    → HasEvent (λ e. Gives action e.kind) t p i (deeds t run)
deed_at test n run t p i action performs early stands =
    let slot = slot_in_loop (body_of test t) n i p action early stands in
    let here : Slot = record { iteration = i; place = p; action = action } in
    let z = zip_split (Fills t) slot.front here slot.rest (deeds t run)
    (subst (λ l. AllZip (Fills t) l (deeds t run)) slot.whole performs) in
    record {
      event = z.here;
      among = record { front = z.before; rest = z.after; whole = z.whole };
      thread = z.in_step.thread;
      place = z.in_step.place;
      iteration = z.in_step.iteration;
      is = z.in_step.kind;
    }

-- the part of a thread, cut at one of its events
part_cut : (t : ℕ) (q : Event → Bool) (before : List Event) (e : Event) (after : List Event) → e.thread ≡ t → q e ≡ true
    → filter q (part_of t (before ++ e ∷ after)) ≡ filter q (part_of t before) ++ e ∷ filter q (part_of t after)
part_cut t q before e after h k =
    ap (filter q) (filter-append (λ (d : Event). d.thread == t) before (e ∷ after) ∙ (rw (eq-eqb e.thread t h) refl))
    ∙ filter-append q (part_of t before) (e ∷ part_of t after)
    ∙ (rw k refl)

pub found_deed : (t p i : ℕ) (es : List Event) → list_any (is_at p i) (deeds t es) ≡ true → HasDeed t p i es
found_deed = found_at (λ e. is_drain e ≡ false) (λ e. not (is_drain e)) (λ e h. not-true (is_drain e) h)

-- a deed stands after each earlier one of its thread
pub deed_order : (test : LitmusTest) (n : ℕ) (before : List Event) (e : Event) (after : List Event) (t p i : ℕ)
    (action : Instr) → IsRunOf test n (before ++ e ∷ after) → t < length test.bodies → e.thread ≡ t → is_drain e ≡ false
    → IsEarlier i p e.iteration e.place → action_at test (record { thread = t; place = p }) ≡ Some action → i < n
    → HasDeed t p i before
deed_order test n before e after t p i action r below h d early stands il =
    let run = before ++ e ∷ after in
    let performs = r.performs t below in
    let a = deed_at test n run t p i action performs il stands in
    found_deed t p i before
    (order_in i p (deeds t run) (deeds t before) e (deeds t after)
    (part_cut t (λ c. not (is_drain c)) before e after h (not_from_false (is_drain e) d))
    (deeds_rise test n t run performs) early
    (any_among (is_at p i) a.event (deeds t run) a.among (at_here p i a.event a.place a.iteration)))

-- Writes.

-- what a list of events has as its writes
pub write_found : (test : LitmusTest) (p i : ℕ) (es fs : List Event) → map (write_of test) es ≡ map (write_of test) fs
    → list_any (is_at p i) es ≡ true → list_any (is_at p i) fs ≡ true
write_found test p i es fs e h =
    sym (any_map (is_write_at p i) (write_of test) fs) ∙ ap (list_any (is_write_at p i)) (sym e)
    ∙ any_map (is_write_at p i) (write_of test) es ∙ h

pub found_write : (t p i : ℕ) (b : Bool) (es : List Event)
    → list_any (is_at p i) (filter (comes_out b) (part_of t es)) ≡ true → HasWrite t p i es
found_write t p i b = found_at (λ e. is_memory_kind e.kind ≡ true) (comes_out b) (λ e h. out_writes b e.kind h) t p i

-- a list that gives one write and more
record ConsSplit (test : LitmusTest) (es : List Event) (w : Write) : Type 0 where
  here : Event
  rest : List Event
  whole : es ≡ here ∷ rest
  same : write_of test here ≡ w

cons_split : (test : LitmusTest) (es : List Event) (w : Write) (ws : List Write) → map (write_of test) es ≡ w ∷ ws
    → ConsSplit test es w
cons_split test [] w ws e = cc
cons_split test (d ∷ es) w ws e = record {
  here = d;
  rest = es;
  whole = refl;
  same = (let k : write_of test d ≡ w = cc in k);
}

fed_rises : (test : LitmusTest) (n : ℕ) (b : Bool) (t : ℕ) (run : List Event) → Performs test n t (part_of t run)
    → Apart back (filter (goes_in b) (part_of t run))
fed_rises test n b t run h =
    subst (Apart back) (fed_is b t run) (apart_filter back (goes_in b) (deeds t run) (deeds_rise test n t run h))

-- what goes in for a store of the body in an iteration
pub fed_at : (test : LitmusTest) (n : ℕ) (b : Bool) (t p i : ℕ) (action : Instr) (run : List Event)
    → Performs test n t (part_of t run) → i < n → action_at test (record { thread = t; place = p }) ≡ Some action
    → ((k : Kind) → Gives action k → goes_in_kind b k ≡ true)
    → list_any (is_at p i) (filter (goes_in b) (part_of t run)) ≡ true
fed_at test n b t p i action run h early stands f =
    let a = deed_at test n run t p i action h early stands in
    ap (list_any (is_at p i)) (sym (fed_is b t run)) ∙ sym (any_filter (goes_in b) (is_at p i) (deeds t run))
    ∙ any_among (λ e. goes_in b e && is_at p i e) a.event (deeds t run) a.among
    (and_from (goes_in b a.event) (is_at p i a.event) (f a.event.kind a.is)
    (at_here p i a.event a.place a.iteration))

-- a write to memory stands after that of each earlier store of its thread
pub write_order : (test : LitmusTest) (n : ℕ) (before : List Event) (e : Event) (after : List Event) (t p i : ℕ)
    (action : Instr) → IsRunOf test n (before ++ e ∷ after) → t < length test.bodies → e.thread ≡ t
    → is_memory_kind e.kind ≡ true
    → IsEarlier i p e.iteration e.place → action_at test (record { thread = t; place = p }) ≡ Some action
    → is_storing action ≡ true → i < n → HasWrite t p i before
write_order test n before e after t p i action r below h m early stands storing il =
    let run = before ++ e ∷ after in
    let performs = r.performs t below in
    let fed = filter (goes_in true) (part_of t run) in
    let drawn = filter (comes_out true) (part_of t before) in
    let behind = filter (comes_out true) (part_of t after) in
    let cut : filter (comes_out true) (part_of t run) ≡ drawn ++ e
    ∷ behind = part_cut t (comes_out true) before e after h (memory_out e.kind m) in
    let queue : map (write_of test) fed ≡ map (write_of test) drawn ++ write_of test e ∷ map (write_of test) behind =
    queue_whole test n run true t r ∙ ap (map (write_of test)) cut ∙ map-append (write_of test) drawn (e ∷ behind) in
    let s = map_split (write_of test) fed (map (write_of test) drawn)
    (write_of test e ∷ map (write_of test) behind) queue in
    let c = cons_split test s.second (write_of test e) (map (write_of test) behind) s.second_gives in
    let whole : fed ≡ s.first ++ c.here ∷ c.rest = s.whole ∙ ap (λ l. s.first ++ l) c.whole in
    let pl : e.place ≡ c.here.place = sym (ap (λ (w : Write). w.place) c.same) in
    let it : e.iteration ≡ c.here.iteration = sym (ap (λ (w : Write). w.iteration) c.same) in
    let early_here : IsEarlier i p c.here.iteration c.here.place = rw (← it, ← pl) early in
    found_write t p i true before
    (write_found test p i s.first drawn s.first_gives
    (order_in i p fed s.first c.here c.rest whole (fed_rises test n true t run performs) early_here
    (fed_at test n true t p i action run performs il stands (λ k g. (gives_kind action k g).goes_in.1 ∙ storing))))

-- the Push of a Drain stands before it
abbrev pub HasPush : ℕ → ℕ → ℕ → List Event → Type 0
HasPush t p i es = HasEvent (λ e. is_push e ≡ true) t p i es

oldest_first : (ws : List Write) (w : Write) → slice_get ws 0 ≡ Some w → ws ≡ w ∷ drop 1 ws
oldest_first [] w e = cc
oldest_first (v ∷ ws) w e = let k : v ≡ w = cc in ap (λ u. u ∷ ws) k

drained_needs : (test : LitmusTest) (s : State) (e : Event) (k : Kind) → is_drain_kind k ≡ true → NeedsAs k test s e
    → slice_get (s.buffer e.thread) 0 ≡ Some (write_of test e)
drained_needs test s e Drain h n = n
drained_needs test s e _ h n = cc

pub drained_push : (test : LitmusTest) (before : List Event) (e : Event) (after : List Event)
    → Steps test initial (before ++ e ∷ after) → is_drain e ≡ true → HasPush e.thread e.place e.iteration before
drained_push test before e after steps d =
    let t = e.thread in
    let buffer = (after_all test initial before).buffer t in
    let fed = filter (goes_in false) (part_of t before) in
    let drawn = filter (comes_out false) (part_of t before) in
    let needs = drained_needs test (after_all test initial before) e e.kind d
    ((steps_right test initial before (e ∷ after) steps).0) in
    let queue : map (write_of test) fed ≡ map (write_of test) drawn ++ write_of test e ∷ drop 1 buffer =
    queue_after test false t initial before (steps_left test initial before (e ∷ after) steps)
    ∙ ap (λ l. map (write_of test) drawn ++ l) (oldest_first buffer (write_of test e) needs) in
    let s = map_split (write_of test) fed (map (write_of test) drawn) (write_of test e ∷ drop 1 buffer) queue in
    let c = cons_split test s.second (write_of test e) (drop 1 buffer) s.second_gives in
    let a : Among c.here fed = record {
      front = s.first;
      rest = c.rest;
      whole = s.whole ∙ ap (λ l. s.first ++ l) c.whole;
    } in
    let k = kept (goes_in false) c.here (part_of t before) a in
    let l = kept (λ (d : Event). d.thread == t) c.here before k.among in
    record {
      event = c.here;
      among = l.among;
      thread = eqb-true c.here.thread t l.passes;
      place = ap (λ (w : Write). w.place) c.same;
      iteration = ap (λ (w : Write). w.iteration) c.same;
      is = in_pushes c.here.kind k.passes;
    }

-- a Drain stands after each deed before its Push
pub deed_before_drain : (test : LitmusTest) (n : ℕ) (before : List Event) (e : Event) (after : List Event) (t p i : ℕ)
    (action : Instr) → IsRunOf test n (before ++ e ∷ after) → t < length test.bodies → e.thread ≡ t → is_drain e ≡ true
    → IsEarlier i p e.iteration e.place → action_at test (record { thread = t; place = p }) ≡ Some action → i < n
    → HasDeed t p i before
deed_before_drain test n before e after t p i action r below h d early stands il =
    let q = drained_push test before e after r.legal.steps d in
    let y = q.event in
    let a = q.among in
    let pl : e.place ≡ y.place = sym q.place in
    let it : e.iteration ≡ y.iteration = sym q.iteration in
    let early_here : IsEarlier i p y.iteration y.place = rw (← it, ← pl) early in
    let x = deed_order test n a.front y (a.rest ++ e ∷ after) t p i action (run_cut test n before (e ∷ after) y a r) below
    (q.thread ∙ h) (push_no_drain y.kind q.is) early_here stands il in
    has_in y before a x

-- A fence or an exchange stands after the Drains of all earlier stores.

barrier_needs : (test : LitmusTest) (s : State) (e : Event) (action : Instr) (k : Kind) → Gives action k
    → is_barrier action ≡ true → NeedsAs k test s e → s.buffer e.thread ≡ []
barrier_needs test s e (Store loc written) Push g b n = cc
barrier_needs test s e (Load reg loc) (Read v) g b n = cc
barrier_needs test s e Fence Fenced g b n = n
barrier_needs test s e (Exchange loc written reg) (Exchanged v) g b n = n.0
barrier_needs test s e _ _ g b n = absurd g

same_action : (a b : Instr) (k : Kind) (o : Option Instr) → o ≡ Some a → o ≡ Some b → Gives a k → Gives b k
same_action a b k o e f g = let s : a ≡ b = cc in let P : Instr → Type 0 = λ z. Gives z k in subst P s g

at_site : (e : Event) (t p : ℕ) → e.thread ≡ t → e.place ≡ p → site_of e ≡ record { thread = t; place = p }
at_site e t p h k = rw (h, k) refl

-- a deed does the action of its site
pub deed_gives : (test : LitmusTest) (n : ℕ) (run : List Event) (e : Event) (t p : ℕ) (action : Instr)
    → IsRunOf test n run → Among e run → is_drain e ≡ false → e.thread ≡ t → e.place ≡ p
    → action_at test (record { thread = t; place = p }) ≡ Some action → Gives action e.kind
deed_gives test n run e t p action r a d h k stands =
    let does = deed_does test n run e r a d in
    same_action does.action action e.kind (action_at test (record { thread = t; place = p }))
    (ap (action_at test) (sym (at_site e t p h k)) ∙ does.stands) stands does.gives

pub store_before_barrier : (test : LitmusTest) (n : ℕ) (before : List Event) (c : Event) (after : List Event)
    (t p i : ℕ) (barrier action : Instr) → IsRunOf test n (before ++ c ∷ after) → t < length test.bodies → c.thread ≡ t
    → Gives barrier c.kind → is_barrier barrier ≡ true → IsEarlier i p c.iteration c.place
    → action_at test (record { thread = t; place = p }) ≡ Some action → is_store action ≡ true → i < n
    → HasWrite t p i before
store_before_barrier test n before c after t p i barrier action r below h g b early stands stores il =
    let run = before ++ c ∷ after in
    let d = deed_order test n before c after t p i action r below h
    (gives_kind barrier c.kind g).no_drain early stands il in
    let gives : Gives action d.event.kind = deed_gives test n run d.event t p action r
    (among_append_left d.event before (c ∷ after) d.among) d.is d.thread d.place stands in
    let empty : (after_all test initial before).buffer t ≡ [] =
    rw h at (barrier_needs test (after_all test initial before) c barrier c.kind g b
    ((steps_right test initial before (c ∷ after) r.legal.steps).0)) in
    let fed = filter (goes_in false) (part_of t before) in
    let drawn = filter (comes_out false) (part_of t before) in
    let queue : map (write_of test) fed ≡ map (write_of test) drawn =
    queue_after test false t initial before (steps_left test initial before (c ∷ after) r.legal.steps)
    ∙ ap (λ l. map (write_of test) drawn ++ l) empty ∙ append-nil (map (write_of test) drawn) in
    let held : list_any (is_at p i) fed ≡ true =
    sym (any_filter (goes_in false) (is_at p i) (part_of t before))
    ∙ sym (any_filter (λ (e : Event). e.thread == t) (λ e. goes_in false e && is_at p i e) before)
    ∙ any_among (λ (e : Event). (e.thread == t) && (goes_in false e && is_at p i e)) d.event before d.among
    (and_from (d.event.thread == t) (goes_in false d.event && is_at p i d.event) (eq-eqb d.event.thread t d.thread)
    (and_from (goes_in false d.event) (is_at p i d.event) ((gives_kind action d.event.kind gives).goes_in.0 ∙ stores)
    (at_here p i d.event d.place d.iteration))) in
    found_write t p i false before (write_found test p i fed drawn queue held)
