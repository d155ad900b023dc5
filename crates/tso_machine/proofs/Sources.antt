-- The value of a read is that of its source.
use Rattle.std.proofs.Common.{◌≡◌, ℕ, ◌+◌, ◌*◌, ◌<◌, ◌==◌, Bool, true, false, cond, not, ◌&&◌, Option, None, Some, List, [], ◌∷◌, ◌++◌, map, filter, refl, sym, ap, ◌∙◌, arith, subst, unwrap_or, eq-eqb, option_map, position}
use Rattle.std.proofs.lemmas.Bool.{and_right, and_from, and_parts, eqb-true}
use Rattle.std.proofs.lemmas.List.Elements.{filter-append}
use Rattle.std.specs.List.{AllByRecursion as Each, list_any}
use Rattle.std.specs.Option.{option_or, option_map_or}
use Rattle.x86_subset.specs.Test.{LitmusTest}
use Rattle.tso_machine.specs.Event.{Event, Kind, Push, Drain, Read, Fenced, Exchanged, event_location, is_drain, is_drain_kind, site_of, written_value}
use Rattle.tso_machine.specs.Machine.{Write, write_of, initial, after_all, newest, readable, NeedsAs, Steps}
use Rattle.tso_machine.specs.Laws.{NamesSource, ValuesNameTheirSource}
use Rattle.tso_machine.specs.Log.{value_read, value_read_as}
use Rattle.seq_conv.specs.Sequence.{same_site, store_count, stores_of, value_of}
use Rattle.tso_machine.specs.Part.{Performs, part_of}
use Rattle.tso_machine.specs.Run.{IsRunOf}
use Rattle.perp_base.specs.Last.{last_that}
use Rattle.tso_machine.specs.Source.{is_push, is_push_kind, is_pending, is_memory_kind, is_memory_write, source_as, source_of, origin_of, same_store}
use Rattle.perp_base.proofs.Lists.{any_inner, each_along, each_any, each_flip, last-append, or_none, contains_from_among, Among, Apart, map_split, apart_across, apart_left, apart_filter, among_append_left, each_among, each_from_among, each_both, each_left, each_right, each_weaker, last_found, last_inner, last_none, last_same, any_none}
use Rattle.tso_machine.proofs.Parts.{memory_writes, deeds, deeds_apart, fed_is, is_write, of_part, thread_below, write_among, write_stores, writes_kind}
use Rattle.tso_machine.proofs.Runs.{comes_out, comes_out_kind, goes_in, goes_in_kind, queue_after, memory_after, steps_left, steps_right}

-- Lists.

-- Buffers.

newest_step : (x : ℕ) (w : Write) (f : Event → ℕ) (e : Event) (o : Option Event) (b : Bool) → w.value ≡ f e
    → option_or (option_map f o) (cond b (Some w.value) None) ≡ option_map f (option_or o (cond b (Some e) None))
newest_step x w f e (Some d) b h = refl
newest_step x w f e None true h = ap (λ v. Some v) h
newest_step x w f e None false h = refl

-- the newest write in a buffer is that of the last event
newest_is : (test : LitmusTest) (x : ℕ) (es : List Event)
    → newest x (map (write_of test) es) ≡ option_map (written_value test)
    (last_that (λ e. event_location test e == x) es)
newest_is test x [] = refl
newest_is test x (e ∷ es) =
    rw (newest_is test x es) (newest_step x (write_of test e) (written_value test) e
    (last_that (λ d. event_location test d == x) es) (event_location test e == x) refl)

-- Which Pushes are pending.

abbrev drained_by : Event → Event → Bool
drained_by e d = is_drain d && same_store d e

abbrev pub IsOf : ℕ → Event → Type 0
IsOf t e = (e.thread ≡ t) × (is_push e ≡ true)

push_is : (k : Kind) → goes_in_kind false k ≡ is_push_kind k
push_is Push = refl
push_is Drain = refl
push_is (Read v) = refl
push_is Fenced = refl
push_is (Exchanged v) = refl

drain_is : (k : Kind) → comes_out_kind false k ≡ is_drain_kind k
drain_is Push = refl
drain_is Drain = refl
drain_is (Read v) = refl
drain_is Fenced = refl
drain_is (Exchanged v) = refl

-- the Pushes of thread t are those that were drained and, after them, those that stand in the buffer
record PendingSplit (test : LitmusTest) (t : ℕ) (before : List Event) (buffer : List Write) : Type 0 where
  gone : List Event
  left : List Event
  whole : filter (goes_in false) (part_of t before) ≡ gone ++ left
  drained : map (write_of test) gone ≡ map (write_of test) (filter (comes_out false) (part_of t before))
  held : map (write_of test) left ≡ buffer
  gone_of : Each (IsOf t) gone
  left_of : Each (IsOf t) left
  apart : Each (λ e. Each (λ d. same_store e d ≡ false) left) gone

-- no two Pushes of the part of a front of the run are of one store and iteration
pushes_apart : (test : LitmusTest) (n t : ℕ) (before rest : List Event) → Performs test n t (part_of t (before ++ rest))
    → Apart same_store (filter (goes_in false) (part_of t before))
pushes_apart test n t before rest h =
    let a : Apart same_store (filter (goes_in false) (part_of t (before ++ rest))) =
    subst (Apart same_store) (fed_is false t (before ++ rest)) (apart_filter same_store (goes_in false)
    (deeds t (before ++ rest)) (deeds_apart test n t (before ++ rest) h)) in
    let e : filter (goes_in false) (part_of t (before ++ rest)) ≡ filter (goes_in false) (part_of t before)
    ++ filter (goes_in false) (part_of t rest) =
    ap (filter (goes_in false)) (filter-append (λ (e : Event). e.thread == t) before rest)
    ∙ filter-append (goes_in false) (part_of t before) (part_of t rest) in
    apart_left same_store (filter (goes_in false) (part_of t before)) (filter (goes_in false) (part_of t rest))
    (subst (Apart same_store) e a)

pending_split : (test : LitmusTest) (n t : ℕ) (before rest : List Event)
    → Performs test n t (part_of t (before ++ rest)) → Steps test initial before
    → PendingSplit test t before ((after_all test initial before).buffer t)
pending_split test n t before rest h steps =
    let pushes = filter (goes_in false) (part_of t before) in
    let s = map_split (write_of test) pushes (map (write_of test) (filter (comes_out false) (part_of t before)))
    ((after_all test initial before).buffer t) (queue_after test false t initial before steps) in
    let each : Each (IsOf t) (s.first ++ s.second) =
    subst (Each (IsOf t)) s.whole (each_weaker (λ (e : Event). (e.thread ≡ t) × (goes_in false e ≡ true)) (IsOf t)
    (λ e k. (k.0, sym (push_is e.kind) ∙ k.1)) pushes (of_part t (goes_in false) before)) in
    record {
      gone = s.first;
      left = s.second;
      whole = s.whole;
      drained = s.first_gives;
      held = s.second_gives;
      gone_of = each_left (IsOf t) s.first s.second each;
      left_of = each_right (IsOf t) s.first s.second each;
      apart =
          apart_across same_store s.first s.second (subst (Apart same_store) s.whole
          (pushes_apart test n t before rest h));
    }

-- a Drain of e stands before exactly if one stands among the Drains of its thread
drained_among : (t : ℕ) (before : List Event) (e : Event) → e.thread ≡ t
    → list_any (drained_by e) (filter (comes_out false) (part_of t before)) ≡ list_any (drained_by e) before
drained_among t before e h =
    any_inner (drained_by e) (comes_out false) (λ d k. drain_is d.kind ∙ (and_parts (is_drain d) (same_store d e) k).0)
    (part_of t before)
    ∙ any_inner (drained_by e) (λ d. d.thread == t) (λ d k.
    let same = (and_parts (is_drain d) (same_store d e) k).1 in
    let s = (and_parts ((d.thread == e.thread) && (d.place == e.place)) (d.iteration == e.iteration) same).0 in
    eq-eqb d.thread t (eqb-true d.thread e.thread ((and_parts (d.thread == e.thread) (d.place == e.place) s).0) ∙ h))
    before

same_from : (a b : Event) → a.thread ≡ b.thread → a.place ≡ b.place → a.iteration ≡ b.iteration → same_store a b ≡ true
same_from a b t p i =
    and_from ((a.thread == b.thread) && (a.place == b.place)) (a.iteration == b.iteration)
    (and_from (a.thread == b.thread) (a.place == b.place) (eq-eqb a.thread b.thread t) (eq-eqb a.place b.place p))
    (eq-eqb a.iteration b.iteration i)

is_drained : (test : LitmusTest) (t : ℕ) (before : List Event) (buffer : List Write)
    (s : PendingSplit test t before buffer) → Each (λ e. list_any (drained_by e) before ≡ true) s.gone
is_drained test t before buffer s =
    let drains = filter (comes_out false) (part_of t before) in
    each_weaker (λ e. (list_any (drained_by e) drains ≡ true) × IsOf t e) (λ e. list_any (drained_by e) before ≡ true)
    (λ e k. sym (drained_among t before e k.1.0) ∙ k.0) s.gone
    (each_both (λ e. list_any (drained_by e) drains ≡ true) (IsOf t) s.gone
    (each_any (write_of test) (IsOf t) (λ (d : Event). (d.thread ≡ t) × (comes_out false d ≡ true)) drained_by
    (λ e d k l m. and_from (is_drain d) (same_store d e) (sym (drain_is d.kind) ∙ m.1)
    (same_from d e (m.0 ∙ sym l.0) (sym (ap (λ (w : Write). w.place) k)) (sym (ap (λ (w : Write). w.iteration) k))))
    s.gone drains s.drained s.gone_of (of_part t (comes_out false) before))
    s.gone_of)

not_drained : (test : LitmusTest) (t : ℕ) (before : List Event) (buffer : List Write)
    (s : PendingSplit test t before buffer) → Each (λ e. list_any (drained_by e) before ≡ false) s.left
not_drained test t before buffer s =
    let drains = filter (comes_out false) (part_of t before) in
    each_weaker (λ e. Each (λ g. same_store g e ≡ false) s.gone × IsOf t e)
    (λ e. list_any (drained_by e) before ≡ false)
    (λ e k. sym (drained_among t before e k.1.0) ∙ any_none (drained_by e) drains
    (each_weaker (λ d. (d.thread ≡ t → drained_by e d ≡ false) × ((d.thread ≡ t) × (comes_out false d ≡ true)))
    (λ d. drained_by e d ≡ false) (λ d l. l.0 l.1.0) drains
    (each_both (λ d. d.thread ≡ t → drained_by e d ≡ false) (λ d. (d.thread ≡ t) × (comes_out false d ≡ true)) drains
    (each_along (write_of test) (λ g. (same_store g e ≡ false) × IsOf t g) (λ d. d.thread ≡ t → drained_by e d ≡ false)
    (λ g d l m o. and_right (is_drain d) (same_store d e)
    (let th : d.thread ≡ g.thread = o ∙ sym m.1.0 in
    let pl : d.place ≡ g.place = sym (ap (λ (w : Write). w.place) l) in
    let it : d.iteration ≡ g.iteration = sym (ap (λ (w : Write). w.iteration) l) in
    rw (th, pl, it) (m.0)))
    s.gone drains s.drained
    (each_both (λ g. same_store g e ≡ false) (IsOf t) s.gone k.0 s.gone_of))
    (of_part t (comes_out false) before))))
    s.left
    (each_both (λ e. Each (λ g. same_store g e ≡ false) s.gone) (IsOf t) s.left
    (each_flip (λ g e. same_store g e ≡ false) s.gone s.left s.apart) s.left_of)

pending_in : (test : LitmusTest) (t x : ℕ) (before : List Event)
    → last_that (is_pending test t x before) (filter (goes_in false) (part_of t before))
    ≡ last_that (is_pending test t x before) before
pending_in test t x before =
    last_inner (is_pending test t x before) (goes_in false) (λ e k. push_is e.kind ∙ (pending_parts e k).0)
    (part_of t before)
    ∙ last_inner (is_pending test t x before) (λ e. e.thread == t) (λ e k. (pending_parts e k).1) before
  where
    pending_parts : (e : Event) → is_pending test t x before e ≡ true → (is_push e ≡ true) × ((e.thread == t) ≡ true)
    pending_parts e k =
        let a = (and_parts ((is_push e && (e.thread == t)) && (event_location test e == x))
        (not (list_any (drained_by e) before)) k).0 in
        let b = (and_parts (is_push e && (e.thread == t)) (event_location test e == x) a).0 in
        and_parts (is_push e) (e.thread == t) b

-- the last pending Push to x is the last of those in the buffer
pending_is : (test : LitmusTest) (t x : ℕ) (before : List Event) (buffer : List Write)
    (s : PendingSplit test t before buffer)
    → last_that (is_pending test t x before) before ≡ last_that (λ e. event_location test e == x) s.left
pending_is test t x before buffer s =
    let p = is_pending test t x before in
    let none : last_that p s.gone ≡ None =
    last_none p s.gone (each_weaker (λ e. list_any (drained_by e) before ≡ true) (λ e. p e ≡ false)
    (λ e k. and_right ((is_push e && (e.thread == t)) && (event_location test e == x))
    (not (list_any (drained_by e) before)) (ap not k)) s.gone (is_drained test t before buffer s)) in
    let same : last_that p s.left ≡ last_that (λ e. event_location test e == x) s.left =
    last_same p (λ e. event_location test e == x) s.left
    (each_weaker (λ e. (list_any (drained_by e) before ≡ false) × IsOf t e) (λ e. p e ≡ (event_location test e == x))
    (λ e k. rw (k.0, k.1.1, eq-eqb e.thread t k.1.0) (and_true (event_location test e == x))) s.left
    (each_both (λ e. list_any (drained_by e) before ≡ false) (IsOf t) s.left
    (not_drained test t before buffer s) s.left_of)) in
    sym (pending_in test t x before) ∙ ap (last_that p) s.whole ∙ last-append p s.gone s.left
    ∙ ap (option_or (last_that p s.left)) none ∙ or_none (last_that p s.left) ∙ same
  where
    and_true : (b : Bool) → (b && true) ≡ b
    and_true true = refl
    and_true false = refl

-- Values.

-- the event writes to x and stands in the run
record IsFound (test : LitmusTest) (x : ℕ) (run : List Event) (d : Event) : Type 0 where
  among : Among d run
  writes : is_write d ≡ true
  at_location : event_location test d ≡ x

names_by : (test : LitmusTest) (n x v : ℕ) (run : List Event) (o : Option Event) → IsRunOf test n run
    → v ≡ option_map_or (written_value test) o 0 → ((d : Event) → o ≡ Some d → IsFound test x run d)
    → NamesSource test n x v (option_map origin_of o)
names_by test n x v run None r e f = record { initial = (λ h. refl, λ h. e); value = tt; store = tt }
names_by test n x v run (Some d) r e f =
    let d_found = f d refl in
    let value : v ≡ value_of test x (site_of d) d.iteration = e
    ∙ ap (λ y. value_of test y (site_of d) d.iteration) d_found.at_location in
    let early : d.iteration < n = (write_stores test n run d r d_found.among d_found.writes).early in
    record {
      initial = (
        λ h. absurd (positive v (value_of test x (site_of d) d.iteration) (store_count test x * d.iteration)
            (unwrap_or (position (same_site (site_of d)) (stores_of test x)) 0) value refl h),
        λ h. cc,
      );
      value = value;
      store = (
        contains_from_among (stores_of test x) (site_of d) (write_among test n run d x r d_found.among d_found.writes
            d_found.at_location),
        early,
      );
    }
  where
    positive : (v w a b : ℕ) → v ≡ w → w ≡ a + (b + 1) → v ≡ 0 → ⊥
    positive v w a b h k l = omega arith

push_writes : (k : Kind) → is_push_kind k ≡ true → writes_kind k ≡ true
push_writes Push h = refl
push_writes Drain h = cc
push_writes (Read v) h = cc
push_writes Fenced h = cc
push_writes (Exchanged v) h = cc

among_before : (before rest : List Event) → Each (λ d. Among d (before ++ rest)) before
among_before before rest =
    each_from_among (λ d. Among d (before ++ rest)) before (λ d a. among_append_left d before rest a)

memory_found : (test : LitmusTest) (x : ℕ) (before rest : List Event) (d : Event)
    → last_that (is_memory_write test x) before ≡ Some d → IsFound test x (before ++ rest) d
memory_found test x before rest d h =
    let f = last_found (λ d. Among d (before ++ rest)) (is_memory_write test x) before d (among_before before rest) h in
    let p = and_parts (is_memory_kind d.kind) (event_location test d == x) f.0 in
    record { among = f.1; writes = memory_writes d.kind p.0; at_location = eqb-true (event_location test d) x p.1 }

pending_found : (test : LitmusTest) (t x : ℕ) (before rest : List Event) (d : Event)
    → last_that (is_pending test t x before) before ≡ Some d → IsFound test x (before ++ rest) d
pending_found test t x before rest d h =
    let f = last_found (λ d. Among d (before ++ rest)) (is_pending test t x before) before d
    (among_before before rest) h in
    let a = (and_parts ((is_push d && (d.thread == t)) && (event_location test d == x))
    (not (list_any (drained_by d) before)) f.0).0 in
    let b = and_parts (is_push d && (d.thread == t)) (event_location test d == x) a in
    record {
      among = f.1;
      writes = push_writes d.kind ((and_parts (is_push d) (d.thread == t) b.0).0);
      at_location = eqb-true (event_location test d) x b.1;
    }

either_found : (test : LitmusTest) (x : ℕ) (run : List Event) (a b : Option Event) (d : Event)
    → (a ≡ Some d → IsFound test x run d) → (b ≡ Some d → IsFound test x run d) → option_or a b ≡ Some d
    → IsFound test x run d
either_found test x run None b d f g h = g h
either_found test x run (Some c) b d f g h = f h

read_joined : (f : Event → ℕ) (a b : Option Event)
    → unwrap_or (option_map f a) (option_map_or f b 0) ≡ option_map_or f (option_or a b) 0
read_joined f None b = refl
read_joined f (Some d) b = refl

-- what a read takes is the value of its source's event
readable_is : (test : LitmusTest) (n t x : ℕ) (before rest : List Event)
    → Performs test n t (part_of t (before ++ rest)) → Steps test initial before
    → readable (after_all test initial before) t x
    ≡ option_map_or (written_value test) (option_or (last_that (is_pending test t x before) before)
    (last_that (is_memory_write test x) before)) 0
readable_is test n t x before rest h steps =
    let buffer = (after_all test initial before).buffer t in
    let s = pending_split test n t before rest h steps in
    let new : newest x buffer ≡ option_map (written_value test) (last_that (is_pending test t x before) before) =
    ap (newest x) (sym s.held) ∙ newest_is test x s.left
    ∙ ap (option_map (written_value test)) (sym (pending_is test t x before buffer s)) in
    ap (λ o. unwrap_or o ((after_all test initial before).memory x)) new
    ∙ ap (unwrap_or (option_map (written_value test) (last_that (is_pending test t x before) before)))
    (memory_after test initial x before)
    ∙ read_joined (written_value test) (last_that (is_pending test t x before) before)
    (last_that (is_memory_write test x) before)

names_by_kind : (test : LitmusTest) (n : ℕ) (before after : List Event) (e : Event) (v : ℕ) (k : Kind)
    → IsRunOf test n (before ++ e ∷ after) → NeedsAs k test (after_all test initial before) e → value_read_as k ≡ Some v
    → Steps test initial before
    → NamesSource test n (event_location test e) v (source_as k test e before)
names_by_kind test n before after e v Push r needs h steps = cc
names_by_kind test n before after e v Drain r needs h steps = cc
names_by_kind test n before after e v (Read w) r needs h steps =
    let x = event_location test e in
    let a : Among e (before ++ e ∷ after) = record { front = before; rest = after; whole = refl } in
    let same : v ≡ w = cc in
    let lp = last_that (is_pending test e.thread x before) before in
    let lm = last_that (is_memory_write test x) before in
    names_by test n x v (before ++ e ∷ after) (option_or lp lm) r
    (same ∙ needs ∙ readable_is test n e.thread x before (e ∷ after)
    (r.performs e.thread (thread_below test n (before ++ e ∷ after) e r a)) steps)
    (λ d k. either_found test x (before ++ e ∷ after) lp lm d (pending_found test e.thread x before (e ∷ after) d)
    (memory_found test x before (e ∷ after) d) k)
names_by_kind test n before after e v Fenced r needs h steps = cc
names_by_kind test n before after e v (Exchanged w) r needs h steps =
    let x = event_location test e in
    let same : v ≡ w = cc in
    names_by test n x v (before ++ e ∷ after) (last_that (is_memory_write test x) before) r
    (same ∙ needs.1 ∙ memory_after test initial x before)
    (λ d k. memory_found test x before (e ∷ after) d k)

names_at : (test : LitmusTest) (n : ℕ) (before after : List Event) (e : Event) (v : ℕ)
    → IsRunOf test n (before ++ e ∷ after) → value_read e ≡ Some v
    → NamesSource test n (event_location test e) v (source_of test e before)
names_at test n before after e v r h =
    names_by_kind test n before after e v e.kind r (steps_right test initial before (e ∷ after) r.legal.steps).0 h
    (steps_left test initial before (e ∷ after) r.legal.steps)

pub values_name_their_source_lem : ValuesNameTheirSource
values_name_their_source_lem test n run before after e v r w h =
    names_at test n before after e v (subst (IsRunOf test n) w r) h

-- A read of a location whose stores stand in other threads.

not_pending : (test : LitmusTest) (n t u x : ℕ) (before rest : List Event) → IsRunOf test n (before ++ rest)
    → Each (λ s. s.thread ≡ u) (stores_of test x) → (t ≡ u → ⊥) → (o : Option Event)
    → last_that (is_pending test t x before) before ≡ o → o ≡ None
not_pending test n t u x before rest r h ne None e = refl
not_pending test n t u x before rest r h ne (Some d) e =
    let f = pending_found test t x before rest d e in
    let p = (last_found (λ d. Among d (before ++ rest)) (is_pending test t x before) before d
    (among_before before rest) e).0 in
    let a = (and_parts ((is_push d && (d.thread == t)) && (event_location test d == x))
    (not (list_any (drained_by d) before)) p).0 in
    let b = (and_parts (is_push d && (d.thread == t)) (event_location test d == x) a).0 in
    let own : d.thread ≡ t = eqb-true d.thread t ((and_parts (is_push d) (d.thread == t) b).1) in
    let other : d.thread ≡ u = each_among (λ s. s.thread ≡ u) (site_of d) (stores_of test x)
    (write_among test n (before ++ rest) d x r f.among f.writes f.at_location) h in
    absurd (ne (sym own ∙ other))

from_memory_by_kind : (test : LitmusTest) (n u : ℕ) (before after : List Event) (e : Event) (v : ℕ) (k : Kind)
    → IsRunOf test n (before ++ e ∷ after) → Each (λ s. s.thread ≡ u) (stores_of test (event_location test e))
    → (e.thread ≡ u → ⊥)
    → NeedsAs k test (after_all test initial before) e → value_read_as k ≡ Some v → Steps test initial before
    → v ≡ option_map_or (written_value test) (last_that (is_memory_write test (event_location test e)) before) 0
from_memory_by_kind test n u before after e v Push r h ne needs k steps = cc
from_memory_by_kind test n u before after e v Drain r h ne needs k steps = cc
from_memory_by_kind test n u before after e v (Read w) r h ne needs k steps =
    let x = event_location test e in
    let a : Among e (before ++ e ∷ after) = record { front = before; rest = after; whole = refl } in
    let same : v ≡ w = cc in
    let lm = last_that (is_memory_write test x) before in
    same ∙ needs ∙ readable_is test n e.thread x before (e ∷ after)
    (r.performs e.thread (thread_below test n (before ++ e ∷ after) e r a)) steps
    ∙ ap (λ o. option_map_or (written_value test) (option_or o lm) 0)
    (not_pending test n e.thread u x before (e ∷ after) r h ne (last_that
    (is_pending test e.thread x before) before) refl)
from_memory_by_kind test n u before after e v Fenced r h ne needs k steps = cc
from_memory_by_kind test n u before after e v (Exchanged w) r h ne needs k steps =
    let same : v ≡ w = cc in
    same ∙ needs.1 ∙ memory_after test initial (event_location test e) before

-- the value is that of the last write to memory
pub read_from_memory : (test : LitmusTest) (n u : ℕ) (before after : List Event) (e : Event) (v : ℕ)
    → IsRunOf test n (before ++ e ∷ after) → value_read e ≡ Some v
    → Each (λ s. s.thread ≡ u) (stores_of test (event_location test e)) → (e.thread ≡ u → ⊥)
    → v ≡ option_map_or (written_value test) (last_that (is_memory_write test (event_location test e)) before) 0
read_from_memory test n u before after e v r k h ne =
    from_memory_by_kind test n u before after e v e.kind r h ne
    (steps_right test initial before (e ∷ after) r.legal.steps).0 k
    (steps_left test initial before (e ∷ after) r.legal.steps)
