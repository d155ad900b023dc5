-- What is kept of a run along edges, as the code has it.
use Rattle.std.proofs.Common.{◌≡◌, ℕ, zero, suc, ◌+◌, ◌*◌, ◌<◌, ◌≤◌, ◌==◌, ◌&&◌, Bool, true, false, cond, Some, List, [], ◌∷◌, ◌++◌, length, map, set, get_or, slice_get, replicate, refl, sym, ap, ◌∙◌, arith, subst, inl, inr, ◌⊎◌, eq-eqb, ne_eqb, get_or-set_other, get_or-set_same, length-set, unwrap_or}
use Rattle.std.proofs.lemmas.Bool.{cases_eq, true≢false}
use Rattle.std.proofs.lemmas.List.{get_or-replicate, length-replicate}
use Rattle.std.proofs.lemmas.List.Elements.{All-from_recursion}
use Rattle.std.proofs.lemmas.Option.{slice_get_within, unwrap_or-slice_get}
use Rattle.x86_subset.specs.Shape.{IsTest}
use Rattle.x86_subset.specs.Test.{LitmusTest, body_of}
use Rattle.x86_subset.specs.declared.instr.Instr.{Instr}
use Rattle.tso_machine.specs.Event.{Event, Kind, Drain, event_location, written_value}
use Rattle.tso_machine.specs.Machine.{State, after_all, initial, newest, readable, updated}
use Rattle.tso_machine.specs.Part.{Slot}
use Rattle.tso_machine.specs.Source.{is_memory_kind}
use Rattle.tso_machine.proofs.Runs.{memory_after_event}
use Rattle.seq_conv.specs.Sequence.{site_location}
use Rattle.run_witness.specs.Marks.{Mark, is_storing, loop_of, waiting}
use Rattle.run_witness.specs.Stage.{slot_write}
use Rattle.run_witness.proofs.Begun.{after_push}
use Rattle.run_witness.proofs.Slots.{loop_length, slot_at}
use Rattle.run_witness.proofs.Stands.{fresh}
use Rattle.decision.specs.Course.{IsOfStore}
use Rattle.decision.proofs.Asks.{loop_slot}
use Rattle.decision.proofs.Nexts.{slot_action, slot_place}
use Rattle.choice_search.specs.declared.graph.Pair.{Pair}
use Rattle.choice_search.specs.Graph.{has_pair}
use Rattle.run_orders.specs.Course.{Begun, IsOldest, StoresNone, kind_now, mark_then, total}
use Rattle.run_orders.specs.Orders.{AllDraw, IsWanted, Spot}
use Rattle.run_orders.proofs.Begun.{begun_step, marks_then, one_slot}
use Rattle.run_orders.proofs.Chances.{goes_act}
use Rattle.run_orders.proofs.Going.{Goes, goes_drain}
use Rattle.run_orders.proofs.Gone.{deed, total_less}
use Rattle.run_orders.proofs.Making.{AllEnded, Closed, all_ended, begun_begins, stuck_ends}
use Rattle.order_run.specs.declared.course.Progress.{Progress}
use Rattle.order_run.specs.Along.{HasCycle, IsRunAlong, StandFor}
use Rattle.order_run.specs.Course.{AreEnded, CanDo, IsHeld, IsKept, IsNext, IsWaiting, acts, deed_event, drains, is_held, mark_of, marks_of}
use Rattle.order_run.proofs.Held.{can_from, free_from, none_goes, number_spot, small_place}

-- ---- marks

abbrev new : Progress
new = record { done = 0; drained = 0 }

get_mark : (ms : List Progress) (u : ℕ) → marks_of ms u ≡ mark_of (get_or ms u new)
get_mark ms u = ap mark_of (unwrap_or-slice_get ms u new)

set_mark : (ms : List Progress) (t : ℕ) (r : Progress) (u : ℕ) → t < length ms → (t ≡ u) ⊎ (t ≡ u → ⊥)
    → marks_of (set ms t r) u ≡ cond (t == u) (mark_of r) (marks_of ms u)
set_mark ms t r u l (inl e) =
    let here : marks_of (set ms t r) t ≡ mark_of r = get_mark (set ms t r) t
    ∙ ap mark_of (get_or-set_same ms t r new l) in
    rw (eq-eqb t u e) (ap (marks_of (set ms t r)) (sym e) ∙ here)
set_mark ms t r u l (inr ne) =
    let there : marks_of (set ms t r) u ≡ marks_of ms u = get_mark (set ms t r) u
    ∙ ap mark_of (get_or-set_other ms t u r new (λ e. ne (sym e))) ∙ sym (get_mark ms u) in
    rw (ne_eqb t u ne) there

marks_set : (ms : List Progress) (t : ℕ) (r : Progress) → t < length ms
    → marks_of (set ms t r) ≡ updated (marks_of ms) t (mark_of r)
marks_set ms t r l = λ i u. set_mark ms t r u l (cases_eq t u) i

marks_new : (k t : ℕ) → marks_of (replicate k new) t ≡ record { done = 0; drained = 0 }
marks_new zero t = refl
marks_new (suc k) zero = refl
marks_new (suc k) (suc t) = marks_new k t

-- ---- the beginning

pub course_begins : (test : LitmusTest) (edges : List Pair) (ms : List Progress) (words : List ℕ)
    (events : List Event) (k : ℕ) → ms ≡ replicate k new → k ≡ length test.bodies → words ≡ replicate 16 0
    → events ≡ [] → IsKept test edges ms words events
course_begins test edges ms words events k is count zeros none =
    let same : marks_of ms ≡ fresh = ap marks_of is ∙ (λ i t. marks_new k t i) in
    let Q : List Event → Type 0 = λ es. IsKept test edges ms words es in
    subst Q (sym none) (record {
      along = λ edge wanted stand draws.
          let P : (ℕ → Mark) → Type 0 = λ f. Begun test 1 edge wanted f [] in
          subst P (sym same) (begun_begins test 1 edge wanted);
      count = ap length is ∙ length-replicate k new ∙ count;
      long = ap length zeros ∙ length-replicate {A = ℕ} 16 0;
      memory = λ x l. ap (λ w. get_or w x 0) zeros ∙ get_or-replicate {A = ℕ} 16 x 0 0 l;
    })

-- ---- the relation of the edges themselves

abbrev own_edge : List Pair → Spot → Spot → Bool
own_edge edges a b = has_pair edges (a.thread * 16 + a.index) (b.thread * 16 + b.index)

own_stands : (edges : List Pair) → StandFor edges (own_edge edges)
own_stands edges a b = λ i. has_pair edges (sym (number_spot a) i) (sym (number_spot b) i)

abbrev nothing : Spot → ℕ → Bool
nothing r v = false

nothing_drawn : (test : LitmusTest) (edge : Spot → Spot → Bool) → AllDraw test 1 edge nothing
nothing_drawn test edge r v h = cc

own_begun : (test : LitmusTest) (edges : List Pair) (ms : List Progress) (words : List ℕ) (events : List Event)
    → IsKept test edges ms words events → Begun test 1 (own_edge edges) nothing (marks_of ms) events
own_begun test edges ms words events k =
    k.along (own_edge edges) nothing (own_stands edges) (nothing_drawn test (own_edge edges))

-- no number is large
pub done_within : (test : LitmusTest) (edges : List Pair) (ms : List Progress) (words : List ℕ) (events : List Event)
    (t : ℕ) → IsKept test edges ms words events → (marks_of ms t).done ≤ length (body_of test t)
done_within test edges ms words events t k =
    let w : (marks_of ms t).done ≤ length (loop_of test 1 t) =
    ((own_begun test edges ms words events k).gone.stands.own t).within in
    let long = loop_length (body_of test t) 1 in
    omega arith

pub marks_order : (test : LitmusTest) (edges : List Pair) (ms : List Progress) (words : List ℕ) (events : List Event)
    (t : ℕ) → IsKept test edges ms words events → (marks_of ms t).drained ≤ (marks_of ms t).done
marks_order test edges ms words events t k =
    ((own_begun test edges ms words events k).gone.stands.own t).order

-- ---- what can be next

pub record Able (test : LitmusTest) (edges : List Pair) (marks : ℕ → Mark) (events : List Event)
    (e : Event) : Type 0 where
  pub slot : Slot
  pub is : deed e.thread slot e.kind ≡ e
  pub thread : e.thread < length test.bodies
  pub first : e.iteration ≡ 0
  pub place : e.place < length (body_of test e.thread)
  pub goes : (edge : Spot → Spot → Bool) (wanted : Spot → ℕ → Bool) → StandFor edges edge
      → AllDraw test 1 edge wanted → Goes test 1 edge wanted marks events e.thread e.place slot e.kind

within_body : (test : LitmusTest) (t p : ℕ) (s : Slot) → slice_get (loop_of test 1 t) p ≡ Some s
    → p < length (body_of test t)
within_body test t p s h =
    let w = slice_get_within (loop_of test 1 t) p s h in
    let l = loop_length (body_of test t) 1 in
    omega arith

pub able : (test : LitmusTest) (edges : List Pair) (ms : List Progress) (words : List ℕ) (events : List Event)
    (e : Event) → IsTest test → IsKept test edges ms words events → IsNext test edges (marks_of ms) events e
    → Able test edges (marks_of ms) events e
able test edges ms words events e is k (drains below s o free same) =
    let early : s.iteration < 1 = (slot_at (body_of test e.thread) 1 e.place s o.stands).early in
    let first : s.iteration ≡ 0 = omega arith in
    let here : s.place ≡ e.place = slot_place (body_of test e.thread) e.place s o.stands in
    let kind : e.kind ≡ Drain = ap (λ (z : Event). z.kind) same in
    let zero_is : e.iteration ≡ 0 = ap (λ (z : Event). z.iteration) same in
    record {
      slot = s;
      is = (λ i. record {
        thread = e.thread;
        iteration = (first ∙ sym zero_is) i;
        place = here i;
        kind = e.kind;
      });
      thread = below;
      first = zero_is;
      place = within_body test e.thread e.place s o.stands;
      goes = λ edge wanted stand draws.
          let P : Kind → Type 0 = λ z. Goes test 1 edge wanted (marks_of ms) events e.thread e.place s z in
          subst P (sym kind) (goes_drain test 1 edge wanted (marks_of ms) events (k.along edge wanted stand draws)
          e.thread e.place s below o (free_from test edges edge (marks_of ms) e.thread e.place is stand
          (small_place test e.thread e.place s is o.stands) free));
    }
able test edges ms words events e is k (acts below a at here can same) =
    let t = e.thread in
    let s : Slot = record { iteration = 0; place = e.place; action = a } in
    let kind : e.kind ≡ (deed_event test events t e.place a).kind = ap (λ (z : Event). z.kind) same in
    let zero_is : e.iteration ≡ 0 = ap (λ (z : Event). z.iteration) same in
    let stands : slice_get (loop_of test 1 t) e.place ≡ Some s = loop_slot test t e.place a at in
    let A : ℕ → Type 0 = λ z. slice_get (loop_of test 1 t) z ≡ Some s in
    let L : ℕ → Type 0 = λ z. z < 16 in
    let low : (marks_of ms t).done < 16 = subst L here (small_place test t e.place s is stands) in
    record {
      slot = s;
      is = (λ i. record { thread = t; iteration = sym zero_is i; place = e.place; kind = e.kind });
      thread = below;
      first = zero_is;
      place = slice_get_within (body_of test t) e.place a at;
      goes = λ edge wanted stand draws.
          let P : Kind → Type 0 = λ z. Goes test 1 edge wanted (marks_of ms) events t e.place s z in
          let Q : ℕ → Type 0 = λ z. Goes test 1 edge wanted (marks_of ms) events t z s
          (kind_now a (after_all test initial events) t (site_location test (record { thread = t; place = e.place })))
          in
          subst P (sym kind) (subst Q (sym here)
          (goes_act test 1 edge wanted (marks_of ms) events draws (k.along edge wanted stand draws) t s below
          (subst A here stands) (can_from test edges edge (marks_of ms) t a is stand low can)));
    }

-- ---- one event more

own_goes : (test : LitmusTest) (edges : List Pair) (marks : ℕ → Mark) (events : List Event) (e : Event)
    → (a : Able test edges marks events e)
    → Goes test 1 (own_edge edges) nothing marks events e.thread e.place a.slot e.kind
own_goes test edges marks events e a =
    a.goes (own_edge edges) nothing (own_stands edges) (nothing_drawn test (own_edge edges))

pub course_step : (test : LitmusTest) (edges : List Pair) (ms : List Progress) (words : List ℕ)
    (events : List Event) (e : Event) (r : Progress) (words2 : List ℕ) (events2 : List Event)
    → IsKept test edges ms words events → Able test edges (marks_of ms) events e
    → mark_of r ≡ mark_then e.kind e.place (marks_of ms e.thread) → length words2 ≡ 16
    → ((x : ℕ) → x < 16 → get_or words2 x 0 ≡ cond (is_memory_kind e.kind && (event_location test e == x))
    (written_value test e) (get_or words x 0))
    → events2 ≡ events ++ e ∷ [] → IsKept test edges (set ms e.thread r) words2 events2
course_step test edges ms words events e r words2 events2 k a mark long mem more =
    let l = a.thread in
    let c = k.count in
    let below : e.thread < length ms = omega arith in
    let marks : marks_of (set ms e.thread r) ≡ marks_then (marks_of ms) e.thread e.place e.kind =
    marks_set ms e.thread r below ∙ ap (updated (marks_of ms) e.thread) mark in
    let whole : events2 ≡ events ++ deed e.thread a.slot e.kind ∷ [] =
    more ∙ ap (λ z. events ++ z ∷ []) (sym a.is) in
    record {
      along = λ edge wanted stand draws.
          let g = a.goes edge wanted stand draws in
          let P : (ℕ → Mark) → Type 0 = λ z. Begun test 1 edge wanted z events2 in
          let Q : List Event → Type 0 = λ z. Begun test 1 edge wanted
          (marks_then (marks_of ms) e.thread e.place e.kind) z in
          subst P (sym marks) (subst Q (sym whole) (begun_step test 1 edge wanted (marks_of ms) events e.thread e.place
          a.slot e.kind (k.along edge wanted stand draws) g.next g.comes));
      count = length-set ms e.thread r ∙ k.count;
      long = long;
      memory =
          λ x l. mem x l ∙ ap (cond (is_memory_kind e.kind && (event_location test e == x)) (written_value test e))
          (k.memory x l)
          ∙ sym (ap (λ (z : State). z.memory x) (ap (after_all test initial) more ∙ after_push test initial events e)
          ∙ memory_after_event test (after_all test initial events) e x e.kind);
    }

pub step_less : (test : LitmusTest) (edges : List Pair) (ms : List Progress) (words : List ℕ) (events : List Event)
    (e : Event) (r : Progress) → IsKept test edges ms words events → Able test edges (marks_of ms) events e
    → mark_of r ≡ mark_then e.kind e.place (marks_of ms e.thread)
    → total test 1 (marks_of (set ms e.thread r)) (length test.bodies)
    < total test 1 (marks_of ms) (length test.bodies)
step_less test edges ms words events e r k a mark =
    let n = (own_goes test edges (marks_of ms) events e a).next in
    let l = n.thread in
    let c = k.count in
    let below : e.thread < length ms = omega arith in
    let marks : marks_of (set ms e.thread r) ≡ marks_then (marks_of ms) e.thread e.place e.kind =
    marks_set ms e.thread r below ∙ ap (updated (marks_of ms) e.thread) mark in
    let P : (ℕ → Mark) → Type 0 = λ z. total test 1 z (length test.bodies)
    < total test 1 (marks_of ms) (length test.bodies) in
    subst P (sym marks) (total_less test 1 (marks_of ms) e.thread (mark_then e.kind e.place (marks_of ms e.thread))
    (length test.bodies) n.thread n.less)

-- a store or an exchange stands where an event writes to memory
pub able_stores : (test : LitmusTest) (edges : List Pair) (marks : ℕ → Mark) (events : List Event) (e : Event)
    → Able test edges marks events e → is_memory_kind e.kind ≡ true → IsOfStore test e
able_stores test edges marks events e a h =
    let n = (own_goes test edges marks events e a).next in
    record {
      action = a.slot.action;
      stands = slot_action test e.thread e.place a.slot n.stands;
      storing = n.writes h;
    }

-- ---- the end

ended_all : (test : LitmusTest) (marks : ℕ → Mark) → AreEnded test marks → AllEnded test 1 marks
ended_all test marks f t l =
    let e = f t l in
    let d : (marks t).done ≡ length (body_of test t) = e.0 in
    let long = loop_length (body_of test t) 1 in
    let same : (marks t).done ≡ length (loop_of test 1 t) = omega arith in
    (same, e.1)

all_ended_are : (test : LitmusTest) (marks : ℕ → Mark) → AllEnded test 1 marks → AreEnded test marks
all_ended_are test marks f t l =
    let e = f t l in
    let d : (marks t).done ≡ length (loop_of test 1 t) = e.0 in
    let long = loop_length (body_of test t) 1 in
    let same : (marks t).done ≡ length (body_of test t) = omega arith in
    (same, e.1)

pub run_ends : (test : LitmusTest) (edges : List Pair) (ms : List Progress) (words : List ℕ) (events : List Event)
    → IsKept test edges ms words events → AreEnded test (marks_of ms) → IsRunAlong test edges events
run_ends test edges ms words events k ended = record {
  legal = all_ended test 1 (marks_of ms) events (own_begun test edges ms words events k).gone
      (ended_all test (marks_of ms) ended);
  wants = λ edge wanted stand draws.
      All-from_recursion (IsWanted test wanted) events (k.along edge wanted stand draws).reads;
}

pub stuck_cycle : (test : LitmusTest) (edges : List Pair) (ms : List Progress) (words : List ℕ) (events : List Event)
    → IsTest test → IsKept test edges ms words events
    → ((t : ℕ) → t < length test.bodies → IsHeld test edges (marks_of ms) t)
    → (AreEnded test (marks_of ms) → ⊥) → HasCycle test edges
stuck_cycle test edges ms words events is k held not_ended edge stand order =
    go (stuck_ends test 1 edge nothing (marks_of ms) events order
    (k.along edge nothing stand (nothing_drawn test edge)) (none_goes test edges edge (marks_of ms) is stand held))
  where
    go : Closed edge ⊎ AllEnded test 1 (marks_of ms) → Closed edge
    go (inl c) = c
    go (inr e) = absurd (not_ended (all_ended_are test (marks_of ms) e))

-- ---- what waits

pub none_more : (test : LitmusTest) (t d place : ℕ) (a : Instr) → StoresNone test 1 t d place
    → slice_get (body_of test t) place ≡ Some a → is_storing a ≡ false → StoresNone test 1 t d (place + 1)
none_more test t d place a none at k i s l m st = go (cases_eq i place)
  where
    go : (i ≡ place) ⊎ (i ≡ place → ⊥) → is_storing s.action ≡ false
    go (inl e) =
        let P : ℕ → Type 0 = λ z. slice_get (loop_of test 1 t) z ≡ Some s in
        let z : Slot = record { iteration = 0; place = place; action = a } in
        let same : s ≡ z = one_slot s z (sym (subst P e st) ∙ loop_slot test t place a at) in
        ap (λ (y : Slot). is_storing y.action) same ∙ k
    go (inr ne) = none i s l (omega arith) st

pub oldest_own : (test : LitmusTest) (ms : List Progress) (t place : ℕ) (own : Progress) → mark_of own ≡ marks_of ms t
    → ((s : Slot) × IsOldest test 1 t own.drained own.done place s)
    → ((s : Slot) × IsOldest test 1 t (marks_of ms t).drained (marks_of ms t).done place s)
oldest_own test ms t place own same o =
    let P : Mark → Type 0 = λ m. (s : Slot) × IsOldest test 1 t m.drained m.done place s in subst P same o

pub none_own : (test : LitmusTest) (ms : List Progress) (t : ℕ) (own : Progress) → mark_of own ≡ marks_of ms t
    → StoresNone test 1 t own.drained own.done → StoresNone test 1 t (marks_of ms t).drained (marks_of ms t).done
none_own test ms t own same o = let P : Mark → Type 0 = λ m. StoresNone test 1 t m.drained m.done in subst P same o

pub not_none : (test : LitmusTest) (t from to place : ℕ) → ((s : Slot) × IsOldest test 1 t from to place s)
    → StoresNone test 1 t from to → ⊥
not_none test t from to place o none =
    true≢false (sym o.1.storing ∙ none place o.0 o.1.after o.1.below o.1.stands)

-- what a read finds, by the buffer's and the memory's word
pub word_found : (test : LitmusTest) (edges : List Pair) (ms : List Progress) (words : List ℕ) (events : List Event)
    (t x word v : ℕ) (own : Progress) → IsKept test edges ms words events → mark_of own ≡ marks_of ms t → x < 16
    → word ≡ get_or words x 0
    → v ≡ unwrap_or (newest x (map (slot_write test t) (waiting (loop_of test 1 t) own.drained own.done))) word
    → v ≡ readable (after_all test initial events) t x
word_found test edges ms words events t x word v own k same low w value =
    let s = after_all test initial events in
    let M : Mark → Type 0 = λ m. s.buffer t ≡ map (slot_write test t) (waiting (loop_of test 1 t) m.drained m.done) in
    let b = subst M (sym same) ((own_begun test edges ms words events k).gone.stands.own t).buffer in
    value ∙ (λ i. unwrap_or (newest x (sym b i)) ((w ∙ k.memory x low) i))

-- ---- a thread's next action

pub waits_for : (test : LitmusTest) (edges : List Pair) (marks : ℕ → Mark) (t place : ℕ) (a : Instr)
    → place ≡ (marks t).done → slice_get (body_of test t) place ≡ Some a → (CanDo test edges marks t a → ⊥)
    → IsWaiting test edges marks t
waits_for test edges marks t place a here at why =
    let P : ℕ → Type 0 = λ z. slice_get (body_of test t) z ≡ Some a in
    record { action = a; stands = subst P here at; why = why }

pub acts_now : (test : LitmusTest) (edges : List Pair) (marks : ℕ → Mark) (events : List Event) (t place : ℕ) (a : Instr)
    (k : Kind) → t < length test.bodies → place ≡ (marks t).done → slice_get (body_of test t) place ≡ Some a
    → CanDo test edges marks t a
    → k ≡ kind_now a (after_all test initial events) t (site_location test (record { thread = t; place = place }))
    → IsNext test edges marks events (record { thread = t; iteration = 0; place = place; kind = k })
acts_now test edges marks events t place a k below here at can e =
    acts below a at here can (λ i. record { thread = t; iteration = 0; place = place; kind = e i })

-- at the thread's mark
pub held_here : (test : LitmusTest) (edges : List Pair) (marks : ℕ → Mark) (t place : ℕ) (b : Bool)
    → place ≡ (marks t).done → b ≡ is_held test edges marks (t * 16 + place)
    → is_held test edges marks (t * 16 + (marks t).done) ≡ b
held_here test edges marks t place b here h = ap (λ z. is_held test edges marks (t * 16 + z)) (sym here) ∙ sym h
