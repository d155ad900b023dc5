-- What is kept of a run, and what holds a thread back, as the code has it.
use Rattle.std.proofs.Common.{◌≡◌, ℕ, zero, suc, None, Option, append-nil, ◌+◌, ◌<◌, ◌≤◌, ◌==◌, Bool, true, false, cond, ◌&&◌, ◌||◌, Some, List, [], ◌∷◌, ◌++◌, length, map, set, get_or, slice_get, replicate, refl, sym, ap, ◌∙◌, arith, subst, inl, inr, ◌⊎◌, eq-eqb, ne_eqb, get_or-set_other, get_or-set_same, length-set, unwrap_or, option_and_then}
use Rattle.std.proofs.lemmas.Bool.{cases_eq}
use Rattle.std.proofs.lemmas.List.{get_or-replicate, length-replicate, map-append}
use Rattle.std.proofs.lemmas.Option.{unwrap_or-slice_get}
use Rattle.std.specs.List.{list_any}
use Rattle.x86_subset.specs.Instr.{is_reading, is_store_to, location_of}
use Rattle.x86_subset.specs.Test.{LitmusTest, body_of}
use Rattle.x86_subset.specs.declared.instr.Instr.{Instr}
use Rattle.x86_subset.specs.declared.instr.Reg.{Reg}
use Rattle.x86_subset.specs.declared.instr.Instr.TheVariants.{Store, Load, Fence, Exchange}
use Rattle.tso_machine.specs.Event.{Event, Push, Drain, Read, Fenced, Exchanged, event_location, written_value}
use Rattle.tso_machine.specs.Machine.{State, after_all, initial, newest, readable, updated}
use Rattle.seq_conv.specs.Numbers.{AreOf, Table, row_of, value_at}
use Rattle.tso_machine.specs.Part.{Slot}
use Rattle.seq_conv.specs.Sequence.{site_location, value_of}
use Rattle.tso_machine.specs.Source.{is_memory_kind}
use Rattle.perp_base.proofs.Lists.{any_map}
use Rattle.profile_check.specs.Profile.{CheckedTest}
use Rattle.profile_check.specs.declared.kind.AtomKind.{AtomKind}
use Rattle.run_judge.specs.Judgement.{event_of}
use Rattle.run_witness.specs.Marks.{Mark, is_storing, loop_of, waiting}
use Rattle.run_witness.specs.Stage.{slot_write}
use Rattle.tso_machine.proofs.Runs.{memory_after_event}
use Rattle.run_judge.proofs.Kept.{newest_push}
use Rattle.run_witness.proofs.Begun.{after_push}
use Rattle.run_witness.proofs.Reading.{store_stores}
use Rattle.run_witness.proofs.Slots.{loop_length, not_store_to, waiting_none, waiting_push}
use Rattle.run_witness.proofs.Stands.{fresh, stores_at}
use Rattle.verdict.specs.declared.asked.Asked.{Asked}
use Rattle.verdict.specs.declared.node.Node.{Node}
use Rattle.verdict.specs.Edges.{asked_of, is_barrier, kinds_in}
use Rattle.verdict.specs.Verdicts.{HasNoCycle}
use Rattle.decision.specs.declared.course.Course.{Course}
use Rattle.decision.specs.declared.course.Progress.{Progress}
use Rattle.decision.specs.Course.{IsCase, IsCourse, IsHeld, IsKept, IsNext, IsNextIn, IsOfStore, IsOldest, IsWaiting, StoresNone, is_early, mark_after, mark_of, marks_of, reads_early, total, writes_early}
use Rattle.decision.specs.Shown.{Shows}
use Rattle.decision.specs.Stage.{Stage}
use Rattle.decision.proofs.Asks.{loop_slot}
use Rattle.decision.proofs.Finish.{orders_of, stage_begins, stage_shows}
use Rattle.decision.proofs.Moves.{held_stuck, none_queue, total_less}
use Rattle.decision.proofs.Nexts.{deed_node, some_is, next_drain, next_exchange, next_fence, next_push, next_read}

-- Marks.

abbrev pub new : Progress
new = record { done = 0; drained = 0 }

get_mark : (ms : List Progress) (u : ℕ) → marks_of ms u ≡ mark_of (get_or ms u new)
get_mark ms u = ap mark_of (unwrap_or-slice_get ms u new)

set_mark : (ms : List Progress) (t : ℕ) (r : Progress) (u : ℕ) → t < length ms → (t ≡ u) ⊎ (t ≡ u → ⊥)
    → marks_of (set ms t r) u ≡ cond (t == u) (mark_of r) (marks_of ms u)
set_mark ms t r u l (inl e) =
    let here : marks_of (set ms t r) t ≡ mark_of r = get_mark (set ms t r) t
    ∙ ap mark_of (get_or-set_same ms t r new l) in
    rw (eq-eqb t u e) (ap (marks_of (set ms t r)) (sym e) ∙ here)
set_mark ms t r u l (inr ne) =
    let there : marks_of (set ms t r) u ≡ marks_of ms u = get_mark (set ms t r) u
    ∙ ap mark_of (get_or-set_other ms t u r new (λ e. ne (sym e))) ∙ sym (get_mark ms u) in
    rw (ne_eqb t u ne) there

marks_set : (ms : List Progress) (t : ℕ) (r : Progress) → t < length ms
    → marks_of (set ms t r) ≡ updated (marks_of ms) t (mark_of r)
marks_set ms t r l = λ i u. set_mark ms t r u l (cases_eq t u) i

marks_new : (k t : ℕ) → marks_of (replicate k new) t ≡ record { done = 0; drained = 0 }
marks_new zero t = refl
marks_new (suc k) zero = refl
marks_new (suc k) (suc t) = marks_new k t

-- The beginning.

pub course_begins : (test : LitmusTest) (kinds : List AtomKind) (ms : List Progress) (words : List ℕ)
    (events : List Event) (k : ℕ) → ms ≡ replicate k new → k ≡ length test.bodies → words ≡ replicate 16 0
    → events ≡ [] → IsKept test kinds ms words events
course_begins test kinds ms words events k is count zeros none =
    let same : marks_of ms ≡ fresh = ap marks_of is ∙ (λ i t. marks_new k t i) in
    let P : (ℕ → Mark) → Type 0 = λ f. Stage test kinds f [] in
    let Q : List Event → Type 0 = λ es. IsKept test kinds ms words es in
    subst Q (sym none) (record {
      stage = subst P (sym same) (stage_begins test kinds);
      count = ap length is
          ∙ length-replicate k new ∙ count;
      long = ap length zeros ∙ length-replicate {A = ℕ} 16 0;
      memory = λ x l. ap (λ w. get_or w x 0) zeros ∙ get_or-replicate {A = ℕ} 16 x 0 0 l;
    })

-- One event more.

pub course_step : (test : LitmusTest) (kinds : List AtomKind) (ms : List Progress) (words : List ℕ)
    (events : List Event) (e : Event) (r : Progress) (words2 : List ℕ) (events2 : List Event)
    → IsKept test kinds ms words events → IsNext test kinds (marks_of ms) events e
    → mark_of r ≡ mark_after e.kind e.place (marks_of ms e.thread) → length words2 ≡ 16
    → ((x : ℕ) → x < 16 → get_or words2 x 0 ≡ cond (is_memory_kind e.kind && (event_location test e == x))
    (written_value test e) (get_or words x 0))
    → events2 ≡ events ++ e ∷ [] → IsKept test kinds (set ms e.thread r) words2 events2
course_step test kinds ms words events e r words2 events2 st n mark long mem more =
    let below : e.thread < length ms = (let c = st.count in let l = n.thread in omega arith) in
    let marks : marks_of (set ms e.thread r) ≡ updated (marks_of ms) e.thread
    (mark_after e.kind e.place (marks_of ms e.thread)) = marks_set ms e.thread r below
    ∙ ap (updated (marks_of ms) e.thread) mark in
    let Q : (ℕ → Mark) → Type 0 = λ z. Stage test kinds z (events ++ e ∷ []) in
    let R : List Event → Type 0 = λ l. Stage test kinds (marks_of (set ms e.thread r)) l in
    record {
      stage = subst R (sym more) (subst Q (sym marks) n.stage);
      count = length-set ms e.thread r ∙ st.count;
      long = long;
      memory =
          λ x l. mem x l ∙ ap (cond (is_memory_kind e.kind && (event_location test e == x)) (written_value test e))
          (st.memory x l)
          ∙ sym (ap (λ (z : State). z.memory x) (ap (after_all test initial) more ∙ after_push test initial events e)
          ∙ memory_after_event test (after_all test initial events) e x e.kind);
    }

pub step_less : (test : LitmusTest) (kinds : List AtomKind) (ms : List Progress) (words : List ℕ) (events : List Event)
    (e : Event) (r : Progress) → IsKept test kinds ms words events → IsNext test kinds (marks_of ms) events e
    → mark_of r ≡ mark_after e.kind e.place (marks_of ms e.thread)
    → total test (marks_of (set ms e.thread r)) (length test.bodies) < total test (marks_of ms) (length test.bodies)
step_less test kinds ms words events e r st n mark =
    let below : e.thread < length ms = (let c = st.count in let l = n.thread in omega arith) in
    let marks : marks_of (set ms e.thread r) ≡ updated (marks_of ms) e.thread
    (mark_after e.kind e.place (marks_of ms e.thread)) = marks_set ms e.thread r below
    ∙ ap (updated (marks_of ms) e.thread) mark in
    let P : (ℕ → Mark) → Type 0 = λ z. total test z (length test.bodies)
    < total test (marks_of ms) (length test.bodies) in
    subst P (sym marks) (total_less test (marks_of ms) e.thread (mark_after e.kind e.place (marks_of ms e.thread))
    (length test.bodies) n.thread n.less)

-- the value that is written is that of the sequences
pub value_written : (test : LitmusTest) (table : Table) (e : Event) → AreOf test table → IsOfStore test e
    → value_at table e.thread e.place e.iteration ≡ written_value test e
value_written test table e same s =
    let x = event_location test e in
    let to : is_store_to x s.action ≡ true = stores_at s.action x s.storing
    ∙ eq-eqb (unwrap_or (option_and_then location_of (Some s.action)) 0) x
    (ap (λ o. unwrap_or (option_and_then location_of o) 0) (sym s.stands)) in
    same.values e.thread e.place x e.iteration s.action s.stands to

pub row_place : (test : LitmusTest) (table : Table) (t p : ℕ) → AreOf test table → t < length test.bodies
    → p < length (body_of test t) → (t < length table.rows) × (p < length (row_of table t))
row_place test table t p same l k =
    let a = same.threads in
    let b = same.places t l in
    (omega arith, omega arith)

-- no number is large
pub done_here : (checked : CheckedTest) (c : ℕ) (course : Course) (t : ℕ) (p : Progress) → IsCourse checked c course
    → mark_of p ≡ marks_of course.threads.items t → p.done ≤ length (body_of checked.test t)
done_here checked c course t p st is =
    let w : (marks_of course.threads.items t).done ≤ length (loop_of checked.test 1 t) =
    (st.stage.stands.own t).within in
    let long = loop_length (body_of checked.test t) 1 in
    let d : p.done ≡ (marks_of course.threads.items t).done = ap (λ (m : Mark). m.done) is in
    omega arith

-- What holds a thread back.

asked_any : (test : LitmusTest) (kinds : List AtomKind) (asked : List Asked) (p : Asked → Bool) (b : Bool)
    → asked ≡ map (asked_of test) kinds → list_any p asked ≡ b → list_any (λ kind. p (asked_of test kind)) kinds ≡ b
asked_any test kinds asked p b are e = sym (any_map p (asked_of test) kinds) ∙ ap (list_any p) (sym are) ∙ e

pub oldest_own : (test : LitmusTest) (ms : List Progress) (t place : ℕ) (own : Progress) → mark_of own ≡ marks_of ms t
    → IsOldest test t own.drained own.done place → IsOldest test t (marks_of ms t).drained (marks_of ms t).done place
oldest_own test ms t place own same o =
    let P : Mark → Type 0 = λ m. IsOldest test t m.drained m.done place in subst P same o

pub none_own : (test : LitmusTest) (ms : List Progress) (t : ℕ) (own : Progress) → mark_of own ≡ marks_of ms t
    → StoresNone test t own.drained own.done → StoresNone test t (marks_of ms t).drained (marks_of ms t).done
none_own test ms t own same o = let P : Mark → Type 0 = λ m. StoresNone test t m.drained m.done in subst P same o

pub drain_next : (checked : CheckedTest) (table : Table) (c : ℕ) (asked : List Asked) (course : Course) (t place : ℕ)
    (own : Progress) → IsCase checked table c asked → IsCourse checked c course → t < length checked.test.bodies
    → mark_of own ≡ marks_of course.threads.items t → IsOldest checked.test t own.drained own.done place
    → list_any (writes_early (marks_of course.threads.items) (deed_node t place)) asked ≡ false
    → IsNextIn checked c course (record { thread = t; iteration = 0; place = place; kind = Drain })
drain_next checked table c asked course t place own case st below same o free =
    next_drain checked.test (kinds_in checked c) (marks_of course.threads.items)
    (map event_of course.events.items) t place st.stage (orders_of checked c case.within case.ordered) below
    (oldest_own checked.test course.threads.items t place own same o)
    (asked_any checked.test (kinds_in checked c) asked (writes_early (marks_of course.threads.items)
    (deed_node t place)) false case.atoms free)

-- A thread's next action, which stands at its mark.

early_parts : (a r w : Bool) (s : Bool) → a && (r || (s && w)) ≡ false → a ≡ true → (r ≡ false) × (s ≡ true → w ≡ false)
early_parts true false w true h e = (refl, λ k. h)
early_parts true false w false h e = (refl, λ k. cc)
early_parts true true w s h e = cc
early_parts false r w s h e = cc

-- what an action that may go on asks of the atoms
pub free_of : (checked : CheckedTest) (table : Table) (c : ℕ) (asked : List Asked) (marks : ℕ → Mark) (n : Node)
    (a : Instr) → IsCase checked table c asked → is_early a asked marks n ≡ false → is_reading a ≡ true
    → (list_any (λ kind. reads_early marks n (asked_of checked.test kind)) (kinds_in checked c) ≡ false)
    × (is_storing a ≡ true → list_any (λ kind. writes_early marks n (asked_of checked.test kind))
    (kinds_in checked c) ≡ false)
free_of checked table c asked marks n a case h reads =
    let p = early_parts (is_reading a) (list_any (reads_early marks n) asked) (list_any (writes_early marks n) asked)
    (is_storing a) h reads in (
      asked_any checked.test (kinds_in checked c) asked (reads_early marks n) false case.atoms p.0,
      λ s. asked_any checked.test (kinds_in checked c) asked (writes_early marks n) false case.atoms (p.1 s),
    )

pub waits_early : (test : LitmusTest) (asked : List Asked) (marks : ℕ → Mark) (t place : ℕ) (a : Instr)
    → place ≡ (marks t).done → slice_get (body_of test t) place ≡ Some a
    → is_early a asked marks (deed_node t place) ≡ true → IsWaiting test asked marks t
waits_early test asked marks t place a here at early =
    let P : ℕ → Type 0 = λ z. slice_get (body_of test t) z ≡ Some a in
    let Q : ℕ → Type 0 = λ z. is_early a asked marks (deed_node t z) ≡ true in
    record { action = a; stands = subst P here at; why = inr (subst Q here early) }

pub waits_barred : (test : LitmusTest) (asked : List Asked) (ms : List Progress) (t place oldest : ℕ) (own : Progress)
    (a : Instr) → place ≡ (marks_of ms t).done → slice_get (body_of test t) place ≡ Some a → is_barrier a ≡ true
    → mark_of own ≡ marks_of ms t → IsOldest test t own.drained own.done oldest → IsWaiting test asked (marks_of ms) t
waits_barred test asked ms t place oldest own a here at bars same o =
    let P : ℕ → Type 0 = λ z. slice_get (body_of test t) z ≡ Some a in
    record { action = a; stands = subst P here at; why = inl (bars, (oldest, oldest_own test ms t oldest own same o)) }

pub push_now : (checked : CheckedTest) (c : ℕ) (course : Course) (t place loc written : ℕ) → IsCourse checked c course
    → t < length checked.test.bodies → place ≡ (marks_of course.threads.items t).done
    → slice_get (body_of checked.test t) place ≡ Some (Store loc written)
    → IsNextIn checked c course (record { thread = t; iteration = 0; place = place; kind = Push })
push_now checked c course t place loc written st below here at =
    let P : ℕ → Type 0 = λ z. slice_get (body_of checked.test t) z ≡ Some (Store loc written) in
    let Q : ℕ → Type 0 = λ z. IsNextIn checked c course (record { thread = t; iteration = 0; place = z; kind = Push })
    in
    subst Q (sym here) (next_push checked.test (kinds_in checked c) (marks_of course.threads.items)
    (map event_of course.events.items) t loc written st.stage below (subst P here at))

pub read_now : (checked : CheckedTest) (table : Table) (c : ℕ) (asked : List Asked) (course : Course) (t place : ℕ)
    (reg : Reg) (loc v : ℕ) → IsCase checked table c asked → IsCourse checked c course → t < length checked.test.bodies
    → place ≡ (marks_of course.threads.items t).done → slice_get (body_of checked.test t) place ≡ Some (Load reg loc)
    → is_early (Load reg loc) asked (marks_of course.threads.items) (deed_node t place) ≡ false
    → v ≡ readable (after_all checked.test initial (map event_of course.events.items)) t
    (site_location checked.test (record { thread = t; place = place }))
    → IsNextIn checked c course (record { thread = t; iteration = 0; place = place; kind = Read v })
read_now checked table c asked course t place reg loc v case st below here at free value =
    let marks = marks_of course.threads.items in
    let events = map event_of course.events.items in
    let P : ℕ → Type 0 = λ z. slice_get (body_of checked.test t) z ≡ Some (Load reg loc) in
    let F : ℕ → Type 0 = λ z. is_early (Load reg loc) asked marks (deed_node t z) ≡ false in
    let V : ℕ → Type 0 = λ z. v ≡ readable (after_all checked.test initial events) t
    (site_location checked.test (record { thread = t; place = z })) in
    let Q : ℕ → Type 0 = λ z. IsNextIn checked c course (record { thread = t; iteration = 0; place = z; kind = Read v })
    in
    let f = free_of checked table c asked marks (deed_node t (marks t).done) (Load reg loc) case (subst F here free) refl in
    subst Q (sym here) (next_read checked.test (kinds_in checked c) marks events t reg loc v st.stage
    (orders_of checked c case.within case.ordered) below (subst P here at) f.0 (subst V here value))

pub fence_now : (checked : CheckedTest) (c : ℕ) (course : Course) (t place : ℕ) (own : Progress)
    → IsCourse checked c course → t < length checked.test.bodies → place ≡ (marks_of course.threads.items t).done
    → slice_get (body_of checked.test t) place ≡ Some Fence → mark_of own ≡ marks_of course.threads.items t
    → StoresNone checked.test t own.drained own.done
    → IsNextIn checked c course (record { thread = t; iteration = 0; place = place; kind = Fenced })
fence_now checked c course t place own st below here at same none =
    let marks = marks_of course.threads.items in
    let P : ℕ → Type 0 = λ z. slice_get (body_of checked.test t) z ≡ Some Fence in
    let Q : ℕ → Type 0 = λ z. IsNextIn checked c course (record { thread = t; iteration = 0; place = z; kind = Fenced })
    in
    subst Q (sym here) (next_fence checked.test (kinds_in checked c) marks
    (map event_of course.events.items) t st.stage below (subst P here at)
    (none_queue checked.test marks t (none_own checked.test course.threads.items t own same none)))

pub exchange_now : (checked : CheckedTest) (table : Table) (c : ℕ) (asked : List Asked) (course : Course)
    (t place loc written : ℕ) (reg : Reg) (v : ℕ) (own : Progress) → IsCase checked table c asked
    → IsCourse checked c course → t < length checked.test.bodies
    → place ≡ (marks_of course.threads.items t).done
    → slice_get (body_of checked.test t) place ≡ Some (Exchange loc written reg)
    → is_early (Exchange loc written reg) asked (marks_of course.threads.items) (deed_node t place) ≡ false
    → mark_of own ≡ marks_of course.threads.items t → StoresNone checked.test t own.drained own.done
    → v ≡ (after_all checked.test initial (map event_of course.events.items)).memory
    (site_location checked.test (record { thread = t; place = place }))
    → IsNextIn checked c course (record { thread = t; iteration = 0; place = place; kind = Exchanged v })
exchange_now checked table c asked course t place loc written reg v own case st below here at free same none value =
    let marks = marks_of course.threads.items in
    let events = map event_of course.events.items in
    let a : Instr = Exchange loc written reg in
    let P : ℕ → Type 0 = λ z. slice_get (body_of checked.test t) z ≡ Some a in
    let F : ℕ → Type 0 = λ z. is_early a asked marks (deed_node t z) ≡ false in
    let V : ℕ → Type 0 = λ z. v ≡ (after_all checked.test initial events).memory
    (site_location checked.test (record { thread = t; place = z })) in
    let Q : ℕ → Type 0 = λ z. IsNextIn checked c course (record {
      thread = t;
      iteration = 0;
      place = z;
      kind = Exchanged v;
    }) in
    let f = free_of checked table c asked marks (deed_node t (marks t).done) a case (subst F here free) refl in
    subst Q (sym here) (next_exchange checked.test (kinds_in checked c) marks events t loc written reg v st.stage
    (orders_of checked c case.within case.ordered) below (subst P here at)
    (none_queue checked.test marks t (none_own checked.test course.threads.items t own same none)) f.0 (f.1 refl)
    (subst V here value))

-- what a read finds, by the buffer's and the memory's word
pub word_found : (checked : CheckedTest) (c : ℕ) (course : Course) (t x word v : ℕ) (own : Progress)
    → IsCourse checked c course → mark_of own ≡ marks_of course.threads.items t → x < 16
    → word ≡ get_or course.memory x 0
    → v ≡ unwrap_or (newest x (map (slot_write checked.test t) (waiting
    (loop_of checked.test 1 t) own.drained own.done))) word
    → v ≡ readable (after_all checked.test initial (map event_of course.events.items)) t x
word_found checked c course t x word v own st same low w value =
    let s = after_all checked.test initial (map event_of course.events.items) in
    let M : Mark → Type 0 = λ m. s.buffer t ≡ map (slot_write checked.test t)
    (waiting (loop_of checked.test 1 t) m.drained m.done) in
    let b = subst M (sym same) (st.stage.stands.own t).buffer in
    value ∙ (λ i. unwrap_or (newest x (sym b i)) ((w ∙ st.memory x low) i))

-- What waits.

pub none_more : (test : LitmusTest) (t d place : ℕ) (a : Instr) → StoresNone test t d place
    → slice_get (body_of test t) place ≡ Some a → is_storing a ≡ false → StoresNone test t d (place + 1)
none_more test t d place a none at k i b l m bt = go (cases_eq i place)
  where
    go : (i ≡ place) ⊎ (i ≡ place → ⊥) → is_storing b ≡ false
    go (inl e) =
        let P : ℕ → Type 0 = λ z. slice_get (body_of test t) z ≡ Some b in
        let same : b ≡ a = some_is b a (sym (subst P e bt) ∙ at) in
        ap is_storing same ∙ k
    go (inr ne) = none i b l (omega arith) bt

pub newest_none : (test : LitmusTest) (t d loc : ℕ)
    → None ≡ newest loc (map (slot_write test t) (waiting (loop_of test 1 t) d d))
newest_none test t d loc =
    sym (ap (λ ws. newest loc (map (slot_write test t) ws)) (waiting_none (loop_of test 1 t) d d (omega arith)))

newest_by : (test : LitmusTest) (t d place loc : ℕ) (a : Instr) (b : Bool) → is_storing a ≡ b
    → slice_get (body_of test t) place ≡ Some a
    → newest loc (map (slot_write test t) (waiting (loop_of test 1 t) d place
    ++ cond b (record { iteration = 0; place = place; action = a } ∷ []) []))
    ≡ cond (is_store_to loc a) (Some (value_of test (site_location test (record { thread = t; place = place }))
    (record { thread = t; place = place }) 0)) (newest loc (map (slot_write test t)
    (waiting (loop_of test 1 t) d place)))
newest_by test t d place loc a false k at =
    rw (append-nil (waiting (loop_of test 1 t) d place), not_store_to loc a k) refl
newest_by test t d place loc a true k at =
    let ws = waiting (loop_of test 1 t) d place in
    let s : Slot = record { iteration = 0; place = place; action = a } in
    let here : ((slot_write test t s).location == loc)
    ≡ is_store_to loc a = ap (λ o. unwrap_or (option_and_then location_of o) 0 == loc) at ∙ sym
    (stores_at a loc k) in
    ap (newest loc) (map-append (slot_write test t) ws (s ∷ []))
    ∙ newest_push loc (map (slot_write test t) ws) (slot_write test t s)
    ∙ ap (λ b. cond b (Some (slot_write test t s).value) (newest loc (map (slot_write test t) ws))) here

-- one place more
pub newest_more : (test : LitmusTest) (t d place loc : ℕ) (a : Instr) → d ≤ place
    → slice_get (body_of test t) place ≡ Some a
    → newest loc (map (slot_write test t) (waiting (loop_of test 1 t) d (place + 1)))
    ≡ cond (is_store_to loc a) (Some (value_of test (site_location test (record { thread = t; place = place }))
    (record { thread = t; place = place }) 0)) (newest loc (map (slot_write test t)
    (waiting (loop_of test 1 t) d place)))
newest_more test t d place loc a l at =
    ap (λ ws. newest loc (map (slot_write test t) ws)) (waiting_push (loop_of test 1 t) d place
    (record { iteration = 0; place = place; action = a }) l (loop_slot test t place a at))
    ∙ newest_by test t d place loc a (is_storing a) refl at

-- the value of the store there
pub newest_value : (test : LitmusTest) (table : Table) (t place loc : ℕ) (a : Instr) → AreOf test table
    → slice_get (body_of test t) place ≡ Some a → is_store_to loc a ≡ true
    → value_at table t place 0 ≡ value_of test (site_location test (record { thread = t; place = place }))
    (record { thread = t; place = place }) 0
newest_value test table t place loc a same at to =
    value_written test table (record { thread = t; iteration = 0; place = place; kind = Push }) same
    (record { action = a; stands = at; storing = store_stores loc a to })

pub newest_stored : (test : LitmusTest) (table : Table) (t d place loc v : ℕ) (a : Instr) (found : Option ℕ)
    → AreOf test table → d ≤ place → slice_get (body_of test t) place ≡ Some a → is_store_to loc a ≡ true
    → found ≡ Some v → v ≡ value_at table t place 0
    → found ≡ newest loc (map (slot_write test t) (waiting (loop_of test 1 t) d (place + 1)))
newest_stored test table t d place loc v a found same l at to is value =
    let w = value_of test (site_location test (record { thread = t; place = place }))
    (record { thread = t; place = place }) 0 in
    let before = newest loc (map (slot_write test t) (waiting (loop_of test 1 t) d place)) in
    is ∙ ap (λ z. Some z) (value ∙ newest_value test table t place loc a same at to)
    ∙ sym (newest_more test t d place loc a l at ∙ ap (λ b. cond b (Some w) before) to)

pub newest_kept : (test : LitmusTest) (t d place loc : ℕ) (a : Instr) (found : Option ℕ) → d ≤ place
    → slice_get (body_of test t) place ≡ Some a → is_store_to loc a ≡ false
    → found ≡ newest loc (map (slot_write test t) (waiting (loop_of test 1 t) d place))
    → found ≡ newest loc (map (slot_write test t) (waiting (loop_of test 1 t) d (place + 1)))
newest_kept test t d place loc a found l at to is =
    let w = value_of test (site_location test (record { thread = t; place = place }))
    (record { thread = t; place = place }) 0 in
    let before = newest loc (map (slot_write test t) (waiting (loop_of test 1 t) d place)) in
    is ∙ sym (newest_more test t d place loc a l at ∙ ap (λ b. cond b (Some w) before) to)

-- one thread more
pub more_held : (P : ℕ → Type 0) (k : ℕ) → ((u : ℕ) → u < k → P u) → P k → (u : ℕ) → u < k + 1 → P u
more_held P k f p u l = go (cases_eq k u)
  where
    go : (k ≡ u) ⊎ (k ≡ u → ⊥) → P u
    go (inl e) = subst P e p
    go (inr ne) = f u (omega arith)

-- The end.

pub held_shows : (checked : CheckedTest) (table : Table) (c : ℕ) (asked : List Asked) (course : Course)
    → IsCase checked table c asked → HasNoCycle checked c → IsCourse checked c course
    → ((t : ℕ) → t < length checked.test.bodies → IsHeld checked.test asked (marks_of course.threads.items) t)
    → Shows checked c (map event_of course.events.items)
held_shows checked table c asked course case none st held =
    let marks = marks_of course.threads.items in
    let events = map event_of course.events.items in
    stage_shows checked c marks events case.within case.ordered none st.stage
    (λ t l. held_stuck checked.test (kinds_in checked c) asked marks events t st.stage
    (orders_of checked c case.within case.ordered) case.atoms (held t l))
