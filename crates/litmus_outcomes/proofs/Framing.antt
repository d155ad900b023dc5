-- Where the atoms of a conjunction hold within a frame, the run cut down to it is an execution that has the outcome.
use Rattle.std.proofs.Common.{◌≡◌, ℕ, zero, suc, ◌+◌, ◌*◌, ◌<◌, ◌≤◌, ◌==◌, Bool, true, false, cond, not, ◌&&◌, Option, None, Some, Result, Ok, Err, List, [], ◌∷◌, ◌++◌, length, filter, nat_lt, slice_get, refl, sym, ap, ◌∙◌, arith, subst, option_and_then, inl, inr, ◌⊎◌, append-nil, eq-eqb, ne_eqb, ltb-true}
use Rattle.std.proofs.lemmas.Bool.{and_from, and_left, and_parts, cases_lt, eqb-true, not_from_false}
use Rattle.std.proofs.lemmas.List.Elements.{All-from_recursion, filter-append, recursion_from_All}
use Rattle.std.specs.List.{AllZip}
use Rattle.x86_subset.specs.Conjunctions.{conjunction_of}
use Rattle.x86_subset.specs.Test.{LitmusTest, HoldsReads, body_of, column_of}
use Rattle.x86_subset.specs.declared.instr.Instr.{Instr}
use Rattle.x86_subset.specs.declared.test.Atom.{Atom}
use Rattle.x86_subset.proofs.Conjoined.{zip_of}
use Rattle.tso_machine.specs.Event.{Event, event_location, is_drain, site_of}
use Rattle.tso_machine.specs.Laws.{NamesSource}
use Rattle.tso_machine.specs.Log.{value_read}
use Rattle.tso_machine.specs.Machine.{initial}
use Rattle.tso_machine.specs.Part.{Fills, Slot, slots_of_body, slots_of_loop}
use Rattle.tso_machine.specs.Run.{IsRunOf}
use Rattle.seq_conv.specs.Sequence.{action_at, rank_of, store_count, store_of, stores_of, value_of}
use Rattle.seq_conv.specs.Writers.{stand_in}
use Rattle.seq_conv.specs.declared.site.Origin.{Origin}
use Rattle.seq_conv.specs.declared.site.Site.{Site}
use Rattle.perp_base.proofs.Lists.{Among, each_weaker, filter_filter, filter_none, zip_split, zip_with_each}
use Rattle.tso_machine.proofs.Parts.{IsLoopSlot, deeds, loop_slots}
use Rattle.tso_machine.proofs.ReadEvents.{read_at}
use Rattle.profile_check.specs.Kinds.{kind_of, kind_of_value, kind_of_zero, stand_in_one_other, stores_written, written_of}
use Rattle.profile_check.specs.declared.kind.AtomKind.{AtomKind}
use Rattle.profile_check.specs.declared.kind.AtomKind.TheVariants.{Rf, Fr, Exact}
use Rattle.profile_check.specs.declared.kind.ProfileKind.{ProfileKind}
use Rattle.profile_check.specs.declared.kind.ProfileKind.TheVariants.{OwnWriter, SeveralWriters, ZeroStored}
use Rattle.profile_check.proofs.KindLemmas.{IsReader, Tells, kind_tells, named_by}
use Rattle.outcome_conv.specs.Conds.{logged_in}
use Rattle.outcome_conv.specs.Hits.{IsFrame}
use Rattle.outcome_conv.specs.Holds.{iteration_in, location_read, reading_site, source_at}
use Rattle.outcome_conv.proofs.Agree.{agrees_by, frame_below, location_is, logged_names, thread_below}
use Rattle.verdict.specs.Edges.{kinds_in}
use Rattle.verdict.proofs.Forward.{each_all}
use Rattle.litmus_outcomes.specs.Laws.{FramesWithinAreOutcomes}
use Rattle.litmus_outcomes.specs.Machine.{Action, Step, start}
use Rattle.litmus_outcomes.specs.Outcome.{Does, IsExecution, done_by, final_value, value_read_by}
use Rattle.litmus_outcomes.specs.Within.{holds_within, is_exactly}
use Rattle.litmus_outcomes.proofs.Atoms.{OneNamed, chosen_ok, final_is, named_stands, says, written_is}
use Rattle.litmus_outcomes.proofs.Possible.{each_back}
use Rattle.litmus_outcomes.proofs.Values.{at_front}
use Rattle.litmus_outcomes.proofs.Images.{at_place_of, no_body}
use Rattle.litmus_outcomes.proofs.Framed.{Did, OneThread, all_known, cut_allowed, cut_did, cut_drained, cut_of, frame_deeds, in_frame, within_start}

-- ---- the slots of one iteration

body_same : (m q : ℕ) (body : List Instr)
    → filter (λ (s : Slot). s.iteration == m) (slots_of_body m q body) ≡ slots_of_body m q body
body_same m q [] = refl
body_same m q (a ∷ body) =
    rw (eq-eqb m m refl) (ap (λ l. record { iteration = m; place = q; action = a } ∷ l) (body_same m (q + 1) body))

body_other : (m k q : ℕ) (body : List Instr) → (k ≡ m → ⊥)
    → filter (λ (s : Slot). s.iteration == m) (slots_of_body k q body) ≡ []
body_other m k q [] ne = refl
body_other m k q (a ∷ body) ne = rw (ne_eqb k m ne) (body_other m k (q + 1) body ne)

loop_other : (m n : ℕ) (body : List Instr) → n ≤ m
    → filter (λ (s : Slot). s.iteration == m) (slots_of_loop body n) ≡ []
loop_other m zero body l = refl
loop_other m (suc n) body l =
    filter-append (λ (s : Slot). s.iteration == m) (slots_of_loop body n) (slots_of_body n 0 body)
    ∙ (λ i. loop_other m n body (omega arith) i ++ body_other m n 0 body (λ e. omega arith) i)

loop_same : (m n : ℕ) (body : List Instr) → m < n
    → filter (λ (s : Slot). s.iteration == m) (slots_of_loop body n) ≡ slots_of_body m 0 body
loop_same m zero body l = absurd (omega arith)
loop_same m (suc n) body l = go (loop_same m n body) (cases_lt m n)
  where
    go : (m < n → filter (λ (s : Slot). s.iteration == m) (slots_of_loop body n) ≡ slots_of_body m 0 body)
        → (m < n) ⊎ (n ≤ m)
        → filter (λ (s : Slot). s.iteration == m) (slots_of_loop body n ++ slots_of_body n 0 body)
        ≡ slots_of_body m 0 body
    go rec (inl k) =
        filter-append (λ (s : Slot). s.iteration == m) (slots_of_loop body n) (slots_of_body n 0 body)
        ∙ (λ i. rec k i ++ body_other m n 0 body (λ e. omega arith) i)
        ∙ append-nil (slots_of_body m 0 body)
    go rec (inr k) =
        let e : n ≡ m = omega arith in
        filter-append (λ (s : Slot). s.iteration == m) (slots_of_loop body n) (slots_of_body n 0 body)
        ∙ (λ i. loop_other m n body k i ++ filter (λ (s : Slot). s.iteration == m) (slots_of_body (e i) 0 body))
        ∙ body_same m 0 body

zip_filter_step : {A B : Type 0} (R : A → B → Type 0) (x : A) (y : B) (xs : List A) (ys : List B) (b c : Bool) → b ≡ c
    → R x y → AllZip R xs ys → AllZip R (cond b (x ∷ xs) xs) (cond c (y ∷ ys) ys)
zip_filter_step R x y xs ys true true e h k = (h, k)
zip_filter_step R x y xs ys false false e h k = k
zip_filter_step R x y xs ys true false e h k = cc
zip_filter_step R x y xs ys false true e h k = cc

zip_filter : {A B : Type 0} (R : A → B → Type 0) (p : A → Bool) (q : B → Bool)
    → ((x : A) (y : B) → R x y → p x ≡ q y) → (xs : List A) (ys : List B) → AllZip R xs ys
    → AllZip R (filter p xs) (filter q ys)
zip_filter R p q f [] [] h = tt
zip_filter R p q f [] (y ∷ ys) h = absurd h
zip_filter R p q f (x ∷ xs) [] h = absurd h
zip_filter R p q f (x ∷ xs) (y ∷ ys) h =
    zip_filter_step R x y (filter p xs) (filter q ys) (p x) (q y) (f x y h.0) h.0 (zip_filter R p q f xs ys h.1)

-- ---- what a thread does in its iteration

abbrev FillsIn : LitmusTest → ℕ → ℕ → Slot → Event → Type 0
FillsIn test n t slot e = Fills t slot e × IsLoopSlot (body_of test t) n slot

frame_fills : (test : LitmusTest) (n : ℕ) (f : ℕ → ℕ) (run : List Event) (t : ℕ) → IsRunOf test n run
    → t < length test.bodies → f t < n
    → AllZip (FillsIn test n t) (slots_of_body (f t) 0 (body_of test t)) (frame_deeds f t run)
frame_fills test n f run t r l early =
    let body = body_of test t in
    let zip = zip_filter (FillsIn test n t) (λ (s : Slot). s.iteration == f t) (in_frame f)
    (λ s e k. (λ i. sym k.0.iteration i == f (sym k.0.thread i))) (slots_of_loop body n) (deeds t run)
    (zip_with_each (Fills t) (IsLoopSlot body n) (slots_of_loop body n) (deeds t run) (r.performs t l)
    (loop_slots body n)) in
    let same : filter (in_frame f) (deeds t run) ≡ frame_deeds f t run =
    ap (filter (in_frame f)) (filter_filter (λ (e : Event). not (is_drain e)) (λ (e : Event). e.thread == t) run)
    ∙ filter_filter (in_frame f) (λ (e : Event). (e.thread == t) && not (is_drain e)) run in
    let P : List Slot → Type 0 = λ z. AllZip (FillsIn test n t) z (frame_deeds f t run) in
    let Q : List Event → Type 0 = λ z. AllZip (FillsIn test n t) (filter (λ (s : Slot). s.iteration == f t)
    (slots_of_loop body n)) z in
    subst P (loop_same (f t) n body early) (subst Q same zip)

stands_in : (test : LitmusTest) (n t : ℕ) (slot : Slot) (e : Event) → FillsIn test n t slot e
    → action_at test (site_of e) ≡ Some slot.action
stands_in test n t slot e k = let f = k.0 in rw (f.thread, f.place) (k.1.1.stands)

zip_does : (test : LitmusTest) (n : ℕ) (f : ℕ → ℕ) (t m q : ℕ) (body : List Instr) (es : List Event)
    (done : List Action) → AllZip (FillsIn test n t) (slots_of_body m q body) es → AllZip (Did test f) es done
    → AllZip Does body done
zip_does test n f t m q [] [] [] h k = tt
zip_does test n f t m q [] [] (a ∷ done) h k = absurd k
zip_does test n f t m q [] (e ∷ es) done h k = absurd h
zip_does test n f t m q (i ∷ body) [] done h k = absurd h
zip_does test n f t m q (i ∷ body) (e ∷ es) [] h k = absurd k
zip_does test n f t m q (i ∷ body) (e ∷ es) (a ∷ done) h k =
    let slot : Slot = record { iteration = m; place = q; action = i } in (
      k.0.does i (stands_in test n t slot e h.0) h.0.0.kind,
      zip_does test n f t m (q + 1) body es done h.1 k.1,
    )

zip_none : (test : LitmusTest) (f : ℕ → ℕ) (body : List Instr) (es : List Event) (done : List Action) → body ≡ []
    → es ≡ [] → AllZip (Did test f) es done → AllZip Does body done
zip_none test f [] [] [] e k h = tt
zip_none test f [] [] (a ∷ done) e k h = absurd h
zip_none test f [] (d ∷ es) done e k h = cc
zip_none test f (i ∷ body) es done e k h = cc

none_past : (test : LitmusTest) (f : ℕ → ℕ) (n t : ℕ) (run : List Event) → IsRunOf test n run
    → length test.bodies ≤ t → frame_deeds f t run ≡ []
none_past test f n t run r l =
    filter_none (λ (e : Event). ((e.thread == t) && not (is_drain e)) && in_frame f e) run
    (each_weaker (λ (e : Event). e.thread < length test.bodies)
    (λ (e : Event). (((e.thread == t) && not (is_drain e)) && in_frame f e) ≡ false)
    (λ e k. and_left ((e.thread == t) && not (is_drain e)) (in_frame f e)
    (and_left (e.thread == t) (not (is_drain e)) (ne_eqb e.thread t (λ s. omega arith)))) run
    (recursion_from_All (λ (e : Event). e.thread < length test.bodies) run r.threads))

abbrev cut_run : LitmusTest → (ℕ → ℕ) → List Event → List Step
cut_run test f run = cut_of test f start run

cut_is_execution : (test : LitmusTest) (n : ℕ) (f : ℕ → ℕ) (run : List Event) → IsRunOf test n run
    → ((t : ℕ) → t < length test.bodies → f t < n) → IsExecution test (cut_run test f run)
cut_is_execution test n f run r early =
    let g = all_known test n run r in
    record {
      allowed = cut_allowed test f initial run g r.legal.steps start (within_start test f);
      drained = cut_drained test f initial run g r.legal.steps r.legal.drained start (within_start test f);
      in_order = λ t. go t (cut_did test f t initial run g r.legal.steps start (within_start test f))
          (cases_lt t (length test.bodies));
    }
  where
    go : (t : ℕ) → AllZip (Did test f) (frame_deeds f t run) (done_by t (cut_run test f run))
        → (t < length test.bodies) ⊎ (length test.bodies ≤ t)
        → AllZip Does (body_of test t) (done_by t (cut_run test f run))
    go t k (inl l) =
        zip_does test n f t (f t) 0 (body_of test t) (frame_deeds f t run) (done_by t (cut_run test f run))
        (frame_fills test n f run t r l (early t l)) k
    go t k (inr l) =
        zip_none test f (body_of test t) (frame_deeds f t run) (done_by t (cut_run test f run)) (no_body test t l)
        (none_past test f n t run r l) k

-- ---- what the instruction at a place read

zip_flip : {A B : Type 0} (R : A → B → Type 0) (xs : List A) (ys : List B) → AllZip R xs ys
    → AllZip (λ y x. R x y) ys xs
zip_flip R [] [] h = tt
zip_flip R [] (y ∷ ys) h = absurd h
zip_flip R (x ∷ xs) [] h = absurd h
zip_flip R (x ∷ xs) (y ∷ ys) h = (h.0, zip_flip R xs ys h.1)

zip_long : {A B : Type 0} (R : A → B → Type 0) (xs : List A) (ys : List B) → AllZip R xs ys → length xs ≡ length ys
zip_long R [] [] h = refl
zip_long R [] (y ∷ ys) h = absurd h
zip_long R (x ∷ xs) [] h = absurd h
zip_long R (x ∷ xs) (y ∷ ys) h = ap suc (zip_long R xs ys h.1)

place_is : (m q : ℕ) (body : List Instr) (front rest : List Slot) (s : Slot)
    → slots_of_body m q body ≡ front ++ s ∷ rest → s.place ≡ q + length front
place_is m q [] [] rest s e = cc
place_is m q [] (r ∷ front) rest s e = cc
place_is m q (a ∷ body) [] rest s e =
    let k : record { iteration = m; place = q; action = a } ≡ s = cc in
    let p : q ≡ s.place = ap (λ (z : Slot). z.place) k in
    omega arith
place_is m q (a ∷ body) (r ∷ front) rest s e =
    let k : slots_of_body m (q + 1) body ≡ front ++ s ∷ rest = cc in
    let p : s.place ≡ q + 1 + length front = place_is m (q + 1) body front rest s k in
    omega arith

-- the action of the cut for a reading instruction
record Taken (test : LitmusTest) (n : ℕ) (f : ℕ → ℕ) (run : List Event) (t p : ℕ) (instr : Instr) : Type 0 where
  event : Event
  action : Action
  at : slice_get (done_by t (cut_run test f run)) p ≡ Some action
  did : Did test f event action
  thread : event.thread ≡ t
  location : event_location test event ≡ named_by instr
  reads : value_read event ≡ Some (logged_in test run t (column_of test t p) (f t))

taken : (test : LitmusTest) (n : ℕ) (f : ℕ → ℕ) (run : List Event) (t p : ℕ) (instr : Instr) → IsRunOf test n run
    → t < length test.bodies → f t < n → IsReader test t (column_of test t p) p instr → Taken test n f run t p instr
taken test n f run t p instr r l early a =
    let e = read_at test n run t p (f t) instr (r.performs t l) early a.stands a.reading in
    let q : Event → Bool = λ d. ((d.thread == t) && not (is_drain d)) && in_frame f d in
    let inside : in_frame f e.event ≡ true = eq-eqb e.event.iteration (f e.event.thread)
    (e.iteration ∙ ap f (sym e.thread)) in
    let passes : q e.event ≡ true = and_from ((e.event.thread == t) && not (is_drain e.event)) (in_frame f e.event)
    (and_from (e.event.thread == t) (not (is_drain e.event)) (eq-eqb e.event.thread t e.thread)
    (not_from_false (is_drain e.event) e.no_drain)) inside in
    let front = filter q e.before in
    let rest = filter q e.after in
    let whole : frame_deeds f t run ≡ front ++ e.event ∷ rest = ap (filter q) e.whole
    ∙ filter-append q e.before (e.event ∷ e.after)
    ∙ ap (λ b. front ++ cond b (e.event ∷ rest) rest) passes in
    let body = body_of test t in
    let F : List Event → Type 0 = λ z. AllZip (FillsIn test n t) (slots_of_body (f t) 0 body) z in
    let slots = zip_split (λ (d : Event) (s : Slot). FillsIn test n t s d) front e.event rest
    (slots_of_body (f t) 0 body) (zip_flip (FillsIn test n t) (slots_of_body (f t) 0 body)
    (front ++ e.event ∷ rest) (subst F whole (frame_fills test n f run t r l early))) in
    let done = done_by t (cut_run test f run) in
    let D : List Event → Type 0 = λ z. AllZip (Did test f) z done in
    let does = zip_split (Did test f) front e.event rest done
    (subst D whole (cut_did test f t initial run (all_known test n run r) r.legal.steps start (within_start test f))) in
    let i : slots.here.place ≡ 0 + length slots.before = place_is (f t) 0 body slots.before slots.after slots.here
    slots.whole in
    let j : length front ≡ length slots.before = zip_long (λ (d : Event) (s : Slot). FillsIn test n t s d) front
    slots.before slots.in_step_before in
    let k : length front ≡ length does.before = zip_long (Did test f) front does.before does.in_step_before in
    let g : e.event.place ≡ slots.here.place = slots.in_step.0.place in
    let h : e.event.place ≡ p = e.place in
    let long : p ≡ length does.before = omega arith in
    record {
      event = e.event;
      action = does.here;
      at = (λ z. slice_get (does.whole z) (long z)) ∙ at_front does.before does.here does.after;
      did = does.in_step;
      thread = e.thread;
      location = at_place_of test e.event instr (rw (e.thread, e.place) (a.stands));
      reads = e.reads ∙ ap (λ z. Some z) (sym e.logged);
    }

-- ---- atoms

pub exactly_is : (test : LitmusTest) (n x v m : ℕ) (s : Site) (source : Option Origin) → NamesSource test n x v source
    → is_exactly s m source ≡ true → v ≡ value_of test x s m
exactly_is test n x v m s None h k = cc
exactly_is test n x v m s (Some o) h k =
    let p = and_parts ((o.thread == s.thread) && (o.place == s.place)) (o.iteration == m) k in
    let w = and_parts (o.thread == s.thread) (o.place == s.place) p.0 in
    let t : o.thread ≡ s.thread = eqb-true o.thread s.thread w.0 in
    let g : o.place ≡ s.place = eqb-true o.place s.place w.1 in
    let same : store_of o ≡ s = λ i. record { thread = t i; place = g i } in
    h.value ∙ (λ i. value_of test x (same i) (eqb-true o.iteration m p.1 i))

abbrev HoldsWithin : LitmusTest → List Event → List ℕ → AtomKind → Type 0
HoldsWithin test run frame kind = holds_within test run frame kind ≡ true

record InFrame (test : LitmusTest) (n : ℕ) (run : List Event) (frame : List ℕ) : Type 0 where
  is_run : IsRunOf test n run
  is_frame : IsFrame test n frame

below_in : (test : LitmusTest) (n : ℕ) (run : List Event) (frame : List ℕ) → InFrame test n run frame → (t : ℕ)
    → t < length test.bodies → iteration_in frame t < n
below_in test n run frame h t l =
    frame_below n frame t (let e = h.is_frame.one_each in let k : t < length frame = omega arith in k)
    h.is_frame.below

rf_within : (test : LitmusTest) (n : ℕ) (run : List Event) (frame : List ℕ) (t p : ℕ) (instr : Instr) (s : Site)
    → InFrame test n run frame → IsReader test t (column_of test t p) p instr
    → HoldsWithin test run frame (Rf t (column_of test t p) s.thread s.place)
    → logged_in test run t (column_of test t p) (iteration_in frame t)
    ≡ value_of test (named_by instr) s (iteration_in frame s.thread)
rf_within test n run frame t p instr s h a holds =
    let column = column_of test t p in
    let l = thread_below test t p instr a.stands in
    let i = iteration_in frame t in
    let P : ℕ → Type 0 = λ z. NamesSource test n z (logged_in test run t column i)
    (source_at test (reading_site test t column) i run) in
    exactly_is test n (named_by instr) (logged_in test run t column i) (iteration_in frame s.thread) s
    (source_at test (reading_site test t column) i run)
    (subst P (location_is test t column p instr a)
    (logged_names test n run t column p i instr h.is_run (below_in test n run frame h t l) l a)) holds

exact_within : (test : LitmusTest) (n : ℕ) (run : List Event) (frame : List ℕ) (t p : ℕ) (instr : Instr) (s : Site)
    → InFrame test n run frame → IsReader test t (column_of test t p) p instr
    → Tells test (Exact t (column_of test t p) s.thread s.place)
    → HoldsWithin test run frame (Exact t (column_of test t p) s.thread s.place)
    → logged_in test run t (column_of test t p) (iteration_in frame t)
    ≡ value_of test (named_by instr) s (iteration_in frame s.thread)
exact_within test n run frame t p instr s h a tells holds =
    let column = column_of test t p in
    let kind = Exact t column s.thread s.place in
    let x = location_read test t column in
    let v = logged_in test run t column (iteration_in frame t) in
    let e = agrees_by test n run frame kind h.is_run h.is_frame tells ∙ holds in
    eqb-true v (store_count test x * iteration_in frame s.thread + rank_of test x s) e
    ∙ ap (λ z. value_of test z s (iteration_in frame s.thread)) (location_is test t column p instr a)

fr_within : (test : LitmusTest) (n : ℕ) (run : List Event) (frame : List ℕ) (t p w : ℕ) (instr : Instr)
    → InFrame test n run frame → IsReader test t (column_of test t p) p instr
    → Tells test (Fr t (column_of test t p) w) → HoldsWithin test run frame (Fr t (column_of test t p) w)
    → logged_in test run t (column_of test t p) (iteration_in frame t)
    ≤ store_count test (named_by instr) * iteration_in frame w
fr_within test n run frame t p w instr h a tells holds =
    let column = column_of test t p in
    let kind = Fr t column w in
    let v = logged_in test run t column (iteration_in frame t) in
    let e : nat_lt v (store_count test (location_read test t column) * iteration_in frame w + 1) ≡ true =
    agrees_by test n run frame kind h.is_run h.is_frame tells ∙ holds in
    let P : ℕ → Type 0 = λ z. nat_lt v (store_count test z * iteration_in frame w + 1) ≡ true in
    let l : v < store_count test (named_by instr) * iteration_in frame w + 1 =
    ltb-true v (store_count test (named_by instr) * iteration_in frame w + 1)
    (subst P (location_is test t column p instr a) e) in
    omega arith

-- what is read in the cut

cut_value : (test : LitmusTest) (n : ℕ) (f : ℕ → ℕ) (run : List Event) (t p u : ℕ) (instr : Instr)
    → (k : Taken test n f run t p instr) → value_read_by k.action ≡ Some u
    → option_and_then value_read_by (slice_get (done_by t (cut_run test f run)) p) ≡ Some u
cut_value test n f run t p u instr k h = ap (option_and_then value_read_by) k.at ∙ h

cut_named : (test : LitmusTest) (n : ℕ) (f : ℕ → ℕ) (run : List Event) (t p v : ℕ) (instr : Instr) (s : Site)
    → Taken test n f run t p instr → OneNamed test (named_by instr) v s
    → logged_in test run t (column_of test t p) (f t) ≡ value_of test (named_by instr) s (f s.thread)
    → option_and_then value_read_by (slice_get (done_by t (cut_run test f run)) p) ≡ Some v
cut_named test n f run t p v instr s k one e =
    let m = named_stands test (named_by instr) v s one in
    let P : ℕ → Type 0 = λ z. Among s (stores_of test z) in
    cut_value test n f run t p v instr k
    (k.did.named (logged_in test run t (column_of test t p) (f t)) s k.reads (subst P (sym k.location) m.0)
    (e ∙ ap (λ z. value_of test z s (f s.thread)) (sym k.location))
    ∙ ap (λ z. Some z) (written_is v (option_and_then written_of (action_at test s)) m.1))

cut_zero : (test : LitmusTest) (n : ℕ) (f : ℕ → ℕ) (run : List Event) (t p w : ℕ) (instr : Instr)
    → Taken test n f run t p instr → OneThread test (named_by instr) w → (t ≡ w → ⊥)
    → logged_in test run t (column_of test t p) (f t) ≤ store_count test (named_by instr) * f w
    → option_and_then value_read_by (slice_get (done_by t (cut_run test f run)) p) ≡ Some 0
cut_zero test n f run t p w instr k one ne low =
    let v = logged_in test run t (column_of test t p) (f t) in
    let P : ℕ → Type 0 = λ z. OneThread test z w in
    let Q : ℕ → Type 0 = λ z. v ≤ store_count test z * f w in
    cut_value test n f run t p 0 instr k
    (k.did.zero v w k.reads (subst P (sym k.location) one) (λ e. ne (sym k.thread ∙ e))
    (subst Q (sym k.location) low))

-- the value of an atom, by the kinds that it can have

value_within : (test : LitmusTest) (n : ℕ) (run : List Event) (frame : List ℕ) (t p v : ℕ) (instr : Instr)
    (kind : AtomKind) (ss : List Site) → InFrame test n run frame → IsReader test t (column_of test t p) p instr
    → Taken test n (iteration_in frame) run t p instr → Tells test kind → (v == 0) ≡ false
    → stores_written test (named_by instr) v ≡ ss
    → kind_of_value t (column_of test t p) (stores_of test (named_by instr)) ss ≡ Ok kind
    → HoldsWithin test run frame kind
    → option_and_then value_read_by (slice_get (done_by t (cut_run test (iteration_in frame) run)) p) ≡ Some v
value_within test n run frame t p v instr kind [] h a k tells z e q holds = cc
value_within test n run frame t p v instr kind (s ∷ other ∷ ss) h a k tells z e q holds = cc
value_within test n run frame t p v instr kind (s ∷ []) h a k tells z e q holds =
    go (stand_in_one_other t (stores_of test (named_by instr))) q
  where
    one : OneNamed test (named_by instr) v s
    one = record { not_zero = z; alone = e }

    go : (b : Bool) → cond {A = Result AtomKind ProfileKind} b (Ok (Exact t (column_of test t p) s.thread s.place))
        (Ok (Rf t (column_of test t p) s.thread s.place)) ≡ Ok kind
        → option_and_then value_read_by (slice_get (done_by t (cut_run test (iteration_in frame) run)) p) ≡ Some v
    go true m =
        let same : Exact t (column_of test t p) s.thread s.place ≡ kind = cc in
        cut_named test n (iteration_in frame) run t p v instr s k one
        (exact_within test n run frame t p instr s h a (subst (Tells test) (sym same) tells)
        (subst (HoldsWithin test run frame) (sym same) holds))
    go false m =
        let same : Rf t (column_of test t p) s.thread s.place ≡ kind = cc in
        cut_named test n (iteration_in frame) run t p v instr s k one
        (rf_within test n run frame t p instr s h a (subst (HoldsWithin test run frame) (sym same) holds))

zero_within : (test : LitmusTest) (n : ℕ) (run : List Event) (frame : List ℕ) (t p : ℕ) (instr : Instr)
    (kind : AtomKind) (ss : List Site) → InFrame test n run frame → IsReader test t (column_of test t p) p instr
    → Taken test n (iteration_in frame) run t p instr → Tells test kind
    → kind_of_zero t (column_of test t p) ss ≡ Ok kind → HoldsWithin test run frame kind
    → option_and_then value_read_by (slice_get (done_by t (cut_run test (iteration_in frame) run)) p) ≡ Some 0
zero_within test n run frame t p instr kind [] h a k tells q holds = cc
zero_within test n run frame t p instr kind (s ∷ ss) h a k tells q holds =
    let column = column_of test t p in
    let one = chosen_ok (not (stand_in s.thread ss)) SeveralWriters
    (cond (s.thread == t) (Err OwnWriter) (Ok (Fr t column s.thread))) kind q in
    let own = chosen_ok (s.thread == t) OwnWriter (Ok (Fr t column s.thread)) kind one.1 in
    let last : Ok (Fr t column s.thread) ≡ Ok kind = own.1 in
    let same : Fr t column s.thread ≡ kind = cc in
    let fr_tells : Tells test (Fr t column s.thread) = subst (Tells test) (sym same) tells in
    let loc : named_by fr_tells.action ≡ named_by instr =
    sym (location_is test t column fr_tells.place fr_tells.action fr_tells.reader)
    ∙ location_is test t column p instr a in
    let P : ℕ → Type 0 = λ z. OneThread test z s.thread in
    cut_zero test n (iteration_in frame) run t p s.thread instr k (subst P loc fr_tells.other.one_thread)
    fr_tells.other.apart
    (fr_within test n run frame t p s.thread instr h a fr_tells
    (subst (HoldsWithin test run frame) (sym same) holds))

at_within : (test : LitmusTest) (n : ℕ) (run : List Event) (frame : List ℕ) (t p v : ℕ) (instr : Instr)
    (kind : AtomKind) (b : Bool) → (v == 0) ≡ b → InFrame test n run frame
    → IsReader test t (column_of test t p) p instr → Taken test n (iteration_in frame) run t p instr
    → Tells test kind
    → cond (not b) (kind_of_value t (column_of test t p) (stores_of test (named_by instr))
    (stores_written test (named_by instr) v))
    (cond (nat_lt 0 (length (stores_written test (named_by instr) 0))) (Err ZeroStored)
    (kind_of_zero t (column_of test t p) (stores_of test (named_by instr)))) ≡ Ok kind
    → HoldsWithin test run frame kind
    → option_and_then value_read_by (slice_get (done_by t (cut_run test (iteration_in frame) run)) p) ≡ Some v
at_within test n run frame t p v instr kind false z h a k tells q holds =
    value_within test n run frame t p v instr kind (stores_written test (named_by instr) v) h a k tells z refl q holds
at_within test n run frame t p v instr kind true z h a k tells q holds =
    let c = chosen_ok (nat_lt 0 (length (stores_written test (named_by instr) 0))) ZeroStored
    (kind_of_zero t (column_of test t p) (stores_of test (named_by instr))) kind q in
    zero_within test n run frame t p instr kind (stores_of test (named_by instr)) h a k tells c.1 holds
    ∙ ap (λ y. Some y) (sym (eqb-true v 0 z))

atom_within : (test : LitmusTest) (n : ℕ) (run : List Event) (frame : List ℕ) (atom : Atom) (kind : AtomKind)
    → HoldsReads test → InFrame test n run frame → kind_of test atom ≡ Ok kind → HoldsWithin test run frame kind
    → final_value test (cut_run test (iteration_in frame) run) atom.thread atom.reg ≡ Some atom.value
atom_within test n run frame atom kind reads h e holds =
    let s = says test atom kind reads e in
    let t = atom.thread in
    let steps = cut_run test (iteration_in frame) run in
    let a : IsReader test t (column_of test t s.place) s.place s.action = record {
      stands = s.stands;
      reading = s.reading;
      column_is = refl;
    } in
    let l = thread_below test t s.place s.action s.stands in
    let k = taken test n (iteration_in frame) run t s.place s.action h.is_run l (below_in test n run frame h t l) a in
    final_is test steps t atom.reg s.place s.holds
    ∙ at_within test n run frame t s.place atom.value s.action kind (atom.value == 0) refl h a k
    (kind_tells test atom kind reads e) s.by holds

pub frames_within_are_outcomes_lem : FramesWithinAreOutcomes
frames_within_are_outcomes_lem checked n c run frame is r fr holds =
    let test = checked.test in
    let f = iteration_in frame in
    let h : InFrame test n run frame = record { is_run = r; is_frame = fr } in
    let atoms = conjunction_of test.ends test.atoms c in
    let kinds = kinds_in checked c in
    let R : Atom → AtomKind → Type 0 = λ atom kind. kind_of test atom ≡ Ok kind in
    let P : Atom → Type 0 = λ atom. final_value test (cut_run test f run) atom.thread atom.reg ≡ Some atom.value in
    let Q : AtomKind → Type 0 = λ kind. holds_within test run frame kind ≡ true in (
      cut_run test f run,
      cut_is_execution test n f run r (below_in test n run frame h),
      All-from_recursion P atoms (each_back R P Q
          (λ atom kind e m. atom_within test n run frame atom kind is.test.holds_reads h e m) atoms kinds
          (zip_of R test.ends test.atoms checked.kinds c is.kinds)
          (each_all (holds_within test run frame) kinds holds)),
    )
