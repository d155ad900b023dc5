-- Each execution of the test is a run of one iteration, with the values of the text in place of its own: the run is
-- made beside the execution, step by step.
use Rattle.std.proofs.Common.{◌≡◌, ℕ, ◌+◌, ◌<◌, ◌==◌, Bool, true, false, cond, not, ◌&&◌, Some, List, [], ◌∷◌, ◌++◌, length, map, filter, drop, slice_get, refl, sym, ap, ◌∙◌, arith, subst, eq-eqb}
use Rattle.std.proofs.lemmas.Bool.{eqb-true}
use Rattle.std.proofs.lemmas.List.Elements.{All-from_recursion}
use Rattle.std.specs.List.{AllZip, AllByRecursion as Each}
use Rattle.x86_subset.specs.Instr.{is_store_to}
use Rattle.x86_subset.specs.Test.{LitmusTest, body_of}
use Rattle.x86_subset.specs.declared.instr.Instr.{Instr}
use Rattle.x86_subset.specs.declared.instr.Instr.TheVariants.{Store, Load, Fence, Exchange}
use Rattle.tso_machine.specs.Event.{Event, Kind, Push, Drain, Read, Fenced, Exchanged, event_location, is_drain, is_drain_kind, site_of}
use Rattle.tso_machine.specs.Machine.{Write, NeedsAs, Steps, after, after_all, initial, readable, updated, write_of}
use Rattle.tso_machine.specs.Machine.{State as RunState}
use Rattle.tso_machine.specs.Part.{Fills, Gives, Slot, part_of, slots_of_body, slots_of_loop}
use Rattle.tso_machine.specs.Run.{IsRunOf}
use Rattle.seq_conv.specs.Sequence.{action_at}
use Rattle.perp_base.proofs.Lists.{each_append, zip_with_each}
use Rattle.tso_machine.proofs.Parts.{IsLoopSlot, deeds, loop_slots}
use Rattle.run_witness.proofs.Stands.{at_mark}
use Rattle.outcome_conv.proofs.Agree.{thread_below}
use Rattle.litmus_outcomes.specs.Machine.{Action, Writes, Drains, Reads, Fences, Exchanges, Allows, AllowsAll, State, Step, Waiting, end_of, next, start}
use Rattle.litmus_outcomes.specs.Outcome.{Does, IsExecution, done_by, is_draining}
use Rattle.litmus_outcomes.proofs.Values.{WritesTold, literal, told, waiting_of, writes_told}
use Rattle.litmus_outcomes.proofs.Images.{Alike, IsTold, action_as, alike_after, alike_found, alike_start, at_place_of, literal_of, steps_of}

-- What waits in a store buffer is what stores of its thread write.

abbrev event_at : ℕ → ℕ → Kind → Event
event_at t p k = record { thread = t; iteration = 0; place = p; kind = k }

record IsOwn (test : LitmusTest) (t : ℕ) (w : Write) : Type 0 where
  same : w ≡ write_of test (event_at t w.place Drain)
  writes : WritesTold test (event_at t w.place Drain)
  there : t < length test.bodies

abbrev AreOwn : LitmusTest → RunState → Type 0
AreOwn test s = (t : ℕ) → Each (IsOwn test t) (s.buffer t)

pub each_rest : {X : Type 0} (P : X → Type 0) (xs : List X) → Each P xs → Each P (drop 1 xs)
each_rest P [] h = tt
each_rest P (x ∷ xs) h = h.1

own_push : (test : LitmusTest) (s : RunState) (t p : ℕ) → AreOwn test s → WritesTold test (event_at t p Drain)
    → t < length test.bodies → AreOwn test (after test s (event_at t p Push))
own_push test s t p o w l =
    let new = write_of test (event_at t p Push) in
    at_mark (λ u (ws : List Write). Each (IsOwn test u) ws) s.buffer t (s.buffer t ++ new ∷ [])
    (each_append (IsOwn test t) (s.buffer t) (new ∷ []) (o t) (record { same = refl; writes = w; there = l }, tt)) o

own_drain : (test : LitmusTest) (s : RunState) (t p : ℕ) → AreOwn test s
    → AreOwn test (after test s (event_at t p Drain))
own_drain test s t p o =
    at_mark (λ u (ws : List Write). Each (IsOwn test u) ws) s.buffer t (drop 1 (s.buffer t))
    (each_rest (IsOwn test t) (s.buffer t) (o t)) o

-- The event of a step.

record Made (test : LitmusTest) (s : RunState) (t : ℕ) (action : Action) : Type 0 where
  place : ℕ
  kind : Kind
  is : action_as kind test (event_at t place kind) ≡ action
  needs : NeedsAs kind test s (event_at t place kind)
  told : IsTold test (event_at t place kind)
  own : AreOwn test (after test s (event_at t place kind))
  there : t < length test.bodies

waits : (test : LitmusTest) (ws : List Write) (v : Waiting) → slice_get (map (waiting_of test) ws) 0 ≡ Some v
    → (w : Write) × (slice_get ws 0 ≡ Some w) × (waiting_of test w ≡ v)
waits test [] v h = cc
waits test (w ∷ ws) v h = (w, refl, (let e : waiting_of test w ≡ v = cc in e))

each_first : {X : Type 0} (P : X → Type 0) (xs : List X) (x : X) → Each P xs → slice_get xs 0 ≡ Some x → P x
each_first P [] x h e = cc
each_first P (y ∷ xs) x h e = let k : y ≡ x = cc in subst P k h.0

abbrev drain_made : (test : LitmusTest) (s : RunState) (l : State) (t x v : ℕ) → Alike test s l → AreOwn test s
    → Allows l t (Drains x v) → Made test s t (Drains x v)
drain_made test s l t x v a o c =
    let new : Waiting = record { location = x; value = v } in
    let w = waits test (s.buffer t) new (ap (λ b. slice_get b 0) (sym (a.buffer t)) ∙ c) in
    let own = each_first (IsOwn test t) (s.buffer t) w.0 (o t) w.1 in
    let e = event_at t w.0.place Drain in
    let at_x : event_location test e ≡ x = ap (λ (z : Write). z.location) (sym own.same)
    ∙ ap (λ (z : Waiting). z.location) w.2 in
    let of_v : literal test (site_of e) ≡ v = sym own.writes
    ∙ ap (λ (z : Write). told test z.location z.value) (sym own.same) ∙ ap (λ (z : Waiting). z.value) w.2 in
    record {
      place = w.0.place;
      kind = Drain;
      is = λ i. Drains (at_x i) (of_v i);
      needs = w.1 ∙ ap (λ z. Some z) own.same;
      told = λ k. own.writes;
      own = own_drain test s t w.0.place o;
      there = own.there;
    }

nil_of : (test : LitmusTest) (ws : List Write) → map (waiting_of test) ws ≡ [] → ws ≡ []
nil_of test [] h = refl
nil_of test (w ∷ ws) h = cc

pub quiet_of : (test : LitmusTest) (s : RunState) (l : State) (t : ℕ) → Alike test s l → l.buffer t ≡ []
    → s.buffer t ≡ []
quiet_of test s l t a h = nil_of test (s.buffer t) (sym (a.buffer t) ∙ h)

abbrev stores_at : Instr → ℕ → Type 0
stores_at action x = is_store_to x action ≡ true

-- a store of the first iteration writes what the text says
told_at : (test : LitmusTest) (t p x : ℕ) (k : Kind) (action : Instr)
    → action_at test (record { thread = t; place = p }) ≡ Some action → is_store_to x action ≡ true
    → event_location test (event_at t p k) ≡ x → WritesTold test (event_at t p k)
told_at test t p x k action h s e =
    writes_told test (event_at t p k) (record {
      early = omega arith;
      action = action;
      stands = h;
      stores = (let P : ℕ → Type 0 = λ z. is_store_to z action ≡ true in subst P (sym e) s);
    })

record Acts (test : LitmusTest) (s : RunState) (t p : ℕ) (instr : Instr) (action : Action) : Type 0 where
  made : Made test s t action
  at_place : made.place ≡ p
  gives : Gives instr made.kind

acts : (test : LitmusTest) (s : RunState) (l : State) (t p : ℕ) (instr : Instr) (action : Action) → Alike test s l
    → AreOwn test s → action_at test (record { thread = t; place = p }) ≡ Some instr → Does instr action
    → Allows l t action → Acts test s t p instr action
acts test s l t p (Store x v) (Writes y w) a o h d c =
    let e = event_at t p Push in
    let at_x : event_location test e ≡ x = at_place_of test e (Store x v) h in
    let tells = told_at test t p x Push (Store x v) h (eq-eqb x x refl) at_x in
    record {
      made =
          record {
            place = p;
            kind = Push;
            is = λ i. Writes ((at_x ∙ sym d.0) i) ((literal_of test (site_of e) (Store x v) h ∙ sym d.1) i);
            needs = tt;
            told = λ k. tells;
            own = own_push test s t p o tells (thread_below test t p (Store x v) h);
            there = thread_below test t p (Store x v) h;
          };
      at_place = refl;
      gives = tt;
    }
acts test s l t p (Load reg x) (Reads y v) a o h d c =
    let e = event_at t p Push in
    let at_x : event_location test e ≡ x = at_place_of test e (Load reg x) h in
    let value : told test (event_location test e) (readable s t (event_location test e)) ≡ v =
    ap (λ z. told test z (readable s t z)) (at_x ∙ sym d) ∙ sym (alike_found test s l t y a) ∙ sym c in
    record {
      made =
          record {
            place = p;
            kind = Read (readable s t (event_location test e));
            is = λ i. Reads ((at_x ∙ sym d) i) (value i);
            needs = refl;
            told = λ k. absurd (let n : ⊥ = cc in n);
            own = o;
            there = thread_below test t p (Load reg x) h;
          };
      at_place = refl;
      gives = tt;
    }
acts test s l t p Fence Fences a o h d c = record {
  made =
      record {
        place = p;
        kind = Fenced;
        is = refl;
        needs = quiet_of test s l t a c;
        told = λ k. absurd (let n : ⊥ = cc in n);
        own = o;
        there = thread_below test t p Fence h;
      };
  at_place = refl;
  gives = tt;
}
acts test s l t p (Exchange x w reg) (Exchanges y v z) a o h d c =
    let e = event_at t p Push in
    let at_x : event_location test e ≡ x = at_place_of test e (Exchange x w reg) h in
    let value : told test (event_location test e) (s.memory (event_location test e)) ≡ v =
    ap (λ u. told test u (s.memory u)) (at_x ∙ sym d.0) ∙ sym (a.memory y) ∙ sym c.1 in
    let tells = told_at test t p x Push (Exchange x w reg) h (eq-eqb x x refl) at_x in
    record {
      made =
          record {
            place = p;
            kind = Exchanged (s.memory (event_location test e));
            is = λ i. Exchanges ((at_x ∙ sym d.0) i) (value i)
                ((literal_of test (site_of e) (Exchange x w reg) h ∙ sym d.1) i);
            needs = (quiet_of test s l t a c.0, refl);
            told = λ k. tells;
            own = o;
            there = thread_below test t p (Exchange x w reg) h;
          };
      at_place = refl;
      gives = tt;
    }
acts test s l t p _ _ a o h d c = absurd d

-- What is still to be done: the slots that threads have left.

abbrev Due : LitmusTest → ℕ → Slot → Action → Type 0
Due test t slot action = Does slot.action action × IsLoopSlot (body_of test t) 1 slot

abbrev AreDue : LitmusTest → (ℕ → List Slot) → List Step → Type 0
AreDue test todo steps = (t : ℕ) → AllZip (Due test t) (todo t) (done_by t steps)

record Rebuilt (test : LitmusTest) (s : RunState) (todo : ℕ → List Slot) (steps : List Step) : Type 0 where
  run : List Event
  legal : Steps test s run
  quiet : (t : ℕ) → (after_all test s run).buffer t ≡ []
  image : steps_of test run ≡ steps
  fills : (t : ℕ) → AllZip (Fills t) (todo t) (deeds t run)
  threads : Each (λ e. e.thread < length test.bodies) run

zip_nil : {A B C : Type 0} (R : A → B → Type 0) (Q : A → C → Type 0) (xs : List A) → AllZip R xs [] → AllZip Q xs []
zip_nil R Q [] h = tt
zip_nil R Q (x ∷ xs) h = absurd h

-- after a drain there is as much to do

due_drain : (test : LitmusTest) (todo : ℕ → List Slot) (t x v : ℕ) (steps : List Step)
    → AreDue test todo (record { thread = t; action = Drains x v } ∷ steps) → AreDue test todo steps
due_drain test todo t x v steps d u = go (t == u) (d u)
  where
    go : (b : Bool) → AllZip (Due test u) (todo u) (map (λ (e : Step). e.action)
        (cond (b && false) (record { thread = t; action = Drains x v }
        ∷ filter (λ (e : Step). (e.thread == u) && not (is_draining e.action)) steps)
        (filter (λ (e : Step). (e.thread == u) && not (is_draining e.action)) steps)))
        → AllZip (Due test u) (todo u) (done_by u steps)
    go true h = h
    go false h = h

fills_drain : (todo : ℕ → List Slot) (t p : ℕ) (run : List Event) → ((u : ℕ) → AllZip (Fills u) (todo u) (deeds u run))
    → (u : ℕ) → AllZip (Fills u) (todo u) (deeds u (event_at t p Drain ∷ run))
fills_drain todo t p run f u = go (t == u) (f u)
  where
    go : (b : Bool) → AllZip (Fills u) (todo u) (deeds u run) → AllZip (Fills u) (todo u)
        (filter (λ e. not (is_drain e)) (cond b (event_at t p Drain ∷ part_of u run) (part_of u run)))
    go true h = h
    go false h = h

-- after an action of an instruction there is one slot less

record Split {A B : Type 0} (R : A → B → Type 0) (xs : List A) (y : B) (ys : List B) : Type 0 where
  first : A
  rest : List A
  whole : xs ≡ first ∷ rest
  here : R first y
  later : AllZip R rest ys

split_zip : {A B : Type 0} (R : A → B → Type 0) (xs : List A) (y : B) (ys : List B) → AllZip R xs (y ∷ ys)
    → Split R xs y ys
split_zip R [] y ys h = absurd h
split_zip R (x ∷ xs) y ys h = record { first = x; rest = xs; whole = refl; here = h.0; later = h.1 }

done_here : (t : ℕ) (action : Action) (steps : List Step) → is_draining action ≡ false
    → done_by t (record { thread = t; action = action } ∷ steps) ≡ action ∷ done_by t steps
done_here t action steps h = rw (eq-eqb t t refl, h) refl

due_more : (test : LitmusTest) (todo : ℕ → List Slot) (t : ℕ) (action : Action) (rest : List Slot) (steps : List Step)
    → AllZip (Due test t) rest (done_by t steps)
    → AreDue test todo (record { thread = t; action = action } ∷ steps) → AreDue test (updated todo t rest) steps
due_more test todo t action rest steps h d u = go (t == u) refl (d u)
  where
    go : (b : Bool) → (t == u) ≡ b → AllZip (Due test u) (todo u) (map (λ (e : Step). e.action)
        (cond (b && not (is_draining action)) (record { thread = t; action = action }
        ∷ filter (λ (e : Step). (e.thread == u) && not (is_draining e.action)) steps)
        (filter (λ (e : Step). (e.thread == u) && not (is_draining e.action)) steps)))
        → AllZip (Due test u) (cond b rest (todo u)) (done_by u steps)
    go true e k =
        let P : ℕ → Type 0 = λ z. AllZip (Due test z) rest (done_by z steps) in subst P (eqb-true t u e) h
    go false e k = k

fills_more : (todo : ℕ → List Slot) (t p : ℕ) (k : Kind) (slot : Slot) (rest : List Slot) (run : List Event)
    → todo t ≡ slot ∷ rest → Fills t slot (event_at t p k) → is_drain_kind k ≡ false
    → ((u : ℕ) → AllZip (Fills u) (updated todo t rest u) (deeds u run))
    → (u : ℕ) → AllZip (Fills u) (todo u) (deeds u (event_at t p k ∷ run))
fills_more todo t p k slot rest run whole here kind f u = go (t == u) refl (f u)
  where
    go : (b : Bool) → (t == u) ≡ b → AllZip (Fills u) (cond b rest (todo u)) (deeds u run)
        → AllZip (Fills u) (todo u) (filter (λ e. not (is_drain e))
        (cond b (event_at t p k ∷ part_of u run) (part_of u run)))
    go true e h =
        let same : t ≡ u = eqb-true t u e in
        let P : ℕ → Type 0 = λ z. Fills z slot (event_at t p k) in
        let Q : List Slot → Type 0 = λ z. AllZip (Fills u) z (event_at t p k ∷ deeds u run) in
        let R : Bool → Type 0 = λ z. AllZip (Fills u) (todo u) (cond (not z) (event_at t p k ∷ deeds u run)
        (deeds u run)) in
        subst R (sym kind) (subst Q (sym whole ∙ ap todo same) (subst P same here, h))
    go false e h = h

-- The run, from the first step on.

abbrev Goes : LitmusTest → List Step → Type 0
Goes test steps =
    (s : RunState) (l : State) (todo : ℕ → List Slot) → Alike test s l → AreOwn test s → AreDue test todo steps
    → AllowsAll l steps → ((t : ℕ) → (end_of l steps).buffer t ≡ []) → Rebuilt test s todo steps

abbrev made_event : {test : LitmusTest} {s : RunState} {t : ℕ} {action : Action} → Made test s t action → Event
made_event {t = t} m = event_at t m.place m.kind

joined : (test : LitmusTest) (s : RunState) (l : State) (todo after_todo : ℕ → List Slot) (t : ℕ) (action : Action)
    (steps : List Step) → Alike test s l → (m : Made test s t action) → AreDue test after_todo steps
    → AllowsAll l (record { thread = t; action = action } ∷ steps)
    → ((u : ℕ) → (end_of l (record { thread = t; action = action } ∷ steps)).buffer u ≡ [])
    → Goes test steps
    → ((run : List Event) → ((u : ℕ) → AllZip (Fills u) (after_todo u) (deeds u run))
    → (u : ℕ) → AllZip (Fills u) (todo u) (deeds u (event_at t m.place m.kind ∷ run)))
    → Rebuilt test s todo (record { thread = t; action = action } ∷ steps)
joined test s l todo after_todo t action steps a m d c q rec f =
    let e = event_at t m.place m.kind in
    let P : Action → Type 0 = λ z. Alike test (after test s e) (next l t z) in
    let r = rec (after test s e) (next l t action) after_todo (subst P m.is (alike_after test s l e a m.told)) m.own d
    c.1 q in
    record {
      run = e ∷ r.run;
      legal = (m.needs, r.legal);
      quiet = r.quiet;
      image = λ i. record { thread = t; action = m.is i } ∷ r.image i;
      fills = f r.run r.fills;
      threads = (m.there, r.threads);
    }

drain_goes : (test : LitmusTest) (s : RunState) (l : State) (todo : ℕ → List Slot) (t x v : ℕ) (steps : List Step)
    → Alike test s l → AreOwn test s → AreDue test todo (record { thread = t; action = Drains x v } ∷ steps)
    → AllowsAll l (record { thread = t; action = Drains x v } ∷ steps)
    → ((u : ℕ) → (end_of l (record { thread = t; action = Drains x v } ∷ steps)).buffer u ≡ [])
    → Goes test steps → Rebuilt test s todo (record { thread = t; action = Drains x v } ∷ steps)
drain_goes test s l todo t x v steps a o d c q rec =
    let m : Made test s t (Drains x v) = drain_made test s l t x v a o c.0 in
    joined test s l todo todo t (Drains x v) steps a m (due_drain test todo t x v steps d) c q rec
    (λ run f. fills_drain todo t m.place run f)

gives_no_drain : (a : Instr) (k : Kind) → Gives a k → is_drain_kind k ≡ false
gives_no_drain (Store x v) Push g = refl
gives_no_drain (Load reg x) (Read v) g = refl
gives_no_drain Fence Fenced g = refl
gives_no_drain (Exchange x v reg) (Exchanged w) g = refl
gives_no_drain _ _ g = absurd g

act_goes : (test : LitmusTest) (s : RunState) (l : State) (todo : ℕ → List Slot) (t : ℕ) (action : Action)
    (steps : List Step) → is_draining action ≡ false → Alike test s l → AreOwn test s
    → AreDue test todo (record { thread = t; action = action } ∷ steps)
    → AllowsAll l (record { thread = t; action = action } ∷ steps)
    → ((u : ℕ) → (end_of l (record { thread = t; action = action } ∷ steps)).buffer u ≡ [])
    → Goes test steps → Rebuilt test s todo (record { thread = t; action = action } ∷ steps)
act_goes test s l todo t action steps h a o d c q rec =
    let D : List Action → Type 0 = λ z. AllZip (Due test t) (todo t) z in
    let z = split_zip (Due test t) (todo t) action (done_by t steps) (subst D (done_here t action steps h) (d t)) in
    let slot = z.first in
    let k = acts test s l t slot.place slot.action action a o z.here.1.1.stands z.here.0 c.0 in
    let fills : Fills t slot (event_at t k.made.place k.made.kind) = record {
      thread = refl;
      iteration = (let b : slot.iteration < 1 = z.here.1.0 in omega arith);
      place = k.at_place;
      kind = k.gives;
    } in
    joined test s l todo (updated todo t z.rest) t action steps a k.made
    (due_more test todo t action z.rest steps z.later d) c q rec
    (λ run f. fills_more todo t k.made.place k.made.kind slot z.rest run z.whole fills
    (gives_no_drain slot.action k.made.kind k.gives) f)

goes : (test : LitmusTest) (t : ℕ) (action : Action) (steps : List Step) → Goes test steps
    → Goes test (record { thread = t; action = action } ∷ steps)
goes test t (Writes x v) steps rec =
    λ s l todo a o d c q. act_goes test s l todo t (Writes x v) steps refl a o d c q rec
goes test t (Drains x v) steps rec = λ s l todo a o d c q. drain_goes test s l todo t x v steps a o d c q rec
goes test t (Reads x v) steps rec = λ s l todo a o d c q. act_goes test s l todo t (Reads x v) steps refl a o d c q rec
goes test t Fences steps rec = λ s l todo a o d c q. act_goes test s l todo t Fences steps refl a o d c q rec
goes test t (Exchanges x v w) steps rec =
    λ s l todo a o d c q. act_goes test s l todo t (Exchanges x v w) steps refl a o d c q rec

all_goes : (test : LitmusTest) (steps : List Step) → Goes test steps
all_goes test [] = λ s l todo a o d c q. record {
  run = [];
  legal = tt;
  quiet = λ t. quiet_of test s l t a (q t);
  image = refl;
  fills = λ t. zip_nil (Due test t) (Fills t) (todo t) (d t);
  threads = tt;
}
all_goes test (e ∷ steps) = goes test e.thread e.action steps (all_goes test steps)

zip_slots : (R : Instr → Action → Type 0) (n q : ℕ) (body : List Instr) (ys : List Action) → AllZip R body ys
    → AllZip (λ (slot : Slot) y. R slot.action y) (slots_of_body n q body) ys
zip_slots R n q [] [] h = tt
zip_slots R n q [] (y ∷ ys) h = absurd h
zip_slots R n q (a ∷ body) [] h = absurd h
zip_slots R n q (a ∷ body) (y ∷ ys) h = (h.0, zip_slots R n (q + 1) body ys h.1)

-- an execution is the image of a run of one iteration
pub record Imaged (test : LitmusTest) (steps : List Step) : Type 0 where
  pub run : List Event
  pub is_run : IsRunOf test 1 run
  pub image : steps_of test run ≡ steps

pub imaged : (test : LitmusTest) (steps : List Step) → IsExecution test steps → Imaged test steps
imaged test steps x =
    let r = all_goes test steps initial start (λ t. slots_of_loop (body_of test t) 1) (alike_start test) (λ t. tt)
    (λ t. zip_with_each (λ (slot : Slot) (y : Action). Does slot.action y) (IsLoopSlot (body_of test t) 1)
    (slots_of_loop (body_of test t) 1) (done_by t steps)
    (zip_slots Does 0 0 (body_of test t) (done_by t steps) (x.in_order t)) (loop_slots (body_of test t) 1))
    x.allowed x.drained in
    record {
      run = r.run;
      is_run =
          record {
            legal = record { steps = r.legal; drained = r.quiet };
            performs = λ t l. r.fills t;
            threads = All-from_recursion (λ (e : Event). e.thread < length test.bodies) r.run r.threads;
          };
      image = r.image;
    }
