-- A run that shows a conjunction begins runs of any number of iterations: after it each action is done by itself.
use Rattle.std.proofs.Common.{◌≡◌, ℕ, zero, suc, ◌+◌, ◌*◌, ◌^◌, ◌<◌, ◌≤◌, ◌==◌, Bool, true, false, cond, not, ◌||◌, List, [], ◌∷◌, ◌++◌, length, filter, filter_map, drop, get_or, slice_get, replicate, refl, sym, ap, ◌∙◌, arith, subst, inl, inr, ◌⊎◌, append-nil, append_assoc, eq-eqb, ne_eqb, zero-mul, zero-add}
use Rattle.std.proofs.lemmas.Bool.{cases_eq, true≢false}
use Rattle.std.proofs.lemmas.List.{length-replicate}
use Rattle.std.proofs.lemmas.List.Elements.{All-from_recursion, filter-append, filter_map-append, recursion_from_All}
use Rattle.std.specs.List.{AllZip, AllByRecursion as Each, list_all, list_any, range_with_len}
use Rattle.x86_subset.specs.Test.{LitmusTest, body_of, column_of, columns_of}
use Rattle.x86_subset.specs.declared.instr.Instr.{Instr}
use Rattle.x86_subset.specs.declared.instr.Instr.TheVariants.{Store, Load, Fence, Exchange}
use Rattle.tso_machine.specs.Event.{Event, Kind, Push, Drain, Read, Fenced, Exchanged, is_drain}
use Rattle.tso_machine.specs.Frame.{frame_number, frame_of, frames_of}
use Rattle.tso_machine.specs.Log.{log_of, value_read}
use Rattle.tso_machine.specs.Machine.{State, Steps, after, after_all, initial, readable, write_of}
use Rattle.tso_machine.specs.Part.{Fills, Gives, Slot, part_of, slots_of_body, slots_of_loop}
use Rattle.tso_machine.specs.Run.{IsRunOf}
use Rattle.seq_conv.specs.Sequence.{site_location}
use Rattle.tso_machine.proofs.Frames.{frame_back, number_below}
use Rattle.perp_base.proofs.Lists.{any_map, each_among, each_append, each_from_among, each_weaker}
use Rattle.tso_machine.proofs.ReadEvents.{logs_are_whole_lem}
use Rattle.profile_check.specs.Profile.{CheckedTest, IsChecked}
use Rattle.profile_check.specs.declared.kind.AtomKind.{AtomKind}
use Rattle.profile_check.specs.declared.kind.AtomKind.TheVariants.{Rf, Fr, Exact}
use Rattle.profile_check.proofs.KindLemmas.{IsReader, Tells}
use Rattle.outcome_conv.specs.Conds.{cond_holds, cond_of, kind_holds, logged_in}
use Rattle.outcome_conv.specs.Hits.{IsFrame, hits_of, is_hit}
use Rattle.outcome_conv.specs.Holds.{holds_in, iteration_in}
use Rattle.outcome_conv.proofs.Agree.{agrees_by, thread_below}
use Rattle.run_witness.proofs.Fronts.{column_below}
use Rattle.run_witness.proofs.Stands.{mark_at}
use Rattle.verdict.specs.Edges.{kinds_in}
use Rattle.verdict.proofs.Forward.{each_all, kinds_tell}
use Rattle.decision.specs.Laws.{EachLengthHasAHit}
use Rattle.decision.specs.Shown.{Shows, zeros}
use Rattle.decision.proofs.Deciding.{zeros_frame}
use Rattle.decision.proofs.Finish.{all_from, zero_at}
use Rattle.decision.proofs.Hits.{any_range, holds_is_hit}

-- Events after events.

steps_join : (test : LitmusTest) (s : State) (xs ys : List Event) → Steps test s xs
    → Steps test (after_all test s xs) ys → Steps test s (xs ++ ys)
steps_join test s [] ys h k = k
steps_join test s (x ∷ xs) ys h k = (h.0, steps_join test (after test s x) xs ys h.1 k)

after_join : (test : LitmusTest) (s : State) (xs ys : List Event)
    → after_all test s (xs ++ ys) ≡ after_all test (after_all test s xs) ys
after_join test s [] ys = refl
after_join test s (x ∷ xs) ys = after_join test (after test s x) xs ys

zip_join : {A B : Type 0} (R : A → B → Type 0) (xs : List A) (ys : List B) (us : List A) (vs : List B) → AllZip R xs ys
    → AllZip R us vs → AllZip R (xs ++ us) (ys ++ vs)
zip_join R [] [] us vs h k = k
zip_join R [] (y ∷ ys) us vs h k = absurd h
zip_join R (x ∷ xs) [] us vs h k = absurd h
zip_join R (x ∷ xs) (y ∷ ys) us vs h k = (h.0, zip_join R xs ys us vs h.1 k)

abbrev nd : Event → Bool
nd e = not (is_drain e)

-- A thread alone.

abbrev Quiet : State → Type 0
Quiet s = (t : ℕ) → s.buffer t ≡ []

abbrev slot_event : ℕ → Slot → Kind → Event
slot_event t slot k = record { thread = t; iteration = slot.iteration; place = slot.place; kind = k }

record Alone (test : LitmusTest) (t : ℕ) (slots : List Slot) (s : State) : Type 0 where
  events : List Event
  steps : Steps test s events
  quiet : Quiet (after_all test s events)
  fills : AllZip (Fills t) slots (filter nd events)
  own : Each (λ e. e.thread ≡ t) events

fills_slot : (t : ℕ) (slot : Slot) (a : Instr) (k : Kind) → slot.action ≡ a → Gives a k
    → Fills t slot (slot_event t slot k)
fills_slot t slot a k h g =
    let G : Instr → Type 0 = λ z. Gives z k in
    record { thread = refl; iteration = refl; place = refl; kind = subst G (sym h) g }

alone_one : (test : LitmusTest) (t : ℕ) (slot : Slot) (s : State) (a : Instr) → Quiet s → slot.action ≡ a
    → Alone test t (slot ∷ []) s
alone_one test t slot s (Store loc written) q h =
    let push = slot_event t slot Push in
    let drain = slot_event t slot Drain in
    let s1 = after test s push in
    let full = s.buffer t ++ write_of test push ∷ [] in
    let here : s1.buffer t ≡ write_of test push ∷ [] = mark_at (λ b. b ≡ write_of test push ∷ []) s.buffer t full t
    (λ e. ap (λ b. b ++ write_of test push ∷ []) (q t)) (λ ne. absurd (ne refl)) in
    record {
      events = push ∷ drain ∷ [];
      steps = (tt, (ap (λ b. slice_get b 0) here, tt));
      quiet =
          λ u. mark_at (λ b. b ≡ []) s1.buffer t (drop 1 (s1.buffer t)) u (λ e. ap (drop 1) here)
          (λ ne. mark_at (λ b. b ≡ []) s.buffer t full u (λ e. absurd (ne e)) (λ n. q u));
      fills = (fills_slot t slot (Store loc written) Push h tt, tt);
      own = (refl, (refl, tt));
    }
alone_one test t slot s (Load reg loc) q h =
    let v = readable s t (site_location test (record { thread = t; place = slot.place })) in
    record {
      events = slot_event t slot (Read v) ∷ [];
      steps = (refl, tt);
      quiet = q;
      fills = (fills_slot t slot (Load reg loc) (Read v) h tt, tt);
      own = (refl, tt);
    }
alone_one test t slot s Fence q h = record {
  events = slot_event t slot Fenced ∷ [];
  steps = (q t, tt);
  quiet = q;
  fills = (fills_slot t slot Fence Fenced h tt, tt);
  own = (refl, tt);
}
alone_one test t slot s (Exchange loc written reg) q h =
    let v = s.memory (site_location test (record { thread = t; place = slot.place })) in
    record {
      events = slot_event t slot (Exchanged v) ∷ [];
      steps = ((q t, refl), tt);
      quiet = q;
      fills = (fills_slot t slot (Exchange loc written reg) (Exchanged v) h tt, tt);
      own = (refl, tt);
    }

alone_all : (test : LitmusTest) (t : ℕ) (slots : List Slot) (s : State) → Quiet s → Alone test t slots s
alone_all test t [] s q = record { events = []; steps = tt; quiet = q; fills = tt; own = tt }
alone_all test t (slot ∷ slots) s q =
    let a = alone_one test t slot s slot.action q refl in
    let b = alone_all test t slots (after_all test s a.events) a.quiet in
    let F : List Event → Type 0 = λ l. AllZip (Fills t) (slot ∷ slots) l in
    record {
      events = a.events ++ b.events;
      steps = steps_join test s a.events b.events a.steps b.steps;
      quiet = subst Quiet (sym (after_join test s a.events b.events)) b.quiet;
      fills =
          subst F (sym (filter-append nd a.events b.events)) (zip_join (Fills t) (slot ∷ []) (filter nd a.events) slots
          (filter nd b.events) a.fills b.fills);
      own = each_append (λ e. e.thread ≡ t) a.events b.events a.own b.own;
    }

-- One thread after the other.

part_own : (t : ℕ) (es : List Event) → Each (λ e. e.thread ≡ t) es → part_of t es ≡ es
part_own t [] h = refl
part_own t (e ∷ es) h = rw (eq-eqb e.thread t h.0) (ap (λ l. e ∷ l) (part_own t es h.1))

part_other : (t u : ℕ) (es : List Event) → (u ≡ t → ⊥) → Each (λ e. e.thread ≡ u) es → part_of t es ≡ []
part_other t u [] ne h = refl
part_other t u (e ∷ es) ne h = rw (ne_eqb e.thread t (λ k. ne (sym h.0 ∙ k))) (part_other t u es ne h.1)

record Rest (test : LitmusTest) (more : ℕ → List Slot) (k : ℕ) (s : State) : Type 0 where
  events : List Event
  steps : Steps test s events
  quiet : Quiet (after_all test s events)
  filled : (t : ℕ) → t < k → AllZip (Fills t) (more t) (filter nd (part_of t events))
  none : (t : ℕ) → k ≤ t → part_of t events ≡ []
  threads : Each (λ e. e.thread < k) events

rest_of : (test : LitmusTest) (more : ℕ → List Slot) (k : ℕ) (s : State) → Quiet s → Rest test more k s
rest_of test more zero s q = record {
  events = [];
  steps = tt;
  quiet = q;
  filled = λ t l. absurd (omega arith);
  none = λ t l. refl;
  threads = tt;
}
rest_of test more (suc k) s q =
    let r = rest_of test more k s q in
    let a = alone_all test k (more k) (after_all test s r.events) r.quiet in
    let both = λ (t : ℕ). filter-append (λ (e : Event). e.thread == t) r.events a.events in
    record {
      events = r.events ++ a.events;
      steps = steps_join test s r.events a.events r.steps a.steps;
      quiet = subst Quiet (sym (after_join test s r.events a.events)) a.quiet;
      filled = λ t l. by r a t l (cases_eq k t);
      none = λ t l. both t ∙ (λ i. r.none t (omega arith) i ++ part_other t k a.events (λ e. omega arith) a.own i);
      threads =
          each_append (λ e. e.thread < suc k) r.events a.events (each_weaker (λ (e : Event). e.thread < k)
          (λ (e : Event). e.thread < suc k) (λ e l. omega arith) r.events r.threads)
          (each_weaker (λ (e : Event). e.thread ≡ k) (λ (e : Event). e.thread < suc k)
          (λ e h. omega arith) a.events a.own);
    }
  where
    by : (r : Rest test more k s) (a : Alone test k (more k) (after_all test s r.events)) (t : ℕ) → t < suc k
        → (k ≡ t) ⊎ (k ≡ t → ⊥) → AllZip (Fills t) (more t) (filter nd (part_of t (r.events ++ a.events)))
    by r a t l (inl e) =
        let part : part_of k (r.events ++ a.events) ≡ a.events = filter-append
        (λ (e : Event). e.thread == k) r.events a.events
        ∙ (λ i. r.none k (omega arith) i ++ part_own k a.events a.own i) in
        let F : List Event → Type 0 = λ z. AllZip (Fills k) (more k) (filter nd z) in
        let G : ℕ → Type 0 = λ u. AllZip (Fills u) (more u) (filter nd (part_of u (r.events ++ a.events))) in
        subst G e (subst F (sym part) a.fills)
    by r a t l (inr ne) =
        let part : part_of t (r.events ++ a.events) ≡ part_of t r.events =
        filter-append (λ (e : Event). e.thread == t) r.events a.events
        ∙ ap (λ z. part_of t r.events ++ z) (part_other t k a.events ne a.own) ∙ append-nil (part_of t r.events) in
        let F : List Event → Type 0 = λ z. AllZip (Fills t) (more t) (filter nd z) in
        subst F (sym part) (r.filled t (omega arith))

-- More iterations.

abbrev more_slots : List Instr → ℕ → List Slot
more_slots body zero = []
more_slots body (suc m) = more_slots body m ++ slots_of_body (suc m) 0 body

loop_cut : (body : List Instr) (m : ℕ) → slots_of_loop body (suc m) ≡ slots_of_loop body 1 ++ more_slots body m
loop_cut body zero = sym (append-nil (slots_of_loop body 1))
loop_cut body (suc m) =
    ap (λ l. l ++ slots_of_body (suc m) 0 body) (loop_cut body m)
    ∙ append_assoc (slots_of_loop body 1) (more_slots body m) (slots_of_body (suc m) 0 body)

pub record Longer (test : LitmusTest) (m : ℕ) (run : List Event) : Type 0 where
  pub events : List Event
  pub is_run : IsRunOf test (suc m) (run ++ events)

pub longer_of : (test : LitmusTest) (m : ℕ) (run : List Event) → IsRunOf test 1 run → Longer test m run
longer_of test m run h =
    let s = after_all test initial run in
    let r = rest_of test (λ t. more_slots (body_of test t) m) (length test.bodies) s h.legal.drained in
    record {
      events = r.events;
      is_run = record {
        legal =
            record {
              steps = steps_join test initial run r.events h.legal.steps r.steps;
              drained = λ t. ap (λ (z : State). z.buffer t) (after_join test initial run r.events) ∙ r.quiet t;
            };
        performs = λ t l.
            let body = body_of test t in
            let zip = zip_join (Fills t) (slots_of_loop body 1) (filter nd (part_of t run)) (more_slots body m)
            (filter nd (part_of t r.events)) (h.performs t l) (r.filled t l) in
            let part : filter nd (part_of t (run ++ r.events)) ≡ filter nd (part_of t run)
            ++ filter nd (part_of t r.events) =
            ap (filter nd) (filter-append (λ (e : Event). e.thread == t) run r.events)
            ∙ filter-append nd (part_of t run) (part_of t r.events) in
            let F : List Event → Type 0 = λ z. AllZip (Fills t) (slots_of_loop body (suc m)) z in
            let G : List Slot → Type 0 = λ z. AllZip (Fills t) z (filter nd (part_of t run)
            ++ filter nd (part_of t r.events)) in
            subst F (sym part) (subst G (sym (loop_cut body m)) zip);
        threads = All-from_recursion (λ e. e.thread < length test.bodies) (run ++ r.events)
            (each_append (λ e. e.thread < length test.bodies) run r.events
            (recursion_from_All (λ e. e.thread < length test.bodies) run h.threads) r.threads);
      };
    }

-- What is logged in the first iteration stays.

get_first : (xs ys : List ℕ) (i : ℕ) → i < length xs → get_or (xs ++ ys) i 0 ≡ get_or xs i 0
get_first [] ys i l = absurd (omega arith)
get_first (x ∷ xs) ys zero l = refl
get_first (x ∷ xs) ys (suc i) l = get_first xs ys i (omega arith)

pub same_logged : (test : LitmusTest) (run more : List Event) (t column place : ℕ) (action : Instr) → IsRunOf test 1 run
    → IsReader test t column place action → logged_in test (run ++ more) t column 0 ≡ logged_in test run t column 0
same_logged test run more t column place action h r =
    let l = thread_below test t place action r.stands in
    let long : length (log_of t run) ≡ 1 * columns_of test t = logs_are_whole_lem test 1 run t h l in
    let below : column_of test t place < columns_of test t = column_below test t place
    (record { thread = l; action = action; stands = r.stands; reading = r.reading }) in
    let col : column ≡ column_of test t place = r.column_is in
    let at : 0 * columns_of test t + column ≡ column = ap (λ z. z + column) (zero-mul (columns_of test t))
    ∙ zero-add column in
    let cut : log_of t (run ++ more) ≡ log_of t run
    ++ log_of t more = ap (filter_map value_read) (filter-append (λ (e : Event). e.thread == t) run more)
    ∙ filter_map-append value_read (part_of t run) (part_of t more) in
    (λ i. get_or (cut i) (at i) 0) ∙ get_first (log_of t run) (log_of t more) column (omega arith)
    ∙ sym (ap (λ i. get_or (log_of t run) i 0) at)

same_kind : (test : LitmusTest) (run more : List Event) (kind : AtomKind) (t column place : ℕ) (action : Instr)
    → IsRunOf test 1 run → IsReader test t column place action → (cond_of test kind).reader ≡ t
    → (cond_of test kind).column ≡ column
    → cond_holds (logged_in test (run ++ more)) (zeros test) (cond_of test kind)
    ≡ cond_holds (logged_in test run) (zeros test) (cond_of test kind)
same_kind test run more kind t column place action h r e f =
    let c = cond_of test kind in
    let i = zero_at (length test.bodies) c.reader in
    let v : logged_in test (run ++ more) c.reader c.column (iteration_in (zeros test) c.reader)
    ≡ logged_in test run c.reader c.column (iteration_in (zeros test) c.reader) =
    (λ j. logged_in test (run ++ more) (e j) (f j) (i j)) ∙ same_logged test run more t column place action h r
    ∙ (λ j. logged_in test run (sym e j) (sym f j) (sym i j)) in
    ap (λ z. kind_holds c.kind z (iteration_in (zeros test) c.writer)) v

same_cond : (test : LitmusTest) (run more : List Event) (kind : AtomKind) → IsRunOf test 1 run → Tells test kind
    → cond_holds (logged_in test (run ++ more)) (zeros test) (cond_of test kind)
    ≡ cond_holds (logged_in test run) (zeros test) (cond_of test kind)
same_cond test run more (Rf t column writer place) h tells =
    same_kind test run more (Rf t column writer place) t column tells.place tells.action h tells.reader refl refl
same_cond test run more (Fr t column writer) h tells =
    same_kind test run more (Fr t column writer) t column tells.place tells.action h tells.reader refl refl
same_cond test run more (Exact t column writer place) h tells =
    same_kind test run more (Exact t column writer place) t column tells.place tells.action h tells.reader refl refl

-- So the atoms hold in the longer run.

each_below : (k n : ℕ) → 1 ≤ n → Each (λ i. i < n) (replicate k 0)
each_below zero n l = tt
each_below (suc k) n l = (omega arith, each_below k n l)

pub frame_zeros : (test : LitmusTest) (n : ℕ) → 1 ≤ n → IsFrame test n (zeros test)
frame_zeros test n l = record {
  one_each = length-replicate (length test.bodies) 0;
  below = All-from_recursion (λ i. i < n) (zeros test) (each_below (length test.bodies) n l);
}

longer_holds : (checked : CheckedTest) (c m : ℕ) (run more : List Event) → IsChecked checked → Shows checked c run
    → IsRunOf checked.test (suc m) (run ++ more)
    → list_all (holds_in checked.test (run ++ more) (zeros checked.test)) (kinds_in checked c) ≡ true
longer_holds checked c m run more h s is =
    let test = checked.test in
    let kinds = kinds_in checked c in
    let tells = kinds_tell checked c h in
    let P : AtomKind → Type 0 = λ kind. holds_in test run (zeros test) kind ≡ true in
    let Q : AtomKind → Type 0 = λ kind. holds_in test (run ++ more) (zeros test) kind ≡ true in
    let old = each_all (holds_in test run (zeros test)) kinds s.1 in
    all_from (holds_in test (run ++ more) (zeros test)) kinds
    (each_from_among Q kinds (λ kind am.
    let k = each_among (Tells test) kind kinds am tells in
    sym (agrees_by test (suc m) (run ++ more) (zeros test) kind is (frame_zeros test (suc m) (omega arith)) k)
    ∙ same_cond test run more kind s.0 k ∙ agrees_by test 1 run (zeros test) kind s.0 (zeros_frame test) k
    ∙ each_among P kind kinds am old))

-- And so it has a hit.

filter_none : {X : Type 0} (p : X → Bool) (xs : List X) → filter p xs ≡ [] → list_any p xs ≡ false
filter_none p [] h = refl
filter_none p (x ∷ xs) h = go (filter_none p xs) (p x) refl h
  where
    go : (filter p xs ≡ [] → list_any p xs ≡ false) → (b : Bool) → p x ≡ b → cond b (x ∷ filter p xs) (filter p xs) ≡ []
        → p x || list_any p xs ≡ false
    go rec true e k = cc
    go rec false e k = rw e (rec k)

has_hit : (test : LitmusTest) (kinds : List AtomKind) (n : ℕ) (run : List Event) → 1 ≤ n
    → is_hit test kinds run (zeros test) ≡ true → hits_of test kinds n run ≡ [] → ⊥
has_hit test kinds n run l hit none =
    let t = length test.bodies in
    let p = is_hit test kinds run in
    let long : length (zeros test) ≡ t = length-replicate t 0 in
    let each = each_below t n l in
    let number = frame_number n (zeros test) in
    let below : number < n ^ length (zeros test) = number_below n (zeros test) each in
    let few : n ^ length (zeros test) ≡ n ^ t = ap (λ z. n ^ z) long in
    let back : frame_of n t number ≡ zeros test = ap (λ z. frame_of n z number) (sym long)
    ∙ frame_back n (zeros test) each in
    let any : list_any p (frames_of n t) ≡ true = any_map p (frame_of n t) (range_with_len 0 (n ^ t))
    ∙ any_range (λ d. p (frame_of n t d)) 0 (n ^ t) number (omega arith) (omega arith) (ap p back ∙ hit) in
    true≢false (sym any ∙ filter_none p (frames_of n t) none)

pub each_length_has_a_hit_lem : EachLengthHasAHit
each_length_has_a_hit_lem checked c run zero h there s l = absurd (omega arith)
each_length_has_a_hit_lem checked c run (suc m) h there s l =
    let g = longer_of checked.test m run s.0 in
    let hold = longer_holds checked c m run g.events h s g.is_run in (
      run ++ g.events,
      g.is_run,
      has_hit checked.test checked.kinds (suc m) (run ++ g.events) l
          (holds_is_hit checked c (run ++ g.events) there hold),
    )
