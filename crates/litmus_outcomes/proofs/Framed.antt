-- A run cut down to a frame is an execution of the test: of each thread the events of its iteration are left, and reads
-- take what the machine of the text then has.
use Rattle.std.proofs.Common.{◌≡◌, ℕ, ◌+◌, ◌*◌, ◌≤◌, ◌==◌, Bool, true, false, cond, not, ◌&&◌, Option, None, Some, List, [], ◌∷◌, ◌++◌, length, map, filter, drop, slice_get, refl, sym, ap, ◌∙◌, arith, subst, unwrap_or, append_assoc, append-nil, length-append, eq-eqb, zero-add}
use Rattle.std.proofs.lemmas.Bool.{and_from, and_right, eqb-true, eqb-false}
use Rattle.std.proofs.lemmas.List.{length-map, map-append}
use Rattle.std.proofs.lemmas.List.Elements.{filter-append}
use Rattle.std.specs.List.{AllZip, AllByRecursion as Each, range_with_len}
use Rattle.std.specs.Option.{option_or, option_map_or}
use Rattle.x86_subset.specs.Test.{LitmusTest}
use Rattle.x86_subset.specs.declared.instr.Instr.{Instr}
use Rattle.x86_subset.specs.declared.instr.Instr.TheVariants.{Store, Load, Fence, Exchange}
use Rattle.tso_machine.specs.Event.{Event, Kind, Push, Drain, Read, Fenced, Exchanged, event_location, is_drain, is_drain_kind, site_of, written_value}
use Rattle.tso_machine.specs.Laws.{memory_values}
use Rattle.tso_machine.specs.Machine.{Write, NeedsAs, Needs, Steps, after, after_all, after_as, initial, newest as newest_write, readable, updated, write_of}
use Rattle.tso_machine.specs.Machine.{State as RunState}
use Rattle.tso_machine.specs.Log.{value_read, value_read_as}
use Rattle.tso_machine.specs.Part.{Gives}
use Rattle.tso_machine.specs.Run.{IsRunOf}
use Rattle.tso_machine.specs.Source.{is_memory_kind, is_memory_write}
use Rattle.seq_conv.specs.Sequence.{Site, action_at, rank_of, store_count, stores_of, value_of}
use Rattle.perp_base.proofs.Lists.{Among, each_among, each_append, each_from_among, each_passes, last_inner, last_ranged}
use Rattle.seq_conv.proofs.Stores.{owner_numbers, rank_injective, rank_within}
use Rattle.tso_machine.proofs.Parts.{write_among, writes_kind}
use Rattle.tso_machine.proofs.Rising.{memory_values_before}
use Rattle.tso_machine.proofs.Runs.{memory_after, memory_after_event}
use Rattle.run_witness.proofs.Stands.{at_mark, at_two}
use Rattle.litmus_outcomes.specs.Machine.{Action, Writes, Drains, Reads, Fences, Exchanges, Allows, AllowsAll, State, Step, Waiting, end_of, found, newest, next, start}
use Rattle.litmus_outcomes.specs.Outcome.{Does, done_by, is_draining, value_read_by}
use Rattle.litmus_outcomes.proofs.Values.{literal}
use Rattle.litmus_outcomes.proofs.Rebuilt.{each_rest}
use Rattle.litmus_outcomes.proofs.Images.{at_place_of, literal_of}

-- ---- values rise in memory, where one thread has all stores

abbrev pub OneThread : LitmusTest → ℕ → ℕ → Type 0
OneThread test x w = Each (λ (s : Site). s.thread ≡ w) (stores_of test x)

-- what memory has is how many writes there were
memory_counts : (test : LitmusTest) (n x w : ℕ) (before rest : List Event) → IsRunOf test n (before ++ rest)
    → OneThread test x w → (after_all test initial before).memory x ≡ length (memory_values test x before)
memory_counts test n x w before rest r h =
    let at_x = is_memory_write test x in
    let writes = filter at_x before in
    let long : length (memory_values test x before) ≡ length writes = length-map writes (written_value test) in
    memory_after test initial x before
    ∙ ap (λ o. option_map_or (written_value test) o 0) (sym (last_inner at_x at_x (λ d k. k) before))
    ∙ last_ranged at_x (written_value test) writes 0 (each_passes at_x before)
    (memory_values_before test n x w before rest r h ∙ ap (range_with_len 1) long)
    ∙ zero-add (length writes) ∙ sym long

one_more : (test : LitmusTest) (x : ℕ) (before : List Event) (e : Event) → is_memory_write test x e ≡ true
    → length (memory_values test x (before ++ e ∷ [])) ≡ length (memory_values test x before) + 1
one_more test x before e h =
    let at_x = is_memory_write test x in
    ap (λ l. length (map (written_value test) l)) (filter-append at_x before (e ∷ []))
    ∙ ap length (map-append (written_value test) (filter at_x before) (filter at_x (e ∷ [])))
    ∙ ap (λ b. length (memory_values test x before ++ map (written_value test) (cond b (e ∷ []) []))) h
    ∙ length-append (memory_values test x before) (written_value test e ∷ [])

-- each write to x is above what memory has there
abbrev RisesAt : LitmusTest → RunState → Event → Type 0
RisesAt test s e =
    (x w : ℕ) → OneThread test x w → is_memory_write test x e ≡ true → s.memory x ≤ written_value test e

abbrev Rises : LitmusTest → RunState → List Event → Type 0
Rises test s [] = Unit {0}
Rises test s (e ∷ es) = RisesAt test s e × Rises test (after test s e) es

after_one : (test : LitmusTest) (s : RunState) (xs : List Event) (e : Event)
    → after_all test s (xs ++ e ∷ []) ≡ after test (after_all test s xs) e
after_one test s [] e = refl
after_one test s (x ∷ xs) e = after_one test (after test s x) xs e

rises : (test : LitmusTest) (n : ℕ) (before rest : List Event) (s : RunState) → s ≡ after_all test initial before
    → IsRunOf test n (before ++ rest) → Rises test s rest
rises test n before [] s h r = tt
rises test n before (e ∷ es) s h r =
    let cut : before ++ e ∷ es ≡ (before ++ e ∷ []) ++ es = sym (append_assoc before (e ∷ []) es) in
    let r2 : IsRunOf test n ((before ++ e ∷ []) ++ es) = subst (IsRunOf test n) cut r in
    let h2 : after test s e ≡ after_all test initial (before ++ e ∷ []) =
    ap (λ z. after test z e) h ∙ sym (after_one test initial before e) in (
      λ x w one k.
          let a = memory_counts test n x w before (e ∷ es) r one in
          let b = memory_counts test n x w (before ++ e ∷ []) es r2 one in
          let c : s.memory x ≡ length (memory_values test x before) = ap (λ (z : RunState). z.memory x) h ∙ a in
          let d : (after test s e).memory x ≡ length (memory_values test x (before ++ e ∷ [])) =
          ap (λ (z : RunState). z.memory x) h2 ∙ b in
          let f : (after test s e).memory x ≡ written_value test e = memory_after_event test s e x e.kind
          ∙ ap (λ z. cond z (written_value test e) (s.memory x)) k in
          let g = one_more test x before e k in
          let i : written_value test e ≡ length (memory_values test x before) + 1 = sym f ∙ d ∙ g in
          omega arith,
      rises test n (before ++ e ∷ []) es (after test s e) h2 r2,
    )

-- ---- a value names its store and iteration

pub value_names : (test : LitmusTest) (x : ℕ) (s r : Site) (m n : ℕ) → Among s (stores_of test x)
    → Among r (stores_of test x) → value_of test x s m ≡ value_of test x r n → (s ≡ r) × (m ≡ n)
value_names test x s r m n a b e =
    let k = store_count test x in
    let v = value_of test x r n in
    let p = rank_within test x s a in
    let q = rank_within test x r b in
    let i = owner_numbers k v m (rank_of test x s) p.positive p.within e in
    let j = owner_numbers k v n (rank_of test x r) q.positive q.within refl in
    (rank_injective test x s r a b (i.1 ∙ sym j.1), i.0 ∙ sym j.0)

-- ---- the run and its cut side by side

-- whether an event is of its thread's iteration in the frame
abbrev pub in_frame : (ℕ → ℕ) → Event → Bool
in_frame f e = e.iteration == f e.thread

abbrev pub kept : (ℕ → ℕ) → ℕ → Write → Bool
kept f t w = w.iteration == f t

-- a write of thread t, with the value of the text
abbrev pub text_of : LitmusTest → ℕ → Write → Waiting
text_of test t w =
    record { location = w.location; value = literal test (record { thread = t; place = w.place }) }

-- a write in the buffer of thread t is of a store of the thread
pub record IsOwn (test : LitmusTest) (t : ℕ) (w : Write) : Type 0 where
  stands : Among (record { thread = t; place = w.place }) (stores_of test w.location)
  value : w.value ≡ value_of test w.location (record { thread = t; place = w.place }) w.iteration

pub record Within (test : LitmusTest) (f : ℕ → ℕ) (s : RunState) (l : State) : Type 0 where
  own : (t : ℕ) → Each (IsOwn test t) (s.buffer t)
  buffer : (t : ℕ) → l.buffer t ≡ map (text_of test t) (filter (kept f t) (s.buffer t))
  -- what the frame wrote last to memory
  memory : (x : ℕ) (r : Site) → Among r (stores_of test x) → s.memory x ≡ value_of test x r (f r.thread)
      → l.memory x ≡ literal test r
  -- as long as memory is below the frame's writes, it has none of them
  zero : (x w : ℕ) → OneThread test x w → s.memory x ≤ store_count test x * f w → l.memory x ≡ 0

pub within_start : (test : LitmusTest) (f : ℕ → ℕ) → Within test f initial start
within_start test f = record {
  own = λ t. tt;
  buffer = λ t. refl;
  memory = λ x r a e. absurd (let p = (rank_within test x r a).positive in
      let k : 0 ≡ store_count test x * f r.thread + rank_of test x r = e in omega arith);
  zero = λ x w h l. refl;
}

-- the step of an event of the frame
abbrev pub act_as : Kind → LitmusTest → State → Event → Action
act_as Push test l e = Writes (event_location test e) (literal test (site_of e))
act_as Drain test l e = Drains (event_location test e) (literal test (site_of e))
act_as (Read v) test l e = Reads (event_location test e) (found l e.thread (event_location test e))
act_as Fenced test l e = Fences
act_as (Exchanged v) test l e =
    Exchanges (event_location test e) (l.memory (event_location test e)) (literal test (site_of e))

-- what is known of an event where it stands
pub record Known (test : LitmusTest) (s : RunState) (e : Event) (k : Kind) : Type 0 where
  stored : writes_kind k ≡ true → Among (site_of e) (stores_of test (event_location test e))
  above : is_memory_kind k ≡ true → (w : ℕ) → OneThread test (event_location test e) w
      → s.memory (event_location test e) ≤ written_value test e

-- memory

memory_in : (test : LitmusTest) (f : ℕ → ℕ) (s : RunState) (l : State) (e : Event) → Within test f s l
    → Among (site_of e) (stores_of test (event_location test e))
    → (x : ℕ) (r : Site) → Among r (stores_of test x)
    → updated s.memory (event_location test e) (written_value test e) x ≡ value_of test x r (f r.thread)
    → updated l.memory (event_location test e) (literal test (site_of e)) x ≡ literal test r
memory_in test f s l e h a =
    at_two (λ x (v z : ℕ). (r : Site) → Among r (stores_of test x) → v ≡ value_of test x r (f r.thread)
    → z ≡ literal test r) s.memory l.memory (event_location test e) (written_value test e) (literal test (site_of e))
    (λ r b k. ap (literal test)
    (value_names test (event_location test e) (site_of e) r e.iteration (f r.thread) a b k).0)
    h.memory

memory_out : (test : LitmusTest) (f : ℕ → ℕ) (s : RunState) (l : State) (e : Event) → in_frame f e ≡ false
    → Within test f s l → Among (site_of e) (stores_of test (event_location test e))
    → (x : ℕ) (r : Site) → Among r (stores_of test x)
    → updated s.memory (event_location test e) (written_value test e) x ≡ value_of test x r (f r.thread)
    → l.memory x ≡ literal test r
memory_out test f s l e out h a =
    at_mark (λ x (v : ℕ). (r : Site) → Among r (stores_of test x) → v ≡ value_of test x r (f r.thread)
    → l.memory x ≡ literal test r) s.memory (event_location test e) (written_value test e)
    (λ r b k.
    let n = value_names test (event_location test e) (site_of e) r e.iteration (f r.thread) a b k in
    let same : e.iteration ≡ f e.thread = n.1 ∙ ap (λ (z : Site). f z.thread) (sym n.0) in
    absurd (eqb-false e.iteration (f e.thread) out same))
    h.memory

zero_in : (test : LitmusTest) (f : ℕ → ℕ) (s : RunState) (l : State) (e : Event) → in_frame f e ≡ true
    → Within test f s l → Among (site_of e) (stores_of test (event_location test e))
    → (x w : ℕ) → OneThread test x w
    → updated s.memory (event_location test e) (written_value test e) x ≤ store_count test x * f w
    → updated l.memory (event_location test e) (literal test (site_of e)) x ≡ 0
zero_in test f s l e inside h a =
    at_two (λ x (v z : ℕ). (w : ℕ) → OneThread test x w → v ≤ store_count test x * f w → z ≡ 0) s.memory l.memory
    (event_location test e) (written_value test e) (literal test (site_of e))
    (λ w one low.
    let x = event_location test e in
    let by : e.thread ≡ w = each_among (λ (z : Site). z.thread ≡ w) (site_of e) (stores_of test x) a one in
    let now : e.iteration ≡ f w = eqb-true e.iteration (f e.thread) inside ∙ ap f by in
    let v : written_value test e ≡ store_count test x * f w + rank_of test x (site_of e) =
    ap (λ i. store_count test x * i + rank_of test x (site_of e)) now in
    let p : 1 ≤ rank_of test x (site_of e) = (rank_within test x (site_of e) a).positive in
    absurd (omega arith))
    h.zero

zero_out : (test : LitmusTest) (f : ℕ → ℕ) (s : RunState) (l : State) (e : Event) → Within test f s l
    → ((w : ℕ) → OneThread test (event_location test e) w
    → s.memory (event_location test e) ≤ written_value test e)
    → (x w : ℕ) → OneThread test x w
    → updated s.memory (event_location test e) (written_value test e) x ≤ store_count test x * f w → l.memory x ≡ 0
zero_out test f s l e h above =
    at_mark (λ x (v : ℕ). (w : ℕ) → OneThread test x w → v ≤ store_count test x * f w → l.memory x ≡ 0) s.memory
    (event_location test e) (written_value test e)
    (λ w one low. h.zero (event_location test e) w one
    (let m : s.memory (event_location test e) ≤ written_value test e = above w one in omega arith)) h.zero

-- buffers

first_is : (ws : List Write) (w : Write) → slice_get ws 0 ≡ Some w → ws ≡ w ∷ drop 1 ws
first_is [] w e = cc
first_is (v ∷ ws) w e = let k : v ≡ w = cc in ap (λ u. u ∷ ws) k

-- the buffer of thread t that is left of these writes
abbrev left_of : LitmusTest → (ℕ → ℕ) → ℕ → List Write → List Waiting
left_of test f t ws = map (text_of test t) (filter (kept f t) ws)

left_push : (test : LitmusTest) (f : ℕ → ℕ) (e : Event) (ws : List Write) (b : Bool) → in_frame f e ≡ b
    → left_of test f e.thread (ws ++ write_of test e ∷ [])
    ≡ left_of test f e.thread ws ++ cond b (text_of test e.thread (write_of test e) ∷ []) []
left_push test f e ws b h =
    ap (map (text_of test e.thread)) (filter-append (kept f e.thread) ws (write_of test e ∷ []))
    ∙ map-append (text_of test e.thread) (filter (kept f e.thread) ws) (filter (kept f e.thread) (write_of test e ∷ []))
    ∙ ap (λ c. left_of test f e.thread ws ++ map (text_of test e.thread) (cond c (write_of test e ∷ []) [])) h
    ∙ go b
  where
    go : (c : Bool) → left_of test f e.thread ws ++ map (text_of test e.thread) (cond c (write_of test e ∷ []) [])
        ≡ left_of test f e.thread ws ++ cond c (text_of test e.thread (write_of test e) ∷ []) []
    go true = refl
    go false = refl

left_drain : (test : LitmusTest) (f : ℕ → ℕ) (e : Event) (ws : List Write) (b : Bool) → in_frame f e ≡ b
    → slice_get ws 0 ≡ Some (write_of test e)
    → left_of test f e.thread ws
    ≡ cond b (text_of test e.thread (write_of test e) ∷ left_of test f e.thread (drop 1 ws))
    (left_of test f e.thread (drop 1 ws))
left_drain test f e ws b h k =
    ap (left_of test f e.thread) (first_is ws (write_of test e) k)
    ∙ ap (λ c. map (text_of test e.thread) (cond c (write_of test e ∷ filter (kept f e.thread) (drop 1 ws))
    (filter (kept f e.thread) (drop 1 ws)))) h
    ∙ go b
  where
    go : (c : Bool) → map (text_of test e.thread) (cond c (write_of test e ∷ filter (kept f e.thread) (drop 1 ws))
        (filter (kept f e.thread) (drop 1 ws)))
        ≡ cond c (text_of test e.thread (write_of test e) ∷ left_of test f e.thread (drop 1 ws))
        (left_of test f e.thread (drop 1 ws))
    go true = refl
    go false = refl

own_pushed : (test : LitmusTest) (f : ℕ → ℕ) (s : RunState) (l : State) (e : Event) → Within test f s l
    → Among (site_of e) (stores_of test (event_location test e)) → (u : ℕ)
    → Each (IsOwn test u) (updated s.buffer e.thread (s.buffer e.thread ++ write_of test e ∷ []) u)
own_pushed test f s l e h a =
    at_mark (λ u (ws : List Write). Each (IsOwn test u) ws) s.buffer e.thread
    (s.buffer e.thread ++ write_of test e ∷ [])
    (each_append (IsOwn test e.thread) (s.buffer e.thread) (write_of test e ∷ []) (h.own e.thread)
    (record { stands = a; value = refl }, tt)) h.own

own_drained : (test : LitmusTest) (f : ℕ → ℕ) (s : RunState) (l : State) (e : Event) → Within test f s l → (u : ℕ)
    → Each (IsOwn test u) (updated s.buffer e.thread (drop 1 (s.buffer e.thread)) u)
own_drained test f s l e h =
    at_mark (λ u (ws : List Write). Each (IsOwn test u) ws) s.buffer e.thread (drop 1 (s.buffer e.thread))
    (each_rest (IsOwn test e.thread) (s.buffer e.thread) (h.own e.thread)) h.own

within_as : (test : LitmusTest) (f : ℕ → ℕ) (s : RunState) (l : State) (e : Event) (k : Kind) (b : Bool)
    → in_frame f e ≡ b → Within test f s l → Known test s e k → NeedsAs k test s e
    → Within test f (after_as k test s e) (cond b (next l e.thread (act_as k test l e)) l)
within_as test f s l e Push true i h g n =
    let t = e.thread in
    let new = text_of test t (write_of test e) in
    record {
      own = own_pushed test f s l e h (g.stored refl);
      buffer =
          at_two (λ u (ws : List Write) (ls : List Waiting). ls ≡ left_of test f u ws) s.buffer l.buffer t
          (s.buffer t ++ write_of test e ∷ []) (l.buffer t ++ new ∷ [])
          (ap (λ z. z ++ new ∷ []) (h.buffer t) ∙ sym (left_push test f e (s.buffer t) true i)) h.buffer;
      memory = h.memory;
      zero = h.zero;
    }
within_as test f s l e Push false i h g n =
    let t = e.thread in
    record {
      own = own_pushed test f s l e h (g.stored refl);
      buffer =
          at_mark (λ u (ws : List Write). l.buffer u ≡ left_of test f u ws) s.buffer t
          (s.buffer t ++ write_of test e ∷ [])
          (h.buffer t ∙ sym (append-nil (left_of test f t (s.buffer t)))
          ∙ sym (left_push test f e (s.buffer t) false i)) h.buffer;
      memory = h.memory;
      zero = h.zero;
    }
within_as test f s l e Drain true i h g n =
    let t = e.thread in
    record {
      own = own_drained test f s l e h;
      buffer =
          at_two (λ u (ws : List Write) (ls : List Waiting). ls ≡ left_of test f u ws) s.buffer l.buffer t
          (drop 1 (s.buffer t)) (drop 1 (l.buffer t))
          (ap (drop 1) (h.buffer t ∙ left_drain test f e (s.buffer t) true i n)) h.buffer;
      memory = memory_in test f s l e h (g.stored refl);
      zero = zero_in test f s l e i h (g.stored refl);
    }
within_as test f s l e Drain false i h g n =
    let t = e.thread in
    record {
      own = own_drained test f s l e h;
      buffer =
          at_mark (λ u (ws : List Write). l.buffer u ≡ left_of test f u ws) s.buffer t (drop 1 (s.buffer t))
          (h.buffer t ∙ left_drain test f e (s.buffer t) false i n) h.buffer;
      memory = memory_out test f s l e i h (g.stored refl);
      zero = zero_out test f s l e h (g.above refl);
    }
within_as test f s l e (Read v) true i h g n = h
within_as test f s l e (Read v) false i h g n = h
within_as test f s l e Fenced true i h g n = h
within_as test f s l e Fenced false i h g n = h
within_as test f s l e (Exchanged v) true i h g n = record {
  own = h.own;
  buffer = h.buffer;
  memory = memory_in test f s l e h (g.stored refl);
  zero = zero_in test f s l e i h (g.stored refl);
}
within_as test f s l e (Exchanged v) false i h g n = record {
  own = h.own;
  buffer = h.buffer;
  memory = memory_out test f s l e i h (g.stored refl);
  zero = zero_out test f s l e h (g.above refl);
}

-- ---- the cut of a run

abbrev pub after_in : LitmusTest → (ℕ → ℕ) → State → Event → State
after_in test f l e = cond (in_frame f e) (next l e.thread (act_as e.kind test l e)) l

-- the steps of the events of the frame, from a state on
abbrev pub cut_of : LitmusTest → (ℕ → ℕ) → State → List Event → List Step
cut_of test f l [] = []
cut_of test f l (e ∷ es) =
    cond (in_frame f e)
    (record { thread = e.thread; action = act_as e.kind test l e } ∷ cut_of test f (after_in test f l e) es)
    (cut_of test f (after_in test f l e) es)

-- what is known of each event
abbrev pub AllKnown : LitmusTest → RunState → List Event → Type 0
AllKnown test s [] = Unit {0}
AllKnown test s (e ∷ es) = Known test s e e.kind × AllKnown test (after test s e) es

abbrev IsStored : LitmusTest → Event → Type 0
IsStored test e = writes_kind e.kind ≡ true → Among (site_of e) (stores_of test (event_location test e))

known_from : (test : LitmusTest) (s : RunState) (es : List Event) → Rises test s es → Each (IsStored test) es
    → AllKnown test s es
known_from test s [] h k = tt
known_from test s (e ∷ es) h k = (
  record {
    stored = k.0;
    above = λ m w one. h.0 (event_location test e) w one
        (and_from (is_memory_kind e.kind) (event_location test e == event_location test e) m
        (eq-eqb (event_location test e) (event_location test e) refl));
  },
  known_from test (after test s e) es h.1 k.1,
)

pub all_known : (test : LitmusTest) (n : ℕ) (run : List Event) → IsRunOf test n run → AllKnown test initial run
all_known test n run r =
    known_from test initial run (rises test n [] run initial refl r)
    (each_from_among (IsStored test) run (λ e a w. write_among test n run e (event_location test e) r a w refl))

allows_in : (test : LitmusTest) (f : ℕ → ℕ) (s : RunState) (l : State) (e : Event) (k : Kind) → in_frame f e ≡ true
    → Within test f s l → NeedsAs k test s e → Allows l e.thread (act_as k test l e)
allows_in test f s l e Push i h n = tt
allows_in test f s l e Drain i h n =
    ap (λ z. slice_get z 0) (h.buffer e.thread ∙ left_drain test f e (s.buffer e.thread) true i n)
allows_in test f s l e (Read v) i h n = refl
allows_in test f s l e Fenced i h n = h.buffer e.thread ∙ ap (left_of test f e.thread) n
allows_in test f s l e (Exchanged v) i h n = (h.buffer e.thread ∙ ap (left_of test f e.thread) n.0, refl)

pub cut_allowed : (test : LitmusTest) (f : ℕ → ℕ) (s : RunState) (es : List Event) → AllKnown test s es
    → Steps test s es → (l : State) → Within test f s l → AllowsAll l (cut_of test f l es)
cut_allowed test f s [] g n l h = tt
cut_allowed test f s (e ∷ es) g n l h = go (in_frame f e) refl (cut_allowed test f (after test s e) es g.1 n.1)
  where
    go : (b : Bool) → in_frame f e ≡ b
        → ((m : State) → Within test f (after test s e) m → AllowsAll m (cut_of test f m es))
        → AllowsAll l (cond b (record { thread = e.thread; action = act_as e.kind test l e }
        ∷ cut_of test f (cond b (next l e.thread (act_as e.kind test l e)) l) es)
        (cut_of test f (cond b (next l e.thread (act_as e.kind test l e)) l) es))
    go true i rec = (
      allows_in test f s l e e.kind i h n.0,
      rec (next l e.thread (act_as e.kind test l e)) (within_as test f s l e e.kind true i h g.0 n.0),
    )
    go false i rec = rec l (within_as test f s l e e.kind false i h g.0 n.0)

pub cut_drained : (test : LitmusTest) (f : ℕ → ℕ) (s : RunState) (es : List Event) → AllKnown test s es
    → Steps test s es → ((t : ℕ) → (after_all test s es).buffer t ≡ []) → (l : State) → Within test f s l
    → (t : ℕ) → (end_of l (cut_of test f l es)).buffer t ≡ []
cut_drained test f s [] g n q l h t = h.buffer t ∙ ap (left_of test f t) (q t)
cut_drained test f s (e ∷ es) g n q l h t =
    go (in_frame f e) refl (cut_drained test f (after test s e) es g.1 n.1 q)
  where
    go : (b : Bool) → in_frame f e ≡ b
        → ((m : State) → Within test f (after test s e) m → (u : ℕ) → (end_of m (cut_of test f m es)).buffer u ≡ [])
        → (end_of l (cond b (record { thread = e.thread; action = act_as e.kind test l e }
        ∷ cut_of test f (cond b (next l e.thread (act_as e.kind test l e)) l) es)
        (cut_of test f (cond b (next l e.thread (act_as e.kind test l e)) l) es))).buffer t ≡ []
    go true i rec =
        rec (next l e.thread (act_as e.kind test l e)) (within_as test f s l e e.kind true i h g.0 n.0) t
    go false i rec = rec l (within_as test f s l e e.kind false i h g.0 n.0) t

-- ---- what each thread does and reads in the cut

-- an action does what the event did, and reads the literal of a store of the frame where the event read its value
pub record Did (test : LitmusTest) (f : ℕ → ℕ) (e : Event) (a : Action) : Type 0 where
  pub does : (i : Instr) → action_at test (site_of e) ≡ Some i → Gives i e.kind → Does i a
  pub named : (v : ℕ) (r : Site) → value_read e ≡ Some v → Among r (stores_of test (event_location test e))
      → v ≡ value_of test (event_location test e) r (f r.thread) → value_read_by a ≡ Some (literal test r)
  pub zero : (v w : ℕ) → value_read e ≡ Some v → OneThread test (event_location test e) w → (e.thread ≡ w → ⊥)
      → v ≤ store_count test (event_location test e) * f w → value_read_by a ≡ Some 0

does_in : (test : LitmusTest) (l : State) (e : Event) (i : Instr) (k : Kind) → action_at test (site_of e) ≡ Some i
    → Gives i k → Does i (act_as k test l e)
does_in test l e (Store x v) Push h g = (at_place_of test e (Store x v) h, literal_of test (site_of e) (Store x v) h)
does_in test l e (Load reg x) (Read v) h g = at_place_of test e (Load reg x) h
does_in test l e Fence Fenced h g = tt
does_in test l e (Exchange x v reg) (Exchanged w) h g =
    (at_place_of test e (Exchange x v reg) h, literal_of test (site_of e) (Exchange x v reg) h)
does_in test l e _ _ h g = absurd g

-- the newest write in the own buffer

newest_none : (test : LitmusTest) (f : ℕ → ℕ) (t x : ℕ) (ws : List Write) → newest_write x ws ≡ None
    → newest x (left_of test f t ws) ≡ None
newest_none test f t x [] h = refl
newest_none test f t x (w ∷ ws) h =
    go (newest_none test f t x ws) (newest_write x ws) refl (w.location == x) refl (kept f t w) h
  where
    go : (newest_write x ws ≡ None → newest x (left_of test f t ws) ≡ None) → (o : Option ℕ)
        → newest_write x ws ≡ o → (b : Bool) → (w.location == x) ≡ b → (c : Bool)
        → option_or o (cond b (Some w.value) None) ≡ None
        → newest x (map (text_of test t) (cond c (w ∷ filter (kept f t) ws) (filter (kept f t) ws))) ≡ None
    go rec (Some v) i b j c k = cc
    go rec None i true j c k = cc
    go rec None i false j true k = rw (rec i, j) refl
    go rec None i false j false k = rec i

newest_named : (test : LitmusTest) (f : ℕ → ℕ) (t x v : ℕ) (r : Site) (ws : List Write) → Each (IsOwn test t) ws
    → Among r (stores_of test x) → v ≡ value_of test x r (f r.thread) → newest_write x ws ≡ Some v
    → newest x (left_of test f t ws) ≡ Some (literal test r)
newest_named test f t x v r [] own a e h = cc
newest_named test f t x v r (w ∷ ws) own a e h =
    go (newest_named test f t x v r ws own.1 a e) (newest_write x ws) refl (w.location == x) refl (kept f t w) refl h
  where
    go : (newest_write x ws ≡ Some v → newest x (left_of test f t ws) ≡ Some (literal test r)) → (o : Option ℕ)
        → newest_write x ws ≡ o → (b : Bool) → (w.location == x) ≡ b → (c : Bool) → kept f t w ≡ c
        → option_or o (cond b (Some w.value) None) ≡ Some v
        → newest x (map (text_of test t) (cond c (w ∷ filter (kept f t) ws) (filter (kept f t) ws)))
        ≡ Some (literal test r)
    go rec (Some u) i b j true m k = rw (rec (i ∙ k)) refl
    go rec (Some u) i b j false m k = rec (i ∙ k)
    go rec None i false j c m k = cc
    go rec None i true j c m k =
        let at_x : w.location ≡ x = eqb-true w.location x j in
        let v_is : w.value ≡ v = cc in
        let q : Site = record { thread = t; place = w.place } in
        let P : ℕ → Type 0 = λ z. Among q (stores_of test z) in
        let n = value_names test x q r w.iteration (f r.thread) (subst P at_x own.0.stands) a
        (ap (λ z. value_of test z q w.iteration) (sym at_x) ∙ sym own.0.value ∙ v_is ∙ e) in
        let inside : kept f t w ≡ true = eq-eqb w.iteration (f t) (n.1 ∙ ap (λ (z : Site). f z.thread) (sym n.0)) in
        let yes_kept : c ≡ true = sym m ∙ inside in
        let G : Bool → Type 0 = λ z. newest x (map (text_of test t) (cond z (w ∷ filter (kept f t) ws)
        (filter (kept f t) ws))) ≡ Some (literal test r) in
        subst G (sym yes_kept) (rw (newest_none test f t x ws i, j) (ap (λ z. Some (literal test z)) n.0))

-- what a read finds in the cut

found_by : (o p : Option ℕ) (v u w d : ℕ) → v ≡ unwrap_or o d → ((z : ℕ) → o ≡ Some z → z ≡ v → p ≡ Some w)
    → (o ≡ None → p ≡ None) → (v ≡ d → u ≡ w) → unwrap_or p u ≡ w
found_by (Some z) p v u w d h f g k = ap (λ q. unwrap_or q u) (f z refl (sym h))
found_by None p v u w d h f g k = ap (λ q. unwrap_or q u) (g refl) ∙ k h

found_named : (test : LitmusTest) (f : ℕ → ℕ) (s : RunState) (l : State) (t x v : ℕ) (r : Site) → Within test f s l
    → v ≡ readable s t x → Among r (stores_of test x) → v ≡ value_of test x r (f r.thread)
    → found l t x ≡ literal test r
found_named test f s l t x v r h n a e =
    ap (λ z. unwrap_or (newest x z) (l.memory x)) (h.buffer t)
    ∙ found_by (newest_write x (s.buffer t)) (newest x (left_of test f t (s.buffer t))) v (l.memory x) (literal test r)
    (s.memory x) n
    (λ z k m. newest_named test f t x v r (s.buffer t) (h.own t) a e (k ∙ ap (λ y. Some y) m))
    (newest_none test f t x (s.buffer t))
    (λ k. h.memory x r a (sym k ∙ e))

-- a thread that has no store of x has none in its buffer
none_own : (test : LitmusTest) (t x w : ℕ) (ws : List Write) → Each (IsOwn test t) ws → OneThread test x w
    → (t ≡ w → ⊥) → newest_write x ws ≡ None
none_own test t x w [] own one ne = refl
none_own test t x w (v ∷ ws) own one ne =
    go (none_own test t x w ws own.1 one ne) (v.location == x) refl
  where
    go : newest_write x ws ≡ None → (b : Bool) → (v.location == x) ≡ b
        → option_or (newest_write x ws) (cond b (Some v.value) None) ≡ None
    go rec true j =
        let at_x : v.location ≡ x = eqb-true v.location x j in
        let q : Site = record { thread = t; place = v.place } in
        let P : ℕ → Type 0 = λ z. Among q (stores_of test z) in
        absurd (ne (each_among (λ (z : Site). z.thread ≡ w) q (stores_of test x) (subst P at_x own.0.stands) one))
    go rec false j = ap (λ o. option_or o None) rec

found_zero : (test : LitmusTest) (f : ℕ → ℕ) (s : RunState) (l : State) (t x v w : ℕ) → Within test f s l
    → v ≡ readable s t x → OneThread test x w → (t ≡ w → ⊥) → v ≤ store_count test x * f w → found l t x ≡ 0
found_zero test f s l t x v w h n one ne low =
    let none = none_own test t x w (s.buffer t) (h.own t) one ne in
    let v_is : v ≡ s.memory x = n ∙ ap (λ o. unwrap_or o (s.memory x)) none in
    ap (λ z. unwrap_or (newest x z) (l.memory x)) (h.buffer t)
    ∙ ap (λ o. unwrap_or o (l.memory x)) (newest_none test f t x (s.buffer t) none)
    ∙ h.zero x w one (omega arith)

named_as : (test : LitmusTest) (f : ℕ → ℕ) (s : RunState) (l : State) (e : Event) (k : Kind) (v : ℕ) (r : Site)
    → Within test f s l → NeedsAs k test s e → value_read_as k ≡ Some v
    → Among r (stores_of test (event_location test e)) → v ≡ value_of test (event_location test e) r (f r.thread)
    → value_read_by (act_as k test l e) ≡ Some (literal test r)
named_as test f s l e Push v r h n k a m = cc
named_as test f s l e Drain v r h n k a m = cc
named_as test f s l e (Read u) v r h n k a m =
    let same : u ≡ v = cc in
    ap (λ z. Some z) (found_named test f s l e.thread (event_location test e) v r h (sym same ∙ n) a m)
named_as test f s l e Fenced v r h n k a m = cc
named_as test f s l e (Exchanged u) v r h n k a m =
    let same : u ≡ v = cc in
    ap (λ z. Some z) (h.memory (event_location test e) r a (sym n.1 ∙ same ∙ m))

zero_as : (test : LitmusTest) (f : ℕ → ℕ) (s : RunState) (l : State) (e : Event) (k : Kind) (v w : ℕ)
    → Within test f s l → NeedsAs k test s e → value_read_as k ≡ Some v → OneThread test (event_location test e) w
    → (e.thread ≡ w → ⊥) → v ≤ store_count test (event_location test e) * f w
    → value_read_by (act_as k test l e) ≡ Some 0
zero_as test f s l e Push v w h n k one ne low = cc
zero_as test f s l e Drain v w h n k one ne low = cc
zero_as test f s l e (Read u) v w h n k one ne low =
    let same : u ≡ v = cc in
    ap (λ z. Some z) (found_zero test f s l e.thread (event_location test e) v w h (sym same ∙ n) one ne low)
zero_as test f s l e Fenced v w h n k one ne low = cc
zero_as test f s l e (Exchanged u) v w h n k one ne low =
    let same : u ≡ v = cc in
    let m : u ≡ s.memory (event_location test e) = n.1 in
    ap (λ z. Some z) (h.zero (event_location test e) w one (omega arith))

did_as : (test : LitmusTest) (f : ℕ → ℕ) (s : RunState) (l : State) (e : Event) → Within test f s l → Needs test s e
    → Did test f e (act_as e.kind test l e)
did_as test f s l e h n = record {
  does = λ i a g. does_in test l e i e.kind a g;
  named = λ v r k a m. named_as test f s l e e.kind v r h n k a m;
  zero = λ v w k one ne low. zero_as test f s l e e.kind v w h n k one ne low;
}

draining_in : (test : LitmusTest) (l : State) (e : Event) (k : Kind) → is_draining (act_as k test l e) ≡ is_drain_kind k
draining_in test l e Push = refl
draining_in test l e Drain = refl
draining_in test l e (Read v) = refl
draining_in test l e Fenced = refl
draining_in test l e (Exchanged v) = refl

-- what thread t does in the frame
abbrev pub frame_deeds : (ℕ → ℕ) → ℕ → List Event → List Event
frame_deeds f t run = filter (λ (e : Event). ((e.thread == t) && not (is_drain e)) && in_frame f e) run

pub cut_did : (test : LitmusTest) (f : ℕ → ℕ) (t : ℕ) (s : RunState) (es : List Event) → AllKnown test s es
    → Steps test s es → (l : State) → Within test f s l
    → AllZip (Did test f) (frame_deeds f t es) (done_by t (cut_of test f l es))
cut_did test f t s [] g n l h = tt
cut_did test f t s (e ∷ es) g n l h = go (in_frame f e) refl (cut_did test f t (after test s e) es g.1 n.1)
  where
    both : (c : Bool) (rest : List Step) → ((e.thread == t) && not (is_drain e)) ≡ c
        → AllZip (Did test f) (frame_deeds f t es) (done_by t rest)
        → AllZip (Did test f) (cond (c && true) (e ∷ frame_deeds f t es) (frame_deeds f t es))
        (map (λ (x : Step). x.action) (cond c (record { thread = e.thread; action = act_as e.kind test l e }
        ∷ filter (λ (x : Step). (x.thread == t) && not (is_draining x.action)) rest)
        (filter (λ (x : Step). (x.thread == t) && not (is_draining x.action)) rest)))
    both true rest c k = (did_as test f s l e h n.0, k)
    both false rest c k = k

    go : (b : Bool) → in_frame f e ≡ b
        → ((m : State) → Within test f (after test s e) m
        → AllZip (Did test f) (frame_deeds f t es) (done_by t (cut_of test f m es)))
        → AllZip (Did test f) (cond (((e.thread == t) && not (is_drain e)) && b) (e ∷ frame_deeds f t es)
        (frame_deeds f t es))
        (done_by t (cond b (record { thread = e.thread; action = act_as e.kind test l e }
        ∷ cut_of test f (cond b (next l e.thread (act_as e.kind test l e)) l) es)
        (cut_of test f (cond b (next l e.thread (act_as e.kind test l e)) l) es)))
    go true i rec =
        let m = next l e.thread (act_as e.kind test l e) in
        let c = (e.thread == t) && not (is_drain e) in
        let rest = cut_of test f m es in
        let q : ((e.thread == t) && not (is_draining (act_as e.kind test l e))) ≡ c =
        ap (λ z. (e.thread == t) && not z) (draining_in test l e e.kind) in
        let P : Bool → Type 0 = λ z. AllZip (Did test f) (cond (c && true) (e ∷ frame_deeds f t es)
        (frame_deeds f t es))
        (map (λ (x : Step). x.action) (cond z (record { thread = e.thread; action = act_as e.kind test l e }
        ∷ filter (λ (x : Step). (x.thread == t) && not (is_draining x.action)) rest)
        (filter (λ (x : Step). (x.thread == t) && not (is_draining x.action)) rest))) in
        subst P (sym q) (both c rest refl (rec m (within_as test f s l e e.kind true i h g.0 n.0)))
    go false i rec =
        let k = rec l (within_as test f s l e e.kind false i h g.0 n.0) in
        let P : Bool → Type 0 = λ z. AllZip (Did test f) (cond z (e ∷ frame_deeds f t es) (frame_deeds f t es))
        (done_by t (cut_of test f l es)) in
        subst P (sym (and_right ((e.thread == t) && not (is_drain e)) false refl)) k
