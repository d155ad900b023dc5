-- One thread's next turn: what stands at the front of the rest of a part, and that the turn which a state gives is it.
use Rattle.std.proofs.Common.{◌≡◌, ◌∙◌, refl, sym, ap, subst, ℕ, zero, suc, ◌+◌, ◌-◌, ◌*◌, ◌<◌, ◌≤◌, ◌==◌, Bool, true, false, cond, not, Option, None, Some, List, [], ◌∷◌, ◌++◌, length, map, filter, take, drop, slice_get, nat_lt, arith, append_assoc, eqb-true, length-append, ltb-true}
use Rattle.std.specs.List.{AllByRecursion as Each, AllZip}
use Rattle.std.proofs.lemmas.List.Elements.{All-nil, All-cons}
use Rattle.x86_subset.specs.Test.{LitmusTest}
use Rattle.x86_subset.specs.declared.instr.Instr.{Instr}
use Rattle.x86_subset.specs.declared.instr.Instr.TheVariants.{Store, Load, Fence, Exchange}
use Rattle.tso_machine.specs.Event.{Event, Kind, Push, Drain, Read, Fenced, Exchanged, event_location, is_drain, is_drain_kind}
use Rattle.tso_machine.specs.Machine.{State, Write, Needs, Steps, after, after_all, readable, write_of}
use Rattle.tso_machine.specs.Part.{Slot, Gives, Fills, Agrees, own_after}
use Rattle.perp_base.proofs.Lists.{each_append}
use Rattle.tso_machine.proofs.Runs.{steps_right}
use Rattle.store_buffer.specs.Generator.{asks_drain}
use Rattle.perp_base.specs.declared.options.Options.{Options}
use Rattle.tso_runs.specs.Drained.{kind_as, drain_asked, drains_due, pushed}
use Rattle.tso_runs.specs.Own.{IsWriteOf, buffer_after, drain_event}
use Rattle.tso_runs.specs.Turns.{turns_of}
use Rattle.tso_runs.proofs.Cuts.{AreDrains, action_turn, drain_turn, drains_alone, turns_front}
use Rattle.tso_runs.proofs.Events.{agrees_from, buffer_other, buffer_own}
use Rattle.tso_runs.proofs.OnePart.{Acts, Drains, acts, drains, due}
use Rattle.tso_runs.proofs.Rest.{AreDue, IsRest, counted_from, due-kind, due_of, event, kind_from_gives, length_pushed}

-- States.

abbrev pub AreOf : ℕ → List Event → Type 0
AreOf t es = Each (λ e. e.thread ≡ t) es

pub buffers_own : (test : LitmusTest) (s : State) (t : ℕ) (es : List Event) → AreOf t es
    → (after_all test s es).buffer t ≡ buffer_after test (s.buffer t) es
buffers_own test s t [] h = refl
buffers_own test s t (e ∷ es) h =
    buffers_own test (after test s e) t es h.1 ∙ ap (λ b. buffer_after test b es) (buffer_own test s e t h.0)

pub buffer_after-append : (test : LitmusTest) (buffer : List Write) (xs ys : List Event)
    → buffer_after test buffer (xs ++ ys) ≡ buffer_after test (buffer_after test buffer xs) ys
buffer_after-append test buffer [] ys = refl
buffer_after-append test buffer (x ∷ xs) ys = buffer_after-append test (own_after test buffer x) xs ys

pub buffers_other : (test : LitmusTest) (s : State) (t u : ℕ) (es : List Event) → AreOf t es → (t ≡ u → ⊥)
    → (after_all test s es).buffer u ≡ s.buffer u
buffers_other test s t u [] h ne = refl
buffers_other test s t u (e ∷ es) h ne =
    buffers_other test (after test s e) t u es h.1 ne ∙ buffer_other test s e u (λ k. ne (sym h.0 ∙ k))

-- How many Drains are due.

asked_by : (b : ℕ) (c : Bool) → nat_lt 0 b ≡ c → cond c 1 0 ≤ b
asked_by b true h = let l : 0 < b = ltb-true 0 b h in omega arith
asked_by b false h = omega arith

asked_few : (asks : Bool) (b : ℕ) → drain_asked asks b ≤ b
asked_few false b = omega arith
asked_few true b = asked_by b (nat_lt 0 b) refl

full_few : (d b capacity : ℕ) (c : Bool) → 1 ≤ capacity → (b - d == capacity) ≡ c → d ≤ b → d + cond c 1 0 ≤ b
full_few d b capacity true one h l = let e : b - d ≡ capacity = eqb-true (b - d) capacity h in omega arith
full_few d b capacity false one h l = omega arith

pub due_few : (action : Instr) (capacity : ℕ) (asks : Bool) (b : ℕ) → 1 ≤ capacity → due_of action capacity asks b ≤ b
due_few (Store loc written) capacity asks b one =
    full_few (drain_asked asks b) b capacity (b - drain_asked asks b == capacity) one refl (asked_few asks b)
due_few (Load reg loc) capacity asks b one = asked_few asks b
due_few Fence capacity asks b one = omega arith
due_few (Exchange loc written reg) capacity asks b one = omega arith

drop_all : {X : Type 0} (xs : List X) → drop (length xs) xs ≡ []
drop_all [] = refl
drop_all (x ∷ xs) = drop_all xs

pub gives_no_drain : (action : Instr) (k : Kind) → Gives action k → is_drain_kind k ≡ false
gives_no_drain (Store loc written) Push g = refl
gives_no_drain (Load reg loc) (Read v) g = refl
gives_no_drain Fence Fenced g = refl
gives_no_drain (Exchange loc written reg) (Exchanged v) g = refl
gives_no_drain _ _ g = absurd g

-- The event of an action in a state.

-- the value that an action of thread t reads from location x
abbrev value_now : Instr → State → ℕ → ℕ → ℕ
value_now (Store loc written) s t x = 0
value_now (Load reg loc) s t x = readable s t x
value_now Fence s t x = 0
value_now (Exchange loc written reg) s t x = s.memory x

abbrev pub event_now : LitmusTest → State → ℕ → Slot → Event
event_now test s t slot =
    event t slot.iteration slot.place (kind_as slot.action (value_now slot.action s t
    (event_location test (event t slot.iteration slot.place Fenced))))

pub gives_kind : (action : Instr) (v : ℕ) → Gives action (kind_as action v)
gives_kind (Store loc written) v = tt
gives_kind (Load reg loc) v = tt
gives_kind Fence v = tt
gives_kind (Exchange loc written reg) v = tt

needs_kind : (test : LitmusTest) (s : State) (t n p : ℕ) (action : Instr) (v : ℕ)
    → Needs test s (event t n p (kind_as action v))
    → kind_as action v ≡ kind_as action (value_now action s t (event_location test (event t n p Fenced)))
needs_kind test s t n p (Store loc written) v h = refl
needs_kind test s t n p (Load reg loc) v h = ap (λ v. Read v) h
needs_kind test s t n p Fence v h = refl
needs_kind test s t n p (Exchange loc written reg) v h = ap (λ v. Exchanged v) h.1

-- an event that fills a slot and can come is the one of the state
is_now : (test : LitmusTest) (s : State) (t : ℕ) (slot : Slot) (e : Event) → Fills t slot e → Needs test s e
    → e ≡ event_now test s t slot
is_now test s t slot e f h =
    let g = kind_from_gives slot.action e.kind f.kind in
    let same : e ≡ event t slot.iteration slot.place (kind_as slot.action g.0) = λ i. record {
      thread = f.thread i;
      iteration = f.iteration i;
      place = f.place i;
      kind = g.1 i;
    } in
    same ∙ ap (event t slot.iteration slot.place) (needs_kind test s t slot.iteration slot.place slot.action g.0
    (subst (Needs test s) same h))

-- a fence and an exchange find the buffer empty after their Drains, so the event can come
can_come : (test : LitmusTest) (s : State) (t n p : ℕ) (action : Instr) (capacity : ℕ) (asks : Bool)
    (buffer : List Write) → s.buffer t ≡ drop (due_of action capacity asks (length buffer)) buffer
    → Needs test s (event t n p (kind_as action (value_now action s t (event_location test (event t n p Fenced)))))
can_come test s t n p (Store loc written) capacity asks buffer h = tt
can_come test s t n p (Load reg loc) capacity asks buffer h = refl
can_come test s t n p Fence capacity asks buffer h = h ∙ drop_all buffer
can_come test s t n p (Exchange loc written reg) capacity asks buffer h = (h ∙ drop_all buffer, refl)

-- Drains of the oldest writes.

abbrev pub drains_of : ℕ → ℕ → List Write → List Event
drains_of t n buffer = map (drain_event t) (take n buffer)

are_drains : (t n : ℕ) (buffer : List Write) → AreOf t (drains_of t n buffer)
are_drains t zero buffer = tt
are_drains t (suc n) [] = tt
are_drains t (suc n) (w ∷ ws) = (refl, are_drains t n ws)

pub own_drains : (test : LitmusTest) (t n : ℕ) (buffer : List Write)
    → buffer_after test buffer (drains_of t n buffer) ≡ drop n buffer
own_drains test t zero buffer = refl
own_drains test t (suc n) [] = refl
own_drains test t (suc n) (w ∷ ws) = own_drains test t n ws

-- and what comes after them
pub after_drains : (test : LitmusTest) (t n : ℕ) (buffer : List Write) (es : List Event)
    → buffer_after test buffer (drains_of t n buffer ++ es) ≡ buffer_after test (drop n buffer) es
after_drains test t n buffer es =
    buffer_after-append test buffer (drains_of t n buffer) es
    ∙ ap (λ b. buffer_after test b es) (own_drains test t n buffer)

drains_come : (test : LitmusTest) (s : State) (t n : ℕ) (buffer : List Write) → s.buffer t ≡ buffer
    → Each (IsWriteOf test t) buffer → Steps test s (drains_of t n buffer)
drains_come test s t zero buffer h own = tt
drains_come test s t (suc n) [] h own = tt
drains_come test s t (suc n) (w ∷ ws) h own = (
  ap (λ b. slice_get b 0) h ∙ ap (λ w. Some w) (sym own.0),
  drains_come test (after test s (drain_event t w)) t n ws (buffer_own test s (drain_event t w) t refl ∙ ap (drop 1) h)
      own.1,
)

pub all_drain : (t n : ℕ) (buffer : List Write) → AreDrains (drains_of t n buffer)
all_drain t zero buffer = tt
all_drain t (suc n) [] = tt
all_drain t (suc n) (w ∷ ws) = (refl, all_drain t n ws)

module _ (test : LitmusTest) (options : Options) (t : ℕ) where
  abbrev Rest : List Slot → List Write → ℕ → ℕ → List Event → Type 0
  Rest slots buffer j d part = IsRest test options t slots buffer j d part

  -- The front of the rest of a part, where a slot is left.

  pub record Split (slot : Slot) (slots : List Slot) (buffer : List Write) (j d : ℕ) (part : List Event) : Type 0 where
    pub count : ℕ
    pub here : Event
    pub later : List Event
    pub whole : part ≡ drains_of t count buffer ++ here ∷ later
    pub due_now : d + count ≡ due test options t slot.action j (length buffer + d)
    pub fills : Fills t slot here
    pub rest : Rest slots (own_after test (drop count buffer) here) (j + 1) 0 later

  split_drain : (slot : Slot) (slots : List Slot) (buffer : List Write) (j d : ℕ) (s n p : ℕ) (es : List Event)
      → Drains test options t (slot ∷ slots) buffer j d (event s n p Drain) es
      → Split slot slots (drop 1 buffer) j (d + 1) es → Split slot slots buffer j d (event s n p Drain ∷ es)
  split_drain slot slots [] j d s n p es h r = let k = h.oldest in cc
  split_drain slot slots (w ∷ ws) j d s n p es h r =
      let same : w ≡ write_of test (event s n p Drain) = (let k = h.oldest in cc) in
      let first : event s n p Drain ≡ drain_event t w = λ i. event (h.thread i) ((sym same i).iteration)
      ((sym same i).place) Drain in
      let long : length ws + (d + 1) ≡ length (w ∷ ws) + d = omega arith in
      let now : d + 1 + r.count ≡ due test options t slot.action j (length (w ∷ ws) + d) = r.due_now
      ∙ ap (due test options t slot.action j) long in
      record {
        count = suc r.count;
        here = r.here;
        later = r.later;
        whole = λ i. first i ∷ r.whole i;
        due_now = (let k : d + suc r.count ≡ d + 1 + r.count = omega arith in k ∙ now);
        fills = r.fills;
        rest = r.rest;
      }

  split_event : (slot : Slot) (slots : List Slot) (buffer : List Write) (j d : ℕ) (e : Event) (es : List Event)
      → Acts test options t slot slots buffer j d e es → Split slot slots buffer j d (e ∷ es)
  split_event slot slots buffer j d e es a = record {
    count = 0;
    here = e;
    later = es;
    whole = refl;
    due_now = (let k : d + 0 ≡ d = omega arith in k ∙ a.due_now);
    fills = a.fills;
    rest = a.rest;
  }

  split_cons : (slot : Slot) (slots : List Slot) (buffer : List Write) (j d : ℕ) (s n p : ℕ) (k : Kind)
      (es : List Event) → (Rest (slot ∷ slots) (drop 1 buffer) j (d + 1) es
      → Split slot slots (drop 1 buffer) j (d + 1) es)
      → Rest (slot ∷ slots) buffer j d (event s n p k ∷ es) → Split slot slots buffer j d (event s n p k ∷ es)
  split_cons slot slots buffer j d s n p Drain es rec r =
      let h = drains test options t (slot ∷ slots) buffer j d s n p es r in
      split_drain slot slots buffer j d s n p es h (rec h.rest)
  split_cons slot slots buffer j d s n p k es rec r =
      split_event slot slots buffer j d (event s n p k) es (acts test options t slot slots buffer j d s n p k es refl r)

  pub split : (slot : Slot) (slots : List Slot) (buffer : List Write) (j d : ℕ) (part : List Event)
      → Rest (slot ∷ slots) buffer j d part → Split slot slots buffer j d part
  split slot slots buffer j d [] r = absurd r.fills
  split slot slots buffer j d (e ∷ es) r =
      split_cons slot slots buffer j d e.thread e.iteration e.place e.kind es
      (split slot slots (drop 1 buffer) j (d + 1) es) r

  -- And where none is left.

  abbrev NoSlots : List Event → Type 0
  NoSlots part = AllZip (Fills t) [] (filter (λ e. not (is_drain e)) part)

  no_turns_cons : (d : ℕ) (s n p : ℕ) (k : Kind) (es : List Event) → (NoSlots es → counted_from (d + 1) es ≡ [])
      → NoSlots (event s n p k ∷ es) → counted_from d (event s n p k ∷ es) ≡ []
  no_turns_cons d s n p Drain es rec h = rec h
  no_turns_cons d s n p k es rec h = absurd h

  no_turns : (d : ℕ) (part : List Event) → NoSlots part → counted_from d part ≡ []
  no_turns d [] h = refl
  no_turns d (e ∷ es) h = no_turns_cons d e.thread e.iteration e.place e.kind es (no_turns (d + 1) es) h

  -- the Drains of the turn that are done do not count there
  anew : (buffer : List Write) (j d e : ℕ) (part : List Event) → Rest [] buffer j d part → Rest [] buffer j e part
  anew buffer j d e part r = record {
    own = r.own;
    fills = r.fills;
    keeps = r.keeps;
    drained = rw (no_turns e part r.fills) tt;
  }

  pub record EndSplit (w : Write) (ws : List Write) (j : ℕ) (part : List Event) : Type 0 where
    pub later : List Event
    pub whole : part ≡ drain_event t w ∷ later
    pub rest : Rest [] ws j 0 later

  end_cons : (w : Write) (ws : List Write) (j : ℕ) (s n p : ℕ) (k : Kind) (es : List Event)
      → Rest [] (w ∷ ws) j 0 (event s n p k ∷ es) → EndSplit w ws j (event s n p k ∷ es)
  end_cons w ws j s n p Drain es r =
      let h = drains test options t [] (w ∷ ws) j 0 s n p es r in
      let o = h.oldest in
      let same : w ≡ write_of test (event s n p Drain) = cc in
      let first : event s n p Drain ≡ drain_event t w = λ i. event (h.thread i) ((sym same i).iteration)
      ((sym same i).place) Drain in
      record { later = es; whole = ap (λ d. d ∷ es) first; rest = anew ws j 1 0 es h.rest }
  end_cons w ws j s n p k es r = absurd r.fills

  pub end_split : (w : Write) (ws : List Write) (j : ℕ) (part : List Event) → Rest [] (w ∷ ws) j 0 part
      → EndSplit w ws j part
  end_split w ws j [] r = let k = r.keeps in cc
  end_split w ws j (e ∷ es) r = end_cons w ws j e.thread e.iteration e.place e.kind es r

  nothing_cons : (j : ℕ) (s n p : ℕ) (k : Kind) (es : List Event) → Rest [] [] j 0 (event s n p k ∷ es) → ⊥
  nothing_cons j s n p Drain es r = let h = (drains test options t [] [] j 0 s n p es r).oldest in cc
  nothing_cons j s n p k es r = r.fills

  pub nothing_left : (j : ℕ) (part : List Event) → Rest [] [] j 0 part → part ≡ []
  nothing_left j [] r = refl
  nothing_left j (e ∷ es) r = absurd (nothing_cons j e.thread e.iteration e.place e.kind es r)

  -- The other way: what stands in front of the rest of a part.

  rest_drain : (slots : List Slot) (w : Write) (ws : List Write) (j d : ℕ) (es : List Event) → IsWriteOf test t w
      → Rest slots ws j (d + 1) es → Rest slots (w ∷ ws) j d (drain_event t w ∷ es)
  rest_drain slots w ws j d es own r =
      let long : length ws + (d + 1) ≡ length (w ∷ ws) + d = omega arith in
      let P : ℕ → Type 0 = λ b. AreDue options t j b (counted_from (d + 1) es) in
      record {
        own = All-cons (λ (e : Event). e.thread ≡ t) (drain_event t w) es refl r.own;
        fills = r.fills;
        keeps = (ap (λ w. Some w) (sym own), r.keeps);
        drained = subst P long r.drained;
      }

  rest_event : (slot : Slot) (slots : List Slot) (buffer : List Write) (j d : ℕ) (e : Event) (es : List Event)
      → Fills t slot e → Agrees test buffer e → d ≡ due test options t slot.action j (length buffer + d)
      → Rest slots (own_after test buffer e) (j + 1) 0 es → Rest (slot ∷ slots) buffer j d (e ∷ es)
  rest_event slot slots buffer j d e es f a now r =
      let h : is_drain e ≡ false = gives_no_drain slot.action e.kind f.kind in
      let b : pushed e.kind (length buffer + d - d)
      ≡ length (own_after test buffer e) + 0 = length_pushed test buffer d e.thread e.iteration e.place e.kind h in
      let first : d ≡ drains_due e.kind options.buffer (asks_drain options.seed t options.rate j) (length buffer + d) =
      now ∙ sym (due-kind slot.action e.kind f.kind options.buffer (asks_drain options.seed t options.rate j)
      (length buffer + d)) in
      let P : ℕ → Type 0 = λ b. AreDue options t (j + 1) b (counted_from 0 es) in
      record {
        own = All-cons (λ (e : Event). e.thread ≡ t) e es f.thread r.own;
        fills = rw h (f, r.fills);
        keeps = (a, r.keeps);
        drained = rw h (first, subst P (sym b) r.drained);
      }

  build : (c : ℕ) (slot : Slot) (slots : List Slot) (buffer : List Write) (j d : ℕ) (e : Event) (es : List Event)
      → c ≤ length buffer → Each (IsWriteOf test t) buffer → Fills t slot e → Agrees test (drop c buffer) e
      → d + c ≡ due test options t slot.action j (length buffer + d)
      → Rest slots (own_after test (drop c buffer) e) (j + 1) 0 es
      → Rest (slot ∷ slots) buffer j d (drains_of t c buffer ++ e ∷ es)
  build zero slot slots buffer j d e es l own f a now r =
      rest_event slot slots buffer j d e es f a (let k : d ≡ d + 0 = omega arith in k ∙ now) r
  build (suc c) slot slots [] j d e es l own f a now r = absurd (omega arith)
  build (suc c) slot slots (w ∷ ws) j d e es l own f a now r =
      let long : length (w ∷ ws) + d ≡ length ws + (d + 1) = omega arith in
      let later : d + 1 + c ≡ due test options t slot.action j (length ws + (d + 1)) =
      (let k : d + 1 + c ≡ d + suc c = omega arith in k ∙ now ∙ ap (due test options t slot.action j) long) in
      rest_drain (slot ∷ slots) w ws j d (drains_of t c ws ++ e ∷ es) own.0
      (build c slot slots ws j (d + 1) e es (omega arith) own.1 f a later r)

  -- a whole turn, with the Drains that are due before its action
  pub rest_turn : (slot : Slot) (slots : List Slot) (buffer : List Write) (j c : ℕ) (e : Event) (later : List Event)
      → c ≡ due test options t slot.action j (length buffer) → c ≤ length buffer → Each (IsWriteOf test t) buffer
      → Fills t slot e → Agrees test (drop c buffer) e → Rest slots (own_after test (drop c buffer) e) (j + 1) 0 later
      → Rest (slot ∷ slots) buffer j 0 ((drains_of t c buffer ++ e ∷ []) ++ later)
  rest_turn slot slots buffer j c e later now few own f a r =
      let none : 0 + c ≡ c = omega arith in
      let long : length buffer ≡ length buffer + 0 = omega arith in
      subst (Rest (slot ∷ slots) buffer j 0) (sym (append_assoc (drains_of t c buffer) (e ∷ []) later))
      (build c slot slots buffer j 0 e later few own f a (none ∙ now ∙ ap (due test options t slot.action j) long) r)

  -- a turn of a Drain alone, after the last slot
  pub rest_last : (w : Write) (ws : List Write) (j : ℕ) (later : List Event) → IsWriteOf test t w
      → Rest [] ws j 0 later → Rest [] (w ∷ ws) j 0 (drain_event t w ∷ later)
  rest_last w ws j later own r = rest_drain [] w ws j 0 later own (anew ws j 0 1 later r)

  -- and nothing, after the last write
  pub rest_none : (j : ℕ) → Rest [] [] j 0 []
  rest_none j = record { own = All-nil (λ (e : Event). e.thread ≡ t); fills = tt; keeps = refl; drained = tt }

-- What a thread still has to do: the slots that are left, and how many are done.
pub record Doing : Type 0 where
  pub slots : List Slot
  pub made : ℕ

-- where a thread has something to do, the next turn is not taken; the last one is empty
abbrev pub left_of : Option Doing → List Event → List (List Event)
left_of None part = []
left_of (Some d) part = turns_of part

pub steps_join : (test : LitmusTest) (s : State) (xs ys : List Event) → Steps test s xs
    → Steps test (after_all test s xs) ys → Steps test s (xs ++ ys)
steps_join test s [] ys h k = k
steps_join test s (x ∷ xs) ys h k = (h.0, steps_join test (after test s x) xs ys h.1 k)

each_dropped : {X : Type 0} (P : X → Type 0) (n : ℕ) (xs : List X) → Each P xs → Each P (drop n xs)
each_dropped P zero xs h = h
each_dropped P (suc n) [] h = tt
each_dropped P (suc n) (x ∷ xs) h = each_dropped P n xs h.1

long_dropped : {X : Type 0} (n : ℕ) (xs : List X) → length (drop n xs) ≤ length xs
long_dropped zero xs = omega arith
long_dropped (suc n) [] = omega arith
long_dropped (suc n) (x ∷ xs) = let h = long_dropped n xs in omega arith

pub kept_by : (test : LitmusTest) (t n p : ℕ) (action : Instr) (v : ℕ) (buffer : List Write)
    → Each (IsWriteOf test t) buffer → Each (IsWriteOf test t) (own_after test buffer (event t n p (kind_as action v)))
kept_by test t n p (Store loc written) v buffer h =
    each_append (IsWriteOf test t) buffer (write_of test (event t n p Push) ∷ []) h (refl, tt)
kept_by test t n p (Load reg loc) v buffer h = h
kept_by test t n p Fence v buffer h = h
kept_by test t n p (Exchange loc written reg) v buffer h = h

long_by : (test : LitmusTest) (t n p : ℕ) (action : Instr) (v : ℕ) (buffer : List Write)
    → length (own_after test buffer (event t n p (kind_as action v))) ≤ length buffer + 1
long_by test t n p (Store loc written) v buffer =
    omega (arith, length-append buffer (write_of test (event t n p Push) ∷ []))
long_by test t n p (Load reg loc) v buffer = omega arith
long_by test t n p Fence v buffer = omega arith
long_by test t n p (Exchange loc written reg) v buffer = omega arith

module _ (test : LitmusTest) (options : Options) (t : ℕ) where
  -- the Drains that are due before an action with this buffer
  abbrev due_count : Slot → ℕ → List Write → ℕ
  due_count slot j buffer = due test options t slot.action j (length buffer)

  abbrev now_drains : Slot → ℕ → List Write → List Event
  now_drains slot j buffer = drains_of t (due_count slot j buffer) buffer

  -- the next turn in a state
  abbrev pub turn_by : State → List Slot → ℕ → List Write → List Event
  turn_by s (slot ∷ slots) j buffer =
      now_drains slot j buffer ++ event_now test (after_all test s (now_drains slot j buffer)) t slot ∷ []
  turn_by s [] j (w ∷ ws) = drain_event t w ∷ []
  turn_by s [] j [] = []

  -- what is to do after it
  abbrev pub next_by : List Slot → ℕ → List Write → Option Doing
  next_by (slot ∷ slots) j buffer = Some (record { slots = slots; made = j + 1 })
  next_by [] j (w ∷ ws) = Some (record { slots = []; made = j })
  next_by [] j [] = None

  -- what holds of the rest of a part
  abbrev pub RestAt : Option Doing → List Write → List Event → Type 0
  RestAt None buffer part = part ≡ []
  RestAt (Some d) buffer part = IsRest test options t d.slots buffer d.made 0 part

  -- the front of the rest of a part is the turn of the state
  pub record Taken (s : State) (slots : List Slot) (j : ℕ) (buffer : List Write) (part : List Event) : Type 0 where
    pub turn : List Event
    pub later : List Event
    pub whole : part ≡ turn ++ later
    pub cut : turns_of part ≡ turn ∷ left_of (next_by slots j buffer) later
    pub own : AreOf t turn
    pub is : Steps test s turn → turn ≡ turn_by s slots j buffer
    pub rest : RestAt (next_by slots j buffer) (buffer_after test buffer turn) later

  pub taken : (s : State) (slots : List Slot) (j : ℕ) (buffer : List Write) (part : List Event)
      → IsRest test options t slots buffer j 0 part → Taken s slots j buffer part
  taken s (slot ∷ slots) j buffer part r =
      let h = split test options t slot slots buffer j 0 part r in
      let ds = drains_of t h.count buffer in
      let no_drain : is_drain h.here ≡ false = gives_no_drain slot.action h.here.kind h.fills.kind in
      let count : h.count ≡ due_count slot j buffer = (let k : h.count ≡ 0 + h.count = omega arith in
      let l : length buffer + 0 ≡ length buffer = omega arith in k ∙ h.due_now
      ∙ ap (due test options t slot.action j) l) in
      let behind = after_drains test t h.count buffer (h.here ∷ []) in
      let P : List Write → Type 0 = λ b. IsRest test options t slots b (j + 1) 0 h.later in
      record {
        turn = ds ++ h.here ∷ [];
        later = h.later;
        whole = h.whole ∙ sym (append_assoc ds (h.here ∷ []) h.later);
        cut = ap turns_of h.whole ∙ turns_front [] ds h.here h.later (all_drain t h.count buffer) no_drain;
        own = each_append (λ e. e.thread ≡ t) ds (h.here ∷ []) (are_drains t h.count buffer) (h.fills.thread, tt);
        is = λ k.
            ap (λ e. ds ++ e ∷ []) (is_now test (after_all test s ds) t slot h.here h.fills
            (steps_right test s ds (h.here ∷ []) k).0)
            ∙ ap (λ c. drains_of t c buffer ++ event_now test (after_all test s (drains_of t c buffer)) t slot ∷ [])
            count;
        rest = subst P (sym behind) h.rest;
      }
  taken s [] j (w ∷ ws) part r =
      let h = end_split test options t w ws j part r in
      record {
        turn = drain_event t w ∷ [];
        later = h.later;
        whole = h.whole;
        cut = ap turns_of h.whole ∙ drain_turn (drain_event t w) h.later refl (drains_alone t h.later h.rest.fills);
        own = (refl, tt);
        is = λ k. refl;
        rest = h.rest;
      }
  taken s [] j [] part r =
      let e = nothing_left test options t j part r in
      record { turn = []; later = []; whole = e; cut = ap turns_of e; own = tt; is = λ k. refl; rest = refl }

  -- the turn of the state can stand in front of what is left after it
  pub record Built (s : State) (slots : List Slot) (j : ℕ) (buffer : List Write) : Type 0 where
    pub steps : Steps test s (turn_by s slots j buffer)
    pub own : AreOf t (turn_by s slots j buffer)
    pub kept : Each (IsWriteOf test t) (buffer_after test buffer (turn_by s slots j buffer))
    pub back : (later : List Event) → RestAt (next_by slots j buffer)
        (buffer_after test buffer (turn_by s slots j buffer)) later
        → IsRest test options t slots buffer j 0 (turn_by s slots j buffer ++ later)
    pub cut : (later : List Event) → RestAt (next_by slots j buffer)
        (buffer_after test buffer (turn_by s slots j buffer)) later
        → turns_of (turn_by s slots j buffer ++ later) ≡ turn_by s slots j buffer
        ∷ left_of (next_by slots j buffer) later

  pub built : (s : State) (slots : List Slot) (j : ℕ) (buffer : List Write) → s.buffer t ≡ buffer
      → Each (IsWriteOf test t) buffer → 1 ≤ options.buffer → Built s slots j buffer
  built s (slot ∷ slots) j buffer h own one =
      let asks = asks_drain options.seed t options.rate j in
      let c = due_count slot j buffer in
      let ds = drains_of t c buffer in
      let mid = after_all test s ds in
      let e = event_now test mid t slot in
      let few : c ≤ length buffer = due_few slot.action options.buffer asks (length buffer) one in
      let there : mid.buffer t ≡ drop c buffer = buffers_own test s t ds (are_drains t c buffer)
      ∙ ap (λ b. buffer_after test b ds) h ∙ own_drains test t c buffer in
      let needs : Needs test mid e = can_come test mid t slot.iteration slot.place slot.action options.buffer asks
      buffer there in
      let agrees : Agrees test (drop c buffer) e = subst (λ b. Agrees test b e) there (agrees_from test mid e needs) in
      let fills : Fills t slot e = record {
        thread = refl;
        iteration = refl;
        place = refl;
        kind =
            gives_kind slot.action (value_now slot.action mid t (event_location test
            (event t slot.iteration slot.place Fenced)));
      } in
      let no_drain : is_drain e ≡ false = gives_no_drain slot.action e.kind fills.kind in
      let behind = after_drains test t c buffer (e ∷ []) in
      record {
        steps = steps_join test s ds (e ∷ []) (drains_come test s t c buffer h own) (needs, tt);
        own = each_append (λ e. e.thread ≡ t) ds (e ∷ []) (are_drains t c buffer) (refl, tt);
        kept =
            subst (Each (IsWriteOf test t)) (sym behind) (kept_by test t slot.iteration slot.place slot.action
            (value_now slot.action mid t (event_location test (event t slot.iteration slot.place Fenced)))
            (drop c buffer) (each_dropped (IsWriteOf test t) c buffer own));
        back = λ later r.
            rest_turn test options t slot slots buffer j c e later refl few own fills agrees
            (subst (λ b. IsRest test options t slots b (j + 1) 0 later) behind r);
        cut = λ later r. action_turn ds e later (all_drain t c buffer) no_drain;
      }
  built s [] j (w ∷ ws) h own one = record {
    steps = (ap (λ b. slice_get b 0) h ∙ ap (λ w. Some w) (sym own.0), tt);
    own = (refl, tt);
    kept = own.1;
    back = λ later r. rest_last test options t w ws j later own.0 r;
    cut = λ later r. drain_turn (drain_event t w) later refl (drains_alone t later r.fills);
  }
  built s [] j [] h own one = record {
    steps = tt;
    own = tt;
    kept = tt;
    back = λ later e. subst (λ part. IsRest test options t [] [] j 0 part) (sym e) (rest_none test options t j);
    cut = λ later e. ap turns_of e;
  }

  -- a number that falls with each turn
  abbrev pub weight_of : Option Doing → List Write → ℕ
  weight_of None buffer = 0
  weight_of (Some d) buffer = 2 * length d.slots + length buffer + 1

  pub weight_falls : (s : State) (slots : List Slot) (j : ℕ) (buffer : List Write)
      → weight_of (next_by slots j buffer) (buffer_after test buffer (turn_by s slots j buffer))
      < 2 * length slots + length buffer + 1
  weight_falls s (slot ∷ slots) j buffer =
      let c = due_count slot j buffer in
      let ds = drains_of t c buffer in
      let mid = after_all test s ds in
      let e = event_now test mid t slot in
      let behind = after_drains test t c buffer (e ∷ []) in
      let a = long_by test t slot.iteration slot.place slot.action
      (value_now slot.action mid t (event_location test (event t slot.iteration slot.place Fenced)))
      (drop c buffer) in
      let b = long_dropped c buffer in
      omega (arith, ap length behind)
  weight_falls s [] j (w ∷ ws) = omega arith
  weight_falls s [] j [] = omega arith
