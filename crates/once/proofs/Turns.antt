-- A read in a run of n iterations: each other store to its location, of whatever iteration, is in memory before the
-- read's source, or after the read.
use Rattle.std.proofs.Common.{◌≡◌, ℕ, ◌<◌, ◌==◌, Bool, true, false, ◌&&◌, Option, None, Some, List, ◌∷◌, ◌++◌, length, refl, sym, ap, ◌∙◌, arith, subst, inl, inr, ◌⊎◌, append_assoc, eq-eqb, option_map}
use Rattle.std.proofs.lemmas.Bool.{and_from, and_parts, both_ways, cases_Bool, eqb-true, false_from_ne_true}
use Rattle.std.specs.List.{AllByRecursion as Each, list_any, position_or_len}
use Rattle.std.specs.Option.{option_or}
use Rattle.x86_subset.specs.Instr.{is_reading, is_store_to}
use Rattle.x86_subset.specs.Test.{LitmusTest}
use Rattle.x86_subset.specs.declared.instr.Instr.{Instr}
use Rattle.x86_subset.specs.declared.instr.Instr.TheVariants.{Store, Load, Fence, Exchange}
use Rattle.tso_machine.specs.Event.{Event, Kind, Push, Read, Fenced, Exchanged, event_location, is_drain}
use Rattle.tso_machine.specs.Part.{Gives}
use Rattle.tso_machine.specs.Run.{IsRunOf}
use Rattle.tso_machine.specs.Source.{is_memory_kind, is_memory_write, is_pending, is_push, origin_of, same_store, source_as, source_of}
use Rattle.tso_machine.proofs.Runs.{comes_out}
use Rattle.seq_conv.specs.Sequence.{Origin, action_at, site_location, store_of}
use Rattle.perp_base.specs.Last.{last_that}
use Rattle.perp_base.proofs.Lists.{Among, among_append_left, last_found}
use Rattle.outcome_conv.specs.Holds.{source_at}
use Rattle.outcome_conv.proofs.Agree.{thread_below}
use Rattle.verdict.specs.Edges.{node}
use Rattle.verdict.proofs.Deeds.{HasDeed, IsEarlier, deed_gives, deed_order, run_cut, store_before_barrier}
use Rattle.verdict.proofs.EventKinds.{drain_memory, gives_kind, is_store, memory_no_push, memory_out, push_no_drain, stores_storing}
use Rattle.verdict.proofs.Finds.{any_among, any_found}
use Rattle.verdict.proofs.InOrder.{first_place, first_split, moment_writes, place_below}
use Rattle.verdict.proofs.Moments.{Moment, event_from, event_tells, has_moment, is_moment, moment_drains, moment_of_write}
use Rattle.verdict.proofs.ReadEdges.{reading_no_store, source_here}
use Rattle.verdict.proofs.Taken.{FromBuffer, FromMemory, Pending, among_self, pending_tells, taken_from}
use Rattle.decision.proofs.OwnReads.{last_from, pending_from, twice, writes_turn}
use Rattle.once.proofs.Draws.{location_at as node_location}
use Rattle.once.proofs.Places.{place_at_most, place_beyond, place_past}

-- A store, or an exchange, to x in an iteration.
pub record Stores (test : LitmusTest) (x : ℕ) (o : Origin) : Type 0 where
  pub action : Instr
  pub stands : action_at test (store_of o) ≡ Some action
  pub stores : is_store_to x action ≡ true

location_at : (test : LitmusTest) (x : ℕ) (o : Origin) → Stores test x o → site_location test (store_of o) ≡ x
location_at test x o w =
    node_location test x (node (store_of o)) (record { action = w.action; stands = w.stands; stores = w.stores })

-- A read in a run.

abbrev pub is_come : Origin → Event → Bool
is_come o e = is_moment (store_of o) o.iteration e

-- the moment of a is before that of b
abbrev pub moment : List Event → Origin → ℕ
moment run o = position_or_len (is_come o) run

abbrev pub Leads : List Event → Origin → Origin → Type 0
Leads run a b = moment run a < moment run b

-- the run, cut at the moment of a read
pub record At (test : LitmusTest) (n : ℕ) (r : Origin) (before : List Event) (e : Event)
    (after : List Event) : Type 0 where
  pub run : IsRunOf test n (before ++ e ∷ after)
  pub early : r.iteration < n
  pub action : Instr
  pub stands : action_at test (store_of r) ≡ Some action
  pub reading : is_reading action ≡ true
  pub none_before : Each (λ d. is_come r d ≡ false) before
  pub passes : is_come r e ≡ true

reader_moment : (test : LitmusTest) (n : ℕ) (r : Origin) (before : List Event) (e : Event)
    (after : List Event) → At test n r before e after → Moment (store_of r) r.iteration e
reader_moment test n r before e after a = event_tells is_push (store_of r) r.iteration e a.passes

reader_place : (test : LitmusTest) (n : ℕ) (r : Origin) (before : List Event) (e : Event)
    (after : List Event) → At test n r before e after
    → moment (before ++ e ∷ after) r ≡ length before
reader_place test n r before e after a = first_place (is_come r) before e after a.none_before a.passes

one_node : (a b : Origin) (e : Event) → is_come a e ≡ true → is_come b e ≡ true → a ≡ b
one_node a b e h k =
    let m = event_tells is_push (store_of a) a.iteration e h in
    let w = event_tells is_push (store_of b) b.iteration e k in
    let t : a.thread ≡ b.thread = sym m.thread ∙ w.thread in
    let p : a.place ≡ b.place = sym m.place ∙ w.place in
    let k : a.iteration ≡ b.iteration = sym m.iteration ∙ w.iteration in
    (λ i. record { thread = t i; place = p i; iteration = k i })

-- a store that has not come before the read comes after it
pub read_first : (test : LitmusTest) (n : ℕ) (r : Origin) (before : List Event) (e : Event)
    (after : List Event) → At test n r before e after → (o : Origin) → (o ≡ r → ⊥)
    → list_any (is_come o) before ≡ false → Leads (before ++ e ∷ after) r o
read_first test n r before e after a o ne h =
    let here = reader_place test n r before e after a in
    let there = place_beyond (is_come o) before e after h
    (false_from_ne_true (is_come o e) (λ k. ne (one_node o r e k a.passes))) in
    omega arith

come_low : (o : Origin) (before rest : List Event) → list_any (is_come o) before ≡ true
    → moment (before ++ rest) o < length before
come_low o before rest h = place_below (is_come o) before rest h

-- one that has come before the read leads to it
pub come_leads : (test : LitmusTest) (n : ℕ) (r : Origin) (before : List Event) (e : Event)
    (after : List Event) → At test n r before e after → (o : Origin)
    → list_any (is_come o) before ≡ true → Leads (before ++ e ∷ after) o r
come_leads test n r before e after a o h =
    let here = reader_place test n r before e after a in
    let low = come_low o before (e ∷ after) h in
    omega arith

abbrev pub Taken : LitmusTest → ℕ → List Event → Event → Origin → Type 0
Taken test x before e o = FromBuffer test e.thread x before o ⊎ FromMemory test e.thread x e.kind before o

pub taken_at : (test : LitmusTest) (n : ℕ) (r s : Origin) (before : List Event) (e : Event)
    (after : List Event) → (a : At test n r before e after) → (x : ℕ) → site_location test (store_of r) ≡ x
    → source_of test e before ≡ Some s → Taken test x before e s
taken_at test n r s before e after a x loc source =
    let m = reader_moment test n r before e after a in
    let at : event_location test e ≡ x = (λ i. site_location test (record { thread = m.thread i; place = m.place i }))
    ∙ loc in
    let C : ℕ → Type 0 = λ y. Taken test y before e s in
    subst C at (taken_from test e before s e.kind source)

-- an event that is no Push at a node's site comes there
come_from : (o : Origin) (d : Event) → is_push d ≡ false → d.thread ≡ o.thread → d.place ≡ o.place
    → d.iteration ≡ o.iteration → is_come o d ≡ true
come_from o d h t p i = event_from is_push (store_of o) o.iteration d h t p i

memory_event : (test : LitmusTest) (x : ℕ) (before : List Event) (d : Event)
    → last_that (is_memory_write test x) before ≡ Some d → (is_memory_kind d.kind ≡ true) × Among d before
memory_event test x before d h =
    let f = last_found (λ c. Among c before) (is_memory_write test x) before d (among_self before) h in
    ((and_parts (is_memory_kind d.kind) (event_location test d == x) f.0).0, f.1)

-- Stores in memory before the read.

-- the event at which a store comes writes its location in memory
come_writes : (test : LitmusTest) (n : ℕ) (x : ℕ) (o : Origin) (before rest : List Event) (c : Event)
    → IsRunOf test n (before ++ rest) → Stores test x o → Among c before → is_come o c ≡ true
    → is_memory_kind c.kind ≡ true
come_writes test n x o before rest c run w a h =
    moment_writes test n a.front c (a.rest ++ rest) (store_of o) o.iteration w.action
    (run_cut test n before rest c a run) (event_tells is_push (store_of o) o.iteration c h) w.stands
    (stores_storing x w.action w.stores)

come_memory : (test : LitmusTest) (n : ℕ) (x : ℕ) (o : Origin) (before rest : List Event) (c : Event)
    → IsRunOf test n (before ++ rest) → Stores test x o → Among c before → is_come o c ≡ true
    → is_memory_write test x c ≡ true
come_memory test n x o before rest c run w a h =
    let m = event_tells is_push (store_of o) o.iteration c h in
    let at : event_location test c ≡ x = (λ i. site_location test (record { thread = m.thread i; place = m.place i }))
    ∙ location_at test x o w in
    and_from (is_memory_kind c.kind) (event_location test c == x)
    (come_writes test n x o before rest c run w a h) (eq-eqb (event_location test c) x at)

-- the read takes from its thread's buffer: its source comes after it
buffer_last : (test : LitmusTest) (n : ℕ) (r s o : Origin) (before : List Event) (e : Event)
    (after : List Event) → At test n r before e after → (x : ℕ) → Stores test x s
    → FromBuffer test e.thread x before s → list_any (is_come o) before ≡ true
    → Leads (before ++ e ∷ after) o s
buffer_last test n r s o before e after a x w b h =
    let low = come_low o before (e ∷ after) h in
    let high = place_past (is_come s) before (e ∷ after) none in
    omega arith
  where
    d : Event
    d = b.event

    found : (is_pending test e.thread x before b.event ≡ true) × Among b.event before
    found = last_found (λ c. Among c before) (is_pending test e.thread x before) before b.event (among_self before)
        b.last

    waits : Pending test e.thread x before b.event
    waits = pending_tells test e.thread x before b.event found.0

    thread : b.event.thread ≡ s.thread
    thread = ap (λ (z : Origin). z.thread) b.origin

    place : b.event.place ≡ s.place
    place = ap (λ (z : Origin). z.place) b.origin

    iteration : b.event.iteration ≡ s.iteration
    iteration = ap (λ (z : Origin). z.iteration) b.origin

    stores : is_store w.action ≡ true
    stores = sym ((gives_kind w.action b.event.kind (deed_gives test n (before ++ e ∷ after) b.event s.thread s.place
        w.action a.run (among_append_left b.event before (e ∷ after) found.1)
        (push_no_drain b.event.kind waits.push) thread place w.stands)).push) ∙ waits.push

    none : list_any (is_come s) before ≡ false
    none = false_from_ne_true (list_any (is_come s) before) (λ k.
        let f = any_found (is_come s) before k in
        let c = f.here in
        let m = event_tells is_push (store_of s) s.iteration c f.passes in
        let drains : is_drain c ≡ true = moment_drains test n f.among.front c (f.among.rest ++ e ∷ after) (store_of s)
        s.iteration w.action (run_cut test n before (e ∷ after) c f.among a.run) m w.stands ∙ stores
        in
        both_ways (list_any (λ c. is_drain c && same_store c b.event) before) waits.waits
        (any_among (λ c. is_drain c && same_store c b.event) c before f.among
        (and_from (is_drain c) (same_store c b.event) drains
        (and_from ((c.thread == b.event.thread) && (c.place == b.event.place)) (c.iteration == b.event.iteration)
        (and_from (c.thread == b.event.thread) (c.place == b.event.place)
        (eq-eqb c.thread b.event.thread (m.thread ∙ sym thread)) (eq-eqb c.place b.event.place (m.place ∙ sym place)))
        (eq-eqb c.iteration b.event.iteration (m.iteration ∙ sym iteration))))))

-- the read takes from memory: its source is the last
memory_last : (test : LitmusTest) (n : ℕ) (r s o : Origin) (front : List Event) (c : Event)
    (rest : List Event) (e : Event) (after : List Event) → At test n r (front ++ c ∷ rest) e after → (x : ℕ)
    → Stores test x s → Stores test x o → (o ≡ s → ⊥)
    → FromMemory test e.thread x e.kind (front ++ c ∷ rest) s → is_come o c ≡ true
    → Leads ((front ++ c ∷ rest) ++ e ∷ after) o s
memory_last test n r s o front c rest e after a x w v ne m h =
    let whole : (front ++ c ∷ rest) ++ e ∷ after ≡ front ++ c ∷ (rest ++ e ∷ after) = append_assoc front (c ∷ rest)
    (e ∷ after) in
    let low = place_at_most (is_come o) front c (rest ++ e ∷ after) h in
    let high = place_beyond (is_come s) front c (rest ++ e ∷ after) none
    (false_from_ne_true (is_come s c) (λ k. ne (one_node o s c h k))) in
    let P : List Event → Type 0 = λ l. Leads l o s in
    let there : Leads (front ++ c ∷ (rest ++ e ∷ after)) o s = omega arith in
    subst P (sym whole) there
  where
    before : List Event
    before = front ++ c ∷ rest

    here : Among c (front ++ c ∷ rest)
    here = record { front = front; rest = rest; whole = refl }

    d : Event
    d = m.event

    thread : m.event.thread ≡ s.thread
    thread = ap (λ (z : Origin). z.thread) m.origin

    place : m.event.place ≡ s.place
    place = ap (λ (z : Origin). z.place) m.origin

    iteration : m.event.iteration ≡ s.iteration
    iteration = ap (λ (z : Origin). z.iteration) m.origin

    writes : is_memory_kind m.event.kind ≡ true
    writes = (memory_event test x (front ++ c ∷ rest) m.event m.last).0

    -- it stands after the other's
    behind : Among m.event rest
    behind =
        let l = last_from (is_memory_write test x) front c rest
        (come_memory test n x o (front ++ c ∷ rest) (e ∷ after) c a.run v here h) in
        let one : Some l.last ≡ Some m.event = sym l.is ∙ m.last in
        let same : l.last ≡ m.event = cc in
        go same l.behind
      where
        go : {last : Event} → last ≡ m.event → (c ≡ last) ⊎ Among last rest → Among m.event rest
        go q (inl k) =
            let i : c ≡ m.event = k ∙ q in
            let g = event_tells is_push (store_of o) o.iteration c h in
            let t : o.thread ≡ s.thread = sym g.thread ∙ ap (λ (z : Event). z.thread) i ∙ thread in
            let p : o.place ≡ s.place = sym g.place ∙ ap (λ (z : Event). z.place) i ∙ place in
            let u : o.iteration ≡ s.iteration = sym g.iteration ∙ ap (λ (z : Event). z.iteration) i ∙ iteration in
            absurd (ne (λ j. record { thread = t j; place = p j; iteration = u j }))
        go q (inr k) = subst (λ z. Among z rest) q k

    none : list_any (is_come s) front ≡ false
    none = false_from_ne_true (list_any (is_come s) front) (λ k.
        let f = any_found (is_come s) front k in
        let y = f.here in
        let g = event_tells is_push (store_of s) s.iteration y f.passes in
        let memory = come_writes test n x s (front ++ c ∷ rest) (e ∷ after) y a.run w
        (among_append_left y front (c ∷ rest) f.among) f.passes in
        twice (comes_out true) s.thread front c rest (e ∷ after) y m.event
        (writes_turn test n s.thread ((front ++ c ∷ rest) ++ e ∷ after) a.run
        (thread_below test s.thread s.place w.action w.stands)) f.among behind g.thread thread
        (memory_out y.kind memory) (memory_out m.event.kind writes) (g.place ∙ sym place)
        (g.iteration ∙ sym iteration))

-- a store that has come before the read, and is not its source, has come before the source
pub come_first : (test : LitmusTest) (n : ℕ) (r s o : Origin) (before : List Event) (e : Event)
    (after : List Event) → At test n r before e after → (x : ℕ) → site_location test (store_of r) ≡ x
    → source_of test e before ≡ Some s → Stores test x s → Stores test x o → (o ≡ s → ⊥)
    → list_any (is_come o) before ≡ true → Leads (before ++ e ∷ after) o s
come_first test n r s o before e after a x loc source w v ne h =
    go (taken_at test n r s before e after a x loc source)
  where
    go : Taken test x before e s → Leads (before ++ e ∷ after) o s
    go (inl b) = buffer_last test n r s o before e after a x w b h
    go (inr m) =
        let f = any_found (is_come o) before h in
        let P : List Event → Type 0 = λ l. At test n r l e after
        → FromMemory test e.thread x e.kind l s → Leads (l ++ e ∷ after) o s in
        subst P (sym f.among.whole)
        (λ b k. memory_last test n r s o f.among.front f.here f.among.rest e after b x w v ne k f.passes) a m

-- The source in another thread.

source_came : (test : LitmusTest) (n : ℕ) (r s : Origin) (before : List Event) (e : Event)
    (after : List Event) → At test n r before e after → (x : ℕ) → (s.thread ≡ r.thread → ⊥)
    → Taken test x before e s → list_any (is_come s) before ≡ true
source_came test n r s before e after a x ne (inl b) =
    let f = last_found (λ c. Among c before) (is_pending test e.thread x before) before b.event (among_self before)
    b.last in
    absurd (ne (sym (ap (λ (z : Origin). z.thread) b.origin)
    ∙ (pending_tells test e.thread x before b.event f.0).thread
    ∙ (reader_moment test n r before e after a).thread))
source_came test n r s before e after a x ne (inr m) =
    let f = memory_event test x before m.event m.last in
    any_among (is_come s) m.event before f.1
    (come_from s m.event (memory_no_push m.event.kind f.0) (ap (λ (z : Origin). z.thread) m.origin)
    (ap (λ (z : Origin). z.place) m.origin) (ap (λ (z : Origin). z.iteration) m.origin))

pub source_leads : (test : LitmusTest) (n : ℕ) (r s : Origin) (before : List Event) (e : Event)
    (after : List Event) → At test n r before e after → (x : ℕ) → site_location test (store_of r) ≡ x
    → source_of test e before ≡ Some s → (s.thread ≡ r.thread → ⊥)
    → Leads (before ++ e ∷ after) s r
source_leads test n r s before e after a x loc source ne =
    come_leads test n r before e after a s (source_came test n r s before e after a x ne
    (taken_at test n r s before e after a x loc source))

-- One of the reader's own stores before the read.

-- it waits at the read
pub record Waiting (test : LitmusTest) (x : ℕ) (before : List Event) (e : Event) (o : Origin) : Type 0 where
  pub event : Event
  pub among : Among event before
  pub thread : event.thread ≡ o.thread
  pub place : event.place ≡ o.place
  pub iteration : event.iteration ≡ o.iteration
  pub deed : is_drain event ≡ false
  pub pending : is_pending test e.thread x before event ≡ true
  pub reads : is_memory_kind e.kind ≡ false

abbrev pub EarlierIn : Origin → Origin → Type 0
EarlierIn o r = (o.iteration < r.iteration) ⊎ ((o.iteration ≡ r.iteration) × (o.place < r.place))

-- or it has come
pub own_state : (test : LitmusTest) (n : ℕ) (r o : Origin) (before : List Event) (e : Event) (after : List Event)
    → At test n r before e after → (x : ℕ) → Stores test x o → o.thread ≡ r.thread → o.iteration < n → EarlierIn o r
    → (list_any (is_come o) before ≡ true) ⊎ Waiting test x before e o
own_state test n r o before e after a x w same low l = by_kind (cases_Bool (is_store w.action))
  where
    m : Moment (store_of r) r.iteration e
    m = reader_moment test n r before e after a

    below : o.thread < length test.bodies
    below = thread_below test o.thread o.place w.action w.stands

    mine : e.thread ≡ o.thread
    mine = m.thread ∙ sym same

    no_drain : is_drain e ≡ false
    no_drain = moment_drains test n before e after (store_of r) r.iteration a.action a.run m a.stands
        ∙ reading_no_store a.action a.reading

    earlier : IsEarlier o.iteration o.place e.iteration e.place
    earlier = go l
      where
        go : EarlierIn o r → IsEarlier o.iteration o.place e.iteration e.place
        go (inl k) = let i : e.iteration ≡ r.iteration = m.iteration in
            inl (let z : o.iteration < e.iteration = omega arith in z)
        go (inr k) = let p : e.place ≡ r.place = m.place in let q = k.1 in
            inr (k.0 ∙ sym m.iteration, (let z : o.place < e.place = omega arith in z))

    f : HasDeed o.thread o.place o.iteration before
    f = deed_order test n before e after o.thread o.place o.iteration w.action a.run below mine no_drain
        earlier w.stands low

    f_gives : Gives w.action f.event.kind
    f_gives = deed_gives test n (before ++ e ∷ after) f.event o.thread o.place w.action a.run
        (among_append_left f.event before (e ∷ after) f.among) f.is f.thread f.place w.stands

    at_location : event_location test f.event ≡ x
    at_location = (λ j. site_location test (record { thread = f.thread j; place = f.place j }))
        ∙ location_at test x o w

    drained : list_any (λ c. is_drain c && same_store c f.event) before ≡ true → list_any (is_come o) before ≡ true
    drained k =
        let g = any_found (λ c. is_drain c && same_store c f.event) before k in
        let c = g.here in
        let u = and_parts (is_drain c) (same_store c f.event) g.passes in
        let v = and_parts ((c.thread == f.event.thread) && (c.place == f.event.place))
        (c.iteration == f.event.iteration) u.1 in
        let q = and_parts (c.thread == f.event.thread) (c.place == f.event.place) v.0 in
        any_among (is_come o) c before g.among
        (come_from o c (memory_no_push c.kind (drain_memory c.kind u.0))
        (eqb-true c.thread f.event.thread q.0 ∙ f.thread) (eqb-true c.place f.event.place q.1 ∙ f.place)
        (eqb-true c.iteration f.event.iteration v.1 ∙ f.iteration))

    waits : is_store w.action ≡ true → list_any (λ c. is_drain c && same_store c f.event) before ≡ false
        → (is_memory_kind e.kind ≡ true) ⊎ (is_memory_kind e.kind ≡ false)
        → (list_any (is_come o) before ≡ true) ⊎ Waiting test x before e o
    waits k u (inl z) =
        let gives = deed_gives test n (before ++ e ∷ after) e r.thread r.place a.action a.run
        (record { front = before; rest = after; whole = refl }) no_drain m.thread m.place a.stands in
        inl (moment_of_write (store_of o) o.iteration before
        (store_before_barrier test n before e after o.thread o.place o.iteration a.action w.action a.run
        below mine gives ((gives_kind a.action e.kind gives).memory z).1 earlier w.stands k low))
    waits k u (inr z) = inr (record {
      event = f.event;
      among = f.among;
      thread = f.thread;
      place = f.place;
      iteration = f.iteration;
      deed = f.is;
      pending =
          pending_from test e.thread x before f.event
          (record {
            push = (gives_kind w.action f.event.kind f_gives).push ∙ k;
            thread = f.thread ∙ sym mine;
            location = at_location;
            waits = u;
          });
      reads = z;
    })

    stored : is_store w.action ≡ true
        → (list_any (λ c. is_drain c && same_store c f.event) before ≡ true)
        ⊎ (list_any (λ c. is_drain c && same_store c f.event) before ≡ false)
        → (list_any (is_come o) before ≡ true) ⊎ Waiting test x before e o
    stored k (inl u) = inl (drained u)
    stored k (inr u) = waits k u (cases_Bool (is_memory_kind e.kind))

    by_kind : (is_store w.action ≡ true) ⊎ (is_store w.action ≡ false)
        → (list_any (is_come o) before ≡ true) ⊎ Waiting test x before e o
    by_kind (inl k) = stored k (cases_Bool (list_any (λ c. is_drain c && same_store c f.event) before))
    by_kind (inr k) =
        inl (any_among (is_come o) f.event before f.among
        (come_from o f.event
        (memory_no_push f.event.kind ((gives_kind w.action f.event.kind f_gives).storing
        (stores_storing x w.action w.stores) k)) f.thread f.place f.iteration))

-- where one waits, the last that waits is read
pub waits_last : (test : LitmusTest) (x : ℕ) (before : List Event) (e : Event) (o : Origin)
    → Waiting test x before e o → last_that (is_pending test e.thread x before) before ≡ None → ⊥
waits_last test x before e o w z =
    let q = last_from (is_pending test e.thread x before) w.among.front w.event w.among.rest w.pending in
    let no : Some q.last ≡ None = sym q.is
    ∙ sym (ap (last_that (is_pending test e.thread x before)) w.among.whole) ∙ z in
    cc

pub waits_buffer : (test : LitmusTest) (x : ℕ) (before : List Event) (e : Event) (o s : Origin)
    → Waiting test x before e o → Taken test x before e s → FromBuffer test e.thread x before s
waits_buffer test x before e o s w (inl b) = b
waits_buffer test x before e o s w (inr m) = go m.none
  where
    go : (last_that (is_pending test e.thread x before) before ≡ None) ⊎ (is_memory_kind e.kind ≡ true)
        → FromBuffer test e.thread x before s
    go (inl z) = absurd (waits_last test x before e o w z)
    go (inr z) = absurd (both_ways (is_memory_kind e.kind) w.reads z)

-- a source in another thread: the own earlier stores have come
pub own_came : (test : LitmusTest) (n : ℕ) (r s o : Origin) (before : List Event) (e : Event) (after : List Event)
    → At test n r before e after → (x : ℕ) → site_location test (store_of r) ≡ x
    → source_of test e before ≡ Some s → (s.thread ≡ r.thread → ⊥) → Stores test x o → o.thread ≡ r.thread
    → o.iteration < n → EarlierIn o r → list_any (is_come o) before ≡ true
own_came test n r s o before e after a x loc source ne w same low l =
    go (own_state test n r o before e after a x w same low l)
  where
    go : (list_any (is_come o) before ≡ true) ⊎ Waiting test x before e o → list_any (is_come o) before ≡ true
    go (inl h) = h
    go (inr h) =
        let b = waits_buffer test x before e o s h (taken_at test n r s before e after a x loc source) in
        let g = last_found (λ c. Among c before) (is_pending test e.thread x before) before b.event (among_self before)
        b.last in
        absurd (ne (sym (ap (λ (z : Origin). z.thread) b.origin)
        ∙ (pending_tells test e.thread x before b.event g.0).thread
        ∙ (reader_moment test n r before e after a).thread))

-- each other store is before the source or after the read
pub either_leads : (test : LitmusTest) (n : ℕ) (r s o : Origin) (before : List Event) (e : Event)
    (after : List Event) → At test n r before e after → (x : ℕ) → site_location test (store_of r) ≡ x
    → source_of test e before ≡ Some s → Stores test x s → Stores test x o → (o ≡ s → ⊥)
    → (o ≡ r → ⊥) → Leads (before ++ e ∷ after) o s ⊎ Leads (before ++ e ∷ after) r o
either_leads test n r s o before e after a x loc source w v ne nr =
    go (cases_Bool (list_any (is_come o) before))
  where
    go : (list_any (is_come o) before ≡ true) ⊎ (list_any (is_come o) before ≡ false)
        → Leads (before ++ e ∷ after) o s ⊎ Leads (before ++ e ∷ after) r o
    go (inl h) = inl (come_first test n r s o before e after a x loc source w v ne h)
    go (inr h) = inr (read_first test n r before e after a o nr h)

-- The initial value.

record NoneTaken (test : LitmusTest) (t x : ℕ) (k : Kind) (before : List Event) : Type 0 where
  memory : last_that (is_memory_write test x) before ≡ None
  none : (last_that (is_pending test t x before) before ≡ None) ⊎ (is_memory_kind k ≡ true)

none_mapped : {X Y : Type 0} (f : X → Y) (o : Option X) → option_map f o ≡ None → o ≡ None
none_mapped f None h = refl
none_mapped f (Some x) h = cc

none_either : {X : Type 0} (o p : Option X) → option_or o p ≡ None → (o ≡ None) × (p ≡ None)
none_either None p h = (refl, h)
none_either (Some x) p h = cc

taken_none : (test : LitmusTest) (e : Event) (before : List Event) (a : Instr) (k : Kind) → Gives a k
    → is_reading a ≡ true → source_as k test e before ≡ None
    → NoneTaken test e.thread (event_location test e) k before
taken_none test e before (Store x v) Push g r h = cc
taken_none test e before (Load reg x) (Read v) g r h =
    let y = event_location test e in
    let pending = last_that (is_pending test e.thread y before) before in
    let memory = last_that (is_memory_write test y) before in
    let b = none_either pending memory (none_mapped origin_of (option_or pending memory) h) in
    record { memory = b.1; none = inl b.0 }
taken_none test e before Fence Fenced g r h = cc
taken_none test e before (Exchange x v reg) (Exchanged w) g r h =
    record {
      memory = none_mapped origin_of (last_that (is_memory_write test (event_location test e)) before) h;
      none = inr refl;
    }
taken_none test e before _ _ g r h = absurd g

initial_at : (test : LitmusTest) (n : ℕ) (r : Origin) (before : List Event) (e : Event) (after : List Event)
    → At test n r before e after → (x : ℕ) → site_location test (store_of r) ≡ x → source_of test e before ≡ None
    → NoneTaken test e.thread x e.kind before
initial_at test n r before e after a x loc source =
    let m = reader_moment test n r before e after a in
    let at : event_location test e ≡ x = (λ i. site_location test (record { thread = m.thread i; place = m.place i }))
    ∙ loc in
    let no_drain : is_drain e ≡ false =
    moment_drains test n before e after (store_of r) r.iteration a.action a.run m a.stands
    ∙ reading_no_store a.action a.reading in
    let gives = deed_gives test n (before ++ e ∷ after) e r.thread r.place a.action a.run
    (record { front = before; rest = after; whole = refl }) no_drain m.thread m.place a.stands in
    let C : ℕ → Type 0 = λ y. NoneTaken test e.thread y e.kind before in
    subst C at (taken_none test e before a.action e.kind gives a.reading source)

-- no store of the location has come before the read
none_come : (test : LitmusTest) (n : ℕ) (r o : Origin) (before : List Event) (e : Event) (after : List Event)
    → At test n r before e after → (x : ℕ) → site_location test (store_of r) ≡ x → source_of test e before ≡ None
    → Stores test x o → list_any (is_come o) before ≡ false
none_come test n r o before e after a x loc source w =
    false_from_ne_true (list_any (is_come o) before) (λ h.
    let f = any_found (is_come o) before h in
    let l = last_from (is_memory_write test x) f.among.front f.here f.among.rest
    (come_memory test n x o before (e ∷ after) f.here a.run w f.among f.passes) in
    let no : Some l.last ≡ None = sym l.is ∙ sym (ap (last_that (is_memory_write test x)) f.among.whole)
    ∙ (initial_at test n r before e after a x loc source).memory in
    cc)

pub initial_leads : (test : LitmusTest) (n : ℕ) (r o : Origin) (before : List Event) (e : Event) (after : List Event)
    → At test n r before e after → (x : ℕ) → site_location test (store_of r) ≡ x → source_of test e before ≡ None
    → Stores test x o → (o ≡ r → ⊥) → Leads (before ++ e ∷ after) r o
initial_leads test n r o before e after a x loc source w ne =
    read_first test n r before e after a o ne (none_come test n r o before e after a x loc source w)

-- an own store before the read hides it
pub initial_own : (test : LitmusTest) (n : ℕ) (r o : Origin) (before : List Event) (e : Event) (after : List Event)
    → At test n r before e after → (x : ℕ) → site_location test (store_of r) ≡ x → source_of test e before ≡ None
    → Stores test x o → o.thread ≡ r.thread → o.iteration < n → EarlierIn o r → ⊥
initial_own test n r o before e after a x loc source w same low l =
    go (own_state test n r o before e after a x w same low l)
    (initial_at test n r before e after a x loc source).none
  where
    go : (list_any (is_come o) before ≡ true) ⊎ Waiting test x before e o
        → (last_that (is_pending test e.thread x before) before ≡ None) ⊎ (is_memory_kind e.kind ≡ true) → ⊥
    go (inl h) z =
        both_ways (list_any (is_come o) before) (none_come test n r o before e after a x loc source w) h
    go (inr h) (inl z) = waits_last test x before e o h z
    go (inr h) (inr z) = both_ways (is_memory_kind e.kind) h.reads z

-- The cut.

pub record CutAt (test : LitmusTest) (n : ℕ) (r : Origin) (run : List Event)
    (source : Option Origin) : Type 0 where
  pub before : List Event
  pub event : Event
  pub after : List Event
  pub whole : run ≡ before ++ event ∷ after
  pub at : At test n r before event after
  pub taken : source_of test event before ≡ source

pub cut_at : (test : LitmusTest) (n : ℕ) (r : Origin) (run : List Event) (source : Option Origin)
    (action : Instr) → IsRunOf test n run → r.iteration < n → action_at test (store_of r) ≡ Some action
    → is_reading action ≡ true → source_at test (store_of r) r.iteration run ≡ source
    → CutAt test n r run source
cut_at test n r run source action is f stands reading h =
    let i = r.iteration in
    let s = first_split (is_come r) run (has_moment test n run (store_of r) i action is
    (thread_below test r.thread r.place action stands) stands f) in
    let cut = subst (IsRunOf test n) s.whole is in
    record {
      before = s.before;
      event = s.here;
      after = s.after;
      whole = s.whole;
      at = record {
        run = cut;
        early = f;
        action = action;
        stands = stands;
        reading = reading;
        none_before = s.none_before;
        passes = s.passes;
      };
      taken =
          sym (source_here test n s.before s.here s.after (store_of r) i action cut stands
          (reading_no_store action reading) s.none_before s.passes)
          ∙ sym (ap (source_at test (store_of r) i) s.whole) ∙ h;
    }
