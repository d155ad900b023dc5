-- A read that takes from an own store, of its iteration or a later one, takes from the newest that stands before it.
use Rattle.std.proofs.Common.{◌≡◌, ℕ, ◌<◌, ◌≤◌, ◌==◌, Bool, true, false, not, ◌&&◌, Option, None, Some, List, [], ◌∷◌, ◌++◌, map, filter, length, refl, sym, ap, ◌∙◌, arith, subst, inl, inr, ◌⊎◌, append_assoc, eq-eqb}
use Rattle.std.proofs.lemmas.List.Elements.{filter-append}
use Rattle.std.proofs.lemmas.Bool.{and_from, and_parts, both_ways, eqb-true, false_from_ne_true, not_from_false}
use Rattle.std.specs.List.{AllZip, AllByRecursion as Each, list_any}
use Rattle.x86_subset.specs.Instr.{is_store_to}
use Rattle.x86_subset.specs.Test.{LitmusTest, body_of}
use Rattle.x86_subset.specs.declared.instr.Instr.{Instr}
use Rattle.tso_machine.specs.Event.{Event, event_location, is_drain}
use Rattle.tso_machine.specs.Machine.{Write, write_of}
use Rattle.tso_machine.specs.Part.{Fills, Gives, Performs, part_of, slots_of_loop}
use Rattle.tso_machine.specs.Run.{IsRunOf}
use Rattle.seq_conv.specs.Sequence.{Origin, action_at, site_location}
use Rattle.perp_base.specs.Last.{last_that}
use Rattle.tso_machine.specs.Source.{is_memory_kind, is_memory_write, is_pending, is_push, is_push_kind, same_store}
use Rattle.perp_base.proofs.Lists.{Among, Apart, among_append_left, apart_across, apart_filter, apart_zip, last-append, last_found}
use Rattle.tso_machine.proofs.Parts.{at_part, deeds, fed_is, loop_apart, queue_whole, same_slot}
use Rattle.tso_machine.proofs.Runs.{comes_out, goes_in}
use Rattle.verdict.proofs.EventKinds.{GivesKind, drain_memory, gives_kind, is_store, is_storing, memory_out, push_no_drain, stores_storing}
use Rattle.verdict.proofs.Deeds.{HasDeed, HasWrite, IsEarlier, deed_gives, deed_order, drained_push, has_also, has_in, run_cut, store_before_barrier, write_order}
use Rattle.verdict.proofs.Taken.{FromBuffer, FromMemory, Pending, among_self, pending_tells}
use Rattle.verdict.proofs.Finds.{any_found, any_among}

-- Lists.

-- the last that passes is one that is known to pass, or stands after it
pub record LastFrom {X : Type 0} (p : X → Bool) (xs : List X) (y : X) (cs : List X) : Type 0 where
  pub last : X
  pub is : last_that p xs ≡ Some last
  pub behind : (y ≡ last) ⊎ Among last cs

pub last_from : {X : Type 0} (p : X → Bool) (fs : List X) (y : X) (cs : List X) → p y ≡ true
    → LastFrom p (fs ++ y ∷ cs) y cs
last_from p fs y cs h = go (last_that p cs) refl
  where
    go : (o : Option _) → last_that p cs ≡ o → LastFrom p (fs ++ y ∷ cs) y cs
    go None e = record { last = y; is = last-append p fs (y ∷ cs) ∙ (rw (e, h) refl); behind = inl refl }
    go (Some z) e =
        record {
          last = z;
          is = last-append p fs (y ∷ cs) ∙ (rw e refl);
          behind = inr
              ((last_found (λ c. Among c cs) p cs z (among_self cs) e).1);
        }

zip_from_map : {A B : Type 0} (f : A → B) (xs ys : List A) → map f xs ≡ map f ys → AllZip (λ a b. f a ≡ f b) xs ys
zip_from_map f [] [] e = tt
zip_from_map f [] (y ∷ ys) e = cc
zip_from_map f (x ∷ xs) [] e = cc
zip_from_map f (x ∷ xs) (y ∷ ys) e =
    ((let k : f x ≡ f y = cc in k), zip_from_map f xs ys (let k : map f xs ≡ map f ys = cc in k))

-- Each store of an iteration is made once, and reaches memory once.

abbrev pub same_turn : Event → Event → Bool
same_turn a b = (a.place == b.place) && (a.iteration == b.iteration)

-- of two events of a thread that pass, the first in front of the second
pub in_front : (E : Event → Event → Bool) (q : Event → Bool) (t : ℕ) (before : List Event) (e : Event) (after : List Event)
    (d : Event)
    → Apart E (filter q (part_of t (before ++ e ∷ after))) → e.thread ≡ t → q e ≡ true
    → Among d before → d.thread ≡ t → q d ≡ true → E d e ≡ false
in_front E q t before e after d apart et eq a dt dq =
    let first = filter q (part_of t before) in
    let second = filter q (part_of t (e ∷ after)) in
    let cut : filter q (part_of t (before ++ e ∷ after)) ≡ first ++ second =
    ap (filter q) (filter-append (λ (c : Event). c.thread == t) before (e ∷ after)) ∙ filter-append q (part_of t before)
    (part_of t (e ∷ after)) in
    let across : Each (λ x. Each (λ y. E x y ≡ false) second) first =
    apart_across E first second (subst (Apart E) cut apart) in
    at_part (λ y. E d y ≡ false) q t (e ∷ after) e
    (at_part (λ x. Each (λ y. E x y ≡ false) second) q t before d across a dt dq)
    (record { front = []; rest = after; whole = refl }) et eq

-- deeds of a thread
pub deeds_turn : (test : LitmusTest) (n t : ℕ) (run : List Event) → Performs test n t (part_of t run)
    → Apart same_turn (deeds t run)
deeds_turn test n t run h =
    apart_zip (Fills t) same_slot same_turn (λ a b c d f g e. rw (f.place, g.place, f.iteration, g.iteration) e)
    (slots_of_loop (body_of test t) n) (deeds t run) h (loop_apart (body_of test t) n)

-- writes to memory of a thread
pub writes_turn : (test : LitmusTest) (n t : ℕ) (run : List Event) → IsRunOf test n run → t < length test.bodies
    → Apart same_turn (filter (comes_out true) (part_of t run))
writes_turn test n t run r below =
    let fed = filter (goes_in true) (part_of t run) in
    let drawn = filter (comes_out true) (part_of t run) in
    let in_order : Apart same_turn fed =
    subst (Apart same_turn) (fed_is true t run)
    (apart_filter same_turn (goes_in true) (deeds t run) (deeds_turn test n t run (r.performs t below))) in
    apart_zip (λ a b. write_of test a ≡ write_of test b) same_turn same_turn
    (λ a b c d e f g. rw (
      ← ap (λ (w : Write). w.place) e,
      ← ap (λ (w : Write). w.place) f,
      ← ap
          (λ (w : Write). w.iteration) e,
      ← ap (λ (w : Write). w.iteration) f,
    ) g)
    fed drawn (zip_from_map (write_of test) fed drawn (queue_whole test n run true t r)) in_order

pub turn : (a b : Event) → a.place ≡ b.place → a.iteration ≡ b.iteration → same_turn a b ≡ true
turn a b p i =
    and_from (a.place == b.place) (a.iteration == b.iteration) (eq-eqb a.place b.place p)
    (eq-eqb a.iteration b.iteration i)

-- What waits.

pub pending_from : (test : LitmusTest) (t x : ℕ) (before : List Event) (d : Event) → Pending test t x before d
    → is_pending test t x before d ≡ true
pending_from test t x before d p =
    let drained = list_any (λ c. is_drain c && same_store c d) before in
    and_from ((is_push d && (d.thread == t)) && (event_location test d == x)) (not drained)
    (and_from (is_push d && (d.thread == t)) (event_location test d == x)
    (and_from (is_push d) (d.thread == t) p.push (eq-eqb d.thread t p.thread))
    (eq-eqb (event_location test d) x p.location))
    (not_from_false drained p.waits)

-- the deed of what a read takes stands before it
pub deed_of_write : (test : LitmusTest) (n : ℕ) (before rest : List Event) (d : Event) → IsRunOf test n (before ++ rest)
    → Among d before → is_memory_kind d.kind ≡ true → HasDeed d.thread d.place d.iteration before
deed_of_write test n before rest d r a m = go (is_drain d) refl
  where
    go : (b : Bool) → is_drain d ≡ b → HasDeed d.thread d.place d.iteration before
    go false h = record { event = d; among = a; thread = refl; place = refl; iteration = refl; is = h }
    go true h =
        let q = drained_push test a.front d (a.rest ++ rest) (run_cut test n before rest d a r).legal.steps h in
        has_in d before a (has_also q (push_no_drain q.event.kind q.is))

-- no two events of one turn that pass, one after the other
pub twice : (q : Event → Bool) (t : ℕ) (fs : List Event) (y : Event) (cs after : List Event) (c d : Event)
    → Apart same_turn (filter q (part_of t ((fs ++ y ∷ cs) ++ after))) → Among c fs → Among d cs → c.thread ≡ t
    → d.thread ≡ t
    → q c ≡ true → q d ≡ true → c.place ≡ d.place → c.iteration ≡ d.iteration → ⊥
twice q t fs y cs after c d apart a b ct dt cq dq place iteration =
    let cut : (fs ++ y ∷ cs) ++ after ≡ (fs ++ y ∷ b.front) ++ d ∷ (b.rest ++ after) =
    ap (λ l. (fs ++ y ∷ l) ++ after) b.whole ∙ ap (λ l. l ++ after) (sym (append_assoc fs (y ∷ b.front) (d ∷ b.rest))) ∙
    append_assoc (fs ++ y ∷ b.front) (d ∷ b.rest) after in
    let P : List Event → Type 0 = λ l. Apart same_turn (filter q (part_of t l)) in
    both_ways (same_turn c d) (in_front same_turn q t (fs ++ y ∷ b.front) d (b.rest ++ after) c (subst P cut apart) dt
    dq (among_append_left c fs (y ∷ b.front) a) ct cq) (turn c d place iteration)

-- An own read.

abbrev pub own : ℕ → ℕ → ℕ → Origin
own t p j = record { thread = t; place = p; iteration = j }

-- thread t's read of x at place q in iteration i takes from its store at place p in iteration j
pub record OwnRead (test : LitmusTest) (n t x p q i j : ℕ) : Type 0 where
  pub before : List Event
  pub event : Event
  pub after : List Event
  pub action : Instr
  pub legal : IsRunOf test n (before ++ event ∷ after)
  pub below : t < length test.bodies
  pub early : i < n
  pub thread : event.thread ≡ t
  pub place : event.place ≡ q
  pub iteration : event.iteration ≡ i
  pub no_drain : is_drain event ≡ false
  pub stands : action_at test (record { thread = t; place = q }) ≡ Some action
  pub gives : Gives action event.kind
  pub first : HasDeed t q i before → ⊥
  pub taken : FromBuffer test t x before (own t p j) ⊎ FromMemory test t x event.kind before (own t p j)

-- what it takes was stored before
own_deed : (test : LitmusTest) (n t x p q i j : ℕ) (r : OwnRead test n t x p q i j) → HasDeed t p j r.before
own_deed test n t x p q i j r = go r.taken
  where
    go : FromBuffer test t x r.before (own t p j) ⊎ FromMemory test t x r.event.kind r.before (own t p j)
        → HasDeed t p j r.before
    go (inl b) =
        let d = b.event in
        let f =
        last_found (λ c. Among c r.before) (is_pending test t x r.before) r.before d (among_self r.before) b.last in
        record {
          event = d;
          among = f.1;
          thread = ap (λ (o : Origin). o.thread) b.origin;
          place = ap (λ (o : Origin). o.place) b.origin;
          iteration = ap (λ (o : Origin). o.iteration) b.origin;
          is = push_no_drain d.kind ((pending_tells test t x r.before d f.0).push);
        }
    go (inr m) =
        let d = m.event in
        let f = last_found (λ c. Among c r.before) (is_memory_write test x) r.before d (among_self r.before) m.last in
        let P : Origin → Type 0 = λ o. HasDeed o.thread o.place o.iteration r.before in
        subst P m.origin (deed_of_write test n r.before (r.event ∷ r.after) d r.legal f.1
        ((and_parts (is_memory_kind d.kind) (event_location test d == x) f.0).0))

-- the run, cut at an event before the read
cut_at : (test : LitmusTest) (n t x p q i j : ℕ) (r : OwnRead test n t x p q i j) (d : Event) (a : Among d r.before)
    → IsRunOf test n (a.front ++ d ∷ (a.rest ++ r.event ∷ r.after))
cut_at test n t x p q i j r d a = run_cut test n r.before (r.event ∷ r.after) d a r.legal

-- a store of the read's iteration or of a later one is of that iteration, and stands before the read
pub own_order : (test : LitmusTest) (n t x p q i j : ℕ) (r : OwnRead test n t x p q i j) → i ≤ j → (i ≡ j) × (p < q)
own_order test n t x p q i j r l =
    go (let s : (i < j) ⊎ (i ≡ j) = grind arith in s) (let s : (p < q) ⊎ (q ≤ p) = grind arith in s)
  where
    d : HasDeed t p j r.before
    d = own_deed test n t x p q i j r

    late : IsEarlier i q d.event.iteration d.event.place → ⊥
    late e =
        let y =
        deed_order test n d.among.front d.event (d.among.rest ++ r.event ∷ r.after) t q i r.action
        (cut_at test n t x p q i j r d.event d.among) r.below d.thread d.is e r.stands r.early in
        r.first (has_in d.event r.before d.among y)

    same : i ≡ j → (q < p) ⊎ (q ≡ p) → ⊥
    same e (inl h) =
        late (inr (
          e ∙ sym d.iteration,
          (let k : d.event.place ≡ p = d.place in let g : q < d.event.place = omega arith in g),
        ))
    same e (inr h) =
        r.first (record {
          event = d.event;
          among = d.among;
          thread = d.thread;
          place = d.place ∙ sym h;
          iteration = d.iteration ∙ sym e;
          is = d.is;
        })

    go : (i < j) ⊎ (i ≡ j) → (p < q) ⊎ (q ≤ p) → (i ≡ j) × (p < q)
    go (inl h) s =
        absurd (late (inl (let k : d.event.iteration ≡ j = d.iteration in let g : i < d.event.iteration = omega
        arith in g)))
    go (inr h) (inl s) = (h, s)
    go (inr h) (inr s) = absurd (same h (let k : (q < p) ⊎ (q ≡ p) = grind arith in k))

-- A later own store hides it.

-- the named store, and a later store of the thread before the read
pub record Hider (test : LitmusTest) (t x p q : ℕ) : Type 0 where
  pub stored : Instr
  pub stands : action_at test (record { thread = t; place = p }) ≡ Some stored
  pub storing : is_storing stored ≡ true
  pub place : ℕ
  pub action : Instr
  pub there : action_at test (record { thread = t; place = place }) ≡ Some action
  pub hides : is_store_to x action ≡ true
  pub location : site_location test (record { thread = t; place = place }) ≡ x
  pub later : p < place
  pub earlier : place < q

-- the later store is not in memory: else the named one went before it
not_written : (test : LitmusTest) (n t x p q i : ℕ) (r : OwnRead test n t x p q i i) (h : Hider test t x p q)
    → HasWrite t h.place i r.before → ⊥
not_written test n t x p q i r h w = go r.taken
  where
    a : Among w.event r.before
    a = w.among

    d : HasWrite t p i a.front
    d =
        let l : p < h.place = h.later in
        write_order test n a.front w.event (a.rest ++ r.event ∷ r.after) t p i h.stored
        (cut_at test n t x p q i i r w.event a) r.below w.thread w.is
        (inr (
          sym w.iteration,
          (let k : w.event.place ≡ h.place = w.place in let g : p < w.event.place = omega
              arith in g),
        )) h.stands h.storing r.early

    before_read : Among d.event r.before
    before_read = subst (Among d.event) (sym a.whole) (among_append_left d.event a.front (w.event ∷ a.rest) d.among)

    drained : (e : Event) → e.thread ≡ t → e.place ≡ p → e.iteration ≡ i → is_push e ≡ true → Among e r.before
        → list_any (λ c. is_drain c && same_store c e) r.before ≡ false → (b : Bool) → is_drain d.event ≡ b → ⊥
    drained e et ep ei push ea waits true k =
        both_ways (list_any (λ c. is_drain c && same_store c e) r.before) waits
        (any_among (λ c. is_drain c && same_store c e) d.event r.before before_read
        (and_from (is_drain d.event) (same_store d.event e) k
        (and_from ((d.event.thread == e.thread) && (d.event.place == e.place)) (d.event.iteration == e.iteration)
        (and_from (d.event.thread == e.thread) (d.event.place == e.place)
        (eq-eqb d.event.thread e.thread (d.thread ∙ sym et)) (eq-eqb d.event.place e.place (d.place ∙ sym ep)))
        (eq-eqb d.event.iteration e.iteration (d.iteration ∙ sym ei)))))
    drained e et ep ei push ea waits false k =
        let run = r.before ++ r.event ∷ r.after in
        let e_gives =
        deed_gives test n run e t p h.stored r.legal (among_append_left e r.before (r.event ∷ r.after) ea)
        (push_no_drain e.kind push) et ep h.stands in
        let d_gives =
        deed_gives test n run d.event t p h.stored r.legal
        (among_append_left d.event r.before (r.event ∷ r.after) before_read) k d.thread d.place h.stands in
        both_ways (is_store h.stored) ((gives_kind h.stored d.event.kind d_gives).memory d.is).0
        (sym (gives_kind h.stored e.kind e_gives).push ∙ push)

    go : FromBuffer test t x r.before (own t p i) ⊎ FromMemory test t x r.event.kind r.before (own t p i) → ⊥
    go (inl b) =
        let e = b.event in
        let f =
        last_found (λ c. Among c r.before) (is_pending test t x r.before) r.before e (among_self r.before) b.last in
        let k = pending_tells test t x r.before e f.0 in
        drained e k.thread (ap (λ (o : Origin). o.place) b.origin) (ap (λ (o : Origin). o.iteration) b.origin) k.push
        f.1 k.waits (is_drain d.event) refl
    go (inr m) =
        let writes = is_memory_write test x in
        let loc : event_location test w.event ≡ x = rw (w.thread, w.place) (h.location) in
        let l =
        last_from writes a.front w.event a.rest
        (and_from (is_memory_kind w.event.kind) (event_location test w.event == x) w.is
        (eq-eqb (event_location test w.event) x loc)) in
        let one : Some l.last ≡ Some m.event = sym l.is ∙ sym (ap (last_that writes) a.whole) ∙ m.last in
        let same : l.last ≡ m.event = cc in
        let passes = (last_found (λ c. Among c r.before) writes r.before m.event (among_self r.before) m.last).0 in
        let memory = (and_parts (is_memory_kind m.event.kind) (event_location test m.event == x) passes).0 in
        behind m same memory l.behind
      where
        behind : (m : FromMemory test t x r.event.kind r.before (own t p i)) → {last : Event} → last ≡ m.event
            → is_memory_kind m.event.kind ≡ true → (w.event ≡ last) ⊎ Among last a.rest → ⊥
        behind m s k (inl e) =
            let here : h.place ≡ p =
            sym w.place ∙ ap (λ (c : Event). c.place) (e ∙ s) ∙ ap (λ (o : Origin). o.place) m.origin in
            let l : p < h.place = h.later in
            omega arith
        behind m s k (inr z) =
            let P : List Event → Type 0 =
            λ l. Apart same_turn (filter (comes_out true) (part_of t (l ++ r.event ∷ r.after))) in
            twice (comes_out true) t a.front w.event a.rest (r.event ∷ r.after) d.event m.event
            (subst P a.whole (writes_turn test n t (r.before ++ r.event ∷ r.after) r.legal r.below)) d.among
            (subst (λ v. Among v a.rest) s z)
            d.thread (ap (λ (o : Origin). o.thread) m.origin) (memory_out d.event.kind d.is)
            (memory_out m.event.kind k)
            (d.place ∙ sym (ap (λ (o : Origin). o.place) m.origin))
            (d.iteration ∙ sym (ap (λ (o : Origin). o.iteration) m.origin))

-- nor does it wait: else it would be read
not_waiting : (test : LitmusTest) (n t x p q i : ℕ) (r : OwnRead test n t x p q i i) (h : Hider test t x p q)
    → (HasWrite t h.place i r.before → ⊥) → ⊥
not_waiting test n t x p q i r h none = by_kind (is_store h.action) refl
  where
    run : List Event
    run = r.before ++ r.event ∷ r.after

    earlier : IsEarlier i h.place r.event.iteration r.event.place
    earlier =
        let l : h.place < q = h.earlier in
        inr (
          sym r.iteration,
          (let k : r.event.place ≡ q = r.place in let g : h.place < r.event.place = omega
              arith in g),
        )

    f : HasDeed t h.place i r.before
    f =
        deed_order test n r.before r.event r.after t h.place i h.action r.legal r.below r.thread r.no_drain earlier
        h.there r.early

    f_gives : Gives h.action f.event.kind
    f_gives =
        deed_gives test n run f.event t h.place h.action r.legal
        (among_append_left f.event r.before (r.event ∷ r.after) f.among) f.is f.thread f.place h.there

    f_kind : GivesKind h.action f.event.kind
    f_kind = gives_kind h.action f.event.kind f_gives

    a : Among f.event r.before
    a = f.among

    undrained : list_any (λ c. is_drain c && same_store c f.event) r.before ≡ false
    undrained =
        false_from_ne_true (list_any (λ c. is_drain c && same_store c f.event) r.before) (λ k.
        let g = any_found (λ c. is_drain c && same_store c f.event) r.before k in
        let c = g.here in
        let u = and_parts (is_drain c) (same_store c f.event) g.passes in
        let v =
        and_parts ((c.thread == f.event.thread) && (c.place == f.event.place)) (c.iteration == f.event.iteration) u.1 in
        let o = and_parts (c.thread == f.event.thread) (c.place == f.event.place) v.0 in
        none (record {
          event = c;
          among = g.among;
          thread = eqb-true c.thread f.event.thread o.0 ∙ f.thread;
          place = eqb-true c.place f.event.place o.1 ∙ f.place;
          iteration = eqb-true c.iteration f.event.iteration v.1 ∙ f.iteration;
          is = drain_memory c.kind u.0;
        }))

    behind : (b : FromBuffer test t x r.before (own t p i)) → {last : Event} → last ≡ b.event
        → (f.event ≡ last) ⊎ Among last a.rest → ⊥
    behind b s (inl e) =
        let here : h.place ≡ p =
        sym f.place ∙ ap (λ (c : Event). c.place) (e ∙ s) ∙ ap (λ (o : Origin). o.place) b.origin in
        let l : p < h.place = h.later in
        omega arith
    behind b s (inr z) =
        let l : p < h.place = h.later in
        let d =
        deed_order test n a.front f.event (a.rest ++ r.event ∷ r.after) t p i h.stored
        (cut_at test n t x p q i i r f.event a) r.below f.thread f.is
        (inr (
          sym f.iteration,
          (let k : f.event.place ≡ h.place = f.place in let g : p < f.event.place = omega
              arith in g),
        )) h.stands r.early in
        let e = b.event in
        let passes =
        (last_found (λ c. Among c r.before) (is_pending test t x r.before) r.before e (among_self r.before) b.last).0 in
        let P : List Event → Type 0 = λ l. Apart same_turn (deeds t (l ++ r.event ∷ r.after)) in
        twice (λ c. not (is_drain c)) t a.front f.event a.rest (r.event ∷ r.after) d.event e
        (subst P a.whole (deeds_turn test n t run (r.legal.performs t r.below))) d.among
        (subst (λ v. Among v a.rest) s z)
        d.thread (ap (λ (o : Origin). o.thread) b.origin) (not_from_false (is_drain d.event) d.is)
        (not_from_false (is_drain e) (push_no_drain e.kind ((pending_tells test t x r.before e passes).push)))
        (d.place ∙ sym (ap (λ (o : Origin). o.place) b.origin))
        (d.iteration ∙ sym (ap (λ (o : Origin). o.iteration) b.origin))

    waits : is_push_kind f.event.kind ≡ true → is_pending test t x r.before f.event ≡ true
    waits k =
        pending_from test t x r.before f.event
        (record { push = k; thread = f.thread; location = rw (f.thread, f.place) (h.location); waits = undrained })

    go : is_push_kind f.event.kind ≡ true
        → FromBuffer test t x r.before (own t p i) ⊎ FromMemory test t x r.event.kind r.before (own t p i) → ⊥
    go k (inl b) =
        let l = last_from (is_pending test t x r.before) a.front f.event a.rest (waits k) in
        let one : Some l.last ≡ Some b.event =
        sym l.is ∙ sym (ap (last_that (is_pending test t x r.before)) a.whole) ∙ b.last in
        let same : l.last ≡ b.event = cc in
        behind b same l.behind
    go k (inr m) = no_buffer k m.none
      where
        no_buffer : is_push_kind f.event.kind ≡ true
            → (last_that (is_pending test t x r.before) r.before ≡ None) ⊎ (is_memory_kind r.event.kind ≡ true) → ⊥
        no_buffer k (inl e) =
            let l = last_from (is_pending test t x r.before) a.front f.event a.rest (waits k) in
            let one : Some l.last ≡ None = sym l.is ∙ sym (ap (last_that (is_pending test t x r.before)) a.whole) ∙ e in
            cc
        no_buffer k (inr m) =
            none (store_before_barrier test n r.before r.event r.after t h.place i r.action h.action r.legal r.below
            r.thread r.gives ((gives_kind r.action r.event.kind r.gives).memory m).1 earlier h.there
            (sym f_kind.push ∙ k) r.early)

    by_kind : (b : Bool) → is_store h.action ≡ b → ⊥
    by_kind true k = go (f_kind.push ∙ k) r.taken
    by_kind false k = none (has_also f (f_kind.storing (stores_storing x h.action h.hides) k))

-- so the named store is never read
pub never_read : (test : LitmusTest) (n t x p q i : ℕ) → OwnRead test n t x p q i i → Hider test t x p q → ⊥
never_read test n t x p q i r h = not_waiting test n t x p q i r h (not_written test n t x p q i r h)
