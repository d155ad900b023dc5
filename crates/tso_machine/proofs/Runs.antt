-- Lemmas on steps: the memory holds what the last write to it wrote, and a buffer is a queue.
use Rattle.std.proofs.Common.{◌≡◌, ℕ, ◌==◌, Bool, true, false, cond, ◌&&◌, Option, None, Some, List, [], ◌∷◌, ◌++◌, map, filter, drop, slice_get, refl, sym, ap, ◌∙◌, subst, append_assoc, append-nil, eq-eqb}
use Rattle.std.proofs.lemmas.Bool.{eqb-true}
use Rattle.std.specs.Option.{option_or, option_map_or}
use Rattle.x86_subset.specs.Test.{LitmusTest}
use Rattle.tso_machine.specs.Event.{Event, Kind, Push, Drain, Read, Fenced, Exchanged, event_location, written_value}
use Rattle.tso_machine.specs.Machine.{Write, State, write_of, NeedsAs, Needs, after_as, after, Steps, after_all}
use Rattle.tso_machine.specs.Part.{part_of}
use Rattle.perp_base.specs.Last.{last_that}
use Rattle.tso_machine.specs.Source.{is_memory_kind, is_memory_write}

-- A run cut at a place.

pub steps_left : (test : LitmusTest) (s : State) (es fs : List Event) → Steps test s (es ++ fs) → Steps test s es
steps_left test s [] fs h = tt
steps_left test s (e ∷ es) fs h = (h.0, steps_left test (after test s e) es fs h.1)

pub steps_right : (test : LitmusTest) (s : State) (es fs : List Event) → Steps test s (es ++ fs)
    → Steps test (after_all test s es) fs
steps_right test s [] fs h = h
steps_right test s (e ∷ es) fs h = steps_right test (after test s e) es fs h.1

-- Memory.

pub memory_after_event : (test : LitmusTest) (s : State) (e : Event) (x : ℕ) (k : Kind)
    → (after_as k test s e).memory x ≡ cond (is_memory_kind k && (event_location test e == x)) (written_value test e)
    (s.memory x)
memory_after_event test s e x Push = refl
memory_after_event test s e x Drain = refl
memory_after_event test s e x (Read v) = refl
memory_after_event test s e x Fenced = refl
memory_after_event test s e x (Exchanged v) = refl

memory_join : (f : Event → ℕ) (e : Event) (d : ℕ) (o : Option Event) (b : Bool)
    → option_map_or f o (cond b (f e) d) ≡ option_map_or f (option_or o (cond b (Some e) None)) d
memory_join f e d None true = refl
memory_join f e d None false = refl
memory_join f e d (Some g) b = refl

-- a location has the value of the last write to it, or else what it had
pub memory_after : (test : LitmusTest) (s : State) (x : ℕ) (es : List Event)
    → (after_all test s es).memory x ≡ option_map_or (written_value test) (last_that (is_memory_write test x) es)
    (s.memory x)
memory_after test s x [] = refl
memory_after test s x (e ∷ es) =
    memory_after test (after test s e) x es
    ∙ ap (option_map_or (written_value test) (last_that (is_memory_write test x) es)) (memory_after_event test s e x e.kind)
    ∙ memory_join (written_value test) e (s.memory x) (last_that (is_memory_write test x) es) (is_memory_write test x e)

-- Buffers. What goes into a queue and what comes out of it; with `true` an exchange is both.

abbrev pub goes_in_kind : Bool → Kind → Bool
goes_in_kind b Push = true
goes_in_kind b Drain = false
goes_in_kind b (Read v) = false
goes_in_kind b Fenced = false
goes_in_kind b (Exchanged v) = b

abbrev pub comes_out_kind : Bool → Kind → Bool
comes_out_kind b Push = false
comes_out_kind b Drain = true
comes_out_kind b (Read v) = false
comes_out_kind b Fenced = false
comes_out_kind b (Exchanged v) = b

abbrev pub goes_in : Bool → Event → Bool
goes_in b e = goes_in_kind b e.kind

abbrev pub comes_out : Bool → Event → Bool
comes_out b e = comes_out_kind b e.kind

oldest_first : (ws : List Write) (w : Write) → slice_get ws 0 ≡ Some w → ws ≡ w ∷ drop 1 ws
oldest_first [] w e = cc
oldest_first (v ∷ ws) w e = let k : v ≡ w = cc in ap (λ u. u ∷ ws) k

-- one event of the thread: what stands in the buffer and what goes in is what comes out and what is left
own_step : (test : LitmusTest) (s : State) (e : Event) (b : Bool) (k : Kind) (us vs : List Write) (rest : List Write)
    → NeedsAs k test s e
    → (after_as k test s e).buffer e.thread ++ us ≡ vs ++ rest
    → s.buffer e.thread ++ cond (goes_in_kind b k) (write_of test e ∷ us) us
    ≡ cond (comes_out_kind b k) (write_of test e ∷ vs) vs ++ rest
own_step test s e b Push us vs rest n h =
    let same : (e.thread == e.thread) ≡ true = eq-eqb e.thread e.thread refl in
    let k : s.buffer e.thread ++ write_of test e ∷ us ≡ (s.buffer e.thread ++ write_of test e ∷ [])
    ++ us = sym (append_assoc (s.buffer e.thread) (write_of test e ∷ []) us) in
    k ∙ rw same at h
own_step test s e b Drain us vs rest n h =
    let same : (e.thread == e.thread) ≡ true = eq-eqb e.thread e.thread refl in
    ap (λ l. l ++ us) (oldest_first (s.buffer e.thread) (write_of test e) n)
    ∙ ap (λ l. write_of test e ∷ l) (rw same at h)
own_step test s e b (Read v) us vs rest n h = h
own_step test s e b Fenced us vs rest n h = h
own_step test s e true (Exchanged v) us vs rest n h =
    let k : us ≡ vs ++ rest = rw (n.0) at h in
    rw (n.0) (ap (λ l. write_of test e ∷ l) k)
own_step test s e false (Exchanged v) us vs rest n h = h

pub other_buffer : (test : LitmusTest) (s : State) (e : Event) (t : ℕ) (k : Kind) → (e.thread == t) ≡ false
    → (after_as k test s e).buffer t ≡ s.buffer t
other_buffer test s e t Push h = rw h refl
other_buffer test s e t Drain h = rw h refl
other_buffer test s e t _ h = refl

map_kept : {A B : Type 0} (f : A → B) (b : Bool) (x : A) (xs : List A)
    → map f (cond b (x ∷ xs) xs) ≡ cond b (f x ∷ map f xs) (map f xs)
map_kept f true x xs = refl
map_kept f false x xs = refl

queue_step : (test : LitmusTest) (b : Bool) (t : ℕ) (s : State) (e : Event) (es : List Event) (c : Bool)
    → (e.thread == t) ≡ c → Needs test s e
    → (after test s e).buffer t ++ map (write_of test) (filter (goes_in b) (part_of t es))
    ≡ map (write_of test) (filter (comes_out b) (part_of t es)) ++ (after_all test (after test s e) es).buffer t
    → s.buffer t ++ map (write_of test) (filter (goes_in b) (cond c (e ∷ part_of t es) (part_of t es)))
    ≡ map (write_of test) (filter (comes_out b) (cond c (e ∷ part_of t es) (part_of t es)))
    ++ (after_all test (after test s e) es).buffer t
queue_step test b t s e es true h n k =
    let fed = filter (goes_in b) (part_of t es) in
    let left = filter (comes_out b) (part_of t es) in
    let rest = (after_all test (after test s e) es).buffer t in
    let same : e.thread ≡ t = eqb-true e.thread t h in
    let P : ℕ → Type 0 = λ u. (after test s e).buffer u ++ map (write_of test) fed ≡ map (write_of test) left ++ rest in
    let Q : ℕ → Type 0 = λ u. s.buffer u ++ cond (goes_in b e) (write_of test e ∷ map (write_of test) fed)
    (map (write_of test) fed) ≡ cond (comes_out b e) (write_of test e ∷ map (write_of test) left)
    (map (write_of test) left) ++ rest in
    let q : Q t = subst Q same (own_step test s e b e.kind (map (write_of test) fed) (map (write_of test) left) rest n
    (subst P (sym same) k)) in
    rw (map_kept (write_of test) (goes_in b e) e fed, map_kept (write_of test) (comes_out b e) e left) q
queue_step test b t s e es false h n k = rw (← other_buffer test s e t e.kind h) k

-- what stands in a thread's buffer and what goes in later is, in this order, what comes out and what is left
pub queue_after : (test : LitmusTest) (b : Bool) (t : ℕ) (s : State) (es : List Event) → Steps test s es
    → s.buffer t ++ map (write_of test) (filter (goes_in b) (part_of t es))
    ≡ map (write_of test) (filter (comes_out b) (part_of t es)) ++ (after_all test s es).buffer t
queue_after test b t s [] h = append-nil (s.buffer t)
queue_after test b t s (e ∷ es) h =
    queue_step test b t s e es (e.thread == t) refl h.0 (queue_after test b t (after test s e) es h.1)
