-- Which thread a schedule names, and what the threads have left after a turn.
use Rattle.std.proofs.Common.{◌≡◌, ◌∙◌, refl, sym, ap, subst, ⊎_elim, ℕ, zero, suc, ◌+◌, ◌%◌, ◌<◌, ◌≤◌, ◌==◌, Bool, true, false, cond, Option, None, Some, is_some, List, [], ◌∷◌, ◌++◌, length, map, filter, find, drop, slice_get, nat_le, nat_lt, arith, length-append, lt-ltb, eq-eqb, ne_eqb}
use Rattle.std.proofs.lemmas.Bool.{cases_eq}
use Rattle.std.proofs.lemmas.Nat.{mod_below}
use Rattle.std.proofs.lemmas.List.Elements.{filter-append}
use Rattle.std.specs.List.{AllByRecursion as Each, range_with_len}
use Rattle.std.specs.Option.{option_or}
use Rattle.x86_subset.specs.Test.{LitmusTest}
use Rattle.tso_machine.specs.Event.{Event, is_drain}
use Rattle.tso_machine.specs.Machine.{State, after, after_all, updated}
use Rattle.tso_machine.specs.Part.{part_of}
use Rattle.perp_base.proofs.Lists.{each_filter, each_weaker, filter_all, filter_none, filter_same}
use Rattle.store_buffer.specs.Generator.{generator_word}
use Rattle.perp_base.specs.declared.schedule.Schedule.{Schedule}
use Rattle.perp_base.specs.declared.schedule.Schedule.TheVariants.{Turns, Seeded}
use Rattle.tso_runs.specs.Schedule.{Follows, named, threads_left}
use Rattle.tso_runs.specs.Turns.{turns_after, turns_of}
use Rattle.tso_runs.proofs.Events.{updated-other, updated-same}
use Rattle.tso_runs.proofs.Turns.{AreOf, Doing, left_of}

-- Which thread is named.

find_step : (P : ℕ → Type 0) (x t : ℕ) (o : Option ℕ) (b : Bool) → P x → (o ≡ Some t → P t) → cond b (Some x) o ≡ Some t
    → P t
find_step P x t o true h f e = let s : x ≡ t = cc in subst P s h
find_step P x t o false h f e = f e

find_has : (P : ℕ → Type 0) (p : ℕ → Bool) (ts : List ℕ) (t : ℕ) → Each P ts → find p ts ≡ Some t → P t
find_has P p [] t h e = cc
find_has P p (x ∷ xs) t h e = find_step P x t (find p xs) (p x) h.0 (find_has P p xs t h.1) e

get_has : (P : ℕ → Type 0) (ts : List ℕ) (k t : ℕ) → Each P ts → slice_get ts k ≡ Some t → P t
get_has P [] k t h e = cc
get_has P (x ∷ xs) zero t h e = let s : x ≡ t = cc in subst P s h.0
get_has P (x ∷ xs) (suc k) t h e = get_has P xs k t h.1 e

either_has : (P : ℕ → Type 0) (a b : Option ℕ) (t : ℕ) → (a ≡ Some t → P t) → (b ≡ Some t → P t)
    → option_or a b ≡ Some t → P t
either_has P None b t f g h = g h
either_has P (Some x) b t f g h = f h

pub named_has : (P : ℕ → Type 0) (schedule : Schedule) (i from : ℕ) (ts : List ℕ) (t : ℕ) → Each P ts
    → named schedule i from ts ≡ Some t → P t
named_has P Turns i from ts t h e =
    either_has P (find (nat_le from) ts) (slice_get ts 0) t (find_has P (nat_le from) ts t h) (get_has P ts 0 t h) e
named_has P (Seeded q) i from ts t h e = get_has P ts (generator_word q i % length ts) t h e

get_some : (ts : List ℕ) (k : ℕ) → k < length ts → (t : ℕ) × (slice_get ts k ≡ Some t)
get_some [] k l = absurd (omega arith)
get_some (x ∷ xs) zero l = (x, refl)
get_some (x ∷ xs) (suc k) l = get_some xs k (omega arith)

either_some : (a : Option ℕ) (x : ℕ) → (t : ℕ) × (option_or a (Some x) ≡ Some t)
either_some None x = (x, refl)
either_some (Some y) x = (y, refl)

pub named_some : (schedule : Schedule) (i from x : ℕ) (xs : List ℕ)
    → (t : ℕ) × (named schedule i from (x ∷ xs) ≡ Some t)
named_some Turns i from x xs = either_some (find (nat_le from) (x ∷ xs)) x
named_some (Seeded q) i from x xs =
    get_some (x ∷ xs) (generator_word q i % length (x ∷ xs)) (mod_below (generator_word q i) (length (x ∷ xs))
    (omega arith))

pub named_none : (schedule : Schedule) (i from : ℕ) → named schedule i from [] ≡ None
named_none Turns i from = refl
named_none (Seeded q) i from = refl

-- Threads that have turns left.

pub range_each : (P : ℕ → Type 0) (a n : ℕ) → ((t : ℕ) → a ≤ t → t < a + n → P t) → Each P (range_with_len a n)
range_each P a zero f = tt
range_each P a (suc n) f =
    (f a (omega arith) (omega arith), range_each P (a + 1) n (λ t l m. f t (omega arith) (omega arith)))

long_step : (ls : List (List Event)) (l : List Event) (ks : List (List Event)) (b : Bool) → nat_lt 0 (length ls) ≡ true
    → nat_lt 0 (length (cond b ls (l ∷ ks))) ≡ true
long_step ls l ks true h = h
long_step ls l ks false h = lt-ltb 0 (suc (length ks)) (omega arith)

turns_long : (held part : List Event) → nat_lt 0 (length (turns_after held part)) ≡ true
turns_long held [] =
    lt-ltb 0 (length (map (λ d. d ∷ []) held ++ [] ∷ [])) (omega (
      arith,
      length-append (map (λ (d : Event). d ∷ []) held) ([] ∷ []),
    ))
turns_long held (e ∷ es) =
    long_step (turns_after (held ++ e ∷ []) es) (held ++ e ∷ []) (turns_after [] es) (is_drain e)
    (turns_long (held ++ e ∷ []) es)

left_live : (o : Option Doing) (part : List Event) → nat_lt 0 (length (left_of o part)) ≡ is_some o
left_live None part = refl
left_live (Some d) part = turns_long [] part

abbrev pub live : ℕ → (ℕ → Option Doing) → List ℕ
live threads doing = filter (λ t. is_some (doing t)) (range_with_len 0 threads)

abbrev pub left_at : (ℕ → Option Doing) → List Event → ℕ → List (List Event)
left_at doing run t = left_of (doing t) (part_of t run)

pub threads_live : (n : ℕ) (doing : ℕ → Option Doing) (run : List Event) → threads_left n (left_at doing run) ≡ live n doing
threads_live n doing run =
    filter_same (λ t. nat_lt 0 (length (left_at doing run t))) (λ t. is_some (doing t)) (range_with_len 0 n)
    (range_each (λ t. nat_lt 0 (length (left_at doing run t)) ≡ is_some (doing t)) 0 n
    (λ t a b. left_live (doing t) (part_of t run)))

-- what threads have left matters below their number alone

threads_same : (n : ℕ) (f g : ℕ → List (List Event)) → ((t : ℕ) → t < n → f t ≡ g t)
    → threads_left n f ≡ threads_left n g
threads_same n f g h =
    filter_same (λ t. nat_lt 0 (length (f t))) (λ t. nat_lt 0 (length (g t))) (range_with_len 0 n)
    (range_each (λ t. nat_lt 0 (length (f t)) ≡ nat_lt 0 (length (g t))) 0 n
    (λ t a b. ap (λ l. nat_lt 0 (length l)) (h t (omega arith))))

pub threads_below : (n : ℕ) (p : ℕ → Bool) → Each (λ t. t < n) (filter p (range_with_len 0 n))
threads_below n p = each_filter (λ t. t < n) p (range_with_len 0 n) (range_each (λ t. t < n) 0 n (λ t a b. omega arith))

pub follows_same : (schedule : Schedule) (n i from : ℕ) (f g : ℕ → List (List Event)) (turns : List (List Event))
    → ((t : ℕ) → t < n → f t ≡ g t) → Follows schedule n i from f turns → Follows schedule n i from g turns
follows_same schedule n i from f g [] h k = sym (threads_same n f g h) ∙ k
follows_same schedule n i from f g (turn ∷ turns) h k =
    let t = k.0 in
    let below : t < n =
    named_has (λ t. t < n) schedule i from (threads_left n f) t
    (threads_below n (λ t. nat_lt 0 (length (f t)))) k.1 in (
      t,
      ap (named schedule i from) (sym (threads_same n f g h)) ∙ k.1,
      ap (λ l. slice_get l 0) (sym (h t below)) ∙ k.2,
      follows_same schedule n (i + 1) (t + 1) (updated f t (drop 1 (f t))) (updated g t (drop 1 (g t))) turns
          (λ u l i. cond (t == u) (drop 1 (h t below i)) (h u l i)) k.3,
    )

-- Parts of a run that begins with a turn.

pub part_own : (t : ℕ) (turn rest : List Event) → AreOf t turn → part_of t (turn ++ rest) ≡ turn ++ part_of t rest
part_own t turn rest h =
    filter-append (λ (e : Event). e.thread == t) turn rest
    ∙ ap (λ l. l ++ part_of t rest) (filter_all (λ (e : Event). e.thread == t) turn
    (each_weaker (λ (e : Event). e.thread ≡ t) (λ (e : Event). (e.thread == t) ≡ true)
    (λ e k. eq-eqb e.thread t k) turn h))

pub part_other : (t u : ℕ) (turn rest : List Event) → AreOf t turn → (t ≡ u → ⊥)
    → part_of u (turn ++ rest) ≡ part_of u rest
part_other t u turn rest h ne =
    filter-append (λ (e : Event). e.thread == u) turn rest
    ∙ ap (λ l. l ++ part_of u rest) (filter_none (λ (e : Event). e.thread == u) turn
    (each_weaker (λ (e : Event). e.thread ≡ t) (λ (e : Event). (e.thread == u) ≡ false)
    (λ e k. ne_eqb e.thread u (λ m. ne (sym k ∙ m))) turn h))

-- what is left after a turn
pub left_at_next : (doing : ℕ → Option Doing) (t : ℕ) (d : Doing) (next : Option Doing) (turn rest : List Event)
    → doing t ≡ Some d → AreOf t turn → turns_of (part_of t (turn ++ rest)) ≡ turn ∷ left_of next (part_of t rest)
    → (u : ℕ) → updated (left_at doing (turn ++ rest)) t (drop 1 (left_at doing (turn ++ rest) t)) u
    ≡ left_at (updated doing t next) rest u
left_at_next doing t d next turn rest does own cut u =
    ⊎_elim
    (λ is.
    updated-same (left_at doing (turn ++ rest)) t (drop 1 (left_at doing (turn ++ rest) t)) u is
    ∙ ap (λ o. drop 1 (left_of o (part_of t (turn ++ rest)))) does
    ∙ ap (drop 1) cut
    ∙ ap (λ u. left_of next (part_of u rest)) is
    ∙ ap (λ o. left_of o (part_of u rest)) (sym (updated-same doing t next u is)))
    (λ isnt.
    updated-other (left_at doing (turn ++ rest)) t (drop 1 (left_at doing (turn ++ rest) t)) u isnt
    ∙ ap (left_of (doing u)) (part_other t u turn rest own isnt)
    ∙ ap (λ o. left_of o (part_of u rest)) (sym (updated-other doing t next u isnt)))
    (cases_eq t u)

pub after_all-append : (test : LitmusTest) (s : State) (xs ys : List Event)
    → after_all test s (xs ++ ys) ≡ after_all test (after_all test s xs) ys
after_all-append test s [] ys = refl
after_all-append test s (x ∷ xs) ys = after_all-append test (after test s x) xs ys
