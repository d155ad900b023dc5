-- A frame in which the conditions of a plan set their writers' iterations, one after the other, becomes the heuristic
-- frame.
use Rattle.std.proofs.Common.{◌≡◌, ◌≢◌, ℕ, zero, suc, ◌+◌, ◌<◌, ◌==◌, Bool, true, false, cond, not, Option, None, Some, List, [], ◌∷◌, length, map, get_or, set, replicate, is_some, option_map, option_and_then, unwrap_or, refl, sym, ap, ◌∙◌, arith}
use Rattle.std.proofs.lemmas.Bool.{and_parts, eq-eqb, eqb-true}
use Rattle.std.proofs.lemmas.Grind.{same_number_lists}
use Rattle.std.proofs.lemmas.List.{get_or-set_other, get_or-set_same, get_or-replicate, length-set}
use Rattle.std.proofs.lemmas.List.FromFn.{get_or-map-range_with_len, length-map-range_with_len}
use Rattle.std.specs.List.{AllByRecursion as Each, range_with_len}
use Rattle.std.specs.Prelude.{find}
use Rattle.std.specs.Option.{option_map_or}
use Rattle.x86_subset.specs.Conjunctions.{conjunction_of}
use Rattle.x86_subset.proofs.Conjoined.{conjunction_of-map, each_of}
use Rattle.tso_machine.specs.Machine.{updated}
use Rattle.outcome_conv.specs.declared.cond.Cond.{Cond}
use Rattle.outcome_conv.specs.Choices.{choice_of}
use Rattle.outcome_conv.specs.Conds.{Logged}
use Rattle.outcome_conv.specs.Picks.{Chosen, base_takes, frame_from, link_by, picked_frame}
use Rattle.outcome_conv.specs.Plans.{base_by, chosen_along, is_open, order_of, plan_from}
use Rattle.outcome_conv.proofs.Planned.{plans_pick_lem}
use Rattle.heuristic.specs.Steps.{frame_along}
use Rattle.heuristic.proofs.Ordered.{differs, found}

-- a condition of so many threads
abbrev pub IsWithin : ℕ → Cond → Type 0
IsWithin threads c = (c.reader < threads) × (c.writer < threads)

-- one more chosen thread

at_thread : (i m t w : ℕ) (o : Option ℕ) (L : List ℕ) (b : Bool) → (w == t) ≡ b → w < length L
    → get_or L t 0 ≡ unwrap_or o i → unwrap_or (cond b (Some m) o) i ≡ get_or (set L w m) t 0
at_thread i m t w o L true e lt h =
    sym (ap (λ k. get_or (set L w m) k 0) (sym (eqb-true w t e)) ∙ get_or-set_same L w m 0 lt)
at_thread i m t w o L false e lt h = sym (get_or-set_other L w t m 0 (differs t w e) ∙ h)

read_at : (threads i t : ℕ) (chosen : Chosen) → t < threads
    → get_or (frame_from threads i chosen) t 0 ≡ unwrap_or (chosen t) i
read_at threads i t chosen lt = get_or-map-range_with_len (λ t. unwrap_or (chosen t) i) 0 threads t t 0 lt (omega arith)

frame_set : (threads i w m : ℕ) (chosen : Chosen) → w < threads
    → frame_from threads i (updated chosen w (Some m)) ≡ set (frame_from threads i chosen) w m
frame_set threads i w m chosen lt =
    let next = λ (t : ℕ). unwrap_or (updated chosen w (Some m) t) i in
    let L : List ℕ = frame_from threads i chosen in
    let long = length-map-range_with_len (λ t. unwrap_or (chosen t) i) 0 threads in
    let more = length-map-range_with_len next 0 threads in
    same_number_lists (frame_from threads i (updated chosen w (Some m))) (set L w m)
    (more ∙ sym (length-set L w m ∙ long))
    (λ t l. read_at threads i t (updated chosen w (Some m)) (omega arith)
    ∙ at_thread i m t w (chosen t) L (w == t) refl (omega arith) (read_at threads i t chosen (omega arith)))

-- where every thread has the same iteration

same_step : (i : ℕ) (b : Bool) → unwrap_or (cond b (Some i) None) i ≡ i
same_step i true = refl
same_step i false = refl

same_all : (base i at k : ℕ) → map (λ t. unwrap_or (base_takes base i t) i) (range_with_len at k) ≡ replicate k i
same_all base i at zero = refl
same_all base i at (suc k) =
    ap (λ x. x ∷ map (λ t. unwrap_or (base_takes base i t) i) (range_with_len (at + 1) k)) (same_step i (base == at))
    ∙ ap (λ l. i ∷ l) (same_all base i (at + 1) k)

-- along the order

knows_step : (o : Option ℕ) (m : ℕ) (b a : Bool) → a ≡ is_some o → cond b true a ≡ is_some (cond b (Some m) o)
knows_step o m true a h = refl
knows_step o m false a h = h

module _ (values : Logged) (n threads i : ℕ) (conds : List Cond) where
  abbrev Goes : ℕ → Type 0
  Goes steps = (known : ℕ → Bool) (chosen : Chosen) → ((t : ℕ) → known t ≡ is_some (chosen t))
      → option_map (frame_from threads i) (chosen_along values n (order_of steps conds known) chosen)
      ≡ frame_along values n (order_of steps conds known) (frame_from threads i chosen)

  choice_step : (steps w : ℕ) (known : ℕ → Bool) (chosen : Chosen) (o : Option ℕ) → w < threads
      → ((t : ℕ) → known t ≡ is_some (chosen t)) → Goes steps
      → option_map (frame_from threads i) (option_and_then (λ m. chosen_along values n
      (order_of steps conds (updated known w true)) (updated chosen w (Some m))) o)
      ≡ option_and_then (λ m. frame_along values n (order_of steps conds (updated known w true))
      (set (frame_from threads i chosen) w m)) o
  choice_step steps w known chosen None lt h rec = refl
  choice_step steps w known chosen (Some m) lt h rec =
      rec (updated known w true) (updated chosen w (Some m)) (λ t. knows_step (chosen t) m (w == t) (known t) (h t))
      ∙ ap (frame_along values n (order_of steps conds (updated known w true))) (frame_set threads i w m chosen lt)

  reader_step : (steps : ℕ) (c : Cond) (known : ℕ → Bool) (chosen : Chosen) (o : Option ℕ) → IsWithin threads c
      → chosen c.reader ≡ o → is_some o ≡ true → ((t : ℕ) → known t ≡ is_some (chosen t)) → Goes steps
      → option_map (frame_from threads i) (option_and_then (λ m. chosen_along values n
      (order_of steps conds (updated known c.writer true)) (updated chosen c.writer (Some m)))
      (option_and_then (choice_of values n c) o))
      ≡ option_and_then (λ m. frame_along values n (order_of steps conds (updated known c.writer true))
      (set (frame_from threads i chosen) c.writer m)) (choice_of values n c
      (get_or (frame_from threads i chosen) c.reader 0))
  reader_step steps c known chosen None within e s h rec = cc
  reader_step steps c known chosen (Some r) within e s h rec =
      choice_step steps c.writer known chosen (choice_of values n c r) within.1 h rec
      ∙ ap (λ k. option_and_then (λ m. frame_along values n (order_of steps conds (updated known c.writer true))
      (set (frame_from threads i chosen) c.writer m)) (choice_of values n c k))
      (sym (read_at threads i c.reader chosen within.0 ∙ ap (λ o. unwrap_or o i) e))

  find_step : (steps : ℕ) (known : ℕ → Bool) (chosen : Chosen) (o : Option Cond)
      → ((c : Cond) → o ≡ Some c → (is_open known c ≡ true) × IsWithin threads c)
      → ((t : ℕ) → known t ≡ is_some (chosen t)) → Goes steps
      → option_map (frame_from threads i) (chosen_along values n (option_map_or
      (λ c. c ∷ order_of steps conds (updated known c.writer true)) o []) chosen)
      ≡ frame_along values n (option_map_or (λ c. c ∷ order_of steps conds (updated known c.writer true)) o [])
      (frame_from threads i chosen)
  find_step steps known chosen None f h rec = refl
  find_step steps known chosen (Some c) f h rec =
      let p = f c refl in
      let k = and_parts (known c.reader) (not (known c.writer)) p.0 in
      reader_step steps c known chosen (chosen c.reader) p.1 refl (sym (h c.reader) ∙ k.0) h rec

  goes : (steps : ℕ) → Each (IsWithin threads) conds → Goes steps
  goes zero within known chosen h = refl
  goes (suc steps) within known chosen h =
      find_step steps known chosen (find (is_open known) conds) (λ c e. found (is_open known)
      (IsWithin threads) conds c within e) h (goes steps within)

base_knows : (i t : ℕ) (b : Bool) → b ≡ is_some (cond b (Some i) None)
base_knows i t true = refl
base_knows i t false = refl

-- the frame that the code makes by a plan
abbrev pub frame_by : Logged → ℕ → ℕ → List Cond → ℕ → Option (List ℕ)
frame_by values threads n conds i =
    option_and_then (λ base. frame_along values n (plan_from conds base) (replicate threads i)) (base_by threads conds)

by_base : (values : Logged) (threads n : ℕ) (conds : List Cond) (i : ℕ) (o : Option ℕ) → Each (IsWithin threads) conds
    → option_and_then (λ base. option_map (frame_from threads i)
    (chosen_along values n (plan_from conds base) (base_takes base i))) o
    ≡ option_and_then (λ base. frame_along values n (plan_from conds base) (replicate threads i)) o
by_base values threads n conds i None within = refl
by_base values threads n conds i (Some base) within =
    goes values n threads i conds (length conds) within (λ t. base == t) (base_takes base i)
    (λ t. base_knows i t (base == t))
    ∙ ap (frame_along values n (plan_from conds base)) (same_all base i 0 threads)

pub frame_is : (values : Logged) (threads n : ℕ) (conds : List Cond) (i : ℕ) → Each (IsWithin threads) conds
    → picked_frame threads (map (link_by values n) conds) i ≡ frame_by values threads n conds i
frame_is values threads n conds i within =
    plans_pick_lem values threads n conds i ∙ by_base values threads n conds i (base_by threads conds) within

-- the picked frame of a conjunction, by its base

pub picked_none : (values : Logged) (threads n : ℕ) (ends : List ℕ) (conds : List Cond) (c i : ℕ)
    → Each (IsWithin threads) conds → base_by threads (conjunction_of ends conds c) ≡ None
    → picked_frame threads (conjunction_of ends (map (link_by values n) conds) c) i ≡ None
picked_none values threads n ends conds c i within b =
    let group = conjunction_of ends conds c in
    ap (λ l. picked_frame threads l i) (conjunction_of-map (link_by values n) ends conds c)
    ∙ frame_is values threads n group i (each_of (IsWithin threads) ends conds c within)
    ∙ ap (λ o. option_and_then (λ t. frame_along values n (plan_from group t) (replicate threads i)) o) b

pub picked_some : (values : Logged) (threads n : ℕ) (ends : List ℕ) (conds : List Cond) (c i base : ℕ)
    → Each (IsWithin threads) conds → base_by threads (conjunction_of ends conds c) ≡ Some base
    → picked_frame threads (conjunction_of ends (map (link_by values n) conds) c) i
    ≡ frame_along values n (plan_from (conjunction_of ends conds c) base) (replicate threads i)
picked_some values threads n ends conds c i base within b =
    let group = conjunction_of ends conds c in
    ap (λ l. picked_frame threads l i) (conjunction_of-map (link_by values n) ends conds c)
    ∙ frame_is values threads n group i (each_of (IsWithin threads) ends conds c within)
    ∙ ap (λ o. option_and_then (λ t. frame_along values n (plan_from group t) (replicate threads i)) o) b

-- The base keeps its iteration.

keeps_choice : (values : Logged) (n steps : ℕ) (conds : List Cond) (known : ℕ → Bool) (frame out : List ℕ) (t : ℕ)
    (c : Cond) (o : Option ℕ) → t ≢ c.writer → known t ≡ true
    → ((k : ℕ → Bool) (f : List ℕ) → k t ≡ true → frame_along values n (order_of steps conds k) f ≡ Some out
    → get_or out t 0 ≡ get_or f t 0)
    → option_and_then (λ m. frame_along values n (order_of steps conds (updated known c.writer true))
    (set frame c.writer m)) o ≡ Some out → get_or out t 0 ≡ get_or frame t 0
keeps_choice values n steps conds known frame out t c None ne h rec e = absurd (let z : ⊥ = cc in z)
keeps_choice values n steps conds known frame out t c (Some m) ne h rec e =
    rec (updated known c.writer true) (set frame c.writer m) (set_true (c.writer == t) (known t) h) e
    ∙ get_or-set_other frame c.writer t m 0 ne
  where
    set_true : (b a : Bool) → a ≡ true → cond b true a ≡ true
    set_true true a h = refl
    set_true false a h = h

keeps_step : (values : Logged) (n steps : ℕ) (conds : List Cond) (known : ℕ → Bool) (frame out : List ℕ) (t : ℕ)
    (o : Option Cond) → known t ≡ true → ((c : Cond) → o ≡ Some c → is_open known c ≡ true)
    → ((k : ℕ → Bool) (f : List ℕ) → k t ≡ true → frame_along values n (order_of steps conds k) f ≡ Some out
    → get_or out t 0 ≡ get_or f t 0)
    → frame_along values n (option_map_or (λ c. c ∷ order_of steps conds (updated known c.writer true)) o []) frame
    ≡ Some out → get_or out t 0 ≡ get_or frame t 0
keeps_step values n steps conds known frame out t None h p rec e =
    let s : frame ≡ out = cc in ap (λ f. get_or f t 0) (sym s)
keeps_step values n steps conds known frame out t (Some c) h p rec e =
    let q = and_parts (known c.reader) (not (known c.writer)) (p c refl) in
    keeps_choice values n steps conds known frame out t c (choice_of values n c (get_or frame c.reader 0))
    (λ s. let z : not true ≡ true = ap not (sym (ap known (sym s) ∙ h)) ∙ q.1 in cc) h rec e

each_unit : (conds : List Cond) → Each (λ c. Unit {0}) conds
each_unit [] = tt
each_unit (c ∷ cs) = (tt, each_unit cs)

keeps : (values : Logged) (n steps : ℕ) (conds : List Cond) (known : ℕ → Bool) (frame out : List ℕ) (t : ℕ)
    → known t ≡ true
    → frame_along values n (order_of steps conds known) frame ≡ Some out → get_or out t 0 ≡ get_or frame t 0
keeps values n zero conds known frame out t h e = let s : frame ≡ out = cc in ap (λ f. get_or f t 0) (sym s)
keeps values n (suc steps) conds known frame out t h e =
    keeps_step values n steps conds known frame out t (find (is_open known) conds) h
    (λ c f. (found (is_open known) (λ c. Unit {0}) conds c (each_unit conds) f).0)
    (λ k f. keeps values n steps conds k f out t) e

itself : (t : ℕ) → (t == t) ≡ true
itself t = eq-eqb t t refl

-- the frame of iteration i has its base there
pub keeps_base : (values : Logged) (threads n : ℕ) (conds : List Cond) (i base : ℕ) (out : List ℕ) → base < threads
    → base_by threads conds ≡ Some base
    → frame_by values threads n conds i ≡ Some out → get_or out base 0 ≡ i
keeps_base values threads n conds i base out lt b e =
    let f = sym (ap (λ o. option_and_then (λ t. frame_along values n (plan_from conds t) (replicate threads i)) o) b)
    ∙ e in
    keeps values n (length conds) conds (λ t. base == t) (replicate threads i) out base (itself base) f
    ∙ get_or-replicate threads base i 0 lt
