-- The order in which conditions choose, condition by condition.
use Rattle.std.proofs.Common.{◌≡◌, ◌≢◌, ℕ, zero, suc, ◌+◌, ◌-◌, ◌<◌, ◌≤◌, ◌==◌, ◌||◌, Bool, true, false, cond, Option, None, Some, List, [], ◌∷◌, ◌++◌, All, length, refl, sym, ap, ◌∙◌, arith, subst}
use Rattle.std.proofs.lemmas.Bool.{eq-eqb}
use Rattle.std.proofs.lemmas.List.{append-nil, append_assoc}
use Rattle.std.proofs.lemmas.List.Elements.{All-from_recursion, recursion_from_All}
use Rattle.std.proofs.lemmas.List.Folds.{list_any-append}
use Rattle.std.proofs.Math.Bool.{or-false}
use Rattle.std.specs.List.{AllByRecursion as Each, list_any, range_with_len}
use Rattle.std.specs.Prelude.{find}
use Rattle.std.specs.Option.{option_map_or}
use Rattle.tso_machine.specs.Machine.{updated}
use Rattle.outcome_conv.specs.declared.cond.Cond.{Cond}
use Rattle.outcome_conv.specs.Plans.{base_by, is_open, order_of, plan_from}
use Rattle.heuristic.specs.Plan.{has_iteration}

-- what `find` gives

found_step : {X : Type 0} (p : X → Bool) (P : X → Type 0) (x y : X) (xs : List X) (b : Bool) → p x ≡ b
    → cond b (Some x) (find p xs) ≡ Some y → P x → (find p xs ≡ Some y → (p y ≡ true) × P y) → (p y ≡ true) × P y
found_step p P x y xs true e f h rec = let s : x ≡ y = cc in (ap p (sym s) ∙ e, subst P s h)
found_step p P x y xs false e f h rec = rec f

pub found : {X : Type 0} (p : X → Bool) (P : X → Type 0) (xs : List X) (y : X) → Each P xs → find p xs ≡ Some y
    → (p y ≡ true) × P y
found p P [] y h e = absurd (let z : ⊥ = cc in z)
found p P (x ∷ xs) y h e = found_step p P x y xs (p x) refl e h.0 (found p P xs y h.1)

-- the order has conditions of the conjunction alone

order_each_step : (P : Cond → Type 0) (more : ℕ) (conds : List Cond) (known : ℕ → Bool) (o : Option Cond)
    → ((c : Cond) → o ≡ Some c → P c) → ((k : ℕ → Bool) → Each P (order_of more conds k))
    → Each P (option_map_or (λ c. c ∷ order_of more conds (updated known c.writer true)) o [])
order_each_step P more conds known None h rec = tt
order_each_step P more conds known (Some c) h rec = (h c refl, rec (updated known c.writer true))

order_each : (P : Cond → Type 0) (more : ℕ) (conds : List Cond) (known : ℕ → Bool) → Each P conds
    → Each P (order_of more conds known)
order_each P zero conds known h = tt
order_each P (suc more) conds known h =
    order_each_step P more conds known (find (is_open known) conds) (λ c e. (found (is_open known) P conds c h e).1)
    (λ k. order_each P more conds k h)

pub order_all : (P : Cond → Type 0) (more : ℕ) (conds : List Cond) (known : ℕ → Bool) → All P conds
    → All P (order_of more conds known)
order_all P more conds known h =
    All-from_recursion P (order_of more conds known) (order_each P more conds known (recursion_from_All P conds h))

-- The base.

pub base_found : (p : ℕ → Bool) (t k : ℕ) → t < k → p t ≡ true → find p (range_with_len t (k - t)) ≡ Some t
base_found p t k lt h =
    let e : k - t ≡ suc (k - (t + 1)) = omega arith in
    ap (λ m. find p (range_with_len t m)) e ∙ ap (λ b. cond b (Some t) (find p (range_with_len (t + 1) (k - (t + 1)))))
    h

pub base_missed : (p : ℕ → Bool) (t k : ℕ) → t < k → p t ≡ false
    → find p (range_with_len (t + 1) (k - (t + 1))) ≡ find p (range_with_len t (k - t))
base_missed p t k lt h =
    let e : k - t ≡ suc (k - (t + 1)) = omega arith in
    sym (ap (λ m. find p (range_with_len t m)) e
    ∙ ap (λ b. cond b (Some t) (find p (range_with_len (t + 1) (k - (t + 1))))) h)

pub base_none : (p : ℕ → Bool) (t k : ℕ) → k ≤ t → find p (range_with_len t (k - t)) ≡ None
base_none p t k le = let e : k - t ≡ 0 = omega arith in ap (λ m. find p (range_with_len t m)) e

range_below : (m a k : ℕ) → a + k ≤ m → Each (λ t. t < m) (range_with_len a k)
range_below m a zero h = tt
range_below m a (suc k) h = (omega arith, range_below m (a + 1) k (omega arith))

pub base_below : (threads base : ℕ) (conds : List Cond) → base_by threads conds ≡ Some base → base < threads
base_below threads base conds e =
    (found (λ t. list_any (λ (c : Cond). c.reader == t) conds) (λ t. t < threads) (range_with_len 0 threads) base
    (range_below threads 0 threads (omega arith)) e).1

-- one more condition

order_none : (more : ℕ) (conds : List Cond) (known : ℕ → Bool) → find (is_open known) conds ≡ None
    → order_of more conds known ≡ []
order_none zero conds known e = refl
order_none (suc more) conds known e =
    ap (λ o. option_map_or (λ c. c ∷ order_of more conds (updated known c.writer true)) o []) e

order_some : (more : ℕ) (conds : List Cond) (known : ℕ → Bool) (c : Cond) → find (is_open known) conds ≡ Some c
    → order_of (suc more) conds known ≡ c ∷ order_of more conds (updated known c.writer true)
order_some more conds known c e =
    ap (λ o. option_map_or (λ c. c ∷ order_of more conds (updated known c.writer true)) o []) e

-- The threads that have their iterations.

pub differs : (t w : ℕ) → (w == t) ≡ false → t ≢ w
differs t w e s = let z : true ≡ false = sym (eq-eqb w t (sym s)) ∙ e in cc

one_more : (a b w : Bool) → (a || (b || (w || false))) ≡ cond w true (a || b)
one_more true b true = refl
one_more true b false = refl
one_more false true true = refl
one_more false true false = refl
one_more false false true = refl
one_more false false false = refl

has_iteration_push : (base : ℕ) (order : List Cond) (c : Cond)
    → has_iteration base (order ++ c ∷ []) ≡ updated (has_iteration base order) c.writer true
has_iteration_push base order c = λ i t.
    let p : Cond → Bool = λ (d : Cond). d.writer == t in
    (ap (λ b. (base == t) || b) (list_any-append p order (c ∷ []))
    ∙ one_more (base == t) (list_any p order) (c.writer == t)) i

has_iteration_first : (base : ℕ) → has_iteration base [] ≡ (λ t. base == t)
has_iteration_first base = λ i t. or-false (base == t) i

pub order_starts : (conds : List Cond) (base : ℕ)
    → order_of (length conds - 0) conds (has_iteration base []) ≡ plan_from conds base
order_starts conds base =
    let e : length conds - 0 ≡ length conds = omega arith in
    ap (λ k. order_of k conds (has_iteration base [])) e ∙ ap (order_of (length conds) conds) (has_iteration_first base)

pub order_ends : (more : ℕ) (conds : List Cond) (known : ℕ → Bool) (done whole : List Cond)
    → find (is_open known) conds ≡ None
    → done ++ order_of more conds known ≡ whole
    → done ≡ whole
order_ends more conds known done whole e h =
    sym (append-nil done) ∙ ap (λ l. done ++ l) (sym (order_none more conds known e)) ∙ h

pub order_goes_on : (steps i : ℕ) (conds : List Cond) (base : ℕ) (done whole : List Cond) (c : Cond)
    → i < steps
    → find (is_open (has_iteration base done)) conds ≡ Some c
    → done ++ order_of (steps - i) conds (has_iteration base done) ≡ whole
    → (done ++ c ∷ []) ++ order_of (steps - (i + 1)) conds (has_iteration base (done ++ c ∷ [])) ≡ whole
order_goes_on steps i conds base done whole c lt e h =
    let s : steps - i ≡ suc (steps - (i + 1)) = omega arith in
    let known = has_iteration base done in
    append_assoc done (c ∷ []) (order_of (steps - (i + 1)) conds (has_iteration base (done ++ c ∷ [])))
    ∙ ap (λ f. done ++ c ∷ order_of (steps - (i + 1)) conds f) (has_iteration_push base done c)
    ∙ ap (λ l. done ++ l) (sym (ap (λ k. order_of k conds known) s ∙ order_some (steps - (i + 1)) conds known c e))
    ∙ h
