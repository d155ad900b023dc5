-- Each kind of step keeps the rule.
use Rattle.std.proofs.Common.{◌≡◌, ◌≢◌, ℕ, zero, suc, ◌<◌, ◌≤◌, eqb, eq-eqb, ne_eqb, cond, true, List, [], ◌∷◌, ◌++◌, map, set, refl, sym, ap, ◌∙◌, subst, arith, append-nil, lt_of_not-le, lit<}
use mathlib.Core.Option.{some}
use mathlib.Core.Logic.{dite}
use native.Mathlib.Decide.{dec_le, ℕ_discrete}
use lib.ListN.{get_elem?}
use Rattle.atomic_table.proofs.Lists.{set_again, set_else}
use Rattle.tso_words.specs.declared.step.Step.{Step}
use Rattle.tso_words.specs.declared.step.TracedStep.{TracedStep}
use Rattle.tso_words.specs.declared.step.Part.{Part}
use Rattle.tso_words.specs.History.{thread_count, History, zeros, memory_after_step, Finds, history_part, ArePartsOfOne, eight, list_at}
use Rattle.tso_words.specs.Views.{beside, together, grown, only, others, one_part, no_steps, HoldsOneHistory, Stands, AllHome, list_of, first_steps}
use Rattle.tso_words.proofs.Eight.{below_eight}
use Rattle.tso_words.proofs.Histories.{IsFlat-push, history_part-push, beside-append, together-push, together-set, before, after}

-- a list of one element, with parts before and after it
pub lone : {X : Type 0} (xs ys : List X) (x y : X) → xs ++ (x ∷ ys) ≡ y ∷ [] → (xs ≡ []) × (x ≡ y) × (ys ≡ [])
lone [] ys x y e = (refl, cc, cc)
lone (z ∷ []) ys x y e = absurd (cc)
lone (z ∷ w ∷ zs) ys x y e = absurd (cc)

same_test : (t : ℕ) → eqb t t ≡ true
same_test t = eq-eqb t t refl

pub beside-grown_same : (t : ℕ) (s : Step) (ps : List Part)
    → beside t (grown t s ps) ≡ map (λ l. l ++ s ∷ []) (beside t ps)
beside-grown_same t s [] = refl
beside-grown_same t s (p ∷ ps) =
    dite (ℕ_discrete p.thread t)
    (λ e. let is = eq-eqb p.thread t e in rw is (rw is (ap (λ l. (p.steps ++ s ∷ []) ∷ l) (beside-grown_same t s ps))))
    (λ n. let is = ne_eqb p.thread t n in rw is (rw is (beside-grown_same t s ps)))

pub beside-grown_else : (t : ℕ) (s : Step) (ps : List Part) (k : ℕ) → k ≢ t → beside k (grown t s ps) ≡ beside k ps
beside-grown_else t s [] k apart = refl
beside-grown_else t s (p ∷ ps) k apart =
    dite (ℕ_discrete p.thread t)
    (λ e. let is = eq-eqb p.thread t e in let off = ne_eqb p.thread k (λ f. apart (sym f ∙ e)) in
    rw is (rw off (beside-grown_else t s ps k apart)))
    (λ n. let is = ne_eqb p.thread t n in rw is (ap (λ l. cond (eqb p.thread k) (p.steps ∷ l) l)
    (beside-grown_else t s ps k apart)))

not_empty : {X : Type 0} (xs ys : List X) (x : X) → xs ++ (x ∷ ys) ≡ [] → ⊥
not_empty [] ys x e = cc
not_empty (z ∷ zs) ys x e = cc

both_empty : {X : Type 0} (xs ys : List X) → xs ++ ys ≡ [] → (xs ≡ []) × (ys ≡ [])
both_empty [] ys e = (refl, e)
both_empty (x ∷ xs) ys e = absurd (cc)

-- all views around one of them
around : (views : List (List Part)) (id : ℕ) (v : List Part) (k : ℕ) → get_elem? views id ≡ some v
    → beside k (together views) ≡ before k views id ++ (beside k v ++ after k views id)
around views id v k at =
    ap (λ vs. beside k (together vs)) (sym (set_again views id v at)) ∙ together-set views id v v k at

-- a number that stands in a view is below 8
in_view : (words : List ℕ) (views : List (List Part)) (id : ℕ) (v : List Part) (t : ℕ) (l : List Step)
    → HoldsOneHistory words views → get_elem? views id ≡ some v → beside t v ≡ l ∷ [] → t < thread_count
in_view words views id v t l kept at mine =
    dite (dec_le 8 t)
    (λ high. absurd (not_empty (before t views id) (after t views id) l
    (ap (λ x. before t views id ++ (x ++ after t views id)) (sym mine) ∙ sym (around views id v t at)
    ∙ kept.3 t high)))
    (λ low. lt_of_not-le low)

-- the list in a view is the part of the history, and the number stands in no other view
in_history : (words : List ℕ) (views : List (List Part)) (id : ℕ) (v : List Part) (t : ℕ) (l : List Step)
    (kept : HoldsOneHistory words views) → get_elem? views id ≡ some v → beside t v ≡ l ∷ [] → t < thread_count
    → (before t views id ≡ []) × (l ≡ history_part t kept.0) × (after t views id ≡ [])
in_history words views id v t l kept at mine low =
    lone (before t views id) (after t views id) l (history_part t kept.0)
    (ap (λ x. before t views id ++ (x ++ after t views id)) (sym mine) ∙ sym (around views id v t at) ∙ kept.2 t low)

-- a load, a store and a swap: the history and one list have one step more
pub grows : (words : List ℕ) (views : List (List Part)) (id : ℕ) (v : List Part) (t : ℕ) (l : List Step) (s : Step)
    → HoldsOneHistory words views → get_elem? views id ≡ some v → beside t v ≡ l ∷ [] → Finds words s
    → HoldsOneHistory (memory_after_step words s) (set views id (grown t s v))
grows words views id v t l s kept at mine finds =
    (h ++ e ∷ [], IsFlat-push words h e kept.1 low finds, each, none)
  where
    h : History
    h = kept.0

    e : TracedStep
    e = record { thread = t; step = s }

    low : t < thread_count
    low = in_view words views id v t l kept at mine

    else_same : (k : ℕ) → k ≢ t → beside k (together (set views id (grown t s v))) ≡ beside k (together views)
    else_same k apart =
        together-set views id v (grown t s v) k at
        ∙ ap (λ x. before k views id ++ (x ++ after k views id)) (beside-grown_else t s v k apart)
        ∙ sym (around views id v k at)

    here : beside t (together (set views id (grown t s v))) ≡ history_part t (h ++ e ∷ []) ∷ []
    here =
        let lone_here = in_history words views id v t l kept at mine low in
        together-set views id v (grown t s v) t at
        ∙ ap (λ x. x ++ (beside t (grown t s v) ++ after t views id)) lone_here.0
        ∙ ap (λ x. beside t (grown t s v) ++ x) lone_here.2
        ∙ append-nil (beside t (grown t s v))
        ∙ beside-grown_same t s v
        ∙ ap (map (λ x. x ++ s ∷ [])) mine
        ∙ ap (λ x. (x ++ s ∷ []) ∷ []) lone_here.1
        ∙ ap (λ b. cond b (history_part t h ++ s ∷ []) (history_part t h) ∷ []) (sym (same_test t))
        ∙ ap (λ x. x ∷ []) (sym (history_part-push t h e))

    each : (k : ℕ) → k < thread_count → beside k (together (set views id (grown t s v))) ≡ history_part k (h ++ e ∷ [])
        ∷ []
    each k small =
        dite (ℕ_discrete k t)
        (λ is. subst (λ n. beside n (together (set views id (grown t s v))) ≡ history_part n (h ++ e ∷ []) ∷ [])
        (sym is) here)
        (λ apart. else_same k apart ∙ kept.2 k small
        ∙ ap (λ b. cond b (history_part k h ++ s ∷ []) (history_part k h) ∷ []) (sym (ne_eqb t k (λ f. apart (sym f))))
        ∙ ap (λ x. x ∷ []) (sym (history_part-push k h e)))

    none : (k : ℕ) → thread_count ≤ k → beside k (together (set views id (grown t s v))) ≡ []
    none k large = else_same k (λ is. let small = low in omega (arith, small)) ∙ kept.3 k large

pub beside-others_same : (t : ℕ) (ps : List Part) → beside t (others t ps) ≡ []
beside-others_same t [] = refl
beside-others_same t (p ∷ ps) =
    dite (ℕ_discrete p.thread t)
    (λ e. let is = eq-eqb p.thread t e in rw is (beside-others_same t ps))
    (λ n. let is = ne_eqb p.thread t n in rw is (rw is (beside-others_same t ps)))

pub beside-others_else : (t : ℕ) (ps : List Part) (k : ℕ) → k ≢ t → beside k (others t ps) ≡ beside k ps
beside-others_else t [] k apart = refl
beside-others_else t (p ∷ ps) k apart =
    dite (ℕ_discrete p.thread t)
    (λ e. let is = eq-eqb p.thread t e in let off = ne_eqb p.thread k (λ f. apart (sym f ∙ e)) in
    rw is (rw off (beside-others_else t ps k apart)))
    (λ n. let is = ne_eqb p.thread t n in rw is (ap (λ l. cond (eqb p.thread k) (p.steps ∷ l) l)
    (beside-others_else t ps k apart)))

-- the parts of one thread are known by their lists
pub only_is : (t : ℕ) (ps : List Part) → only t ps ≡ map (λ l. record { thread = t; steps = l }) (beside t ps)
only_is t [] = refl
only_is t (p ∷ ps) =
    dite (ℕ_discrete p.thread t)
    (λ e. let is = eq-eqb p.thread t e in rw is (λ i. record { thread = e i; steps = p.steps } ∷ only_is t ps i))
    (λ n. let is = ne_eqb p.thread t n in rw is (only_is t ps))

pub only_one : (t : ℕ) (ps : List Part) (l : List Step) → beside t ps ≡ l ∷ [] → only t ps ≡ one_part t l
only_one t ps l mine = only_is t ps ∙ ap (map (λ k. record { thread = t; steps = k })) mine

pub beside-one_same : (t : ℕ) (l : List Step) → beside t (one_part t l) ≡ l ∷ []
beside-one_same t l = let is = same_test t in rw is

pub beside-one_else : (t : ℕ) (l : List Step) (k : ℕ) → k ≢ t → beside k (one_part t l) ≡ []
beside-one_else t l k apart = let is = ne_eqb t k (λ f. apart (sym f)) in rw is

-- views that stand for the same lists keep the rule
same_lists : (words : List ℕ) (views now : List (List Part)) → HoldsOneHistory words views
    → ((k : ℕ) → beside k (together now) ≡ beside k (together views)) → HoldsOneHistory words now
same_lists words views now kept same =
    (kept.0, kept.1, (λ k small. same k ∙ kept.2 k small), (λ k large. same k ∙ kept.3 k large))

-- a split: one number goes to a new seat
pub splits : (words : List ℕ) (views : List (List Part)) (id : ℕ) (v : List Part) (t : ℕ) (l : List Step)
    → HoldsOneHistory words views → get_elem? views id ≡ some v → beside t v ≡ l ∷ []
    → HoldsOneHistory words (set views id (others t v) ++ only t v ∷ [])
splits words views id v t l kept at mine =
    subst (λ w. HoldsOneHistory words (set views id (others t v) ++ w ∷ [])) (sym (only_one t v l mine))
    (same_lists words views (set views id (others t v) ++ one_part t l ∷ []) kept same)
  where
    low : t < thread_count
    low = in_view words views id v t l kept at mine

    apart_same : (k : ℕ) → k ≢ t → beside k (together (set views id (others t v) ++ one_part t l ∷ []))
        ≡ beside k (together views)
    apart_same k apart =
        together-push (set views id (others t v)) (one_part t l) k
        ∙ ap (λ x. beside k (together (set views id (others t v))) ++ x) (beside-one_else t l k apart)
        ∙ append-nil (beside k (together (set views id (others t v))))
        ∙ together-set views id v (others t v) k at
        ∙ ap (λ x. before k views id ++ (x ++ after k views id)) (beside-others_else t v k apart)
        ∙ sym (around views id v k at)

    here : beside t (together (set views id (others t v) ++ one_part t l ∷ [])) ≡ beside t (together views)
    here =
        let lone_here = in_history words views id v t l kept at mine low in
        together-push (set views id (others t v)) (one_part t l) t
        ∙ ap (λ x. beside t (together (set views id (others t v))) ++ x) (beside-one_same t l)
        ∙ ap (λ x. x ++ l ∷ []) (together-set views id v (others t v) t at)
        ∙ ap (λ x. (x ++ (beside t (others t v) ++ after t views id)) ++ l ∷ []) lone_here.0
        ∙ ap (λ x. (beside t (others t v) ++ x) ++ l ∷ []) lone_here.2
        ∙ ap (λ x. (x ++ []) ++ l ∷ []) (beside-others_same t v)
        ∙ ap (λ x. x ∷ []) lone_here.1
        ∙ sym (kept.2 t low)

    same : (k : ℕ) → beside k (together (set views id (others t v) ++ one_part t l ∷ [])) ≡ beside k (together views)
    same k =
        dite (ℕ_discrete k t)
        (λ is. subst (λ n. beside n (together (set views id (others t v) ++ one_part t l ∷ []))
        ≡ beside n (together views)) (sym is) here)
        (apart_same k)

-- lists around two places of which the second is emptied into the first
joined : {X : Type 0} (ls v rs cs ds w : List X) (x : X) → cs ++ (w ++ ds) ≡ x ∷ [] → ls ++ (v ++ rs) ≡ cs ++ ds
    → ls ++ ((v ++ w) ++ rs) ≡ x ∷ []
joined ls v rs cs ds [] x e f = rw append-nil (f ∙ e)
joined ls v rs cs ds (y ∷ ys) x e f =
    let p = lone cs (ys ++ ds) y x e in
    let q = both_empty ys ds p.2 in
    let ce : cs ≡ [] = p.0 in
    let de : ds ≡ [] = q.1 in
    let r = both_empty ls (v ++ rs) (f ∙ ap (λ l. l ++ ds) ce ∙ de) in
    let s = both_empty v rs r.1 in
    let ae : ls ≡ [] = r.0 in
    let ve : v ≡ [] = s.0 in
    let be : rs ≡ [] = s.1 in
    let ye : ys ≡ [] = q.0 in
    rw (ae, ve, be, ye) (ap (λ z. z ∷ []) p.1)

joined_none : {X : Type 0} (ls v rs cs ds w : List X) → cs ++ (w ++ ds) ≡ [] → ls ++ (v ++ rs) ≡ cs ++ ds
    → ls ++ ((v ++ w) ++ rs) ≡ []
joined_none ls v rs cs ds [] e f = rw append-nil (f ∙ e)
joined_none ls v rs cs ds (y ∷ ys) e f = absurd (not_empty cs (ys ++ ds) y e)

set_apart : {X : Type 0} (xs : List X) (i j : ℕ) (a b : X) → i ≢ j → set (set xs i a) j b ≡ set (set xs j b) i a
set_apart [] i j a b n = refl
set_apart (x ∷ xs) zero zero a b n = absurd (n refl)
set_apart (x ∷ xs) zero (suc j) a b n = refl
set_apart (x ∷ xs) (suc i) zero a b n = refl
set_apart (x ∷ xs) (suc i) (suc j) a b n = ap (λ l. x ∷ l) (set_apart xs i j a b (λ e. n (ap suc e)))

-- a join: one seat takes in the parts of another, which is left with none
pub joins : (words : List ℕ) (views : List (List Part)) (id : ℕ) (v : List Part) (other : ℕ) (w : List Part)
    → HoldsOneHistory words views → get_elem? views id ≡ some v → other ≢ id
    → get_elem? (set views id (v ++ w)) other ≡ some w → HoldsOneHistory words (set (set views id (v ++ w)) other [])
joins words views id v other w kept at apart there =
    (kept.0, kept.1, (λ k small. met k (history_part k kept.0) (kept.2 k small)), (λ k large. unmet k (kept.3 k large)))
  where
    theirs : get_elem? views other ≡ some w
    theirs = sym (set_else views id other (v ++ w) apart) ∙ there

    mine : get_elem? (set views other []) id ≡ some v
    mine = set_else views other id [] (λ e. apart (sym e)) ∙ at

    now : (k : ℕ) → beside k (together (set (set views id (v ++ w)) other [])) ≡ before k (set views other []) id
        ++ ((beside k v ++ beside k w) ++ after k (set views other []) id)
    now k =
        ap (λ vs. beside k (together vs)) (set_apart views id other (v ++ w) [] (λ e. apart (sym e)))
        ∙ together-set (set views other []) id v (v ++ w) k mine
        ∙ ap (λ x. before k (set views other []) id ++ (x ++ after k (set views other []) id)) (beside-append k v w)

    emptied : (k : ℕ) → before k (set views other []) id ++ (beside k v ++ after k (set views other []) id)
        ≡ before k views other ++ after k views other
    emptied k = sym (around (set views other []) id v k mine) ∙ together-set views other w [] k theirs

    met : (k : ℕ) (x : List Step) → beside k (together views) ≡ x ∷ []
        → beside k (together (set (set views id (v ++ w)) other [])) ≡ x ∷ []
    met k x is =
        now k ∙ joined (before k (set views other []) id) (beside k v) (after k (set views other []) id)
        (before k views other) (after k views other) (beside k w) x (sym (around views other w k theirs) ∙ is)
        (emptied k)

    unmet : (k : ℕ) → beside k (together views) ≡ [] → beside k (together (set (set views id (v ++ w)) other [])) ≡ []
    unmet k is =
        now k ∙ joined_none (before k (set views other []) id) (beside k v) (after k (set views other []) id)
        (before k views other) (after k views other) (beside k w) (sym (around views other w k theirs) ∙ is)
        (emptied k)

-- the making of a table
pub opens : HoldsOneHistory zeros (no_steps ∷ [])
opens = ([], (tt, refl), each, none)
  where
    each : (t : ℕ) → t < thread_count → beside t (together (no_steps ∷ [])) ≡ [] ∷ []
    each t h = below_eight (λ t. beside t (together (no_steps ∷ [])) ≡ [] ∷ []) (refl, refl, refl, refl, refl, refl, refl, refl) t h

    none : (t : ℕ) → thread_count ≤ t → beside t (together (no_steps ∷ [])) ≡ []
    none t h =
        rw (
          ne_eqb 0 t (λ e. omega arith),
          ne_eqb 1 t (λ e. omega arith),
          ne_eqb 2 t (λ e. omega arith),
          ne_eqb 3 t (λ e. omega arith),
          ne_eqb 4 t (λ e. omega arith),
          ne_eqb 5 t (λ e. omega arith),
          ne_eqb 6 t (λ e. omega arith),
          ne_eqb 7 t (λ e. omega arith),
        )

-- the list beside a number that stands once
pub list_of_is : (t : ℕ) (v : List Part) (l : List Step) → Stands t v l → list_of t v ≡ l
list_of_is t v l stands = ap first_steps (only_one t v l stands)

pub eight_same : {A : Type 0} (f g : ℕ → A) → ((t : ℕ) → t < thread_count → f t ≡ g t) → eight f ≡ eight g
eight_same f g h =
    λ i. h 0 (lit< tt) i ∷ h 1 (lit< tt) i ∷ h 2 (lit< tt) i ∷ h 3 (lit< tt) i ∷ h 4 (lit< tt) i ∷ h 5 (lit< tt) i
    ∷ h 6 (lit< tt) i ∷ h 7 (lit< tt) i ∷ []

pub list_at-eight : (f : ℕ → List Step) (t : ℕ) → t < thread_count → list_at (eight f) t ≡ f t
list_at-eight f t h = below_eight (λ t. list_at (eight f) t ≡ f t) (refl, refl, refl, refl, refl, refl, refl, refl) t h

-- at the end, where all numbers stand in one view
pub closes : (words : List ℕ) (views : List (List Part)) (id : ℕ) (v : List Part) → HoldsOneHistory words views
    → get_elem? views id ≡ some v → AllHome v → ArePartsOfOne words (eight (λ t. list_of t v))
closes words views id v kept at home = (
  kept.0,
  kept.1,
  eight_same (λ t. list_of t v) (λ t. history_part t kept.0)
      (λ t low. let mine = home t low in list_of_is t v mine.0 mine.1
      ∙ (in_history words views id v t mine.0 kept at mine.1 low).1),
)
