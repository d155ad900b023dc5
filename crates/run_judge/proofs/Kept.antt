-- What waits of each location is kept as a write enters a buffer or leaves it.
use Rattle.std.proofs.Common.{◌≡◌, ℕ, ◌+◌, ◌-◌, ◌<◌, ◌≤◌, ◌==◌, Bool, true, false, cond, Option, None, Some, List, [], ◌∷◌, ◌++◌, All, length, drop, get_or, set, refl, sym, ap, ◌∙◌, arith, subst, inl, inr, ◌⊎◌, eq-eqb, ne_eqb, get_or-set_other, length-set, replicate}
use Rattle.std.proofs.lemmas.Bool.{cases_eq}
use Rattle.std.proofs.lemmas.Grind.{get_or-set_at}
use Rattle.std.proofs.lemmas.List.{get_or-replicate, length-replicate, map-append}
use Rattle.std.proofs.lemmas.List.Elements.{All-from_recursion, recursion_from_All}
use Rattle.std.specs.List.{AllByRecursion as Each}
use Rattle.std.specs.Option.{option_or}
use Rattle.perp_base.proofs.Lists.{each_append}
use Rattle.tso_machine.specs.Machine.{Write, newest}
use Rattle.run_judge.specs.declared.progress.Entry.{Entry}
use Rattle.run_judge.specs.declared.progress.Progress.{Progress}
use Rattle.run_judge.specs.declared.progress.Waiting.{Waiting}
use Rattle.run_judge.specs.Progress.{IsKept, TellsOf, how_many, write_of_entry, writes_of}

-- The newest of one write more.

newest_step : (b : Bool) (v : ℕ) (n c : Option ℕ) → option_or (cond b (Some v) n) c ≡ cond b (Some v) (option_or n c)
newest_step true v n c = refl
newest_step false v n c = refl

pub newest_push : (x : ℕ) (ws : List Write) (w : Write)
    → newest x (ws ++ w ∷ []) ≡ cond (w.location == x) (Some w.value) (newest x ws)
newest_push x [] w = refl
newest_push x (v ∷ ws) w =
    rw (newest_push x ws w) (newest_step (w.location == x) w.value (newest x ws)
    (cond (v.location == x) (Some v.value) None))

newest_more : (x : ℕ) (es : List Entry) (e : Entry) (b : Bool) → (e.loc == x) ≡ b
    → newest x (writes_of (es ++ e ∷ [])) ≡ cond b (Some e.value) (newest x (writes_of es))
newest_more x es e b l =
    ap (newest x) (map-append write_of_entry es (e ∷ []))
    ∙ newest_push x (writes_of es) (write_of_entry e)
    ∙ ap (λ z. cond z (Some e.value) (newest x (writes_of es))) l

-- How many writes to a location there are.

pub how_many_within : (x : ℕ) (es : List Entry) → how_many x es ≤ length es
how_many_within x [] = omega arith
how_many_within x (e ∷ es) =
    let h = how_many_within x es in
    elim (e.loc == x) as (λ b. cond b 1 0 + how_many x es ≤ length (e ∷ es)) [ true ↦ omega arith | false ↦ omega arith ]

how_many_more : (x : ℕ) (es : List Entry) (e : Entry) (b : Bool) → (e.loc == x) ≡ b
    → how_many x (es ++ e ∷ []) ≡ how_many x es + cond b 1 0
how_many_more x [] e b h = rw h (omega arith)
how_many_more x (d ∷ es) e b h =
    let k = how_many_more x es e b h in
    omega arith

pub none_left : (x : ℕ) (es : List Entry) → how_many x es ≡ 0 → newest x (writes_of es) ≡ None
none_left x [] h = refl
none_left x (e ∷ es) h = go (e.loc == x) h (none_left x es)
  where
    go : (b : Bool) → cond b 1 0 + how_many x es ≡ 0 → (how_many x es ≡ 0 → newest x (writes_of es) ≡ None)
        → option_or (newest x (writes_of es)) (cond b (Some e.value) None) ≡ None
    go true h k = absurd (omega arith)
    go false h k = rw (k (omega arith)) refl

-- where a write to x is left, the newest is among those that are left
newest_left : (x : ℕ) (es : List Entry) → 1 ≤ how_many x es → (v : ℕ) × (newest x (writes_of es) ≡ Some v)
newest_left x [] h = absurd (omega arith)
newest_left x (e ∷ es) h = go (e.loc == x) h (newest_left x es)
  where
    found : (b : Bool) (o : Option ℕ) → (v : ℕ) × (o ≡ Some v)
        → (v : ℕ) × (option_or o (cond b (Some e.value) None) ≡ Some v)
    found b o h = (h.0, rw h.1 refl)

    last : (o : Option ℕ) → (v : ℕ) × (option_or o (Some e.value) ≡ Some v)
    last None = (e.value, refl)
    last (Some v) = (v, refl)

    go : (b : Bool) → 1 ≤ cond b 1 0 + how_many x es
        → (1 ≤ how_many x es → (v : ℕ) × (newest x (writes_of es) ≡ Some v))
        → (v : ℕ) × (option_or (newest x (writes_of es)) (cond b (Some e.value) None) ≡ Some v)
    go true h k = last (newest x (writes_of es))
    go false h k = found false (newest x (writes_of es)) (k (omega arith))

rest_newest : (x : ℕ) (es : List Entry) (o c : Option ℕ) (v : ℕ) → 1 ≤ how_many x es
    → newest x (writes_of es) ≡ o → option_or o c ≡ Some v → o ≡ Some v
rest_newest x es None c v h k e = let n = newest_left x es h in absurd (let z : None ≡ Some n.0 = sym k ∙ n.1 in cc)
rest_newest x es (Some u) c v h k e = e

-- What tells of a location.

tells_more : (x : ℕ) (es : List Entry) (e : Entry) (k : Waiting) → e.loc ≡ x → TellsOf x es k
    → TellsOf x (es ++ e ∷ []) (record { count = k.count + 1; newest = e.value })
tells_more x es e k h t = record {
  count = ap (λ z. z + 1) t.count ∙ sym (how_many_more x es e true (eq-eqb e.loc x h));
  newest_is = λ _. newest_more x es e true (eq-eqb e.loc x h);
}

tells_same : (x : ℕ) (es : List Entry) (e : Entry) (k : Waiting) → (e.loc ≡ x → ⊥) → TellsOf x es k
    → TellsOf x (es ++ e ∷ []) k
tells_same x es e k h t = record {
  count = (let m = how_many_more x es e false (ne_eqb e.loc x h) in let c = t.count in omega arith);
  newest_is = λ some. newest_more x es e false (ne_eqb e.loc x h) ∙ t.newest_is some;
}

tells_left : (x : ℕ) (es : List Entry) (e : Entry) (k : Waiting) (v : ℕ) → v ≡ how_many x es → v ≤ k.count
    → TellsOf x (e ∷ es) k → TellsOf x es (record { count = v; newest = k.newest })
tells_left x es e k v h l t = record {
  count = h;
  newest_is = λ some.
      rest_newest x es (newest x (writes_of es)) (cond (e.loc == x) (Some e.value) None) k.newest (omega arith) refl
      (t.newest_is (omega arith));
}

tells_less : (x : ℕ) (es : List Entry) (e : Entry) (k : Waiting) → e.loc ≡ x
    → TellsOf x (e ∷ es) k → TellsOf x es (record { count = k.count - 1; newest = k.newest })
tells_less x es e k h t =
    let c : k.count ≡ 1 + how_many x es = rw (eq-eqb e.loc x h) at t.count in
    tells_left x es e k (k.count - 1) (omega arith) (omega arith) t

tells_still : (x : ℕ) (es : List Entry) (e : Entry) (k : Waiting) → (e.loc ≡ x → ⊥)
    → TellsOf x (e ∷ es) k → TellsOf x es k
tells_still x es e k h t =
    let c : k.count ≡ 0 + how_many x es = rw (ne_eqb e.loc x h) at t.count in
    tells_left x es e k k.count (omega arith) (omega arith) t

-- What is kept.

pub kept_push : (p q : Progress) (e : Entry) (d : Waiting) → IsKept p → e.loc < 16
    → q.buffer.items ≡ p.buffer.items ++ e ∷ []
    → q.waiting ≡ set p.waiting e.loc (record { count = (get_or p.waiting e.loc d).count + 1; newest = e.value })
    → IsKept q
kept_push p q e d kept low items waiting = record {
  long = ap length waiting ∙ length-set p.waiting e.loc _ ∙ kept.long;
  each = λ x c l. at x c l (cases_eq e.loc x);
  below =
      rw items (All-from_recursion (λ (z : Entry). z.loc < 16) (p.buffer.items ++ e ∷ []) (each_append
      (λ (z : Entry). z.loc < 16) p.buffer.items (e ∷ []) (recursion_from_All (λ (z : Entry). z.loc < 16) p.buffer.items
      kept.below) (low, tt)));
}
  where
    at : (x : ℕ) (c : Waiting) → x < 16 → (e.loc ≡ x) ⊎ (e.loc ≡ x → ⊥) → TellsOf x q.buffer.items (get_or q.waiting x c)
    at x c l (inl same) =
        let w : Waiting = record { count = (get_or p.waiting e.loc d).count + 1; newest = e.value } in
        let long = kept.long in
        let here : get_or q.waiting x c ≡ w = ap (λ z. get_or z x c) waiting
        ∙ get_or-set_at p.waiting e.loc x w c (sym same) (omega arith) in
        let old : TellsOf x p.buffer.items (get_or p.waiting e.loc d) = rw same (kept.each x d l) in
        rw (items, here) (tells_more x p.buffer.items e (get_or p.waiting e.loc d) same old)
    at x c l (inr other) =
        let w : Waiting = record { count = (get_or p.waiting e.loc d).count + 1; newest = e.value } in
        let here : get_or q.waiting x c ≡ get_or p.waiting x c = ap (λ z. get_or z x c) waiting
        ∙ get_or-set_other p.waiting e.loc x w c (λ k. other (sym k)) in
        rw (items, here) (tells_same x p.buffer.items e (get_or p.waiting x c) other (kept.each x c l))

pub kept_pop : (p q : Progress) (e : Entry) (d : Waiting) (es : List Entry) → IsKept p → p.buffer.items ≡ e ∷ es
    → q.buffer.items ≡ es
    → q.waiting ≡ set p.waiting e.loc (record {
      count = (get_or p.waiting e.loc d).count - 1;
      newest = (get_or p.waiting e.loc d).newest;
    })
    → IsKept q
kept_pop p q e d es kept items rest waiting = record {
  long = ap length waiting ∙ length-set p.waiting e.loc _ ∙ kept.long;
  each = λ x c l. at x c l (cases_eq e.loc x);
  below =
      rw rest (All-from_recursion (λ (z : Entry). z.loc < 16) es (recursion_from_All (λ (z : Entry). z.loc < 16) (e ∷ es)
      (rw items at kept.below)).1);
}
  where
    at : (x : ℕ) (c : Waiting) → x < 16 → (e.loc ≡ x) ⊎ (e.loc ≡ x → ⊥) → TellsOf x q.buffer.items (get_or q.waiting x c)
    at x c l (inl same) =
        let k = get_or p.waiting e.loc d in
        let w : Waiting = record { count = k.count - 1; newest = k.newest } in
        let long = kept.long in
        let here : get_or q.waiting x c ≡ w = ap (λ z. get_or z x c) waiting
        ∙ get_or-set_at p.waiting e.loc x w c (sym same) (omega arith) in
        let old : TellsOf x (e ∷ es) k = rw (← items, same) (kept.each x d l) in
        rw (rest, here) (tells_less x es e k same old)
    at x c l (inr other) =
        let w : Waiting = record {
          count = (get_or p.waiting e.loc d).count - 1;
          newest = (get_or p.waiting e.loc d).newest;
        } in
        let here : get_or q.waiting x c ≡ get_or p.waiting x c = ap (λ z. get_or z x c) waiting
        ∙ get_or-set_other p.waiting e.loc x w c (λ k. other (sym k)) in
        let old : TellsOf x (e ∷ es) (get_or p.waiting x c) = rw (← items) (kept.each x c l) in
        rw (rest, here) (tells_still x es e (get_or p.waiting x c) other old)

-- At the start, and in a list of threads.

tells_nothing : (x : ℕ) (k : Waiting) → k.count ≡ 0 → TellsOf x [] k
tells_nothing x k h = record { count = h; newest_is = λ some. absurd (omega arith) }

pub kept_fresh : (p : Progress) (w : Waiting) → p.buffer.items ≡ [] → w.count ≡ 0 → p.waiting ≡ replicate 16 w
    → IsKept p
kept_fresh p w items none waiting = record {
  long = ap length waiting ∙ length-replicate 16 w;
  each = λ x d l.
      let here : get_or p.waiting x d ≡ w = ap (λ z. get_or z x d) waiting ∙ get_or-replicate 16 x w d l in
      rw (items, here) (tells_nothing x w none);
  below = rw items (All-from_recursion (λ (z : Entry). z.loc < 16) [] tt);
}

pub all_kept_push : (ps : List Progress) (p : Progress) → All IsKept ps → IsKept p → All IsKept (ps ++ p ∷ [])
all_kept_push ps p h k =
    All-from_recursion IsKept (ps ++ p ∷ []) (each_append IsKept ps (p ∷ []) (recursion_from_All IsKept ps h)
    (k, tt))

pub kept_at : (ps : List Progress) (t : ℕ) (p : Progress) → All IsKept ps → t < length ps → p ≡ get_or ps t p → IsKept p
kept_at ps t p h l e = subst IsKept (sym e) (h t p l)

pub all_kept_set : (ps : List Progress) (t : ℕ) (p : Progress) → All IsKept ps → IsKept p → All IsKept (set ps t p)
all_kept_set ps t p h k u d l =
    let long = length-set ps t p in
    let low : u < length ps = omega arith in
    go u d low (cases_eq u t)
  where
    go : (u : ℕ) (d : Progress) → u < length ps → (u ≡ t) ⊎ (u ≡ t → ⊥) → IsKept (get_or (set ps t p) u d)
    go u d l (inl e) = rw (get_or-set_at ps t u p d e (omega arith)) k
    go u d l (inr ne) = rw (get_or-set_other ps t u p d ne) (h u d l)
