-- A frame is a find of a conjunction where it is that of its own base's iteration, and the finds of the earlier
-- conjunctions one after the other.
use Rattle.std.proofs.Common.{◌≡◌, ℕ, ◌+◌, ◌<◌, ◌≤◌, ◌||◌, ◌&&◌, Bool, true, false, cond, not, Option, None, Some, List, [], ◌∷◌, ◌++◌, length, drop, filter, get_or, map, take, refl, sym, ap, ◌∙◌, arith, option_and_then}
use Rattle.std.proofs.lemmas.Grind.{flat_map-append}
use Rattle.std.proofs.lemmas.List.{append-nil, append_assoc, drop_all, drop_more, get_or-take, length-take-le, take_more}
use Rattle.std.proofs.lemmas.List.Folds.{list_any-append, list_any_at}
use Rattle.std.proofs.lemmas.List.FromFn.{get_or-map-range_with_len, get_or-range_with_len, length-map-range_with_len, length-range_with_len}
use Rattle.std.proofs.lemmas.Slice.Eq.{bytes_eq-Decides}
use Rattle.std.specs.Cmp.Lexicographic.{pointwise}
use Rattle.std.specs.List.{AllByRecursion as Each, cons_option, filter_map, flat_map, list_all, list_any, range_with_len}
use Rattle.std.specs.Prelude.{nat_eq, if◌then◌else◌}
use Rattle.x86_subset.specs.Conjunctions.{conjunction_of, conjunctions_of}
use Rattle.x86_subset.proofs.Conjoined.{conjunction_of-map, each_of}
use Rattle.outcome_conv.specs.declared.cond.Cond.{Cond}
use Rattle.outcome_conv.specs.Conds.{Logged, cond_holds}
use Rattle.outcome_conv.specs.Picks.{Link, finds_of, is_among, link_by, listed_from, picked_frame}
use Rattle.outcome_conv.specs.Plans.{base_by}
use Rattle.heuristic.specs.Steps.{find_of, finds_before, only_if}
use Rattle.heuristic.proofs.Ordered.{base_below}
use Rattle.heuristic.proofs.Along.{IsWithin, frame_is, keeps_base}

-- Tests that one number passes at most.

or_true : (b : Bool) → (b || true) ≡ true
or_true true = refl
or_true false = refl

any_none : {X : Type 0} (p : X → Bool) (xs : List X) → ((x : X) → p x ≡ false) → list_any p xs ≡ false
any_none p [] h = refl
any_none p (x ∷ xs) h = ap (λ b. b || list_any p xs) (h x) ∙ any_none p xs h

none_else : (p : ℕ → Bool) (i k : ℕ) (b : Bool) → p i ≡ b → p k ≡ false → (p i ≡ true → i ≡ k) → p i ≡ false
none_else p i k true e f h = ap p (h e) ∙ f
none_else p i k false e f h = e

only_step : (p : ℕ → Bool) (n k : ℕ) (b : Bool) → p k ≡ b → k < n → ((i : ℕ) → p i ≡ true → i ≡ k)
    → list_any p (range_with_len 0 n) ≡ b
only_step p n k true e lt h =
    let at : get_or (range_with_len 0 n) k 0 ≡ k = get_or-range_with_len 0 n k 0 lt ∙ (omega arith) in
    let long = length-range_with_len 0 n in
    list_any_at p (range_with_len 0 n) k 0 (omega arith) (ap p at ∙ e)
only_step p n k false e lt h = any_none p (range_with_len 0 n) (λ i. none_else p i k (p i) refl e (h i))

-- Finds as options.

-- whether an optional frame is this one
unfoldable pub is_frame : List ℕ → Option (List ℕ) → Bool
is_frame f None = false
is_frame f (Some g) = pointwise nat_eq f g

any_step : {X : Type 0} (f : List ℕ) (h : X → Option (List ℕ)) (x : X) (xs : List X) (o : Option (List ℕ)) → h x ≡ o
    → is_among (filter_map h xs) f ≡ list_any (λ y. is_frame f (h y)) xs
    → is_among (cons_option o (filter_map h xs)) f ≡ (is_frame f o || list_any (λ y. is_frame f (h y)) xs)
unfolding is_frame
any_step f h x xs None e rec = rec
any_step f h x xs (Some g) e rec = ap (λ b. pointwise nat_eq f g || b) rec

any_option : {X : Type 0} (f : List ℕ) (h : X → Option (List ℕ)) (xs : List X)
    → is_among (filter_map h xs) f ≡ list_any (λ y. is_frame f (h y)) xs
any_option f h [] = refl
any_option f h (x ∷ xs) = any_step f h x xs (h x) refl (any_option f h xs)

-- a filter after a filter_map, item by item

kept_step : (p : List ℕ → Bool) (f : List ℕ) (l r : List (List ℕ)) (b : Bool) → r ≡ l
    → cons_option (if b then Some f else None) r ≡ cond b (f ∷ l) l
kept_step p f l r true e = ap (λ l. f ∷ l) e
kept_step p f l r false e = e

filter_step : (p : List ℕ → Bool) (l r : List (List ℕ)) (o : Option (List ℕ)) → r ≡ filter p l
    → cons_option (only_if p o) r ≡ filter p (cons_option o l)
filter_step p l r None e = e
filter_step p l r (Some f) e = kept_step p f (filter p l) r (p f) e

pub filter_is : {X : Type 0} (p : List ℕ → Bool) (g : X → Option (List ℕ)) (xs : List X)
    → filter_map (λ x. only_if p (g x)) xs ≡ filter p (filter_map g xs)
filter_is p g [] = refl
filter_is p g (x ∷ xs) = filter_step p (filter_map g xs) (filter_map (λ x. only_if p (g x)) xs) (g x) (filter_is p g xs)

-- A find has its base in its iteration.

keep_step : (g f : List ℕ) (b : Bool) → (if b then Some f else None) ≡ Some g → f ≡ g
keep_step g f true e = cc
keep_step g f false e = absurd (let z : ⊥ = cc in z)

passed : (p : List ℕ → Bool) (g : List ℕ) (o : Option (List ℕ)) → only_if p o ≡ Some g → o ≡ Some g
passed p g None e = absurd (let z : ⊥ = cc in z)
passed p g (Some f) e = ap Some (keep_step g f (p f) e)

own_step : (f : List ℕ) (base i : ℕ) (o : Option (List ℕ)) → ((g : List ℕ) → o ≡ Some g → get_or g base 0 ≡ i)
    → is_frame f o ≡ true → i ≡ get_or f base 0
unfolding is_frame
own_step f base i None h e = cc
own_step f base i (Some g) h e = sym (h g refl) ∙ ap (λ l. get_or l base 0) (sym ((bytes_eq-Decides f g).0 e))

-- a frame is among the finds where it is that of its base's iteration
pub finds_are : (values : Logged) (threads n : ℕ) (conds : List Cond) (f : List ℕ) (base k : ℕ)
    → Each (IsWithin threads) conds → base < threads → base_by threads conds ≡ Some base
    → k ≡ get_or f base 0 → k < n → is_among (finds_of threads n (map (link_by values n) conds)) f
    ≡ is_frame f (find_of threads (map (link_by values n) conds) k)
finds_are values threads n conds f base k within lt b e early =
    let links : List Link = map (link_by values n) conds in
    let holds : List ℕ → Bool = λ frame. list_all (λ (link : Link). link.holds frame) links in
    ap (λ l. is_among l f) (sym (filter_is holds (picked_frame threads links) (range_with_len 0 n)))
    ∙ any_option f (find_of threads links) (range_with_len 0 n)
    ∙ only_step (λ i. is_frame f (find_of threads links i)) n k (is_frame f (find_of threads links k)) refl early
    (λ i h. own_step f base i (find_of threads links i)
    (λ g s. keeps_base values threads n conds i base g lt b (sym (frame_is values threads n conds i within)
    ∙ passed holds g (picked_frame threads links i) s)) h ∙ sym e)

-- with no base there is none
pub no_finds : (values : Logged) (threads n : ℕ) (conds : List Cond) (f : List ℕ) → Each (IsWithin threads) conds
    → base_by threads conds ≡ None
    → is_among (finds_of threads n (map (link_by values n) conds)) f ≡ false
unfolding is_frame
no_finds values threads n conds f within b =
    let links : List Link = map (link_by values n) conds in
    let holds : List ℕ → Bool = λ frame. list_all (λ (link : Link). link.holds frame) links in
    ap (λ l. is_among l f) (sym (filter_is holds (picked_frame threads links) (range_with_len 0 n)))
    ∙ any_option f (find_of threads links) (range_with_len 0 n)
    ∙ any_none (λ i. is_frame f (find_of threads links i)) (range_with_len 0 n)
    (λ i. ap (λ o. is_frame f (only_if holds o)) (frame_is values threads n conds i within ∙ ap (option_and_then _) b))

pub is_frame_none : (f : List ℕ) (o : Option (List ℕ)) → o ≡ None → is_frame f o ≡ false
unfolding is_frame
is_frame_none f o e = ap (is_frame f) e

pub is_frame_some : (f g : List ℕ) (o : Option (List ℕ)) → o ≡ Some g → is_frame f o ≡ pointwise nat_eq f g
unfolding is_frame
is_frame_some f g o e = ap (is_frame f) e

-- One conjunction of all conditions.

pub found_at : (values : Logged) (threads n : ℕ) (ends : List ℕ) (conds : List Cond) (c : ℕ) (f : List ℕ) (base k : ℕ)
    → Each (IsWithin threads) conds → base_by threads (conjunction_of ends conds c) ≡ Some base
    → k ≡ get_or f base 0 → k < n
    → is_among (finds_of threads n (conjunction_of ends (map (link_by values n) conds) c)) f
    ≡ is_frame f (find_of threads (conjunction_of ends (map (link_by values n) conds) c) k)
found_at values threads n ends conds c f base k within b e early =
    let group = conjunction_of ends conds c in
    let same = conjunction_of-map (link_by values n) ends conds c in
    ap (λ l. is_among (finds_of threads n l) f) same
    ∙ finds_are values threads n group f base k (each_of (IsWithin threads) ends conds c within)
    (base_below threads base group b) b e early
    ∙ sym (ap (λ l. is_frame f (find_of threads l k)) same)

pub not_found : (values : Logged) (threads n : ℕ) (ends : List ℕ) (conds : List Cond) (c : ℕ) (f : List ℕ)
    → Each (IsWithin threads) conds → base_by threads (conjunction_of ends conds c) ≡ None
    → is_among (finds_of threads n (conjunction_of ends (map (link_by values n) conds) c)) f ≡ false
not_found values threads n ends conds c f within b =
    ap (λ l. is_among (finds_of threads n l) f) (conjunction_of-map (link_by values n) ends conds c)
    ∙ no_finds values threads n (conjunction_of ends conds c) f (each_of (IsWithin threads) ends conds c within) b

all_links : (values : Logged) (n : ℕ) (f : List ℕ) (conds : List Cond)
    → list_all (λ (link : Link). link.holds f) (map (link_by values n) conds) ≡ list_all (cond_holds values f) conds
all_links values n f [] = refl
all_links values n f (c ∷ conds) = ap (λ b. cond_holds values f c && b) (all_links values n f conds)

-- the links of a conjunction hold where its conditions do
pub links_hold : (values : Logged) (n : ℕ) (ends : List ℕ) (conds : List Cond) (c : ℕ) (f : List ℕ)
    → list_all (λ (link : Link). link.holds f) (conjunction_of ends (map (link_by values n) conds) c)
    ≡ list_all (cond_holds values f) (conjunction_of ends conds c)
links_hold values n ends conds c f =
    ap (list_all (λ (link : Link). link.holds f)) (conjunction_of-map (link_by values n) ends conds c)
    ∙ all_links values n f (conjunction_of ends conds c)

pub same_test : (values : Logged) (f : List ℕ) (xs ys : List Cond) → xs ≡ ys
    → list_all (cond_holds values f) xs ≡ list_all (cond_holds values f) ys
same_test values f xs ys e = ap (list_all (cond_holds values f)) e

-- a tested frame

pub only_some : (p : List ℕ → Bool) (f : List ℕ) (o : Option (List ℕ)) → o ≡ Some f → p f ≡ true → only_if p o ≡ Some f
only_some p f o e h = ap (only_if p) e ∙ ap (λ b. if b then Some f else None) h

pub only_not : (p : List ℕ → Bool) (f : List ℕ) (o : Option (List ℕ)) → o ≡ Some f → p f ≡ false → only_if p o ≡ None
only_not p f o e h = ap (only_if p) e ∙ ap (λ b. if b then Some f else None) h

-- Conjunction after conjunction.

pub length-cut : {A : Type 0} (ends : List ℕ) (items : List A) → length (conjunctions_of ends items) ≡ length ends
length-cut ends items = length-map-range_with_len (conjunction_of ends items) 0 (length ends)

pub cut_at : {A : Type 0} (ends : List ℕ) (items : List A) (c : ℕ) → c < length ends
    → get_or (conjunctions_of ends items) c [] ≡ conjunction_of ends items c
cut_at ends items c lt = get_or-map-range_with_len (conjunction_of ends items) 0 (length ends) c c [] lt (omega arith)

among_all : (X : Type 0) (g : X → List (List ℕ)) (f : List ℕ) (xs : List X)
    → is_among (flat_map g xs) f ≡ list_any (λ x. is_among (g x) f) xs
among_all X g f [] = refl
among_all X g f (x ∷ xs) =
    list_any-append (pointwise nat_eq f) (g x) (flat_map g xs) ∙ ap (λ b. is_among (g x) f || b) (among_all X g f xs)

one_more : (threads n : ℕ) (ends : List ℕ) (links : List Link) (c : ℕ) → c < length ends
    → finds_before threads n ends links (c + 1) ≡ finds_before threads n ends links c
    ++ finds_of threads n (conjunction_of ends links c)
one_more threads n ends links c lt =
    let long = length-cut ends links in
    ap (flat_map (finds_of threads n)) (take_more (conjunctions_of ends links) c [] (omega arith))
    ∙ flat_map-append (finds_of threads n) (take c (conjunctions_of ends links))
    (get_or (conjunctions_of ends links) c [] ∷ [])
    ∙ ap (λ l. finds_before threads n ends links c
    ++ l) (append-nil (finds_of threads n (get_or (conjunctions_of ends links) c []))
    ∙ ap (finds_of threads n) (cut_at ends links c lt))

-- a find of an earlier conjunction is known
pub known_one : (threads n : ℕ) (ends : List ℕ) (links : List Link) (c d : ℕ) (f : List ℕ) → d < c → c < length ends
    → is_among (finds_of threads n (conjunction_of ends links d)) f ≡ true
    → is_among (finds_before threads n ends links c) f ≡ true
known_one threads n ends links c d f lt early e =
    let groups : List (List Link) = conjunctions_of ends links in
    let long = length-cut ends links in
    let some = length-take-le c groups (omega arith) in
    let at = get_or-take c groups d [] lt ∙ cut_at ends links d (omega arith) in
    among_all (List Link) (finds_of threads n) f (take c groups)
    ∙ list_any_at (λ group. is_among (finds_of threads n group) f) (take c groups) d [] (omega arith)
    (ap (λ group. is_among (finds_of threads n group) f) at ∙ e)

-- and where it is none of one more, it is unknown still
pub known_more : (threads n : ℕ) (ends : List ℕ) (links : List Link) (c : ℕ) (f : List ℕ) → c < length ends
    → is_among (finds_of threads n (conjunction_of ends links c)) f ≡ false
    → is_among (finds_before threads n ends links c) f ≡ false
    → is_among (finds_before threads n ends links (c + 1)) f ≡ false
known_more threads n ends links c f lt e h =
    ap (λ l. is_among l f) (one_more threads n ends links c lt)
    ∙ list_any-append (pointwise nat_eq f) (finds_before threads n ends links c)
    (finds_of threads n (conjunction_of ends links c))
    ∙ ap (λ b. b || is_among (finds_of threads n (conjunction_of ends links c)) f) h ∙ e

-- The listing, from conjunction c on.

abbrev pub listed_after : ℕ → ℕ → List ℕ → List Link → ℕ → List (List ℕ)
listed_after threads n ends links c =
    listed_from (finds_before threads n ends links c) (map (finds_of threads n) (drop c (conjunctions_of ends links)))

pub listed_more : (threads n : ℕ) (ends : List ℕ) (links : List Link) (c : ℕ) (done some whole : List (List ℕ))
    → c < length ends
    → some ≡ filter_map (λ i. only_if (λ frame. not (is_among (finds_before threads n ends links c) frame))
    (find_of threads (conjunction_of ends links c) i)) (range_with_len 0 n)
    → done ++ listed_after threads n ends links c ≡ whole
    → (done ++ some) ++ listed_after threads n ends links (c + 1) ≡ whole
listed_more threads n ends links c done some whole lt e h =
    let long = length-cut ends links in
    let group : List Link = conjunction_of ends links c in
    let p : List ℕ → Bool = λ frame. not (is_among (finds_before threads n ends links c) frame) in
    let new = e ∙ filter_is p (find_of threads group) (range_with_len 0 n)
    ∙ ap (filter p) (filter_is (λ frame. list_all (λ (link : Link). link.holds frame) group)
    (picked_frame threads group) (range_with_len 0 n)) in
    append_assoc done some (listed_after threads n ends links (c + 1))
    ∙ ap (λ l. done ++ (some ++ listed_from l (map (finds_of threads n) (drop (c + 1) (conjunctions_of ends links)))))
    (one_more threads n ends links c lt)
    ∙ ap (λ l. done ++ (l ++ listed_from (finds_before threads n ends links c ++ finds_of threads n group)
    (map (finds_of threads n) (drop (c + 1) (conjunctions_of ends links))))) new
    ∙ ap (λ l. done ++ listed_from (finds_before threads n ends links c)
    (finds_of threads n l ∷ map (finds_of threads n) (drop (c + 1) (conjunctions_of ends links))))
    (sym (cut_at ends links c lt))
    ∙ ap (λ l. done ++ listed_from (finds_before threads n ends links c) (map (finds_of threads n) l))
    (sym (drop_more (conjunctions_of ends links) c [] (omega arith)))
    ∙ h

pub listed_end : (threads n : ℕ) (ends : List ℕ) (links : List Link) (c : ℕ) (done whole : List (List ℕ))
    → length ends ≤ c → done ++ listed_after threads n ends links c ≡ whole → done ≡ whole
listed_end threads n ends links c done whole le h =
    let long = length-cut ends links in
    sym (append-nil done)
    ∙ sym (ap (λ l. done ++ listed_from (finds_before threads n ends links c) (map (finds_of threads n) l))
    (drop_all c (conjunctions_of ends links) (omega arith)))
    ∙ h

-- the options of a list, and those of its images
pub filter_map-images : {X Y : Type 0} (h : X → Option Y) (xs : List X)
    → filter_map (λ o. o) (map h xs) ≡ filter_map h xs
filter_map-images h [] = refl
filter_map-images h (x ∷ xs) = ap (cons_option (h x)) (filter_map-images h xs)
