-- Lemmas on the walks over a test that number its stores.
use Rattle.std.proofs.Common.{◌≡◌, ℕ, zero, suc, ◌+◌, ◌*◌, ◌<◌, ◌≤◌, Bool, true, false, cond, Option, None, Some, List, [], ◌∷◌, ◌++◌, length, map, drop, get_or, slice_get, refl, sym, ap, ◌∙◌, arith, subst, unwrap_or, length-append, All, Contains, append_assoc, zero-add, IfSome, option_map, ◌==◌, ◌-◌, ◌/◌, ◌%◌, ◌⊎◌, inl, inr}
use Rattle.std.proofs.lemmas.List.FromFn.{get_or-map-range_with_len, length-map-range_with_len, map-range_with_len_more}
use Rattle.std.proofs.Math.ListN.{get_or-map}
use Rattle.std.proofs.lemmas.List.{get_or-map as get_or-map-within, length-map, map-append, get_or_at}
use Rattle.std.proofs.lemmas.Bool.{eqb-false, eqb-true}
use Rattle.std.proofs.lemmas.Nat.{mod_below}
use Rattle.std.proofs.lemmas.Option.{unwrap_or-slice_get, get_or_from_slice_get, slice_get-get_or, slice_get_within}
use Rattle.std.specs.List.{position, range_with_len}
use Rattle.std.specs.Option.{option_map_or}
use Rattle.x86_subset.specs.Test.{Code, LitmusTest, body_of}
use Rattle.x86_subset.specs.Shape.{AreLocated, IsTest}
use Rattle.x86_subset.specs.Instr.{is_store_to, location_of}
use Rattle.x86_subset.specs.declared.instr.Instr.{Instr}
use Rattle.x86_subset.specs.declared.instr.Instr.TheVariants.{Store, Load, Fence, Exchange}
use Rattle.seq_conv.specs.declared.number.Number.{Number}
use Rattle.seq_conv.specs.Sequence.{Site, value_of, same_site, action_at, stores_in_body, stores_in_bodies, stores_of, store_count, rank_of, Origin, in_iteration}
use Rattle.seq_conv.specs.Numbers.{AreOf, IsOwner, IsSmall, Table, number_at, action_number, owner_among, row_of, stores_at, numbers_in_body, numbers_in_bodies}
use Rattle.perp_base.proofs.Lists.{Among, among_from_contains, at_place}
use Rattle.seq_conv.proofs.Stores.{one_owner, rank_at, rank_injective, rank_within, store_at}

-- How many stores there are.

-- a list of a body's length, with or without one more in front
count_step : (s : Site) (ss : List Site) (b : Bool) (n : ℕ) → length ss ≤ n → length (cond b (s ∷ ss) ss) ≤ n + 1
count_step s ss true n h = omega arith
count_step s ss false n h = omega arith

count_in_body : (x t p : ℕ) (body : List Instr) → length (stores_in_body x t p body) ≤ length body
count_in_body x t p [] = omega arith
count_in_body x t p (a ∷ body) =
    let h = count_step (record { thread = t; place = p }) (stores_in_body x t (p + 1) body) (is_store_to x a)
    (length body) (count_in_body x t (p + 1) body) in
    omega arith

count_in_bodies : (x t : ℕ) (codes : List Code) → All (λ (code : Code). length code.actions ≤ 16) codes
    → length (stores_in_bodies x t codes) ≤ 16 * length codes
count_in_bodies x t [] h = omega arith
count_in_bodies x t (code ∷ codes) h =
    let here = h 0 code (omega arith) in
    let first = count_in_body x t 0 code.actions in
    let rest = count_in_bodies x (t + 1) codes (λ k d lt. h (suc k) d (omega arith)) in
    rw length-append (omega arith)

-- a location of a test has at most 128 stores
pub few_stores : (test : LitmusTest) (x : ℕ) → IsTest test → store_count test x ≤ 128
few_stores test x h =
    let n = count_in_bodies x 0 test.bodies h.few_actions in
    let t = h.few_threads in
    omega arith

-- The lists of all locations.

-- the list at x, where each list is the one that a function gives for its number
pub list_at_number : {X Y : Type 0} (f : X → List Y) (xs : List X) (g : ℕ → List Y) (n x : ℕ) (d : X) →
    map f xs ≡ map g (range_with_len 0 n) → x < n → get_or xs x d ≡ d → f d ≡ g x
list_at_number f xs g n x d e lt here =
    ap f (sym here) ∙ sym (get_or-map f xs x d) ∙ ap (λ ys. get_or ys x (f d)) e
    ∙ get_or-map-range_with_len g 0 n x x (f d) lt (zero-add x)

-- one list more
pub lists_more : {X Y : Type 0} (f : X → List Y) (xs ys : List X) (x : X) (g : ℕ → List Y) (n : ℕ) → ys ≡ xs ++ x ∷ []
    → f x ≡ g n →
    map f xs ≡ map g (range_with_len 0 n) → map f ys ≡ map g (range_with_len 0 (n + 1))
lists_more f xs ys x g n e h l =
    ap (map f) e ∙ map-append f xs (x ∷ []) ∙ ap (λ ls. ls ++ f x ∷ []) l
    ∙ ap (λ y. map g (range_with_len 0 n) ++ y ∷ []) h
    ∙ sym (map-range_with_len_more g 0 n n (zero-add n))

pub length_of_numbers : {X Y : Type 0} (f : X → List Y) (xs : List X) (g : ℕ → List Y) (n : ℕ)
    → map f xs ≡ map g (range_with_len 0 n) → length xs ≡ n
length_of_numbers f xs g n e = sym (length-map xs f) ∙ ap length e ∙ length-map-range_with_len g 0 n

-- The numbers of one action.

pub number_is : (test : LitmusTest) (site : Site) (x : ℕ) (number : Number) (sites : List Site)
    → sites ≡ stores_of test x → number.k ≡ length sites →
    number.a ≡ unwrap_or (position (same_site site) sites) 0 + 1 → number ≡ record {
      k = store_count test x;
      a = rank_of test x site;
    }
number_is test site x number sites e k a =
    let l : number.k ≡ store_count test x = k ∙ ap length e in
    let r : number.a ≡ rank_of test x site = a ∙ ap (λ (ss : List Site). unwrap_or (position (same_site site) ss) 0 + 1)
    e in
    λ i. record { k = l i; a = r i }

pub number_small : (test : LitmusTest) (site : Site) (x : ℕ) (action : Instr) → IsTest test
    → action_at test site ≡ Some action → is_store_to x action ≡ true →
    IsSmall (record { k = store_count test x; a = rank_of test x site })
number_small test site x action h at stores =
    let few = few_stores test x h in
    let w = rank_within test x site (store_at x test site.thread site.place action at stores) in
    (few, omega (arith, w.within))

pub small_as : (number same : Number) → number ≡ same → IsSmall same → IsSmall number
small_as number same e h = subst IsSmall (sym e) h

-- What holds of each body of a test.

body_short_by : (codes : List Code) (t : ℕ) → All (λ (code : Code). length code.actions ≤ 16) codes
    → length (option_map_or (λ (code : Code). code.actions) (slice_get codes t) []) ≤ 16
body_short_by [] t h = omega arith
body_short_by (code ∷ codes) zero h = h 0 code (omega arith)
body_short_by (code ∷ codes) (suc t) h = body_short_by codes t (λ k d lt. h (suc k) d (omega arith))

pub body_short : (test : LitmusTest) (t : ℕ) → IsTest test → length (body_of test t) ≤ 16
body_short test t h = body_short_by test.bodies t h.few_actions

located_by : (n : ℕ) (codes : List Code) (t p : ℕ) (d : Instr) → AreLocated n codes
    → p < length (option_map_or (λ (code : Code). code.actions) (slice_get codes t) []) →
    IfSome (location_of (get_or (option_map_or (λ (code : Code). code.actions) (slice_get codes t) []) p d))
    (λ x. x < n)
located_by n [] t p d h lt = absurd (omega arith)
located_by n (code ∷ codes) zero p d h lt = h 0 code (omega arith) p d lt
located_by n (code ∷ codes) (suc t) p d h lt = located_by n codes t p d (λ k e l. h (suc k) e (omega arith)) lt

-- an action of a test names a location of it
pub located_at : (test : LitmusTest) (t p : ℕ) (d : Instr) → IsTest test → p < length (body_of test t)
    → IfSome (location_of (get_or (body_of test t) p d)) (λ x. x < length test.locations)
located_at test t p d h lt = located_by (length test.locations) test.bodies t p d h.located lt

-- Walking on by one item.

pub record NextItem {X : Type 0} (xs : List X) (n : ℕ) : Type 0 where
  pub here : X
  pub cut : drop n xs ≡ here ∷ drop (n + 1) xs
  pub at : slice_get xs n ≡ Some here

pub next_item : {X : Type 0} (xs : List X) (n : ℕ) → n < length xs → NextItem xs n
next_item [] n lt = absurd (omega arith)
next_item (x ∷ xs) zero lt = record { here = x; cut = refl; at = refl }
next_item (x ∷ xs) (suc n) lt =
    let s = next_item xs n (omega arith) in
    let e : suc n + 1 ≡ suc (n + 1) = omega arith in
    record { here = s.here; cut = s.cut ∙ ap (λ m. s.here ∷ drop m (x ∷ xs)) (sym e); at = s.at }

-- the stores of one thread more
pub stores_goes : (test : LitmusTest) (x t : ℕ) (old new whole : List Site) (body : List Instr) → t < length test.bodies
    → body ≡ body_of test t →
    new ≡ old ++ stores_in_body x t 0 body → old ++ stores_in_bodies x t (drop t test.bodies) ≡ whole →
    new ++ stores_in_bodies x (t + 1) (drop (t + 1) test.bodies) ≡ whole
stores_goes test x t old new whole body lt e n w =
    let s = next_item test.bodies t lt in
    let b : body ≡ s.here.actions = e ∙ ap (λ o. option_map_or (λ (code : Code). code.actions) o []) s.at in
    let left = stores_in_bodies x (t + 1) (drop (t + 1) test.bodies) in
    ap (λ l. l ++ left) n ∙ ap (λ l. (old ++ stores_in_body x t 0 l) ++ left) b
    ∙ append_assoc old (stores_in_body x t 0 s.here.actions) left
    ∙ ap (λ l. old ++ stores_in_bodies x t l) (sym s.cut) ∙ w

-- the numbers of one thread more
pub rows_goes : {X : Type 0} (f : X → List Number) (test : LitmusTest) (t : ℕ) (old new : List X) (row : X)
    (whole : List (List Number)) → t < length test.bodies →
    f row ≡ numbers_in_body test t 0 (body_of test t) → new ≡ old ++ row ∷ []
    → map f old ++ numbers_in_bodies test t (drop t test.bodies) ≡ whole →
    map f new ++ numbers_in_bodies test (t + 1) (drop (t + 1) test.bodies) ≡ whole
rows_goes f test t old new row whole lt e n w =
    let s = next_item test.bodies t lt in
    let b : f row ≡ numbers_in_body test t 0 s.here.actions = e
    ∙ ap (λ o. numbers_in_body test t 0 (option_map_or (λ (code : Code). code.actions) o [])) s.at in
    let left = numbers_in_bodies test (t + 1) (drop (t + 1) test.bodies) in
    ap (λ l. map f l ++ left) n ∙ ap (λ l. l ++ left) (map-append f old (row ∷ []))
    ∙ append_assoc (map f old) (f row ∷ []) left
    ∙ ap (λ l. map f old ++ l ∷ left) b
    ∙ ap (λ l. map f old ++ numbers_in_bodies test t l) (sym s.cut) ∙ w

-- The table of a test.

length-numbers_in_body : (test : LitmusTest) (t p : ℕ) (body : List Instr)
    → length (numbers_in_body test t p body) ≡ length body
length-numbers_in_body test t p [] = refl
length-numbers_in_body test t p (a ∷ body) = ap suc (length-numbers_in_body test t (p + 1) body)

length-numbers_in_bodies : (test : LitmusTest) (t : ℕ) (codes : List Code)
    → length (numbers_in_bodies test t codes) ≡ length codes
length-numbers_in_bodies test t [] = refl
length-numbers_in_bodies test t (code ∷ codes) = ap suc (length-numbers_in_bodies test (t + 1) codes)

row_in_bodies : (test : LitmusTest) (t i u : ℕ) (codes : List Code) → u ≡ t + i →
    unwrap_or (slice_get (numbers_in_bodies test t codes) i) []
    ≡ numbers_in_body test u 0 (option_map_or (λ (code : Code). code.actions) (slice_get codes i) [])
row_in_bodies test t i u [] e = refl
row_in_bodies test t zero u (code ∷ codes) e =
    ap (λ v. numbers_in_body test v 0 code.actions) (let m : t ≡ u = omega arith in m)
row_in_bodies test t (suc i) u (code ∷ codes) e = row_in_bodies test (t + 1) i u codes (omega arith)

number_in_body : (test : LitmusTest) (t p q r : ℕ) (body : List Instr) (action : Instr) → slice_get body q ≡ Some action
    → r ≡ p + q →
    slice_get (numbers_in_body test t p body) q ≡ Some (action_number test (record { thread = t; place = r }) action)
number_in_body test t p q r [] action at e = cc
number_in_body test t p zero r (a ∷ body) action at e =
    let m : p ≡ r = omega arith in
    let n : a ≡ action = cc in
    λ i. Some (action_number test (record { thread = t; place = m i }) (n i))
number_in_body test t p (suc q) r (a ∷ body) action at e =
    number_in_body test t (p + 1) q r body action at (omega arith)

number_of_store : (test : LitmusTest) (site : Site) (x : ℕ) (action : Instr) → is_store_to x action ≡ true →
    action_number test site action ≡ record { k = store_count test x; a = rank_of test x site }
number_of_store test site x (Store loc written) h =
    ap (λ y. record { k = store_count test y; a = rank_of test y site }) (eqb-true loc x h)
number_of_store test site x (Load reg loc) h = cc
number_of_store test site x Fence h = cc
number_of_store test site x (Exchange loc written reg) h =
    ap (λ y. record { k = store_count test y; a = rank_of test y site }) (eqb-true loc x h)

-- a table of these rows and stores is that of the test
pub table_is : (test : LitmusTest) (table : Table) → table.rows ≡ numbers_in_bodies test 0 test.bodies →
    table.stores ≡ map (stores_of test) (range_with_len 0 (length test.locations)) → AreOf test table
table_is test table rows stores =
    let row : (t : ℕ) → row_of table t ≡ numbers_in_body test t 0 (body_of test t) =
    λ t. ap (λ rs. unwrap_or (slice_get rs t) []) rows ∙ row_in_bodies test 0 t t test.bodies (sym (zero-add t)) in
    let number : (t p x : ℕ) (action : Instr) → action_at test (record { thread = t; place = p }) ≡ Some action
    → is_store_to x action ≡ true →
    number_at table t p ≡ record { k = store_count test x; a = rank_of test x (record { thread = t; place = p }) } =
    λ t p x action at h.
    ap (λ r. unwrap_or (slice_get r p) (record { k = 0; a = 0 })) (row t)
    ∙ ap (λ o. unwrap_or o (record { k = 0; a = 0 })) (number_in_body test t 0 p p
    (body_of test t) action at (sym (zero-add p)))
    ∙ number_of_store test (record { thread = t; place = p }) x action h in
    record {
      threads = ap length rows ∙ length-numbers_in_bodies test 0 test.bodies;
      places = λ t lt. ap length (row t) ∙ length-numbers_in_body test t 0 (body_of test t);
      ranks = λ t p x action at h. ap (λ (m : Number). m.a) (number t p x action at h);
      values = λ t p x n action at h. ap (λ (m : Number). m.k * n + m.a) (number t p x action at h);
      locations = ap length stores ∙ length-map-range_with_len (stores_of test) 0 (length test.locations);
      stores = λ x lt.
          ap (λ ss. unwrap_or (slice_get ss x) []) stores
          ∙ unwrap_or-slice_get (map (stores_of test) (range_with_len 0 (length test.locations))) x []
          ∙ get_or-map-range_with_len (stores_of test) 0 (length test.locations) x x [] lt (zero-add x);
    }

-- Owners.

pub nobody_owns : (test : LitmusTest) (x v : ℕ) → (v ≡ 0) ⊎ (stores_of test x ≡ []) → IsOwner test x v None
nobody_owns test x v h = record { nobody = (λ e. h, λ k. refl); store = tt; value = tt; only = tt }

-- only a list without items has none at a remainder by its length
no_stores : (ss : List Site) (n : ℕ) → slice_get ss (n % length ss) ≡ None → ss ≡ []
no_stores [] n e = refl
no_stores (s ∷ ss) n e =
    let lt : n % length (s ∷ ss) < length (s ∷ ss) = mod_below n (length (s ∷ ss)) (omega arith) in
    let some = slice_get-get_or (s ∷ ss) (n % length (s ∷ ss)) s lt in
    absurd (let ne : Some (get_or (s ∷ ss) (n % length (s ∷ ss)) s) ≡ None = sym some ∙ e in cc)

some_stores : (test : LitmusTest) (x i : ℕ) → i < store_count test x → stores_of test x ≡ [] → ⊥
some_stores test x i lt e = let l : store_count test x ≡ 0 = ap length e in omega arith

-- the owner of a value is the store whose rank is the remainder, in the iteration that is the quotient
pub store_owns : (test : LitmusTest) (x v k : ℕ) (site : Site) → 1 ≤ v → store_count test x ≡ k → (v - 1) % k < k
    → get_or (stores_of test x) ((v - 1) % k) site ≡ site →
    IsOwner test x v (Some (in_iteration site ((v - 1) / k)))
store_owns test x v k site some count lt at =
    let within : (v - 1) % store_count test x < store_count test x = rw count lt in
    let o = one_owner test x v (omega arith) some in
    let s = at_place (stores_of test x) ((v - 1) % store_count test x) within in
    let here : s.here ≡ site =
    sym (get_or_at s.front s.here s.rest site ((v - 1) % store_count test x) s.long)
    ∙ ap (λ (l : List Site). get_or l ((v - 1) % store_count test x) site) (sym s.whole)
    ∙ ap (λ m. get_or (stores_of test x) ((v - 1) % m) site) count ∙ at in
    let among : Among s.here (stores_of test x) = record { front = s.front; rest = s.rest; whole = s.whole } in
    let rank : rank_of test x s.here ≡ (v - 1) % store_count test x + 1 = rank_at test x s.front s.here s.rest s.whole
    ∙ ap (λ n. n + 1) s.long in
    let owner : s.here ≡ o.owner = rank_injective test x s.here o.owner among
    (among_from_contains (stores_of test x) o.owner o.stands) (rank ∙ sym o.rank) in
    let same : site ≡ o.owner = sym here ∙ owner in
    let quotient : (v - 1) / store_count test x ≡ (v - 1) / k = ap (λ m. (v - 1) / m) count in
    record {
      nobody = (
        λ e. absurd (let ne : Some (in_iteration site ((v - 1) / k)) ≡ None = e in cc),
        λ h. elim h [
          | inl e ↦ absurd (omega (arith, e))
          | inr e ↦ absurd
              (some_stores test x ((v - 1) % store_count test x) within e)
        ],
      );
      store = subst (Contains (stores_of test x)) (sym same) o.stands;
      value = (λ i. value_of test x (same i) (sym quotient i)) ∙ o.writes;
      only = λ r n c e. (let w = o.only r n c e in λ i. in_iteration ((same ∙ sym w.0) i) ((sym quotient ∙ sym w.1) i));
    }

owner_found : (test : LitmusTest) (x v : ℕ) (o : Option Site) → 1 ≤ v
    → slice_get (stores_of test x) ((v - 1) % store_count test x) ≡ o →
    IsOwner test x v (option_map (λ s. in_iteration s ((v - 1) / store_count test x)) o)
owner_found test x v None some e = nobody_owns test x v (inr (no_stores (stores_of test x) (v - 1) e))
owner_found test x v (Some site) some e =
    store_owns test x v (store_count test x) site some refl (slice_get_within (stores_of test x)
    ((v - 1) % store_count test x) site e)
    (get_or_from_slice_get (stores_of test x) ((v - 1) % store_count test x) site site e)

owner_by : (test : LitmusTest) (x v : ℕ) (b : Bool) → (v == 0) ≡ b →
    IsOwner test x v (cond b None (option_map (λ s. in_iteration s ((v - 1) / store_count test x))
    (slice_get (stores_of test x) ((v - 1) % store_count test x))))
owner_by test x v true e = nobody_owns test x v (inl (eqb-true v 0 e))
owner_by test x v false e =
    owner_found test x v (slice_get (stores_of test x) ((v - 1) % store_count test x))
    (let ne = eqb-false v 0 e in omega (arith, ne)) refl

-- the owner among the stores of a location is the owner
pub owner_is : (test : LitmusTest) (x v : ℕ) → IsOwner test x v (owner_among (stores_of test x) v)
owner_is test x v = owner_by test x v (v == 0) refl

pub owner_in_table : (test : LitmusTest) (table : Table) (x v : ℕ) (owner : Option Origin) → x < length table.stores
    → owner ≡ owner_among (stores_at table x) v →
    AreOf test table → IsOwner test x v owner
owner_in_table test table x v owner lt e h =
    let there : x < length test.locations = omega (arith, h.locations) in
    subst (IsOwner test x v) (sym (e ∙ ap (λ ss. owner_among ss v) (h.stores x there))) (owner_is test x v)

-- the list at a place, after a function of all lists
pub list_here : {X Y : Type 0} (f : X → List Y) (xs : List X) (x : ℕ) (d : X) → x < length (map f xs)
    → d ≡ get_or xs x d → f d ≡ unwrap_or (slice_get (map f xs) x) []
list_here f xs x d lt e =
    let l : x < length xs = omega (arith, length-map xs f) in
    ap f e ∙ sym (get_or-map-within f xs x d [] l) ∙ sym (unwrap_or-slice_get (map f xs) x [])
