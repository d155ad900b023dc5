-- What sequences are seen as, and what makes them those of a test. The sequences are those of PerpLE (Melissaris,
-- Markakis, Shaw and Martonosi, MICRO 2020); keeping them in a table is this project's own.
use Rattle.std.specs.Prelude.{◌≡◌, ℕ, ◌+◌, ◌*◌, ◌-◌, ◌/◌, ◌%◌, ◌==◌, ◌<◌, ◌≤◌, ◌↔◌, ◌⊎◌, true, Option, None, Some, IfSome, Contains, List, [], ◌∷◌, length, slice_get, unwrap_or, option_map, if◌then◌else◌}
use Rattle.x86_subset.specs.Instr.{is_store_to}
use Rattle.x86_subset.specs.Test.{Code, LitmusTest, body_of}
use Rattle.x86_subset.specs.declared.instr.Instr.{Instr}
use Rattle.x86_subset.specs.declared.instr.Instr.TheVariants.{Store, Load, Fence, Exchange}
use Rattle.seq_conv.specs.declared.number.Number.{Number}
use Rattle.seq_conv.specs.Sequence.{Site, action_at, rank_of, store_count, stores_of, value_of, Origin, in_iteration, store_of}

-- the numbers of each action, by thread and then by place, and the stores of each location, in the order of their ranks
pub record Table : Type 0 where
  pub rows : List (List Number)
  pub stores : List (List Site)

-- the row of a thread
abbrev pub row_of : Table → ℕ → List Number
row_of table t = unwrap_or (slice_get table.rows t) []

-- the numbers of the store at a place
abbrev pub number_at : Table → ℕ → ℕ → Number
number_at table t p = unwrap_or (slice_get (row_of table t) p) (record { k = 0; a = 0 })

-- the value in iteration n of the store at a place
abbrev pub value_at : Table → ℕ → ℕ → ℕ → ℕ
value_at table t p n = (number_at table t p).k * n + (number_at table t p).a

-- the rank of the store at a place
abbrev pub rank_at : Table → ℕ → ℕ → ℕ
rank_at table t p = (number_at table t p).a

-- the stores of a location
abbrev pub stores_at : Table → ℕ → List Site
stores_at table x = unwrap_or (slice_get table.stores x) []

-- whose value v is among the stores of a location: that of the store whose place is the remainder, in the iteration
-- that is the quotient (of v - 1 by k); None where v is 0 or there are no stores
abbrev pub owner_among : List Site → ℕ → Option Origin
owner_among stores v =
    if v == 0 then None
    else option_map (λ s. in_iteration s ((v - 1) / length stores)) (slice_get stores ((v - 1) % length stores))

abbrev pub IsSmall : Number → Type 0
IsSmall number = (number.k ≤ 128) × (number.a ≤ 128)

-- the table is that of the test
pub record AreOf (test : LitmusTest) (table : Table) : Type 0 where
  pub threads : length table.rows ≡ length test.bodies
  pub places : (t : ℕ) → t < length test.bodies → length (row_of table t) ≡ length (body_of test t)
  pub ranks : (t p x : ℕ) (action : Instr) → action_at test (record { thread = t; place = p }) ≡ Some action
      → is_store_to x action ≡ true →
      rank_at table t p ≡ rank_of test x (record { thread = t; place = p })
  pub values : (t p x n : ℕ) (action : Instr) → action_at test (record { thread = t; place = p }) ≡ Some action
      → is_store_to x action ≡ true →
      value_at table t p n ≡ value_of test x (record { thread = t; place = p }) n
  pub locations : length table.stores ≡ length test.locations
  pub stores : (x : ℕ) → x < length test.locations → stores_at table x ≡ stores_of test x

-- whose value v is at x: nobody's where v is 0 or x has no store, and else that of one store in one iteration
pub record IsOwner (test : LitmusTest) (x v : ℕ) (owner : Option Origin) : Type 0 where
  pub nobody : (owner ≡ None) ↔ ((v ≡ 0) ⊎ (stores_of test x ≡ []))
  pub store : IfSome owner (λ o. Contains (stores_of test x) (store_of o))
  pub value : IfSome owner (λ o. value_of test x (store_of o) o.iteration ≡ v)
  pub only : IfSome owner (λ o. (s : Site) (n : ℕ) → Contains (stores_of test x) s → value_of test x s n ≡ v
      → o ≡ in_iteration s n)

-- The numbers of the actions of a test, one by one.

-- the numbers of an action at a site; zeros where it is no store
abbrev pub action_number : LitmusTest → Site → Instr → Number
action_number test site (Store loc written) = record { k = store_count test loc; a = rank_of test loc site }
action_number test site (Load reg loc) = record { k = 0; a = 0 }
action_number test site Fence = record { k = 0; a = 0 }
action_number test site (Exchange loc written reg) = record { k = store_count test loc; a = rank_of test loc site }

-- the numbers of a body of thread t whose first action has place p
abbrev pub numbers_in_body : LitmusTest → ℕ → ℕ → List Instr → List Number
numbers_in_body test t p [] = []
numbers_in_body test t p (action ∷ actions) =
    action_number test (record { thread = t; place = p }) action ∷ numbers_in_body test t (p + 1) actions

-- the numbers of bodies of which the first is thread t
abbrev pub numbers_in_bodies : LitmusTest → ℕ → List Code → List (List Number)
numbers_in_bodies test t [] = []
numbers_in_bodies test t (code ∷ codes) = numbers_in_body test t 0 code.actions ∷ numbers_in_bodies test (t + 1) codes
