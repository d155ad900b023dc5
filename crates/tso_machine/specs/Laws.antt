-- Laws of the runs of x86-TSO (Sewell, Sarkar, Owens, Zappa Nardelli and Myreen, CACM 2010): what is read names its
-- store, memory counts up, and logs are whole (after PerpLE: Melissaris, Markakis, Shaw and Martonosi, MICRO 2020).
use Rattle.std.specs.Prelude.{◌≡◌, ℕ, ◌*◌, ◌<◌, ◌↔◌, ◌++◌, ◌∷◌, All, Contains, IfSome, map, filter, length, List, Option, None, Some}
use Rattle.std.specs.List.{range_with_len}
use Rattle.x86_subset.specs.Test.{LitmusTest, columns_of}
use Rattle.seq_conv.specs.Sequence.{Origin, store_count, store_of, stores_of, value_of}
use Rattle.tso_machine.specs.Event.{Event, event_location, written_value}
use Rattle.tso_machine.specs.Log.{log_of, value_read}
use Rattle.tso_machine.specs.Run.{IsRunOf}
use Rattle.tso_machine.specs.Source.{is_memory_write, source_of}

-- v is 0 exactly where the source is the initial value; else the source is a store to x in one of n iterations, and v
-- is its value
pub record NamesSource (test : LitmusTest) (n x v : ℕ) (source : Option Origin) : Type 0 where
  pub initial : (v ≡ 0) ↔ (source ≡ None)
  pub value : IfSome source (λ o. v ≡ value_of test x (store_of o) o.iteration)
  pub store : IfSome source (λ o. Contains (stores_of test x) (store_of o) × (o.iteration < n))

-- law: in a run each value that was read names its source
abbrev pub ValuesNameTheirSource : Type 0
ValuesNameTheirSource =
    (test : LitmusTest) (n : ℕ) (run before after : List Event) (e : Event) (v : ℕ)
    → IsRunOf test n run
    → run ≡ before ++ e ∷ after
    → value_read e ≡ Some v
    → NamesSource test n (event_location test e) v (source_of test e before)

-- the values that are written to memory at x, in the order of the run
abbrev pub memory_values : LitmusTest → ℕ → List Event → List ℕ
memory_values test x run = map (written_value test) (filter (is_memory_write test x) run)

-- law: where a single thread has all stores of a location, memory takes the values from 1 to k*n, in steps of one
abbrev pub ValuesRise : Type 0
ValuesRise =
    (test : LitmusTest) (n : ℕ) (run : List Event) (x t : ℕ)
    → IsRunOf test n run
    → All (λ s. s.thread ≡ t) (stores_of test x)
    → memory_values test x run ≡ range_with_len 1 (store_count test x * n)

-- law: in a run each thread logs one value for each iteration and each reading action of its body
abbrev pub LogsAreWhole : Type 0
LogsAreWhole =
    (test : LitmusTest) (n : ℕ) (run : List Event) (t : ℕ)
    → IsRunOf test n run
    → t < length test.bodies
    → length (log_of t run) ≡ n * columns_of test t
