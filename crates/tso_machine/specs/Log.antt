-- The values that a thread logs, as PerpLE's loops do (Melissaris, Markakis, Shaw and Martonosi, MICRO 2020).
use Rattle.std.specs.Prelude.{◌≡◌, ℕ, ◌<◌, Option, None, Some, List, length}
use Rattle.std.specs.List.{filter_map}
use Rattle.load_log.specs.Values.{Values, log_at}
use Rattle.x86_subset.specs.Test.{LitmusTest, columns_of}
use Rattle.tso_machine.specs.Event.{Event, Kind, Push, Drain, Read, Fenced, Exchanged}
use Rattle.tso_machine.specs.Part.{part_of}

abbrev pub value_read_as : Kind → Option ℕ
value_read_as Push = None
value_read_as Drain = None
value_read_as (Read v) = Some v
value_read_as Fenced = None
value_read_as (Exchanged v) = Some v

abbrev pub value_read : Event → Option ℕ
value_read e = value_read_as e.kind

-- the values of the Reads and Exchanges of thread t, in order
abbrev pub log_of : ℕ → List Event → List ℕ
log_of t run = filter_map value_read (part_of t run)

-- the logs are those of the run: one for each thread of the test, with its columns and with the values that it read
pub record AreLogsOf (test : LitmusTest) (run : List Event) (logs : List Values) : Type 0 where
  pub count : length logs ≡ length test.bodies
  pub columns : (t : ℕ) → t < length logs → (log_at logs t).columns ≡ columns_of test t
  pub values : (t : ℕ) → t < length logs → (log_at logs t).values ≡ log_of t run
