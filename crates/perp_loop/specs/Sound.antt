-- What is true of every walker: this project's own.
use Rattle.std.specs.Prelude.{◌≡◌, ℕ, ◌+◌, ◌*◌, ◌<◌, ◌≤◌, All, length, drop, count_by}
use Rattle.x86_subset.specs.Test.{LitmusTest, body_of}
use Rattle.seq_conv.specs.Numbers.{Table, AreOf}
use Rattle.x86_subset.specs.Instr.{is_reading}
use Rattle.x86_subset.specs.Shape.{IsTest}
use Rattle.tso_machine.specs.Part.{slots_of_loop}
use Rattle.store_buffer.specs.Asking.{Asking}
use Rattle.store_buffer.specs.Contents.{Contents}
use Rattle.load_log.specs.Values.{Values}
use Rattle.perp_base.specs.declared.options.Options.{Options}
use Rattle.perp_base.specs.Options.{IsWithinLimits}
pub use Rattle.tso_runs.specs.Own.{drain_event, IsWriteOf}
use Rattle.perp_loop.specs.Actions.{write_from, AreInRange}

-- a position in a loop: the next action has place p in iteration i, of n iterations of a body of this length; in the
-- end i is n
pub record IsPosition (n len i p : ℕ) : Type 0 where
  pub iteration : i ≤ n
  pub place : i < n → p < len
  pub last : i ≡ n → p ≡ 0

pub record IsSound (test : LitmusTest) (table : Table) (options : Options) (t i p : ℕ) (drains : Asking)
    (buffer : Contents) (log : Values) : Type 0 where
  pub is_test : IsTest test
  pub thread : t < length test.bodies
  pub limits : IsWithinLimits options
  pub numbers : AreOf test table
  pub position : IsPosition options.iterations (length (body_of test t)) i p
  pub asking : drains ≡ record {
    seed = options.seed;
    thread = t;
    rate = options.rate;
    taken = i * length (body_of test t) + p;
  }
  pub capacity : buffer.capacity ≡ options.buffer
  pub in_range : AreInRange buffer.entries
  pub own : All (λ e. IsWriteOf test t (write_from e)) buffer.entries
  pub columns : log.columns ≡ count_by is_reading (body_of test t)
  pub room : count_by (λ slot. is_reading slot.action) (drop (i * length (body_of test t) + p)
      (slots_of_loop (body_of test t) options.iterations)) ≤ log.spare
