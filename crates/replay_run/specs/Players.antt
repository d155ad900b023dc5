-- What is true of each player of a replay: this project's own, beside the walkers of perp_loop.
use Rattle.std.specs.Prelude.{◌≡◌, ℕ, ◌+◌, ◌*◌, ◌<◌, [], length}
use Rattle.x86_subset.specs.Test.{LitmusTest, body_of}
use Rattle.perp_base.specs.declared.options.Options.{Options}
use Rattle.perp_loop.specs.Actions.{AreInRange}
use Rattle.perp_loop.specs.Sound.{IsPosition}
use Rattle.replay_run.specs.declared.player.Player.{Player}

-- how many actions the player has made
abbrev pub made_by : LitmusTest → Player → ℕ
made_by test p = p.iteration * length (body_of test p.thread) + p.place

-- the player is that of thread t, at a place of its loop, with as many words taken as actions made, and a buffer whose
-- writes lie in the words
pub record IsSound (test : LitmusTest) (options : Options) (t : ℕ) (p : Player) : Type 0 where
  pub below : t < length test.bodies
  pub thread : p.thread ≡ t
  pub position : IsPosition options.iterations (length (body_of test p.thread)) p.iteration p.place
  pub asking : p.drains ≡ record {
    seed = options.seed;
    thread = p.thread;
    rate = options.rate;
    taken = made_by test p;
  }
  pub capacity : p.buffer.capacity ≡ options.buffer
  pub in_range : AreInRange p.buffer.entries

-- and has done nothing yet
pub record IsFresh (test : LitmusTest) (options : Options) (t : ℕ) (p : Player) : Type 0 where
  pub sound : IsSound test options t p
  pub made : made_by test p ≡ 0
  pub buffer : p.buffer.entries ≡ []
