use Rattle.std.proofs.Common.{◌≡◌, ◌<◌, ℕ, length}
use Rattle.std.specs.Prelude.{slice_index_or}
use Rattle.replay_run.specs.declared.player.Player.{Player}
use Rattle.replay_run.specs.Players.{IsFresh}
use Rattle.replay_run.proofs.player.players_of.Given as goal

abbrev pub invariant-loop-t : goal.invariant-loop-t
invariant-loop-t l = record {
  count : length l.players.items ≡ l.t;
  fresh : (t : ℕ) (d : Player) → t < length l.players.items
      → IsFresh l.test l.options t (slice_index_or l.players.items t d);
}
