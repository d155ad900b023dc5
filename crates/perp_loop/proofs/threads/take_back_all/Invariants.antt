use Rattle.std.proofs.Common.{◌≡◌, ℕ, ◌<◌, ◌≤◌, [], length, slice_index_or}
use Rattle.tso_words.specs.Views.{beside, Stands}
use Rattle.perp_loop.specs.Walking.{IsFinished}
use Rattle.perp_loop.specs.Crews.{Enrolled, IsBack, IsEnded, SameWalkers}
use Rattle.perp_loop.proofs.threads.take_back_all.Given as goal

abbrev pub invariant-loop-i : goal.invariant-loop-i
invariant-loop-i l = record {
  same : SameWalkers l.fn.members l.members;
  identity : l.home.identity ≡ l.words;
  back : (k : ℕ) (d : Enrolled) → k < l.i → IsBack l.home.parts k (slice_index_or l.members k d);
  ended : (k : ℕ) (d : Enrolled) → k < l.i → ((slice_index_or l.members k d).walker.thread ≡ k)
      × IsFinished (slice_index_or l.members k d).walker;
  away : (k : ℕ) → l.i ≤ k → k < length l.members → beside k l.home.parts ≡ [];
  idle : (k : ℕ) → length l.members ≤ k → k < 8 → Stands k l.home.parts [];
  left : (k : ℕ) (d : Enrolled) → l.i ≤ k → k < length l.members → IsEnded l.words k (slice_index_or l.members k d);
}
