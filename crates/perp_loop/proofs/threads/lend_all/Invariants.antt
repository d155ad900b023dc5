use Rattle.std.proofs.Common.{◌≡◌, ℕ, ◌<◌, ◌≤◌, length, slice_index_or}
use Rattle.perp_loop.specs.Crews.{Enrolled, IsFresh, IsLent, Lends, SameWalkers}
use Rattle.perp_loop.proofs.threads.lend_all.Given as goal

abbrev pub invariant-loop-i : goal.invariant-loop-i
invariant-loop-i l = record {
  same : SameWalkers l.fn.members l.members;
  identity : l.home.identity ≡ l.words;
  home : Lends l.i l.home.parts;
  lent : (k : ℕ) (d : Enrolled) → k < l.i → IsLent l.words k (slice_index_or l.members k d);
  fresh : (k : ℕ) (d : Enrolled) → l.i ≤ k → k < length l.members → IsFresh k (slice_index_or l.members k d);
}
