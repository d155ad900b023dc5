use Rattle.std.proofs.Common.{◌≡◌, ℕ, []}
use Rattle.choice_search.proofs.Trees.{refutes_more}
use Rattle.choice_search.proofs.search.outcome_of.Goals as goal

pub returns-in-Refuted : goal.returns-in-Refuted
returns-in-Refuted c = λ edges choices most steps h k.
    refutes_more edges choices c.in-Refuted.found.used.items [] c.in-Refuted.found.tree
    (rw c.in-Refuted.is at h).within (rw c.in-Refuted.is at h).refutes
