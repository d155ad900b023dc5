use Rattle.std.proofs.Common.{◌≡◌, ◌≤◌, All, map}
use Rattle.std.specs.List.{range_with_len}
use Rattle.x86_subset.specs.Test.{columns_of}
use Rattle.perp_base.specs.declared.limits.TheConstants.{MOST_ACTIONS}
use Rattle.tool_core.proofs.ordering.columns_in.Given as goal

abbrev pub invariant-loop-t : goal.invariant-loop-t
invariant-loop-t l = record {
  columns : l.columns.items ≡ map (columns_of l.test) (range_with_len 0 l.t);
  few : All (λ c. c ≤ MOST_ACTIONS) l.columns.items;
}
