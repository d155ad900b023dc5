use Rattle.std.proofs.Common.{◌≡◌, map, take}
use Rattle.x86_subset.specs.Conjunctions.{conjunctions_of}
use Rattle.heuristic.specs.Plan.{choices_of}
use Rattle.heuristic.proofs.plan.Plan.of.Given as goal

abbrev pub invariant-loop-c : goal.invariant-loop-c
invariant-loop-c l = l.choices.items ≡ map (choices_of l.t) (take l.c (conjunctions_of l.conds.ends l.conds.conds))
