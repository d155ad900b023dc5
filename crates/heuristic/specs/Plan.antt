-- What a plan has, in the words of plans and picks: a heuristic counter after PerpLE's (Melissaris, Markakis, Shaw and
-- Martonosi, MICRO 2020); the rule by which conditions choose is this project's own.
use Rattle.std.specs.Prelude.{ℕ, ◌==◌, ◌||◌, Bool, Option, List, [], map}
use Rattle.std.specs.List.{list_any}
use Rattle.std.specs.Option.{option_map_or}
use Rattle.x86_subset.specs.Conjunctions.{conjunctions_of}
use Rattle.outcome_conv.specs.declared.cond.Cond.{Cond}
use Rattle.outcome_conv.specs.Conditions.{Conditions}
use Rattle.outcome_conv.specs.Plans.{base_by, plan_from}

-- what a plan has of one conjunction: its base thread, and its conditions that choose, in order
pub record Planned : Type 0 where
  pub base : Option ℕ
  pub order : List Cond

-- whether a thread has its iteration: it is the base, or a condition that comes before has chosen for it
abbrev pub has_iteration : ℕ → List Cond → ℕ → Bool
has_iteration base order t = (base == t) || list_any (λ (c : Cond). c.writer == t) order

-- the base is the first thread that reads in one of the conditions
abbrev pub choices_of : ℕ → List Cond → Planned
choices_of threads conds = record {
  base = base_by threads conds;
  order = option_map_or (plan_from conds) (base_by threads conds) [];
}

-- the plan of conditions that name so many threads: the choices of each conjunction
abbrev pub plan_of : ℕ → Conditions → List Planned
plan_of threads c = map (choices_of threads) (conjunctions_of c.ends c.conds)
