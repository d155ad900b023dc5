-- A plan of the picks: which conditions of a conjunction choose, in order. It depends on their readers and writers
-- alone, so a heuristic counter can fix it before it looks at any log. The rule is this project's own.
use Rattle.std.specs.Prelude.{◌≡◌, ℕ, zero, suc, ◌==◌, ◌&&◌, Bool, true, not, Option, Some, List, [], ◌∷◌, find, length, map, option_map}
use Rattle.std.specs.List.{list_any, range_with_len}
use Rattle.std.specs.Option.{option_and_then, option_map_or}
use Rattle.tso_machine.specs.Machine.{updated}
use Rattle.outcome_conv.specs.declared.cond.Cond.{Cond}
use Rattle.outcome_conv.specs.Choices.{choice_of}
use Rattle.outcome_conv.specs.Conds.{Logged}
use Rattle.outcome_conv.specs.Picks.{Chosen, base_takes, frame_from, link_by, picked_frame}

-- the reader is among the chosen threads and the writer is not
abbrev pub is_open : (ℕ → Bool) → Cond → Bool
is_open known c = known c.reader && not (known c.writer)

-- as long as a condition is open, at most so many times, the first one is next, and its writer is chosen then
abbrev pub order_of : ℕ → List Cond → (ℕ → Bool) → List Cond
order_of zero conds known = []
order_of (suc steps) conds known =
    option_map_or (λ c. c ∷ order_of steps conds (updated known c.writer true)) (find (is_open known) conds) []

-- the first thread that reads in one of the conditions
abbrev pub base_by : ℕ → List Cond → Option ℕ
base_by threads conds = find (λ t. list_any (λ (c : Cond). c.reader == t) conds) (range_with_len 0 threads)

-- the plan from a base
abbrev pub plan_from : List Cond → ℕ → List Cond
plan_from conds base = order_of (length conds) conds (λ t. base == t)

-- each condition of a plan chooses in turn
abbrev pub chosen_along : Logged → ℕ → List Cond → Chosen → Option Chosen
chosen_along values n [] chosen = Some chosen
chosen_along values n (c ∷ cs) chosen =
    option_and_then (λ m. chosen_along values n cs (updated chosen c.writer (Some m)))
    (option_and_then (choice_of values n c) (chosen c.reader))

-- the pick of a plan
abbrev pub planned_pick : Logged → ℕ → ℕ → List Cond → ℕ → Option (List ℕ)
planned_pick values threads n conds i =
    option_and_then (λ base. option_map (frame_from threads i) (chosen_along values n (plan_from conds base)
    (base_takes base i))) (base_by threads conds)

-- law: the plan picks the heuristic frame
abbrev pub PlansPick : Type 0
PlansPick =
    (values : Logged) (threads n : ℕ) (conds : List Cond) (i : ℕ)
    → picked_frame threads (map (link_by values n) conds) i ≡ planned_pick values threads n conds i
