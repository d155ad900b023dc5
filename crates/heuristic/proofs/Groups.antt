-- The plan and the conditions of one conjunction among those of all.
use Rattle.std.proofs.Common.{◌≡◌, ℕ, ◌<◌, ◌==◌, All, Option, Some, List, [], length, get_or, subst, sym, ap, ◌∙◌, arith}
use Rattle.std.proofs.lemmas.List.{get_or-map, length-map}
use Rattle.std.proofs.lemmas.List.Elements.{All-from_recursion, recursion_from_All}
use Rattle.std.specs.List.{AllByRecursion as Each}
use Rattle.std.specs.Option.{option_map_or}
use Rattle.x86_subset.specs.Conjunctions.{conjunction_of, conjunctions_of}
use Rattle.x86_subset.proofs.Conjoined.{each_of}
use Rattle.load_log.specs.Values.{Values}
use Rattle.outcome_conv.specs.declared.cond.Cond.{Cond}
use Rattle.outcome_conv.specs.Conditions.{Conditions, IsKind}
use Rattle.outcome_conv.specs.Plans.{base_by, plan_from}
use Rattle.frame_count.specs.Count.{IsFrameOf, IsGood, IsOfLogs}
use Rattle.heuristic.specs.Plan.{Planned, choices_of, plan_of}
use Rattle.heuristic.proofs.Along.{IsWithin}
use Rattle.heuristic.proofs.Finds.{cut_at, length-cut}
use Rattle.heuristic.proofs.Ordered.{base_below, order_all}

-- what holds of all conditions holds of each conjunction's
pub group_all : (P : Cond → Type 0) (c : Conditions) (k : ℕ) → All P c.conds → All P (conjunction_of c.ends c.conds k)
group_all P c k h =
    All-from_recursion P (conjunction_of c.ends c.conds k) (each_of P c.ends c.conds k (recursion_from_All P c.conds h))

pub within_of : (logs : List Values) (conds : List Cond) → All (IsOfLogs logs) conds
    → Each (IsWithin (length logs)) conds
within_of logs conds h =
    recursion_from_All (IsWithin (length logs)) conds (λ k d lt. let g = h k d lt in (g.reader, g.writer))

good_of : (logs : List Values) (conds : List Cond) → All (IsOfLogs logs) conds → All (λ (c : Cond). IsKind c.kind) conds
    → All (IsGood logs) conds
good_of logs conds h q = λ k d lt. record { names = h k d lt; kind = q k d lt }

pub good_group : (logs : List Values) (c : Conditions) (k : ℕ) (group : List Cond) → All (IsOfLogs logs) c.conds
    → group ≡ conjunction_of c.ends c.conds k → All (λ (c : Cond). IsKind c.kind) group → All (IsGood logs) group
good_group logs c k group h e q =
    let Q : List Cond → Type 0 = All (IsOfLogs logs) in
    good_of logs group (subst Q (sym e) (group_all (IsOfLogs logs) c k h)) q

pub good_order : (logs : List Values) (c : Conditions) (k base : ℕ) (order : List Cond) → All (IsOfLogs logs) c.conds
    → order ≡ plan_from (conjunction_of c.ends c.conds k) base → All (λ (c : Cond). IsKind c.kind) order
    → All (IsGood logs) order
good_order logs c k base order h e q =
    let group = conjunction_of c.ends c.conds k in
    let Q : List Cond → Type 0 = All (IsOfLogs logs) in
    good_of logs order (subst Q (sym e) (order_all (IsOfLogs logs) (length group) group (λ t. base == t)
    (group_all (IsOfLogs logs) c k h))) q

pub length-plan : (t : ℕ) (c : Conditions) → length (plan_of t c) ≡ length c.ends
length-plan t c = length-map (conjunctions_of c.ends c.conds) (choices_of t) ∙ length-cut c.ends c.conds

-- the choices of a conjunction
pub plan_at : (t : ℕ) (c : Conditions) (k : ℕ) (d : Planned) → k < length c.ends
    → get_or (plan_of t c) k d ≡ choices_of t (conjunction_of c.ends c.conds k)
plan_at t c k d lt =
    get_or-map (choices_of t) (conjunctions_of c.ends c.conds) k [] d (let l = length-cut c.ends c.conds in omega arith)
    ∙ ap (choices_of t) (cut_at c.ends c.conds k lt)

pub order_by : (t : ℕ) (conds : List Cond) (base : ℕ) → base_by t conds ≡ Some base
    → (choices_of t conds).order ≡ plan_from conds base
order_by t conds base e = ap (λ o. option_map_or (plan_from conds) o []) e

-- conjunction k has a base, which is a thread of the frame, and the frame's iteration of it is one of n
pub record IsBased (logs : List Values) (n : ℕ) (c : Conditions) (k : ℕ) (frame : List ℕ) (base : ℕ) : Type 0 where
  pub is : base_by (length logs) (conjunction_of c.ends c.conds k) ≡ Some base
  pub there : base < length frame
  pub early : get_or frame base 0 < n

-- the plan's base of conjunction k
pub base_at : (t : ℕ) (c : Conditions) (k : ℕ) (plan : List Planned) (d : Planned) (base : Option ℕ)
    → plan ≡ plan_of t c → k < length c.ends → d ≡ get_or plan k d → base ≡ d.base
    → base_by t (conjunction_of c.ends c.conds k) ≡ base
base_at t c k plan d base e lt at is =
    sym (is ∙ ap (λ p. p.base) (at ∙ ap (λ p. get_or p k d) e ∙ plan_at t c k d lt))

pub based : (logs : List Values) (n : ℕ) (c : Conditions) (k : ℕ) (frame : List ℕ) (base : ℕ)
    → IsFrameOf logs n frame → base_by (length logs) (conjunction_of c.ends c.conds k) ≡ Some base
    → IsBased logs n c k frame base
based logs n c k frame base f is =
    let low = base_below (length logs) base (conjunction_of c.ends c.conds k) is in
    let long = f.one_each in
    let there : base < length frame = omega arith in
    record { is = is; there = there; early = f.below base 0 there }
