use Rattle.std.proofs.Common.{length, ◌≤◌, map, drop, get_or, take, ◌++◌, ◌∷◌, []}
use Rattle.std.specs.List.{AllByRecursion as Each}
use Rattle.x86_subset.specs.declared.instr.Reg.TheVariants.{Eax}
use Rattle.outcome_rows.specs.Rows.{reading_from}
use Rattle.row_decision.specs.Seen.{seen}
use Rattle.row_decision.specs.Fronts.{register_seen}
use Rattle.row_decision.proofs.Fronted.{NoneFrom}
use Rattle.row_decision.proofs.front.+decide_from.Given as goal

abbrev pub decreases-decide_from : goal.decreases-decide_from
decreases-decide_from l = length l.registers.now

abbrev pub invariant-loop-source : goal.invariant-loop-source
invariant-loop-source l =
    (l.steps ≤ l.fn.most)
    × Each (λ o. NoneFrom l.fn.test (map register_seen (drop 1 l.fn.registers)) (drop 1 l.fn.values)
    (map seen l.fn.readings ++ reading_from l.fn.test
    (register_seen (get_or l.fn.registers 0 (record { thread = 0; reg = Eax }))) o ∷ []))
    (take l.source-index l.source-items)
