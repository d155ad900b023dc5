use Rattle.std.proofs.Common.{◌≡◌, ◌++◌, string_bytes, drop, length}
use Rattle.demo_text.specs.Demo.{cells_from}
use Rattle.demo_text.proofs.text.push_cells.Given as goal

-- the cells that are left complete the line
abbrev pub invariant-loop-t : goal.invariant-loop-t
invariant-loop-t l =
    string_bytes l.out ++ cells_from l.line (length l.draws) l.t (drop l.t l.draws)
    ≡ string_bytes l.initial.out ++ cells_from l.line (length l.draws) 0 l.draws
