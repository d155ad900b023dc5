use Rattle.std.proofs.Common.{◌≡◌, ◌++◌, string_bytes, drop, map}
use Rattle.tool_core.specs.Texts.{cycle_lines}
use Rattle.tool_core.proofs.verdicts.push_cycles.Given as goal

-- the lines of the cycles that are left complete the text
abbrev pub invariant-loop-i : goal.invariant-loop-i
invariant-loop-i l =
    string_bytes l.out ++ cycle_lines l.i (map (λ c. c.items) (drop l.i l.cycles)) ≡ string_bytes l.initial.out
    ++ cycle_lines 0 (map (λ c. c.items) l.cycles)
