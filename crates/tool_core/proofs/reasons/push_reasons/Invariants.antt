use Rattle.std.proofs.Common.{◌≡◌, ◌++◌, string_bytes, drop}
use Rattle.tool_core.specs.Showing.{reason_lines}
use Rattle.tool_core.proofs.reasons.push_reasons.Given as goal

-- the lines of the reasons that are left complete the text
abbrev pub invariant-loop-i : goal.invariant-loop-i
invariant-loop-i l =
    string_bytes l.out ++ reason_lines l.i (drop l.i l.reasons) ≡ string_bytes l.initial.out ++ reason_lines 0 l.reasons
