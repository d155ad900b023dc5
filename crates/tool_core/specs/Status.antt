-- The number of each status of the second program, and its line on the error sink. This project's own.
use Rattle.std.specs.Prelude.{ℕ, List, ◌++◌, codes, decimal}
use Rattle.report_text.specs.Status.{HasKind, line_of, status_number}
use Rattle.tool_core.specs.declared.status.ToolStatus.{ToolStatus}
use Rattle.tool_core.specs.declared.status.ToolStatus.TheVariants.{Core, NoSection, BadLine, TooLong, Events, SeveralWriters, States, Steps}

-- the number with which the program ends
abbrev pub tool_number : ToolStatus → ℕ
tool_number (Core status) = status_number status
tool_number NoSection = 9
tool_number (BadLine line) = 10
tool_number TooLong = 11
tool_number Events = 12
tool_number (SeveralWriters location) = 13
tool_number States = 15
tool_number Steps = 16

-- a status of the first program has a kind that there is
abbrev pub HasToolKind : ToolStatus → Type 0
HasToolKind (Core status) = HasKind status
HasToolKind _ = Unit {0}

-- the line of a status: none for the whole answer
abbrev pub tool_line : ToolStatus → List ℕ
tool_line (Core status) = line_of status
tool_line NoSection = codes "perple: no section\n"
tool_line (BadLine line) = codes "perple: section line " ++ decimal line ++ codes "\n"
tool_line TooLong = codes "perple: limit section 16777216\n"
tool_line Events = codes "perple: limit events 1000000\n"
tool_line (SeveralWriters location) = codes "perple: location " ++ decimal location ++ codes " has several writers\n"
tool_line States = codes "perple: limit states 10000\n"
tool_line Steps = codes "perple: limit steps 20000\n"
