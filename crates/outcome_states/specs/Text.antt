-- The text of all states of a test, as herd7 prints them: what the condition's word means, the number of states, a line
-- for each, and what is observed of the condition (Alglave, Maranget and Tautschnig, "Herding cats", TOPLAS 2014).
use Rattle.std.specs.Prelude.{ℕ, ◌+◌, ◌==◌, List, [], ◌∷◌, ◌++◌, codes, decimal, length, if◌then◌else◌}
use Rattle.std.specs.List.{flat_map}
use Rattle.report_text.specs.Words.{newline, number_line}
use Rattle.x86_subset.specs.Test.{LitmusTest}
use Rattle.x86_subset.specs.declared.instr.Reg.{Reg}
use Rattle.x86_subset.specs.declared.instr.Reg.TheVariants.{Eax, Ebx, Ecx, Edx, Esi, Edi}
use Rattle.x86_subset.specs.declared.test.Quantifier.{Quantifier}
use Rattle.x86_subset.specs.declared.test.Quantifier.TheVariants.{Exists, NotExists}
use Rattle.outcome_rows.specs.Rows.{Register}
use Rattle.outcome_states.specs.Counting.{count_met, count_unmet}

-- a title and the test's name
unfoldable pub titled : List ℕ → List ℕ → List ℕ
titled title name = title ++ name ++ codes " "

-- ---- the first line

abbrev pub quantifier_word : Quantifier → List ℕ
quantifier_word Exists = codes "Allowed"
quantifier_word NotExists = codes "Forbidden"

unfoldable pub head_line : List ℕ → Quantifier → List ℕ
head_line name quantifier = titled (codes "Test ") name ++ quantifier_word quantifier ++ newline

-- ---- a state

abbrev pub register_name : Reg → List ℕ
register_name Eax = codes "EAX"
register_name Ebx = codes "EBX"
register_name Ecx = codes "ECX"
register_name Edx = codes "EDX"
register_name Esi = codes "ESI"
register_name Edi = codes "EDI"

-- a register and its value
unfoldable pub cell_text : Register → ℕ → List ℕ
cell_text register v =
    decimal register.thread ++ codes ":" ++ register_name register.reg ++ codes "=" ++ decimal v ++ codes ";"

-- a space stands before each cell but the first
abbrev pub before_cell : ℕ → List ℕ
before_cell k = if k == 0 then [] else codes " "

-- the cells of these registers, which are numbered from k on
abbrev pub cells_from : ℕ → List Register → List ℕ → List ℕ
cells_from k [] values = []
cells_from k (register ∷ registers) [] = []
cells_from k (register ∷ registers) (v ∷ values) =
    before_cell k ++ (cell_text register v ++ cells_from (k + 1) registers values)

abbrev pub state_line : List Register → List ℕ → List ℕ
state_line registers values = cells_from 0 registers values ++ newline

-- ---- the last line

-- whether each state satisfies what the condition asks for, or none does, by how many do and how many do not
unfoldable pub observation_word : ℕ → ℕ → List ℕ
observation_word met unmet =
    if met == 0 then codes "Never" else if unmet == 0 then codes "Always" else codes "Sometimes"

unfoldable pub observed_text : ℕ → ℕ → List ℕ
observed_text met unmet =
    observation_word met unmet ++ codes " " ++ decimal met ++ codes " " ++ decimal unmet ++ newline

unfoldable pub observation_line : List ℕ → ℕ → ℕ → List ℕ
observation_line name met unmet = titled (codes "Observation ") name ++ observed_text met unmet

-- ---- the whole

-- the text of these rows of the registers
abbrev pub outcomes_text : LitmusTest → List Register → List (List ℕ) → List ℕ
outcomes_text test registers rows =
    head_line test.name test.quantifier ++ (number_line (codes "States") (length rows)
    ++ (flat_map (state_line registers) rows
    ++ observation_line test.name (count_met test registers rows) (count_unmet test registers rows)))
