-- Laws of litmus tests: the conjunctions of the condition are all of its atoms, and cells and texts are cut in one way.
-- This project's own.
use Rattle.std.specs.Prelude.{◌≡◌, ℕ, List, Result, flat_map, length}
use Rattle.x86_subset.specs.declared.cell.InstrError.{InstrError}
use Rattle.x86_subset.specs.Conjunctions.{AreEnds, conjunctions_of}
use Rattle.x86_subset.specs.Test.{LitmusTest}
use Rattle.x86_subset.specs.Token.{Spot, Lexeme, Lexes, lex}
use Rattle.x86_subset.specs.Cell.{Form, Parses, parse}

-- law: one after another the conjunctions have the atoms in order, each once
abbrev pub ConjunctionsHaveTheAtoms : Type 0
ConjunctionsHaveTheAtoms =
    (test : LitmusTest) → AreEnds test.ends (length test.atoms)
    → flat_map (λ c. c) (conjunctions_of test.ends test.atoms) ≡ test.atoms

-- law: each cell says one thing, or nothing for one cause
abbrev pub OneParse : Type 0
OneParse =
    (cell : List Lexeme) → Parses cell (parse cell)
    × ((answer : Result Form InstrError) → Parses cell answer → parse cell ≡ answer)

-- law: each text is cut into tokens in one way
abbrev pub OneCut : Type 0
OneCut =
    (at : Spot) (text : List ℕ) → Lexes at text (lex 0 at text)
    × ((ts : List Lexeme) → Lexes at text ts → lex 0 at text ≡ ts)
