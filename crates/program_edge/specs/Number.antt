-- The number with which a program ends where its call is not made. This project's own.
use Rattle.std.specs.Prelude.{ℕ}
use Rattle.program_edge.specs.declared.unmade.Unmade.{Unmade}
use Rattle.program_edge.specs.declared.unmade.Unmade.TheVariants.{Memory, Words}

-- the number of why it is not made: 1 as where memory runs out in a call, and 14, which is no status of a call
abbrev pub unmade_number : Unmade → ℕ
unmade_number Memory = 1
unmade_number Words = 14
