-- A line looks at one bit of each draw.
use Rattle.std.proofs.Common.{◌≡◌, ◌∙◌, ℕ, ◌+◌, ◌%◌, ◌++◌, Bool, List, [], ◌∷◌, length, map, refl, sym, ap, ap₂}
use Rattle.std.proofs.lemmas.List.{length-map}
use Rattle.demo_text.specs.declared.draw.Draw.{Draw}
use Rattle.demo_text.specs.declared.line.Line.{Line}
use Rattle.demo_text.specs.declared.line.Line.TheVariants.{Columns, First, Middle, Last, Condition}
use Rattle.demo_text.specs.Demo.{cell_of, cells_from, line_text, before_cell, opening_of, ending_of}

-- the draw with three equal bits
abbrev pub plain : Bool → Draw
plain b = record { fenced = b; loads_first = b; wants_one = b }

abbrev pub plains : List Bool → List Draw
plains bs = map plain bs

-- the bit that a line looks at
abbrev pub bit_of : Line → Draw → Bool
bit_of Columns d = d.fenced
bit_of First d = d.loads_first
bit_of Middle d = d.fenced
bit_of Last d = d.loads_first
bit_of Condition d = d.wants_one

abbrev pub bits_of : Line → List Draw → List Bool
bits_of line ds = map (bit_of line) ds

cell-plain : (line : Line) (t u : ℕ) (d : Draw) → cell_of line t u d ≡ cell_of line t u (plain (bit_of line d))
cell-plain Columns t u d = refl
cell-plain First t u d = refl
cell-plain Middle t u d = refl
cell-plain Last t u d = refl
cell-plain Condition t u d = refl

cells-plain : (line : Line) (n t : ℕ) (ds : List Draw)
    → cells_from line n t ds ≡ cells_from line n t (plains (bits_of line ds))
cells-plain line n t [] = refl
cells-plain line n t (d ∷ ds) =
    ap₂ (λ a b. before_cell line t ++ (a ++ b)) (cell-plain line t ((t + 1) % n) d) (cells-plain line n (t + 1) ds)

length-plains : (line : Line) (ds : List Draw) → length ds ≡ length (plains (bits_of line ds))
length-plains line ds = sym (length-map (bits_of line ds) plain ∙ length-map ds (bit_of line))

pub line-plain : (line : Line) (ds : List Draw) → line_text line ds ≡ line_text line (plains (bits_of line ds))
line-plain line ds =
    ap (λ cells. opening_of line ++ (cells ++ ending_of line)) (cells-plain line (length ds) 0 ds)
    ∙ ap (λ n. opening_of line ++ (cells_from line n 0 (plains (bits_of line ds)) ++ ending_of line))
    (length-plains line ds)
