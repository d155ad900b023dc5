-- In which threads stores stand. This project's own.
use Rattle.std.specs.Prelude.{ℕ, ◌==◌, Bool, List}
use Rattle.std.specs.List.{list_all}
use Rattle.seq_conv.specs.Sequence.{Site}

-- whether all these stores stand in thread w
abbrev pub stand_in : ℕ → List Site → Bool
stand_in w stores = list_all (λ s. s.thread == w) stores
