use Rattle.std.proofs.Common.{◌≡◌, true, not, MatchOption, take}
use Rattle.std.specs.List.{list_all}
use Rattle.choice_search.specs.Search.{IsOpenAt, is_open}
use Rattle.choice_search.proofs.search.highest.Given as goal

abbrev pub invariant-loop-index : goal.invariant-loop-index
invariant-loop-index l =
    MatchOption l.best (list_all (λ side. not (is_open side)) (take l.index l.sides) ≡ true)
    (λ at. IsOpenAt l.choices l.sides at.index at.choice)
