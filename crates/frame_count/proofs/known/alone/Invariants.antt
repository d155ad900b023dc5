use Rattle.std.proofs.Common.{◌≡◌, ◌==◌, [], ◌∷◌, false, filter, take}
use Rattle.std.specs.Option.{MatchOption}
use Rattle.frame_count.specs.Count.{IsGood}
use Rattle.frame_count.proofs.known.alone.Given as goal

abbrev pub invariant-loop-cond : goal.invariant-loop-cond
invariant-loop-cond l =
    MatchOption l.found (filter (λ c. c.reader == l.last) (take l.cond-index l.conds) ≡ [])
    (λ x. (filter (λ c. c.reader == l.last) (take l.cond-index l.conds) ≡ x ∷ []) × ((x.writer == l.last) ≡ false)
    × IsGood l.logs.logs x)
