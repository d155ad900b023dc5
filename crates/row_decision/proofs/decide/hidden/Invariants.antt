use Rattle.std.proofs.Common.{◌≡◌, false, map, take}
use Rattle.std.specs.List.{list_any}
use Rattle.once.specs.Sources.{is_hidden_source}
use Rattle.row_decision.specs.Seen.{seen}
use Rattle.row_decision.proofs.decide.hidden.Given as goal

abbrev pub invariant-loop-index : goal.invariant-loop-index
invariant-loop-index l =
    list_any (is_hidden_source l.fn.test) (map seen (take l.index l.fn.readings)) ≡ false
