use Rattle.std.proofs.Common.{◌≡◌, drop}
use Rattle.x86_subset.specs.Form.{lexemes}
use Rattle.litmus_reader.specs.Condition.{after_close}
use Rattle.litmus_reader.proofs.condition.after_close.Given as goal

abbrev pub invariant-loop-i : goal.invariant-loop-i
invariant-loop-i l =
    after_close l.last (lexemes l.bytes (drop l.i l.tokens)) ≡ after_close l.last (lexemes l.bytes l.tokens)
