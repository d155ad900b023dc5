use Rattle.std.proofs.Common.{ℕ, List, ◌≡◌, IfOk, string_bytes, subst}
use Rattle.perple_core.proofs.Working.{converted}
use Rattle.perple_core.proofs.work.conversion_text.Goals as goal

pub returns : goal.returns
returns c =
    subst (λ (x : List ℕ). IfOk c.convert_text.result (λ text. string_bytes text ≡ x))
    (converted c.args.checked.now _ c.test.ensures.checked c.in_ok-rows.ensures.rows) c.convert_text.ensures
