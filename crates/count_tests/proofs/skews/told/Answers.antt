use Rattle.std.proofs.Common.{◌≡◌, ◌++◌, ◌∷◌, [], ap, ◌∙◌}
use Rattle.load_log.specs.Values.{Lists}
use Rattle.count_tests.proofs.Trying.{logs_tell}
use Rattle.count_tests.proofs.skews.told.Goals as goal

pub skew-requires-clause-logs : goal.skew-requires-clause-logs
skew-requires-clause-logs g c κs within =
    let a = c.args.first in
    let b = c.args.second in
    let both : c.add-2.new.self.logs ≡ a ∷ b ∷ [] =
    ap (λ (l : Lists). l.logs) c.add-2.ensures.appended ∙ ap (λ (l : Lists). l.logs ++ b ∷ []) c.add.ensures.appended
    ∙ ap (λ (l : Lists). (l.logs ++ a ∷ []) ++ b ∷ []) c.in_ok-logs.ensures.made in
    logs_tell c.in_ok-test.test c.args.n c.add-2.new.self.logs a b c.in_ok-test.ensures c.requires.n.1 c.requires.first
    c.requires.second both
