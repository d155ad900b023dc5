use Rattle.std.proofs.Common.{◌++◌, ◌∙◌, ℕ, List, ap, append_assoc, codes, string_bytes}
use Rattle.outcome_states.specs.Text.{observation_line, observed_text, titled}
use Rattle.outcome_states.proofs.text.push_observation.Goals as goal

pub returns : goal.returns
unfolding observation_line
returns c =
    let observed = observed_text c.args.met c.args.unmet in
    c.in_ok-push_observed.ensures ∙ ap (λ (z : List ℕ). z ++ observed) c.in_ok-push_titled.ensures
    ∙ append_assoc (string_bytes c.args.out.now) (titled (codes "Observation ") c.args.name.now) observed
