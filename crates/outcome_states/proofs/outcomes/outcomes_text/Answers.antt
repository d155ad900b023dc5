use Rattle.std.proofs.Common.{◌∙◌, sym}
use Rattle.outcome_states.proofs.Listed.{refuses_unread}
use Rattle.outcome_states.proofs.outcomes.outcomes_text.Goals as goal

pub returns-in-Some : goal.returns-in-Some
returns-in-Some c = refuses_unread c.args.test.now c.in-Some.refused (sym c.first_unread.ensures ∙ c.in-Some.is)
