use Rattle.std.proofs.Common.{◌≡◌, ℕ, ◌∙◌}
use Rattle.choice_search.proofs.Trees.{counted_within, found_none}
use Rattle.choice_search.proofs.search.decide.Goals as goal

pub returns : goal.returns
returns c = record {
  within = counted_within c.args.most c.refute.new.work.steps c.in_ok-found.found c.in_ok-found.ensures.steps;
  outcome =
      c.outcome_of.ensures c.args.edges.now c.args.choices.now c.args.most c.refute.new.work.steps
      (found_none c.args.edges.now c.args.choices.now c.deref_mut.result.now c.in_ok-found.found
      (c.deref_mut.ensures.value ∙ c.in_ok-sides.ensures) c.in_ok-found.ensures.found)
      c.in_ok-found.ensures.steps;
}
