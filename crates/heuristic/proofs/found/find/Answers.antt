use Rattle.std.proofs.Common.{◌≡◌, sym, ◌∙◌}
use Rattle.std.specs.List.{list_all}
use Rattle.load_log.specs.Values.{value_at}
use Rattle.outcome_conv.specs.Picks.{Link}
use Rattle.heuristic.specs.Steps.{links_of}
use Rattle.heuristic.proofs.Finds.{links_hold, only_not, only_some, same_test}
use Rattle.heuristic.proofs.Groups.{good_group}
use Rattle.heuristic.proofs.found.find.Goals as goal
use Rattle.heuristic.proofs.found.find.Goals.{After-all_hold}

pub all_hold-requires-clause-good : goal.all_hold-requires-clause-good
all_hold-requires-clause-good c =
    good_group c.args.logs.now.logs c.args.conds.now c.args.c c.group.result.now c.requires.logs.names
    c.group.ensures.value c.group.ensures.kinds

-- the conditions hold where the links do
tested : (c : After-all_hold) → list_all (λ (l : Link). l.holds c.in-Some.frame)
    (links_of c.args.conds.now c.args.logs.now.logs c.args.n c.args.c) ≡ c.all_hold.result
tested c =
    links_hold (value_at c.args.logs.now.logs) c.args.n c.args.conds.now.ends c.args.conds.now.conds c.args.c
    c.in-Some.frame
    ∙ same_test (value_at c.args.logs.now.logs) c.in-Some.frame _ _ (sym c.group.ensures.value)
    ∙ sym c.all_hold.ensures

pub returns-then-all_hold-clause-value : goal.returns-then-all_hold-clause-value
returns-then-all_hold-clause-value c =
    sym (only_some _ c.in-Some.frame _ (sym c.pick.ensures.value ∙ c.in-Some.is) (tested c.before ∙ c.if-all_hold.true))

pub returns-else-all_hold-clause-value : goal.returns-else-all_hold-clause-value
returns-else-all_hold-clause-value c =
    sym (only_not _ c.in-Some.frame _ (sym c.pick.ensures.value ∙ c.in-Some.is) (tested c.before ∙ c.if-all_hold.false))
