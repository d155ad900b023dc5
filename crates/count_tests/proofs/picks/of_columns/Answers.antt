use Rattle.count_tests.proofs.picks.of_columns.Goals as goal

pub worked-requires-clause-names : goal.worked-requires-clause-names
worked-requires-clause-names g c κs within = c.requires.names _ _ c.in_ok-log.ensures.0 c.in_ok-second.ensures.0
