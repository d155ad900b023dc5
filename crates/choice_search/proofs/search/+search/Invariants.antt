use Rattle.std.proofs.Common.{◌+◌, count_by}
use Rattle.choice_search.specs.Search.{is_open}
use Rattle.choice_search.proofs.search.+search.Given as goal

abbrev pub decreases-refute : goal.decreases-refute
decreases-refute l = count_by is_open l.sides.now + count_by is_open l.sides.now + 1

abbrev pub decreases-under : goal.decreases-under
decreases-under l = count_by is_open l.sides.now + count_by is_open l.sides.now
