use Rattle.std.proofs.Common.{arith}
use Rattle.perp_loop.proofs.Rows.{all_home, lists_of}
use Rattle.perp_loop.proofs.threads.run_members.Goals as goal

pub close-requires-clause-home : goal.close-requires-clause-home
close-requires-clause-home g c = all_home _ _ c.take_back_all.ensures.home

pub returns-clause-lists : goal.returns-clause-lists
returns-clause-lists g c = lists_of _ _ _ c.take_back_all.ensures.home (omega arith) c.close.ensures.lists
