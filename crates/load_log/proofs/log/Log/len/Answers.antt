use Rattle.std.proofs.Common.{sym}
use Rattle.load_log.proofs.Columns.{length-by_iteration}
use Rattle.load_log.proofs.log.Log.len.Goals as goal

pub returns : goal.returns
returns c = rw (← c.self.view_is) (sym (length-by_iteration _ _ _ _))
