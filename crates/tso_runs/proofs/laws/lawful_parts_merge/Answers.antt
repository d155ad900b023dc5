use Rattle.tso_runs.proofs.Merging.{parts_merge}
use Rattle.tso_runs.proofs.laws.lawful_parts_merge.Goals as goal

pub returns : goal.returns
returns c = parts_merge
