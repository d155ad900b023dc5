use Rattle.tso_runs.proofs.OnePart as lemmas
use Rattle.tso_runs.proofs.laws.lawful_parts_are_one.Goals as goal

pub returns : goal.returns
returns c = lemmas.lawful_parts_are_one
