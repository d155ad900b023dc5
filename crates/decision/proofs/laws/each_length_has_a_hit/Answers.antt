use Rattle.decision.proofs.Longer.{each_length_has_a_hit_lem}
use Rattle.decision.proofs.laws.each_length_has_a_hit.Goals as goal

pub returns : goal.returns
returns c = each_length_has_a_hit_lem
