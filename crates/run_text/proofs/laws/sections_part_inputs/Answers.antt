use Rattle.run_text.proofs.SectionsBack.{parts_of_input}
use Rattle.run_text.proofs.laws.sections_part_inputs.Goals as goal

pub returns : goal.returns
returns c = parts_of_input
