use Rattle.litmus_reader.proofs.AsciiLaws as ascii
use Rattle.litmus_reader.proofs.names_are_ascii.Goals as goal

pub returns : goal.returns
returns c = ascii.names_are_ascii
