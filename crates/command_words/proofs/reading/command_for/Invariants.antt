use Rattle.std.proofs.Common.{◌≡◌, take}
use Rattle.clap.specs.Walk.{texts}
use Rattle.clap.specs.Words.{app_of}
use Rattle.command_words.specs.Clap.{app_for}
use Rattle.command_words.proofs.reading.command_for.Given as goal

abbrev pub invariant-loop-option : goal.invariant-loop-option
invariant-loop-option l = app_of l.command ≡ app_for l.name (texts (take l.option-index l.names))
