use Rattle.std.proofs.Common.{◌∙◌, ◌<◌, length, ap₂, arith}
use Rattle.clap.specs.Simple.{with_rule}
use Rattle.command_words.proofs.CommandLemmas.{option_added}
use Rattle.command_words.proofs.reading.command_for.Goals as goal

pub loop-option-preserved : goal.loop-option-preserved
loop-option-preserved c =
    let lt : c.loop-option.option-index < length c.args.names.now = omega arith in
    c.in_ok-command-2.ensures.shape c.option_named.ensures.local
    ∙ ap₂ with_rule c.loop-option.invariant c.option_named.ensures.rule
    ∙ option_added c.args.name.now c.args.names.now c.loop-option.option-index _ lt
