use Rattle.std.proofs.Common.{◌∙◌, sym}
use Rattle.command_words.proofs.Numbers.{parse-number}
use Rattle.command_words.proofs.values.number.Goals as goal

pub returns-then-is_numeral : goal.returns-then-is_numeral
returns-then-is_numeral c =
    c.ok.ensures.value ∙ parse-number c.parse.result c.args.text.now
    (sym c.is_numeral.ensures ∙ c.if-is_numeral.true) c.parse.ensures.value.0
