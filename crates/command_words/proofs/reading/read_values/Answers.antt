use Rattle.std.proofs.Common.{◌≡◌, ◌∙◌, drop, map, string_bytes, false, sym, ap, true≢false}
use Rattle.std.specs.List.{list_any}
use Rattle.clap.specs.Walk.{texts}
use denote.Enum.Bare.{sameb}
use Rattle.clap.specs.contracts.error.kind.ErrorKind.{the_type}
use Rattle.clap.specs.declared.error.kind.ErrorKind.{ErrorKind}
use Rattle.clap.specs.declared.error.kind.ErrorKind.TheVariants.{OutOfMemory}
use Rattle.command_words.specs.Words.{is_stray}
use Rattle.command_words.proofs.CommandLemmas.{refused_values, taken_values}
use Rattle.command_words.proofs.JobLemmas.{stray-map, stray_unread}
use Rattle.command_words.proofs.reading.read_values.Goals as goal

not_memory : (k : ErrorKind) → sameb the_type k OutOfMemory ≡ false → k ≡ OutOfMemory → ⊥
not_memory k differs is = true≢false (sym (ap (λ x. sameb the_type x OutOfMemory) is) ∙ differs)

pub returns-then-has_stray_word-clause-usage : goal.returns-then-has_stray_word-clause-usage
returns-then-has_stray_word-clause-usage c = λ _.
    stray_unread (texts c.args.names.now) (drop 1 (map (λ w. string_bytes w) c.args.words.now))
    (sym (stray-map (λ w. string_bytes w) c.args.words.now) ∙ sym c.has_stray_word.ensures
    ∙ c.if-has_stray_word.true)

pub returns-in-Ok-try_get_matches_from-clause-ok : goal.returns-in-Ok-try_get_matches_from-clause-ok
returns-in-Ok-try_get_matches_from-clause-ok c =
    let no_stray : list_any is_stray (drop 1 (map (λ w. string_bytes w) c.args.words.now)) ≡ false =
    sym (stray-map (λ w. string_bytes w) c.args.words.now) ∙ sym c.has_stray_word.ensures ∙ c.if-has_stray_word.false in
    taken_values c.in-Ok.command c.as_str.result.now (texts c.args.names.now) c.requires.no_count
    (map (λ w. string_bytes w) c.args.words.now) c.in-Ok.ensures no_stray
    c.in-Ok-try_get_matches_from.matches c.in-Ok-try_get_matches_from.ensures.kinds
    c.in-Ok-try_get_matches_from.ensures.matches

pub returns-clause-usage : goal.returns-clause-usage
returns-clause-usage c = λ _.
    let no_stray : list_any is_stray (drop 1 (map (λ w. string_bytes w) c.args.words.now)) ≡ false =
    sym (stray-map (λ w. string_bytes w) c.args.words.now) ∙ sym c.has_stray_word.ensures ∙ c.if-has_stray_word.false in
    refused_values c.in-Ok.command c.as_str.result.now (texts c.args.names.now) c.requires.no_count
    (map (λ w. string_bytes w) c.args.words.now) c.in-Ok.ensures no_stray
    c.in-Err.error c.in-Err.ensures.kinds
    (λ memory. not_memory c.kind.result (sym c.eq.ensures ∙ c.if-eq.false) (c.kind.ensures ∙ memory))
