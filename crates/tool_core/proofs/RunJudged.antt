-- A legal run that is written after a litmus text is called legal.
use Rattle.std.proofs.Common.{◌≡◌, ℕ, List, ◌++◌, None, Some, Ok, codes, length, map, sym, ap, ◌∙◌, subst}
use Rattle.x86_subset.specs.Shape.{limit_of}
use Rattle.x86_subset.specs.Test.{LitmusTest}
use Rattle.tso_machine.specs.Run.{IsRunOf}
use Rattle.litmus_reader.specs.Answer.{Accepted}
use Rattle.litmus_reader.specs.Reading.{Reads, accepted}
use Rattle.litmus_reader.proofs.ReadingLaws.{same_test}
use Rattle.report_text.specs.Words.{number_line}
use Rattle.run_judge.specs.Judgement.{event_of, judgement_of}
use Rattle.run_judge.specs.declared.event.RunEvent.{RunEvent}
use Rattle.run_judge.proofs.Judged.{legal_is_run_lem}
use Rattle.run_text.specs.Laws.{IsReadBack, run_parts}
use Rattle.run_text.specs.Runs.{run_text_of}
use Rattle.run_text.specs.Sections.{Split}
use Rattle.run_text.proofs.RunsBack.{runs_back}
use Rattle.tool_core.specs.Due.{due_for_lines, due_for_test}
use Rattle.tool_core.specs.Laws.{WrittenRunsAreLegal}
use Rattle.tool_core.specs.Texts.{IsJudged, judgement_line}
use Rattle.tool_core.specs.declared.words.Command.TheVariants.{Judge}
use Rattle.tool_core.proofs.Dues.{due_for_text}
use Rattle.tool_core.proofs.RunWidths.{run_widths}

within_limits : (text : List ℕ) (test : LitmusTest) → Reads text (Accepted test) → limit_of test ≡ None
within_limits text test (accepted t s h) = h

-- the right text for the parts of a written run
legal_line : (test : LitmusTest) (n : ℕ) (events : List RunEvent) → IsRunOf test n (map event_of events)
    → judgement_line (length events) (judgement_of test n (map event_of events))
    ≡ number_line (codes "Legal") (length events)
legal_line test n events r = ap (judgement_line (length events)) ((legal_is_run_lem test n (map event_of events)).1 r)

said_legal : (litmus : List ℕ) (test : LitmusTest) (n : ℕ) (events : List RunEvent) (said : List ℕ)
    → IsReadBack litmus n events → IsRunOf test n (map event_of events)
    → IsJudged test (run_parts litmus n events) said → said ≡ number_line (codes "Legal") (length events)
said_legal litmus test n events said back r j =
    let told = back.tells (run_parts litmus n events).line in
    let same : j.events ≡ events = (let e : Ok j.events ≡ Ok events = sym j.are ∙ told in cc) in
    j.is ∙ ap (λ es. judgement_line (length es) (judgement_of test n (map event_of es))) same
    ∙ legal_line test n events r

pub legal_said : WrittenRunsAreLegal
legal_said litmus test n events reads short leads low high r =
    let input = litmus ++ run_text_of n events in
    let parts = run_parts litmus n events in
    let back =
    runs_back litmus n events leads low high (run_widths test n events (within_limits litmus test reads) high r) in
    let due : due_for_test Judge test parts ≡ None = ap due_for_lines (back.tells parts.line) in
    record {
      none_due =
          due_for_text Judge input parts None back.parts short (record {
            answer = Accepted test;
            reads = reads;
            is = due;
          });
      answers = λ done still. record {
        parts = parts;
        test = test;
        accepts = record { parts_are = back.parts; short = short; reading = reads; none_due = due };
        right = (still, record { events = events; are = back.tells parts.line; is = sym (legal_line test n events r) });
      };
      only = λ done said a.
          let same : a.parts ≡ parts = (let e : Some a.parts ≡ Some parts = sym a.accepts.parts_are ∙ back.parts in cc)
          in
          let other : Reads litmus (Accepted a.test) =
          subst (λ (s : Split). Reads s.litmus (Accepted a.test)) same a.accepts.reading in
          let this : a.test ≡ test = same_test litmus a.test test other reads in
          let judged : IsJudged a.test parts said = subst (λ (s : Split). IsJudged a.test s said) same a.right.1 in
          said_legal litmus test n events said back r (subst (λ (t : LitmusTest). IsJudged t parts said) this judged);
    }
