use Rattle.std.proofs.Common.{Global, Vec, ◌+◌, ◌-◌, ◌∙◌, ap, arith, drop, take}
use Rattle.run_judge.specs.declared.event.RunEvent.{RunEvent}
use Rattle.run_text.specs.Events.{event_by_form}
use Rattle.run_text.proofs.Onto.{onto_all}
use Rattle.run_text.proofs.Sections.{len_within, line_at}
use Rattle.run_text.proofs.Telling.{events_from, no_form, nothing_told, one_told}
use Rattle.run_text.proofs.event_lines.events_by.Goals as goal
use Rattle.run_text.proofs.event_lines.events_by.Goals.{in-Some+in_ok-push, in_default+else-has_words}

pub returns-then-has_words : goal.returns-then-has_words
returns-then-has_words c =
    let text = c.args.section.now.lines.now in
    let at = c.loop-at.at in
    let n = c.line_len-len.result in
    let is = line_at text at n c.loop-at-test.true c.line_len-len.ensures in
    no_form (event_by_form c.args.form) text (take (at + n - at)
    (drop at text)) at n c.loop-at.line c.loop-at.events.items _ is
    c.in_default.ensures c.if-has_words.ensures c.loop-at.invariant.left

pub loop-at-preserved : goal.loop-at-preserved
loop-at-preserved c =
    let text = c.args.section.now.lines.now in
    let at = c.loop-at.at in
    let n = c.line_len-len.result in
    let line = c.loop-at.line in
    let es = c.loop-at.events.items in
    let is = line_at text at n c.loop-at-test.true c.line_len-len.ensures in
    let w = len_within text at n c.loop-at-test.true c.line_len-len.ensures in
    let low = c.loop-at.invariant.line in
    let this = take (at + n - at) (drop at text) in
    record {
      within = w.1;
      line = omega arith;
      left = elim c.match-event_in.branch [
        | in-Some+in_ok-push w ↦
            ap (λ (v : Vec RunEvent Global). onto_all v.items (events_from (event_by_form c.args.form) text
            (line + 1) (at + n))) w.events-is
            ∙ ap (λ l. onto_all l (events_from (event_by_form c.args.form) text (line + 1)
            (at + n))) w.in_ok-push.ensures.items
            ∙ one_told (event_by_form c.args.form) text this at n line es w.in-Some.event _ is w.in-Some.ensures
            c.loop-at.invariant.left
        | in_default+else-has_words w ↦
            ap (λ (v : Vec RunEvent Global). onto_all v.items (events_from (event_by_form c.args.form) text
            (line + 1) (at + n))) w.events-is
            ∙ nothing_told (event_by_form c.args.form) text this at n line es _ is w.in_default.ensures
            w.if-has_words.ensures
            c.loop-at.invariant.left
      ];
    }
