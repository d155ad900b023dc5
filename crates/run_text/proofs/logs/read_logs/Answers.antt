use Rattle.std.proofs.Common.{Some, None, ◌≡◌, ◌+◌, ◌-◌, ◌∙◌, ap, arith, drop, length, sym, take}
use Rattle.std.proofs.lemmas.List.{length_push}
use Rattle.litmus_reader.specs.Front.{words}
use Rattle.load_log.specs.Values.{Lists}
use Rattle.run_text.specs.Logs.{log_for}
use Rattle.run_text.proofs.Logging.{from_place, no_form, nothing_said, one_said, one_within}
use Rattle.run_text.proofs.Sections.{len_within, line_at}
use Rattle.run_text.proofs.logs.read_logs.Goals as goal
use Rattle.run_text.proofs.logs.read_logs.Goals.{then-has_words+in_ok-log+in-Some, else-has_words}

pub returns-in_default : goal.returns-in_default
returns-in_default c =
    let text = c.args.section.now.lines.now in
    let columns = c.args.columns.now in
    let k = c.args.section.now.iterations in
    let at = c.loop-at.at in
    let n = c.line_len-len.result in
    let done = c.loop-at.logs.logs in
    let this = take (at + n - at) (drop at text) in
    let is = line_at text at n c.loop-at-test.true c.line_len-len.ensures in
    let here : None ≡ log_for columns k (length done) (words this)
    = sym c.in_default.is ∙ c.in_ok-log.ensures ∙ ap (λ t. log_for columns k t (words this)) c.len.ensures in
    no_form columns k text this at n c.loop-at.line done _ is c.if-has_words.ensures here c.loop-at.invariant.left

pub add-requires : goal.add-requires
add-requires c =
    let columns = c.args.columns.now in
    let k = c.args.section.now.iterations in
    let done = c.loop-at.logs.logs in
    let at = c.loop-at.at in
    let this = take (at + c.line_len-len.result - at) (drop at c.args.section.now.lines.now) in
    let here : Some c.in-Some.log ≡ log_for columns k (length done) (words this)
    = sym c.in-Some.is ∙ c.in_ok-log.ensures ∙ ap (λ t. log_for columns k t (words this)) c.len.ensures in
    let within = one_within columns k (length done) (words this) c.in-Some.log here in
    let room = c.loop-at.invariant.room in
    record { room = omega arith }

pub loop-at-preserved : goal.loop-at-preserved
loop-at-preserved c =
    let text = c.args.section.now.lines.now in
    let columns = c.args.columns.now in
    let k = c.args.section.now.iterations in
    let at = c.loop-at.at in
    let n = c.line_len-len.result in
    let line = c.loop-at.line in
    let done = c.loop-at.logs.logs in
    let i = c.loop-at.invariant in
    let line_low = i.low in
    let line_high = i.line in
    let w = len_within text at n c.loop-at-test.true c.line_len-len.ensures in
    let this = take (at + n - at) (drop at text) in
    let is = line_at text at n c.loop-at-test.true c.line_len-len.ensures in
    elim c.if-has_words.branch [
      | then-has_words+in_ok-log+in-Some u ↦
          let logs = u.logs-is ∙ u.add.ensures.appended in
          let here : Some u.in-Some.log ≡ log_for columns k (length done) (words this)
          = sym u.in-Some.is ∙ u.in_ok-log.ensures ∙ ap (λ t. log_for columns k t (words this)) u.len.ensures in
          let within = one_within columns k (length done) (words this) u.in-Some.log here in
          let long = length_push done u.in-Some.log in
          record {
            within = w.1;
            line = omega arith;
            low = omega arith;
            few = let e = ap (λ (l : Lists). length l.logs) logs in omega arith;
            room = let f = i.room in let e = ap (λ (l : Lists). l.spare + length l.logs) logs in omega arith;
            left = ap (λ (l : Lists). from_place columns k text (line + 1) l.logs (at + n)) logs
                ∙ one_said columns k text this at n line done u.in-Some.log _ is u.if-has_words.ensures here i.left;
          }
      | else-has_words u ↦
          let logs = u.logs-is in
          record {
            within = w.1;
            line = omega arith;
            low = omega arith;
            few = let f = i.few in let e = ap (λ (l : Lists). length l.logs) logs in omega arith;
            room = let f = i.room in let e = ap (λ (l : Lists). l.spare + length l.logs) logs in e ∙ f;
            left = ap (λ (l : Lists). from_place columns k text (line + 1) l.logs (at + n)) logs
                ∙ nothing_said columns k text this at n line done _ is u.if-has_words.ensures i.left;
          }
    ]
