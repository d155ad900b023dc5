use Rattle.std.proofs.Common.{◌≡◌, sym, ◌∙◌, ap, ◌+◌, ◌∷◌, ◌++◌, [], List, Some, drop, length-set, set, map, ◌<◌, take, add-one, append_assoc}
use Rattle.std.specs.Prelude.{slice_get}
use Rattle.std.proofs.lemmas.List.{map-append}
use Rattle.std.proofs.lemmas.List.Elements.{All-drop, All-same}
use Rattle.store_buffer.specs.declared.entry.Entry.{Entry}
use Rattle.store_buffer.specs.Contents.{Contents}
use Rattle.tso_words.specs.History.{word_count}
use Rattle.perp_loop.proofs.Draining.{drained_more}
use Rattle.run_judge.specs.declared.event.RunEvent.{RunEvent}
use Rattle.replay_run.specs.Turns.{drained, words_with}
use Rattle.replay_run.proofs.Turned.{words_with-last}
use Rattle.replay_run.proofs.turn.drain.Goals as goal

pub loop-i-preserved : goal.loop-i-preserved
loop-i-preserved c =
    let es = c.args.buffer.now.entries in
    let i = c.loop-i._i in
    let entry = c.unwrap-entry.result in
    let inv = c.loop-i.invariant in
    let now : c.loop-i.buffer.entries ≡ drop i es = ap (λ b. b.entries) inv.rest in
    let at : slice_get (drop i es) 0 ≡ Some entry =
    sym (ap (λ xs. slice_get xs 0) now) ∙ sym c.drain_one.ensures.oldest ∙ c.unwrap-entry.ensures in
    let more = drained_more es i entry at in
    let took : take (i + 1) es ≡ take i es ++ entry ∷ [] = ap (λ n. take n es) (add-one i) ∙ more.1 in
    record {
      rest =
          c.drain_one.ensures.rest
          ∙ ap {B = Contents} (λ (b : Contents). record b { entries = drop 1 b.entries }) inv.rest
          ∙ ap {B = Contents} (λ (xs : List Entry). record c.args.buffer.now { entries = xs })
          (more.0 ∙ ap (λ n. drop n es) (sym (add-one i)));
      in_range =
          All-same (λ e. e.loc < word_count) _ (drop 1 c.loop-i.buffer.entries)
          (ap (λ b. b.entries) c.drain_one.ensures.rest) (All-drop (λ e. e.loc < word_count) 1
          c.loop-i.buffer.entries inv.in_range);
      sixteen = length-set c.loop-i.words entry.loc entry.value ∙ inv.sixteen;
      words =
          ap (λ ws. set ws entry.loc entry.value) inv.words
          ∙ sym (words_with-last c.args.words.now (take i es) entry) ∙ ap (words_with c.args.words.now) (sym took);
      events =
          c.in_ok-push.ensures.items
          ∙ ap (λ (l : List RunEvent). l ++ drained c.args.thread entry ∷ []) inv.events
          ∙ append_assoc c.args.events.now.items (map (drained c.args.thread) (take i es))
          (drained c.args.thread entry ∷ [])
          ∙ ap (λ l. c.args.events.now.items ++ l)
          (sym (map-append (drained c.args.thread) (take i es) (entry ∷ []))
          ∙ ap (map (drained c.args.thread)) (sym took));
    }
