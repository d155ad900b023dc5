-- A player's turn as the code takes it.
use Rattle.std.proofs.Common.{◌≡◌, ◌∙◌, refl, sym, ap, subst, ℕ, ◌+◌, ◌*◌, ◌<◌, Bool, Some, List, [], ◌∷◌, ◌++◌, length, map, take, drop}
use Rattle.std.specs.Prelude.{slice_get, slice_index_or}
use Rattle.std.proofs.lemmas.Option.{slice_get-get_or}
use Rattle.std.proofs.lemmas.List.Elements.{All-drop}
use Rattle.x86_subset.specs.Shape.{IsTest}
use Rattle.x86_subset.specs.Test.{LitmusTest, body_of}
use Rattle.x86_subset.specs.declared.instr.Instr.{Instr}
use Rattle.x86_subset.specs.declared.instr.Instr.TheVariants.{Store as DoStore}
use Rattle.seq_conv.specs.Numbers.{AreOf, Table, value_at}
use Rattle.store_buffer.specs.Asking.{Asking}
use Rattle.store_buffer.specs.Contents.{Contents}
use Rattle.store_buffer.specs.Generator.{asks_drain}
use Rattle.perp_base.specs.declared.options.Options.{Options}
use Rattle.tso_runs.specs.Drained.{drains_due, kind_as}
use Rattle.perp_loop.specs.Actions.{AreInRange, due_before, entries_after}
use Rattle.perp_loop.specs.Sound.{IsPosition}
use Rattle.perp_loop.proofs.Acted.{in_range-action}
use Rattle.perp_loop.proofs.Sites.{action_in_range}
use Rattle.run_judge.specs.declared.event.RunEvent.{RunEvent}
use Rattle.run_judge.specs.declared.event.RunKind.{RunKind}
use Rattle.replay_run.specs.declared.player.Player.{Player}
use Rattle.replay_run.specs.Players.{IsSound, made_by}
use Rattle.replay_run.specs.Turns.{MakesAction, asks_now, drained, kind_of, value_found, words_after, words_with}

module _ {test : LitmusTest} {options : Options} {old : Player} (sound : IsSound test options old.thread old) where
  pub sound_drained : (buffer : Contents) → buffer ≡ record old.buffer { entries = drop 1 old.buffer.entries }
      → IsSound test options old.thread (record old { buffer = buffer })
  sound_drained buffer rest = record {
    below = sound.below;
    thread = refl;
    position = sound.position;
    asking = sound.asking;
    capacity = ap (λ (b : Contents). b.capacity) rest ∙ sound.capacity;
    in_range =
        subst (λ (b : Contents). AreInRange b.entries) (sym rest)
        (All-drop (λ e. e.loc < 16) 1 old.buffer.entries sound.in_range);
  }

  -- It has an action left, in the body that it reads, and the drains before it are counted.
  module _ (below : old.iteration < options.iterations) (body : List Instr) (is : body ≡ body_of test old.thread)
      (table : Table) (numbers : AreOf test table) (is_test : IsTest test) (asks : Bool) (count len capacity : ℕ)
      (asks_is : asks ≡ asks_drain old.drains.seed old.drains.thread old.drains.rate old.drains.taken)
      (len_is : len ≡ length old.buffer.entries) (capacity_is : capacity ≡ old.buffer.capacity)
      (count_is : count ≡ drains_due (kind_as (slice_index_or body old.place (DoStore 0 0)) 0) capacity asks len)
      (mid then : Contents) (rest : mid ≡ record old.buffer { entries = drop count old.buffer.entries })
      (written : ℕ) (written_is : written ≡ value_at table old.thread old.place old.iteration)
      (acted : then ≡ record mid {
        entries = entries_after (slice_index_or body old.place (DoStore 0 0)) written old.iteration old.place
            mid.entries;
      })
      (i' p' : ℕ) (further : i' * length body + p' ≡ old.iteration * length body + old.place + 1)
      (drains : Asking) (asked : drains ≡ record old.drains { taken = old.drains.taken + 1 }) where
    abbrev action : Instr
    action = slice_index_or body old.place (DoStore 0 0)

    abbrev new : Player
    new = record { thread = old.thread; iteration = i'; place = p'; drains = drains; buffer = then }

    abbrev due_now : ℕ
    due_now = due_before action (asks_now test options old) old.buffer

    at : slice_get (body_of test old.thread) old.place ≡ Some action
    at =
        ap (λ b. slice_get b old.place) (sym is)
        ∙ slice_get-get_or body old.place (DoStore 0 0)
        (subst (λ b. old.place < length b) (sym is) (sound.position.place below))

    made : made_by test new ≡ made_by test old + 1
    made = subst (λ b. i' * length b + p' ≡ old.iteration * length b + old.place + 1) is further

    count_due : count ≡ due_now
    count_due =
        count_is
        ∙ (λ k. drains_due (kind_as action 0) (capacity_is k) (asks_is k) (len_is k))
        ∙ ap (λ (a : Asking). drains_due (kind_as action 0) old.buffer.capacity
        (asks_drain a.seed a.thread a.rate a.taken) (length old.buffer.entries)) sound.asking

    entries : then.entries ≡ entries_after action (value_at table old.thread old.place old.iteration) old.iteration
        old.place (drop due_now old.buffer.entries)
    entries =
        ap (λ (b : Contents). b.entries) acted
        ∙ (λ k. entries_after action (written_is k) old.iteration old.place ((rest k).entries))
        ∙ ap (λ n. entries_after action (value_at table old.thread old.place old.iteration) old.iteration old.place
        (drop n old.buffer.entries)) count_due

    pub sound_acted : IsPosition options.iterations (length body) i' p' → IsSound test options old.thread new
    sound_acted stands =
        let asking : ℕ → Asking = λ n. record {
          seed = options.seed;
          thread = old.thread;
          rate = options.rate;
          taken = n;
        } in
        record {
          below = sound.below;
          thread = refl;
          position = subst (λ b. IsPosition options.iterations (length b) i' p') is stands;
          asking =
              asked ∙ ap {B = Asking} (λ (a : Asking). record a { taken = a.taken + 1 }) sound.asking
              ∙ ap asking (sym made);
          capacity =
              ap (λ (b : Contents). b.capacity) acted ∙ ap (λ (b : Contents). b.capacity) rest ∙ sound.capacity;
          in_range =
              subst AreInRange (sym entries)
              (in_range-action test table old.thread old.iteration old.place numbers action
              (drop due_now old.buffer.entries) (action_in_range test old.thread old.place action is_test at)
              (All-drop (λ e. e.loc < 16) due_now old.buffer.entries sound.in_range));
        }

    module _ (ws mid_ws ws' : List ℕ) (es mid_es es' : List RunEvent) (kind : RunKind)
        (words_drained : mid_ws ≡ words_with ws (take count old.buffer.entries))
        (words_acted : ws' ≡ words_after action written mid_ws)
        (told_drains : mid_es ≡ es ++ map (drained old.thread) (take count old.buffer.entries))
        (kind_is : kind ≡ kind_of action (value_found action mid_ws mid.entries))
        (told_action : es' ≡ mid_es ++ record {
          thread = old.thread;
          iteration = old.iteration;
          place = old.place;
          kind = kind;
        } ∷ []) where
      pub makes_action : MakesAction test table options old ws es new ws' es'
      makes_action = record {
        below = below;
        action = action;
        at = at;
        made = made;
        buffer = entries;
        words =
            words_acted
            ∙ (λ k. words_after action (written_is k) (words_drained k))
            ∙ ap (λ n. words_after action (value_at table old.thread old.place old.iteration)
            (words_with ws (take n old.buffer.entries))) count_due;
        events =
            told_action
            ∙ (λ k. told_drains k ++ record {
              thread = old.thread;
              iteration = old.iteration;
              place = old.place;
              kind = kind_is k;
            } ∷ [])
            ∙ (λ k. (es ++ map (drained old.thread) (take count old.buffer.entries)) ++ record {
              thread = old.thread;
              iteration = old.iteration;
              place = old.place;
              kind = kind_of action (value_found action (words_drained k) ((rest k).entries));
            } ∷ [])
            ∙ ap (λ n. (es ++ map (drained old.thread) (take n old.buffer.entries)) ++ record {
              thread = old.thread;
              iteration = old.iteration;
              place = old.place;
              kind = kind_of action (value_found action (words_with ws (take n old.buffer.entries))
                  (drop n old.buffer.entries));
            } ∷ []) count_due;
      }
