-- The loop of turns: what it keeps, what it gives the thread whose turn it is, and what it has come to at its end.
use Rattle.std.proofs.Common.{◌≡◌, ◌∙◌, refl, sym, ap, subst, inl, inr, ℕ, ◌+◌, ◌*◌, ◌<◌, ◌≤◌, Bool, true, false, cond, Option, None, Some, List, length, length-drop, length-set, set, map, drop, get_or, get_or-set_same, get_or-set_other, arith}
use Rattle.std.specs.Prelude.{slice_index_or}
use Rattle.std.specs.List.{AllByRecursion as Each}
use Rattle.std.proofs.lemmas.List.{get_or_default}
use Rattle.x86_subset.specs.Shape.{IsTest}
use Rattle.x86_subset.specs.Test.{LitmusTest, body_of}
use Rattle.seq_conv.specs.Numbers.{AreOf, Table, value_at}
use Rattle.tso_machine.specs.Event.{Event}
use Rattle.tso_machine.specs.Part.{slots_of_loop}
use Rattle.perp_base.specs.declared.options.Options.{Options}
use Rattle.perp_base.specs.declared.schedule.Schedule.{Schedule}
use Rattle.tso_runs.specs.Own.{IsWriteOf}
use Rattle.tso_runs.specs.Schedule.{IsScheduled, named}
use Rattle.tso_runs.proofs.Fitting.{scheduled_run}
use Rattle.tso_runs.proofs.Scheduled.{each_schedule_has_one_run}
use Rattle.tso_runs.proofs.ThreadsLeft.{live}
use Rattle.tso_runs.proofs.Turns.{Doing}
use Rattle.perp_loop.specs.Actions.{due_before, write_from}
use Rattle.perp_loop.specs.Crews.{Job}
use Rattle.perp_loop.specs.Replaying.{IsAtTurn, goes_on_after, players_in, sum_below}
use Rattle.perp_loop.specs.declared.went.Went.{Went}
use Rattle.perp_loop.specs.declared.went.Went.TheVariants.{Action, Finished}
use Rattle.perp_loop.proofs.Acted.{weight_of_action}
use Rattle.perp_loop.proofs.Playing.{Picked, picked}
use Rattle.perp_loop.proofs.Replayed.{sum_swap}
use Rattle.perp_loop.proofs.Slots.{left_at}
use Rattle.run_judge.specs.Judgement.{event_of, judgement_of}
use Rattle.run_judge.specs.declared.judgement.Judgement.TheVariants.{Legal}
use Rattle.run_judge.proofs.Judged.{legal_is_run_lem}
use Rattle.run_judge.specs.declared.event.RunEvent.{RunEvent}
use Rattle.replay_run.specs.declared.player.Player.{Player}
use Rattle.replay_run.specs.Players.{IsSound, made_by}
use Rattle.replay_run.specs.Turns.{DrainsOne, MakesAction, Took, left_before, asks_now}
use Rattle.replay_run.proofs.Playing.{IsPlayer, Plays, TodoOf, live_are, no_player, plays_end, plays_turn, todo_of}
use Rattle.replay_run.proofs.Turned.{IsTurn, action_is_turn, drain_is_turn, nothing_is_turn, slots_by, todo_by}

-- How much is left.

-- what a player has left at most
abbrev pub weight_of : LitmusTest → Options → Player → ℕ
weight_of test options p = 2 * length (slots_by test options p) + length p.buffer.entries

-- a number that falls with each turn
abbrev pub turns_over : LitmusTest → Options → List Player → List Bool → ℕ
turns_over test options players playing =
    sum_below 8 (λ t. cond (slice_index_or playing t false) 1 0)
    + sum_below (length test.bodies) (λ t. weight_of test options (get_or players t no_player))

module _ (test : LitmusTest) (table : Table) (options : Options) (old new : Player) (words words' : List ℕ)
    (events events' : List RunEvent) where
  action_falls : MakesAction test table options old words events new words' events' → new.thread ≡ old.thread
      → 1 + weight_of test options new < 1 + weight_of test options old
  action_falls m thread =
      let left = left_at (body_of test old.thread) options.iterations old.iteration old.place m.action m.below m.at in
      let rest : drop (made_by test old + 1) (slots_of_loop (body_of test old.thread) options.iterations)
      ≡ slots_by test options new =
      (λ i. drop (sym m.made i) (slots_of_loop (body_of test (sym thread i)) options.iterations)) in
      let kept = weight_of_action m.action (value_at table old.thread old.place old.iteration) 0 old.iteration old.place
      (left_before test options old m.action) in
      let fewer = length-drop (due_before m.action (asks_now test options old) old.buffer) old.buffer.entries in
      omega (arith, ap length left, ap length rest, ap length m.buffer, kept)

  drain_falls : DrainsOne test options old words events new words' events' → new.thread ≡ old.thread
      → 1 + weight_of test options new < 1 + weight_of test options old
  drain_falls d thread =
      let rest : slots_by test options old ≡ slots_by test options new =
      (λ i. drop (sym d.made i) (slots_of_loop (body_of test (sym thread i)) options.iterations)) in
      let some = d.some in
      omega (arith, ap length rest, ap length d.buffer, length-drop 1 old.buffer.entries)

  turn_falls : (went : Went) → Took went test table options old words events new words' events'
      → new.thread ≡ old.thread
      → cond (goes_on_after went) 1 0 + weight_of test options new < 1 + weight_of test options old
  turn_falls Action (inl m) thread = action_falls m thread
  turn_falls Action (inr d) thread = drain_falls d thread
  turn_falls Finished h thread = let e = ap (weight_of test options) h.same in omega (arith, e)

pub turns_fall : (test : LitmusTest) (table : Table) (options : Options) (players : List Player)
    (playing : List Bool) (t : ℕ) (new : Player) (words words' : List ℕ) (events events' : List RunEvent) (went : Went)
    → length players ≡ length test.bodies → t < length test.bodies → length test.bodies ≤ 8 → length playing ≡ 8
    → slice_index_or playing t false ≡ true
    → Took went test table options (get_or players t no_player) words events new words' events'
    → new.thread ≡ (get_or players t no_player).thread
    → turns_over test options (set players t new) (set playing t (goes_on_after went))
    < turns_over test options players playing
turns_fall test table options players playing t new words words' events events' went count below few long flag took thread =
    let b = goes_on_after went in
    let f : ℕ → ℕ = λ u. cond (slice_index_or playing u false) 1 0 in
    let g : ℕ → ℕ = λ u. cond (slice_index_or (set playing t b) u false) 1 0 in
    let flags : sum_below 8 g + f t ≡ sum_below 8 f + g t = sum_swap 8 t f g (omega arith)
    (λ u l isnt. ap (λ c. cond c 1 0) (get_or-set_other playing t u b false (λ e. isnt (sym e)))) in
    let h : ℕ → ℕ = λ u. weight_of test options (get_or players u no_player) in
    let k : ℕ → ℕ = λ u. weight_of test options (get_or (set players t new) u no_player) in
    let others : sum_below (length test.bodies) k + h t ≡ sum_below (length test.bodies) h + k t =
    sum_swap (length test.bodies) t h k below (λ u l isnt. ap (weight_of test options)
    (get_or-set_other players t u new no_player (λ e. isnt (sym e))))
    in
    let was : f t ≡ 1 = ap (λ c. cond c 1 0) flag in
    let is : g t ≡ cond b 1 0 = ap (λ c. cond c 1 0) (get_or-set_same playing t b false (omega arith)) in
    let now : k t ≡ weight_of test options new = ap (weight_of test options)
    (get_or-set_same players t new no_player (omega arith)) in
    let less : cond b 1 0 + weight_of test options new < 1 + h t =
    turn_falls test table options (get_or players t no_player) new words words' events events' went took thread in
    omega (arith, flags, others, was, is, now, less)

-- The loop.

-- what it keeps
pub record Replays (test : LitmusTest) (options : Options) (schedule : Schedule) (players : List Player)
    (playing : List Bool) (from : ℕ) (generator : List ℕ) (words : List ℕ) (events : List RunEvent)
    (threads : ℕ) : Type 0 where
  pub plays : Plays test options schedule players playing from generator words events
  pub long : length playing ≡ 8
  pub count : threads ≡ length test.bodies
  pub few : length test.bodies ≤ 8
  pub one : 1 ≤ options.buffer
  pub sixteen : length words ≡ 16
  pub is_test : IsTest test

module _ {test : LitmusTest} {options : Options} {schedule : Schedule} {players : List Player} {playing : List Bool}
    {from : ℕ} {generator : List ℕ} {words : List ℕ} {events : List RunEvent} {threads : ℕ}
    (r : Replays test options schedule players playing from generator words events threads) (table : Table)
    (numbers : AreOf test table) where
  abbrev job : Job
  job = record { test = test; sequences = table; options = options }

  -- A thread is picked.
  module _ (t : ℕ) (is_named : Some t ≡ named schedule r.plays.number from (players_in playing threads)) where
    has_turn : Picked job schedule r.plays.number from playing t
    has_turn = picked job schedule r.plays.number from playing t threads r.count is_named

    pub is_player : t < length players
    is_player = let below = has_turn.below in let count = r.plays.count in omega arith

    pub is_low : t < 8
    is_low = let below = has_turn.below in let few = r.few in omega arith

    module _ (player : Player) (at : player ≡ get_or players t player) where
      same : get_or players t no_player ≡ player
      same = get_or_default players t no_player player is_player ∙ sym at

      is_one : IsPlayer test options r.plays.state t (r.plays.doing t) (slice_index_or playing t false) player
      is_one =
          subst (IsPlayer test options r.plays.state t (r.plays.doing t) (slice_index_or playing t false)) same
          (r.plays.each t no_player has_turn.below)

      -- what its turn needs
      pub is_sound : IsSound test options player.thread player
      is_sound = subst (λ u. IsSound test options u player) (sym is_one.sound.thread) is_one.sound

      module _ (went : Went) (goes : Bool) (told : goes ≡ goes_on_after went) (new : Player) (words' : List ℕ)
          (events' : List RunEvent) (sound : IsSound test options player.thread new)
          (took : Took went test table options player words events new words' events') where
        thread : new.thread ≡ player.thread
        thread = sound.thread

        -- after its turn fewer are left
        pub fewer_left : turns_over test options (set players t new) (set playing t goes)
            < turns_over test options players playing
        fewer_left =
            subst (λ b. turns_over test options (set players t new) (set playing t b)
            < turns_over test options players playing) (sym told)
            (turns_fall test table options players playing t new words words' events events' went r.plays.count
            has_turn.below r.few r.long has_turn.flag
            (subst (λ p. Took went test table options p words events new words' events') (sym same) took)
            (thread ∙ ap (λ (p : Player). p.thread) (sym same)))

        does : r.plays.doing t ≡ Some (todo_by test options player)
        does = todo_of (slice_index_or playing t false) (r.plays.doing t) (todo_by test options player) has_turn.flag
            is_one.todo

        named_live : named schedule r.plays.number from (live (length test.bodies) r.plays.doing) ≡ Some t
        named_live =
            ap (named schedule r.plays.number from) (sym (live_are test options schedule players playing from generator
            words events r.plays))
            ∙ has_turn.is_named

        buffer_here : r.plays.state.buffer player.thread ≡ map write_from player.buffer.entries
        buffer_here = ap r.plays.state.buffer is_one.sound.thread ∙ is_one.buffer

        own_here : Each (IsWriteOf test player.thread) (map write_from player.buffer.entries)
        own_here = subst (Each (IsWriteOf test player.thread)) buffer_here (r.plays.good.own player.thread)

        stands : player.iteration ≡ options.iterations → player.place ≡ 0
        stands last = is_one.sound.position.last last

        abbrev IsTurnTo : ℕ → Option Doing → Type 0
        IsTurnTo u todo =
            IsTurn test options u r.plays.state (slots_by test options player) (made_by test player)
            player.buffer.entries events events' words' new.buffer.entries todo

        turn_is : (w : Went) → Took w test table options player words events new words' events'
            → (todo : Option Doing) × IsTurnTo player.thread todo
            × TodoOf (goes_on_after w) todo (todo_by test options new)
        turn_is Action (inl m) = (
          Some (todo_by test options new),
          action_is_turn test table options player new words words' events events' r.plays.state numbers r.is_test r.one
              is_one.sound.capacity buffer_here own_here r.plays.memory m thread,
          refl,
        )
        turn_is Action (inr d) = (
          Some (todo_by test options new),
          drain_is_turn test table options player new words words' events events' r.plays.state numbers r.is_test r.one
              is_one.sound.capacity buffer_here own_here r.plays.memory d stands thread,
          refl,
        )
        turn_is Finished h = (
          None,
          nothing_is_turn test table options player new words words' events events' r.plays.state numbers r.is_test
              r.one is_one.sound.capacity buffer_here own_here r.plays.memory h stands,
          refl,
        )

        -- and the loop keeps what it kept
        pub replays_on : (generator' : List ℕ) → IsAtTurn schedule (r.plays.number + 1) generator'
            → length words' ≡ 16
            → Replays test options schedule (set players t new) (set playing t goes) (t + 1) generator' words' events'
            threads
        replays_on generator' at_turn sixteen =
            let turn = turn_is went took in
            let here = subst (λ u. IsTurnTo u turn.0) is_one.sound.thread turn.1 in
            let low = is_low in
            record {
              plays = plays_turn test options schedule players playing from generator generator' words words' events
                  events' r.plays r.one t (todo_by test options player) has_turn.below does named_live
                  player.buffer.entries is_one.buffer new
                  (subst (λ u. IsSound test options u new) is_one.sound.thread sound) turn.0 here goes
                  (subst (λ b. TodoOf b turn.0 (todo_by test options new)) (sym told) turn.2)
                  (let long = r.long in omega arith) at_turn;
              long = length-set playing t goes ∙ r.long;
              count = r.count;
              few = r.few;
              one = r.one;
              sixteen = sixteen;
              is_test = r.is_test;
            }

module _ {test : LitmusTest} {options : Options} {schedule : Schedule} {players : List Player} {playing : List Bool}
    {from : ℕ} {generator : List ℕ} {words : List ℕ} {events : List RunEvent} {threads : ℕ}
    (r : Replays test options schedule players playing from generator words events threads) where
  -- No thread is picked.
  abbrev pub IsIdle : Type 0
  IsIdle = None ≡ named schedule r.plays.number from (players_in playing threads)

  module _ (idle : IsIdle) where
    -- the events so far are the run of the schedule
    pub run_made : IsScheduled test options schedule (map event_of events)
    run_made =
        plays_end test options schedule players playing from generator words events r.plays
        (ap (λ n. named schedule r.plays.number from (players_in playing n)) (sym r.count) ∙ sym idle)

    -- of which there is one
    pub only_run : (run : List Event) → IsScheduled test options schedule run → run ≡ map event_of events
    only_run run scheduled =
        let one = each_schedule_has_one_run test options schedule r.one in
        one.2 run scheduled ∙ sym (one.2 (map event_of events) run_made)

    -- which the judge calls legal
    pub is_legal : judgement_of test options.iterations (map event_of events) ≡ Legal
    is_legal =
        (legal_is_run_lem test options.iterations (map event_of events)).1
        (scheduled_run test options schedule (map event_of events) run_made)
