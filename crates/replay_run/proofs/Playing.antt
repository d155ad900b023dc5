-- Turns of players, one after another, are the run of the schedule. The events so far, in front of any turns that
-- continue from the state, lead from the start.
use Rattle.std.proofs.Common.{◌≡◌, ◌∙◌, refl, sym, ap, subst, ⊎_elim, ℕ, ◌+◌, ◌<◌, ◌≤◌, Bool, true, false, is_some, Option, None, Some, List, [], ◌∷◌, ◌++◌, length, length-set, map, drop, set, get_or, get_or-set_same, get_or-set_other, arith, append_assoc, append-nil}
use Rattle.std.specs.Prelude.{slice_index_or}
use Rattle.std.specs.List.{range_with_len}
use Rattle.std.proofs.lemmas.Bool.{cases_eq}
use Rattle.x86_subset.specs.Test.{LitmusTest, body_of}
use Rattle.perp_base.proofs.Lists.{filter_same}
use Rattle.perp_base.specs.declared.options.Options.{Options}
use Rattle.perp_base.specs.declared.schedule.Schedule.{Schedule}
use Rattle.tso_machine.specs.Event.{Event}
use Rattle.tso_machine.specs.Machine.{State, after_all, initial, updated}
use Rattle.tso_machine.specs.Part.{slots_of_loop}
use Rattle.tso_words.proofs.Eight.{below_eight}
use Rattle.store_buffer.specs.declared.entry.Entry.{Entry}
use Rattle.tso_runs.specs.Schedule.{IsScheduled, named}
use Rattle.tso_runs.specs.Turns.{joined}
use Rattle.tso_runs.proofs.Events.{updated-other, updated-same}
use Rattle.tso_runs.proofs.Memories.{AreSame, same_zeros}
use Rattle.tso_runs.proofs.Scheduled.{Continues, Ends, IsGood, at_end, buffer_then, continues, ends_here, front, good_then, next, scheduled_by, start, start_good, started, turn_of}
use Rattle.tso_runs.proofs.ThreadsLeft.{live, named_some, range_each}
use Rattle.tso_runs.proofs.Turns.{AreOf, Doing, buffers_other, next_by, turn_by}
use Rattle.tso_runs.specs.Own.{buffer_after}
use Rattle.perp_loop.specs.Actions.{write_from}
use Rattle.perp_loop.specs.Replaying.{IsAtTurn, players_in}
use Rattle.run_judge.specs.Judgement.{event_of}
use Rattle.run_judge.specs.declared.event.RunEvent.{RunEvent}
use Rattle.replay_run.specs.declared.player.Player.{Player}
use Rattle.replay_run.specs.Players.{IsFresh, IsSound}
use Rattle.replay_run.proofs.Turned.{IsTurn, todo_by}

abbrev pub no_player : Player
no_player = record {
  thread = 0;
  iteration = 0;
  place = 0;
  drains = record { seed = 0; thread = 0; rate = 0; taken = 0 };
  buffer = record { capacity = 0; entries = [] };
}

-- what a player that has turns left is to do; one without has nothing to do
abbrev pub TodoOf : Bool → Option Doing → Doing → Type 0
TodoOf true o d = o ≡ Some d
TodoOf false o d = o ≡ None

pub record IsPlayer (test : LitmusTest) (options : Options) (s : State) (t : ℕ) (o : Option Doing) (playing : Bool)
    (p : Player) : Type 0 where
  pub sound : IsSound test options t p
  pub buffer : s.buffer t ≡ map write_from p.buffer.entries
  pub todo : TodoOf playing o (todo_by test options p)

todo_some : (b : Bool) (o : Option Doing) (d : Doing) → TodoOf b o d → is_some o ≡ b
todo_some true o d h = ap is_some h
todo_some false o d h = ap is_some h

pub todo_of : (b : Bool) (o : Option Doing) (d : Doing) → b ≡ true → TodoOf b o d → o ≡ Some d
todo_of true o d h t = t
todo_of false o d h t = cc

module _ (test : LitmusTest) (options : Options) (schedule : Schedule) where
  abbrev pub threads : ℕ
  threads = length test.bodies

  -- what players have come to
  pub record Plays (players : List Player) (playing : List Bool) (from : ℕ) (generator : List ℕ) (words : List ℕ)
      (events : List RunEvent) : Type 0 where
    pub number : ℕ
    pub doing : ℕ → Option Doing
    pub state : State
    pub good : IsGood test options schedule state doing
    pub count : length players ≡ threads
    pub each : (t : ℕ) (d : Player) → t < threads
        → IsPlayer test options state t (doing t) (slice_index_or playing t false) (slice_index_or players t d)
    pub memory : AreSame words state.memory
    pub at : IsAtTurn schedule number generator
    pub leads : (turns : List (List Event)) → Continues test options schedule state doing number from turns
        → Ends test options schedule state turns
        → (all : List (List Event)) × Continues test options schedule initial (start test options schedule) 0 0 all
        × Ends test options schedule initial all × (joined all ≡ map event_of events ++ joined turns)

  -- the threads that have turns left are those that play
  pub live_are : (players : List Player) (playing : List Bool) (from : ℕ) (generator : List ℕ) (words : List ℕ)
      (events : List RunEvent) (p : Plays players playing from generator words events)
      → players_in playing threads ≡ live threads p.doing
  live_are players playing from generator words events p =
      filter_same (λ t. slice_index_or playing t false) (λ t. is_some (p.doing t)) (range_with_len 0 threads)
      (range_each (λ t. slice_index_or playing t false ≡ is_some (p.doing t)) 0 threads
      (λ t a b. let q = p.each t no_player (omega arith) in
      sym (todo_some (slice_index_or playing t false) (p.doing t) (todo_by test options (get_or players t no_player))
      q.todo)))

  -- one more turn
  module _ (players : List Player) (playing : List Bool) (from : ℕ) (generator generator' : List ℕ)
      (words words' : List ℕ) (events events' : List RunEvent) (p : Plays players playing from generator words events)
      (one : 1 ≤ options.buffer) (t : ℕ) (d : Doing) (below : t < threads) (does : p.doing t ≡ Some d)
      (is_named : named schedule p.number from (live threads p.doing) ≡ Some t) (entries : List Entry)
      (buffer : p.state.buffer t ≡ map write_from entries) (new : Player) (sound : IsSound test options t new)
      (todo : Option Doing)
      (is : IsTurn test options t p.state d.slots d.made entries events events' words' new.buffer.entries todo)
      (goes : Bool) (to_do : TodoOf goes todo (todo_by test options new)) (within : t < length playing)
      (at : IsAtTurn schedule (p.number + 1) generator') where
    abbrev turn : List Event
    turn = turn_of test options schedule p.state t d

    abbrev then : State
    then = after_all test p.state turn

    abbrev doing_then : ℕ → Option Doing
    doing_then = updated p.doing t (next test options schedule p.state t d)

    abbrev by_entries : List Event
    by_entries = turn_by test options t p.state d.slots d.made (map write_from entries)

    same_turn : by_entries ≡ turn
    same_turn = ap (turn_by test options t p.state d.slots d.made) (sym buffer)

    own : AreOf t turn
    own = (front test options schedule one p.state p.doing p.good t d below does).own

    told : map event_of events' ≡ map event_of events ++ turn
    told = is.events ∙ ap (λ l. map event_of events ++ l) same_turn

    here : IsPlayer test options then t
        (doing_then t) goes new
    here = record {
      sound = sound;
      buffer =
          buffer_then test options schedule one p.state p.doing p.good t d below does
          ∙ (λ i. buffer_after test (buffer i) (sym same_turn i)) ∙ sym is.buffer;
      todo =
          subst (λ o. TodoOf goes o (todo_by test options new))
          (sym (updated-same p.doing t (next test options schedule p.state t d) t refl
          ∙ ap (next_by test options t d.slots d.made) buffer ∙ is.next)) to_do;
    }

    there : (u : ℕ) (k : Player) → u < threads → (t ≡ u → ⊥) → IsPlayer test options
        then u
        (doing_then u) (slice_index_or playing u false)
        (slice_index_or players u k)
    there u k lt isnt =
        let q = p.each u k lt in
        record {
          sound = q.sound;
          buffer = buffers_other test p.state t u turn own isnt ∙ q.buffer;
          todo =
              subst (λ o. TodoOf (slice_index_or playing u false) o (todo_by test options (get_or players u k)))
              (sym (updated-other p.doing t (next test options schedule p.state t d) u isnt)) q.todo;
        }

    pub plays_turn : Plays (set players t new) (set playing t goes) (t + 1) generator' words' events'
    plays_turn = record {
      number = p.number + 1;
      doing = doing_then;
      state = then;
      good = good_then test options schedule one p.state p.doing p.good t d below does;
      count = length-set players t new ∙ p.count;
      each = λ u k lt.
          ⊎_elim
          (λ here_is.
          subst (λ (v : ℕ). IsPlayer test options
          then v
          (doing_then v) (get_or (set playing t goes) v false)
          (get_or (set players t new) v k)) here_is
          (let n = p.count in
          subst (λ b. IsPlayer test options then t
          (doing_then t) b (get_or (set players t new) t k))
          (sym (get_or-set_same playing t goes false within))
          (subst (IsPlayer test options then t
          (doing_then t) goes)
          (sym (get_or-set_same players t new k (omega arith))) here)))
          (λ isnt.
          subst (λ b. IsPlayer test options then u
          (doing_then u) b (get_or (set players t new) u k))
          (sym (get_or-set_other playing t u goes false (λ e. isnt (sym e))))
          (subst (IsPlayer test options then u
          (doing_then u) (get_or playing u false))
          (sym (get_or-set_other players t u new k (λ e. isnt (sym e)))) (there u k lt isnt)))
          (cases_eq t u);
      memory = subst (λ l. AreSame words' (after_all test p.state l).memory) same_turn is.words;
      at = at;
      leads = λ turns later ends.
          let more =
          p.leads (turn ∷ turns)
          (continues test options schedule one p.state p.doing p.good t d below does p.number from is_named turns later
          ends)
          (ends_here test options schedule one p.state p.doing p.good t d below does p.number from is_named turns later
          ends)
          in (
            more.0,
            more.1,
            more.2,
            more.3 ∙ sym (append_assoc (map event_of events) turn
                (joined turns)) ∙ ap (λ l. l ++ joined turns) (sym told),
          );
    }

  -- at the end
  named_ends : (i from : ℕ) (ts : List ℕ) → named schedule i from ts ≡ None → ts ≡ []
  named_ends i from [] none = refl
  named_ends i from (x ∷ xs) none =
      let some = named_some schedule i from x xs in
      let e : None ≡ Some some.0 = sym none ∙ some.1 in
      cc

  pub plays_end : (players : List Player) (playing : List Bool) (from : ℕ) (generator : List ℕ) (words : List ℕ)
      (events : List RunEvent) (p : Plays players playing from generator words events)
      → named schedule p.number from (players_in playing threads) ≡ None
      → IsScheduled test options schedule (map event_of events)
  plays_end players playing from generator words events p none =
      let idle : live threads p.doing ≡ [] = sym (live_are players playing from generator words events p)
      ∙ named_ends p.number from (players_in playing threads) none in
      let end = at_end test options schedule p.state p.doing p.number from p.good idle in
      let all = p.leads [] end.0 end.1 in
      subst (IsScheduled test options schedule) (all.3 ∙ append-nil (map event_of events))
      (scheduled_by test options schedule all.0 all.1 all.2)

  -- the start
  abbrev pub all_play : List Bool
  all_play = true ∷ true ∷ true ∷ true ∷ true ∷ true ∷ true ∷ true ∷ []

  abbrev pub zero_words : List ℕ
  zero_words = 0 ∷ 0 ∷ 0 ∷ 0 ∷ 0 ∷ 0 ∷ 0 ∷ 0 ∷ 0 ∷ 0 ∷ 0 ∷ 0 ∷ 0 ∷ 0 ∷ 0 ∷ 0 ∷ []

  all_true : (t : ℕ) → t < 8 → get_or all_play t false ≡ true
  all_true t l =
      below_eight (λ t. get_or all_play t false ≡ true) (refl, refl, refl, refl, refl, refl, refl, refl) t l

  start_player : (t : ℕ) (p : Player) → t < threads → t < 8 → IsFresh test options t p
      → IsPlayer test options initial t (start test options schedule t) (get_or all_play t false) p
  start_player t p lt low fresh =
      let thread = fresh.sound.thread in
      let same : ◌≡◌ {A = Doing}
      (record { slots = slots_of_loop (body_of test t) options.iterations; made = 0 }) (todo_by test options p) =
      (λ i. record {
        slots = drop (sym fresh.made i) (slots_of_loop (body_of test (sym thread i)) options.iterations);
        made = sym fresh.made i;
      })
      in
      record {
        sound = fresh.sound;
        buffer = sym (ap (map write_from) fresh.buffer);
        todo =
            subst (λ b. TodoOf b (start test options schedule t) (todo_by test options p)) (sym (all_true t low))
            (started test options schedule t lt ∙ ap (λ d. Some d) same);
      }

  pub plays_start : (players : List Player) (generator : List ℕ) → length players ≡ threads → threads ≤ 8
      → ((t : ℕ) (d : Player) → t < length players → IsFresh test options t (slice_index_or players t d))
      → IsAtTurn schedule 0 generator → Plays players all_play 0 generator zero_words []
  plays_start players generator count few fresh at = record {
    number = 0;
    doing = start test options schedule;
    state = initial;
    good = start_good test options schedule;
    count = count;
    each = λ t d lt. start_player t (get_or players t d) lt (omega arith) (fresh t d (omega arith));
    memory = same_zeros;
    at = at;
    leads = λ turns c e. (turns, c, e, refl);
  }
