-- The loop of a replay: what it keeps, what it gives the thread whose turn it is, and what it has come to at its end.
use Rattle.std.proofs.Common.{◌≡◌, ◌∙◌, sym, ap, subst, ℕ, ◌+◌, ◌<◌, ◌≤◌, Bool, false, None, Some, List, length, length-set, set, get_or, arith}
use Rattle.std.specs.Prelude.{slice_index_or}
use Rattle.std.proofs.lemmas.List.{get_or_default}
use Rattle.tso_machine.specs.Event.{Event}
use Rattle.load_log.specs.Values.{Values}
use Rattle.tso_words.specs.History.{IsFlat}
use Rattle.tso_words.specs.Traces.{Trace}
use Rattle.perp_base.specs.declared.schedule.Schedule.{Schedule}
use Rattle.tso_runs.specs.Merging.{history_of}
use Rattle.tso_runs.specs.Schedule.{IsScheduled, named}
use Rattle.tso_runs.proofs.Scheduled.{each_schedule_has_one_run}
use Rattle.perp_loop.specs.declared.went.Went.{Went}
use Rattle.perp_loop.specs.Crews.{AllFinished, AreLogs, AreWholeFor, HaveValuesOf, Job, Enrolled}
use Rattle.perp_loop.specs.Replaying.{IsAtTurn, SteppedOn, goes_on_after, players_in}
use Rattle.perp_loop.specs.Walking.{owed}
use Rattle.perp_loop.proofs.Crewed.{someone}
use Rattle.perp_loop.proofs.Playing.{Picked, picked, plays_step, room_for, turns_fall, turns_over}
use Rattle.perp_loop.proofs.Replayed.{Ended, IsPlayer, Plays, ended_logs, ended_whole, plays_end}

-- what the loop keeps
pub record Replays (job : Job) (schedule : Schedule) (members : List Enrolled) (playing : List Bool) (from : ℕ)
    (generator : List ℕ) (trace : Trace) (threads : ℕ) : Type 0 where
  pub plays : Plays job schedule members playing from generator trace
  pub flat : IsFlat trace.words trace.history
  pub long : length playing ≡ 8
  pub count : threads ≡ length job.test.bodies
  pub few : length job.test.bodies ≤ 8
  pub one : 1 ≤ job.options.buffer

module _ {job : Job} {schedule : Schedule} {members : List Enrolled} {playing : List Bool} {from : ℕ}
    {generator : List ℕ} {trace : Trace} {threads : ℕ}
    (r : Replays job schedule members playing from generator trace threads) where
  -- A thread is picked.
  module _ (t : ℕ) (is_named : Some t ≡ named schedule r.plays.number from (players_in playing threads)) where
    has_turn : Picked job schedule r.plays.number from playing t
    has_turn = picked job schedule r.plays.number from playing t threads r.count is_named

    pub is_member : t < length members
    is_member = let below = has_turn.below in let count = r.plays.count in omega arith

    pub is_low : t < 8
    is_low = let below = has_turn.below in let few = r.few in omega arith

    module _ (member : Enrolled) (at : member ≡ get_or members t member) where
      same : get_or members t (someone job) ≡ member
      same = get_or_default members t (someone job) member is_member ∙ sym at

      abbrev Plays_as : Enrolled → Type 0
      Plays_as p = IsPlayer job r.plays.state r.plays.run t (r.plays.doing t) (slice_index_or playing t false) p

      player : Plays_as member
      player = subst Plays_as same (r.plays.players t (someone job) has_turn.below)

      -- its member can take a turn
      pub has_no_lane : member.lane ≡ None
      has_no_lane = player.lane

      pub is_thread : member.walker.thread < 8
      is_thread = let thread = player.thread in let low = is_low in omega arith

      pub has_room : owed member.walker + length trace.history ≤ trace.room
      has_room =
          subst (λ (x : Enrolled). owed x.walker + length trace.history ≤ trace.room) same
          (room_for job schedule members playing from generator trace r.plays t has_turn.below)

      module _ (went : Went) (goes : Bool) (told : goes ≡ goes_on_after went) (new : Enrolled) (after : Trace)
          (stepped : SteppedOn went member.walker trace new.walker after) where
        step : SteppedOn went (get_or members t (someone job)).walker trace new.walker after
        step = subst (λ (x : Enrolled). SteppedOn went x.walker trace new.walker after) (sym same) stepped

        -- after its turn fewer are left
        pub fewer_left : turns_over job (set members t new) (set playing t goes) < turns_over job members playing
        fewer_left =
            subst (λ b. turns_over job (set members t new) (set playing t b) < turns_over job members playing)
            (sym told)
            (turns_fall job members playing t new trace after went r.plays.count has_turn.below r.few r.long
            has_turn.flag step)

        -- and the loop keeps what it kept
        pub replays_on : (generator' : List ℕ) → IsAtTurn schedule (r.plays.number + 1) generator' → new.lane ≡ None
            → IsFlat after.words after.history
            → Replays job schedule (set members t new) (set playing t goes) (t + 1) generator' after threads
        replays_on generator' at_turn lane flat = record {
          plays =
              subst (λ b. Plays job schedule (set members t new) (set playing t b) (t + 1) generator' after) (sym told)
              (plays_step job schedule members playing from generator generator' trace after r.plays r.one t
              has_turn.below
              r.few r.long has_turn.flag has_turn.is_named new lane at_turn went step flat);
          flat = flat;
          long = length-set playing t goes ∙ r.long;
          count = r.count;
          few = r.few;
          one = r.one;
        }

  -- No thread is picked.
  abbrev pub IsIdle : Type 0
  IsIdle = None ≡ named schedule r.plays.number from (players_in playing threads)

  module _ (idle : IsIdle) where
    ended : Ended job schedule members trace r.plays.run
    ended =
        plays_end job schedule members playing from generator trace r.plays
        (ap (λ n. named schedule r.plays.number from (players_in playing n)) (sym r.count) ∙ sym idle)

    pub all_finished : AllFinished members
    all_finished = let count = r.plays.count in λ k d lt. ended.finished k d (omega arith)

    module _ (logs : List Values) (of_walkers : AreLogs members logs) where
      -- the turns so far are the run of the schedule
      pub run_made : (run : List Event) × IsScheduled job.test job.options schedule run
          × (trace.history ≡ history_of job.test run) × HaveValuesOf job.test run logs
      run_made = (
        r.plays.run,
        ended.scheduled,
        ended.history,
        ended_logs job schedule members trace r.plays.run ended r.plays.count logs of_walkers,
      )

      -- of which there is one
      pub each_run : (run : List Event) → IsScheduled job.test job.options schedule run
          → (trace.history ≡ history_of job.test run) × HaveValuesOf job.test run logs
      each_run run scheduled =
          let one = each_schedule_has_one_run job.test job.options schedule r.one in
          let same_run : run_made.0 ≡ run = one.2 run_made.0 run_made.1 ∙ sym (one.2 run scheduled) in
          subst (λ (x : List Event). (trace.history ≡ history_of job.test x) × HaveValuesOf job.test x logs) same_run
          (run_made.2, run_made.3)

      pub whole_logs : AreWholeFor job.test job.options.iterations logs
      whole_logs = ended_whole job schedule members trace r.plays.run ended r.plays.count logs of_walkers
