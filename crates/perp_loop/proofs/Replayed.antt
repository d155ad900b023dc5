-- Turns of walkers on a stored history, one after another, are the run of the schedule. The turns so far, in front of
-- any that continue from the state, lead from the start.
use Rattle.std.proofs.Common.{◌≡◌, ◌∙◌, refl, sym, ap, subst, ⊎_elim, ℕ, zero, suc, ◌+◌, ◌<◌, ◌≤◌, ◌==◌, Bool, true, false, is_some, Option, None, Some, List, [], ◌∷◌, ◌++◌, length, length-set, set, get_or, get_or-set_same, get_or-set_other, filter, arith, append_assoc, append-nil}
use Rattle.std.specs.Prelude.{slice_index_or}
use Rattle.std.specs.List.{filter_map, range_with_len}
use Rattle.std.proofs.lemmas.Bool.{cases_eq}
use Rattle.std.proofs.lemmas.List.Elements.{filter-append, filter_map-append}
use Rattle.x86_subset.specs.Test.{LitmusTest}
use Rattle.tso_machine.specs.Event.{Event}
use Rattle.tso_machine.specs.Log.{log_of, value_read}
use Rattle.tso_machine.specs.Machine.{State, after_all, initial, updated}
use Rattle.tso_machine.specs.Part.{part_of}
use Rattle.perp_base.proofs.Lists.{filter_same}
use Rattle.load_log.specs.Values.{Values}
use Rattle.tso_words.specs.Traces.{Trace}
use Rattle.perp_base.specs.declared.options.Options.{Options}
use Rattle.perp_base.specs.declared.schedule.Schedule.{Schedule}
use Rattle.perp_loop.specs.Crews.{AreLogs, HaveValuesOf, AreWholeFor, IsSameWalker, Job, Enrolled}
use Rattle.perp_loop.specs.Replaying.{IsAtTurn, sum_below}
use Rattle.tso_runs.specs.Schedule.{IsScheduled, named}
use Rattle.tso_runs.specs.Turns.{joined}
use Rattle.tso_runs.specs.SharedSteps.{shared_history}
use Rattle.perp_loop.specs.Walking.{IsFinished, Walking, owed, slots_left}
use Rattle.perp_loop.proofs.Crewed.{HasRead, someone, values_of_run, whole_of_run}
use Rattle.tso_runs.proofs.Events.{updated-other, updated-same}
use Rattle.tso_runs.proofs.Fitting.{scheduled_run}
use Rattle.perp_loop.proofs.Played.{shared_history-append}
use Rattle.tso_runs.proofs.Scheduled.{Continues, Ends, IsGood, all_none, at_end, buffer_then, continues, ends_here, front, good_then, next, scheduled_by, start, turn_of}
use Rattle.tso_runs.proofs.ThreadsLeft.{after_all-append, live, named_some, part_other, part_own, range_each}
use Rattle.tso_runs.specs.Own.{buffer_after}
use Rattle.tso_runs.proofs.Turns.{AreOf, Doing, buffers_other}

-- Sums.

pub sum_same : (n : ℕ) (f g : ℕ → ℕ) → ((u : ℕ) → u < n → f u ≡ g u) → sum_below n f ≡ sum_below n g
sum_same zero f g h = refl
sum_same (suc n) f g h = let a = h n (omega arith) in let b = sum_same n f g (λ u l. h u (omega arith)) in omega arith

pub sum_swap : (n t : ℕ) (f g : ℕ → ℕ) → t < n → ((u : ℕ) → u < n → (t ≡ u → ⊥) → g u ≡ f u)
    → sum_below n g + f t ≡ sum_below n f + g t
sum_swap zero t f g l same = absurd (omega arith)
sum_swap (suc n) t f g l same =
    ⊎_elim
    (λ is.
    let fs : f t ≡ f n = ap f is in
    let gs : g t ≡ g n = ap g is in
    let rest = sum_same n g f (λ u k. same u (omega arith) (λ e. omega arith)) in
    omega arith)
    (λ isnt.
    let other = same n (omega arith) isnt in
    let rest = sum_swap n t f g (omega arith) (λ u k ne. same u (omega arith) ne) in
    omega arith)
    (cases_eq t n)

-- Logs.

part_back : (t : ℕ) (run turn : List Event) → AreOf t turn → part_of t (run ++ turn) ≡ part_of t run ++ turn
part_back t run turn own =
    filter-append (λ (e : Event). e.thread == t) run turn
    ∙ ap (λ l. part_of t run ++ l) (ap (part_of t) (sym (append-nil turn)) ∙ part_own t turn [] own ∙ append-nil turn)

part_back_other : (t u : ℕ) (run turn : List Event) → AreOf t turn → (t ≡ u → ⊥)
    → part_of u (run ++ turn) ≡ part_of u run
part_back_other t u run turn own isnt =
    filter-append (λ (e : Event). e.thread == u) run turn
    ∙ ap (λ l. part_of u run ++ l) (ap (part_of u) (sym (append-nil turn)) ∙ part_other t u turn [] own isnt)
    ∙ append-nil (part_of u run)

-- Walkers.

abbrev pub walker_at : Job → List Enrolled → ℕ → Walking
walker_at job members t = (get_or members t (someone job)).walker

-- what a walker that has turns left is to do, and that one without has finished
abbrev pub TodoOf : Bool → Option Doing → Walking → Type 0
TodoOf true o w = o ≡ Some (record { slots = slots_left w; made = w.made })
TodoOf false o w = (o ≡ None) × IsFinished w

pub record IsPlayer (job : Job) (s : State) (run : List Event) (t : ℕ) (o : Option Doing) (playing : Bool)
    (p : Enrolled) : Type 0 where
  pub lane : p.lane ≡ None
  pub test : p.walker.test ≡ job.test
  pub options : p.walker.options ≡ job.options
  pub thread : p.walker.thread ≡ t
  pub buffer : s.buffer t ≡ p.walker.buffer
  pub log : p.walker.log ≡ log_of t run
  pub todo : TodoOf playing o p.walker

todo_some : (b : Bool) (o : Option Doing) (w : Walking) → TodoOf b o w → is_some o ≡ b
todo_some true o w h = ap is_some h
todo_some false o w h = ap is_some h.0

todo_end : (b : Bool) (o : Option Doing) (w : Walking) → TodoOf b o w → o ≡ None → IsFinished w
todo_end true o w h none =
    let e : ◌≡◌ {A = Option Doing} None (Some (record { slots = slots_left w; made = w.made })) = sym none ∙ h in
    absurd (cc)
todo_end false o w h none = h.1

pub todo_of : (b : Bool) (o : Option Doing) (w : Walking) → b ≡ true → TodoOf b o w
    → o ≡ Some (record { slots = slots_left w; made = w.made })
todo_of true o w h t = t
todo_of false o w h t = cc

module _ (job : Job) (schedule : Schedule) where
  abbrev pub threads : ℕ
  threads = length job.test.bodies

  -- what walkers have come to
  pub record Plays (members : List Enrolled) (playing : List Bool) (from : ℕ) (generator : List ℕ)
      (trace : Trace) : Type 0 where
    pub run : List Event
    pub number : ℕ
    pub doing : ℕ → Option Doing
    pub state : State
    pub good : IsGood job.test job.options schedule state doing
    pub is_state : state ≡ after_all job.test initial run
    pub count : length members ≡ threads
    pub players : (t : ℕ) (d : Enrolled) → t < threads
        → IsPlayer job state run t (doing t) (slice_index_or playing t false) (slice_index_or members t d)
    pub history : trace.history ≡ shared_history job.test initial run
    pub at : IsAtTurn schedule number generator
    pub leads : (turns : List (List Event)) → Continues job.test job.options schedule state doing number from turns
        → Ends job.test job.options schedule state turns
        → (all : List (List Event)) × Continues job.test job.options schedule initial
        (start job.test job.options schedule) 0 0 all × Ends job.test job.options schedule initial all
        × (joined all ≡ run ++ joined turns)
    pub room : sum_below threads (λ t. owed (walker_at job members t)) + length trace.history ≤ trace.room

  -- the threads that have turns left are those that play
  pub live_are : (members : List Enrolled) (playing : List Bool) (from : ℕ) (generator : List ℕ) (trace : Trace)
      (p : Plays members playing from generator trace)
      → filter (λ t. slice_index_or playing t false) (range_with_len 0 threads) ≡ live threads p.doing
  live_are members playing from generator trace p =
      filter_same (λ t. slice_index_or playing t false) (λ t. is_some (p.doing t)) (range_with_len 0 threads)
      (range_each (λ t. slice_index_or playing t false ≡ is_some (p.doing t)) 0 threads
      (λ t a b. let q = p.players t (someone job) (omega arith) in
      sym (todo_some (slice_index_or playing t false) (p.doing t) (walker_at job members t) q.todo)))

  -- one more turn
  pub plays_turn : (members members' : List Enrolled) (playing playing' : List Bool) (from : ℕ)
      (generator generator' : List ℕ) (trace trace' : Trace)
      (p : Plays members playing from generator trace) (one : 1 ≤ job.options.buffer) (t : ℕ) (d : Doing)
      (below : t < threads) (does : p.doing t ≡ Some d)
      → named schedule p.number from (live threads p.doing) ≡ Some t
      → (turn : List Event) → turn ≡ turn_of job.test job.options schedule p.state t d
      → (new : Enrolled) → members' ≡ set members t new
      → ((u : ℕ) → (t ≡ u → ⊥) → slice_index_or playing' u false ≡ slice_index_or playing u false)
      → new.lane ≡ None → IsSameWalker (walker_at job members t) new.walker
      → new.walker.buffer ≡ buffer_after job.test (p.state.buffer t) turn
      → new.walker.log ≡ (walker_at job members t).log ++ filter_map value_read turn
      → trace'.history ≡ trace.history ++ shared_history job.test p.state turn
      → TodoOf (slice_index_or playing' t false) (next job.test job.options schedule p.state t d) new.walker
      → owed new.walker + length trace'.history ≤ owed (walker_at job members t) + length trace.history
      → trace'.room ≡ trace.room
      → IsAtTurn schedule (p.number + 1) generator'
      → Plays members' playing' (t + 1) generator' trace'
  plays_turn members members' playing playing' from generator generator' trace trace' p one t d below does is_named turn is new placed flags lane same buffer log history todo less rooms at =
      record {
        run = run;
        number = p.number + 1;
        doing = doing;
        state = state;
        good = good_then test options schedule one p.state p.doing p.good t d below does;
        is_state = ap (λ s. after_all test s tn) p.is_state ∙ sym (after_all-append test initial p.run tn);
        count = ap length placed ∙ length-set members t new ∙ p.count;
        players = λ u k lt.
            ⊎_elim
            (λ here. subst (λ (v : ℕ). IsPlayer job state run v (doing v) (slice_index_or playing' v false)
            (get_or members' v k)) here (mine k))
            (λ isnt. other u k lt isnt)
            (cases_eq t u);
        history =
            history ∙ ap (λ h. h ++ shared_history test p.state turn) p.history
            ∙ ap (λ e. shared_history test initial p.run ++ shared_history test p.state e) is
            ∙ ap (λ s. shared_history test initial p.run ++ shared_history test s tn) p.is_state
            ∙ sym (shared_history-append test initial p.run tn);
        at = at;
        leads = λ turns later ends.
            let more =
            p.leads (tn ∷ turns) (continues test options schedule one p.state p.doing p.good t d below does p.number from
            is_named turns later ends)
            (ends_here test options schedule one p.state p.doing p.good t d below does p.number from is_named turns later
            ends)
            in (more.0, more.1, more.2, more.3 ∙ sym (append_assoc p.run tn (joined turns)));
        room =
            let f : ℕ → ℕ = λ u. owed (walker_at job members u) in
            let g : ℕ → ℕ = λ u. owed (walker_at job members' u) in
            let swapped : sum_below threads g + f t ≡ sum_below threads f + g t =
            sum_swap threads t f g below (λ u lt isnt. ap (λ (q : Enrolled). owed q.walker)
            (member_other u (someone job) isnt)) in
            let gt : g t ≡ owed new.walker = ap (λ (q : Enrolled). owed q.walker) (member_here (someone job)) in
            let was = p.room in
            omega (arith, swapped, gt, was, less, rooms);
      }
    where
      test : LitmusTest
      test = job.test

      options : Options
      options = job.options

      tn : List Event
      tn = turn_of test options schedule p.state t d

      run : List Event
      run = p.run ++ tn

      state : State
      state = after_all test p.state tn

      doing : ℕ → Option Doing
      doing = updated p.doing t (next test options schedule p.state t d)

      own : AreOf t tn
      own = (front test options schedule one p.state p.doing p.good t d below does).own

      within : t < length members
      within = let n = p.count in omega arith

      member_here : (k : Enrolled) → get_or members' t k ≡ new
      member_here k = ap (λ ps. get_or ps t k) placed ∙ get_or-set_same members t new k within

      member_other : (u : ℕ) (k : Enrolled) → (t ≡ u → ⊥) → get_or members' u k ≡ get_or members u k
      member_other u k isnt = ap (λ ps. get_or ps u k) placed ∙ get_or-set_other members t u new k (λ e. isnt (sym e))

      old : IsPlayer job p.state p.run t (p.doing t) (slice_index_or playing t false) (get_or members t (someone job))
      old = p.players t (someone job) below

      mine : (k : Enrolled) → IsPlayer job state run t (doing t) (slice_index_or playing' t false) (get_or members' t k)
      mine k =
          subst (IsPlayer job state run t (doing t) (slice_index_or playing' t false)) (sym (member_here k)) (record {
            lane = lane;
            test = same.test ∙ old.test;
            options = same.options ∙ old.options;
            thread = same.thread ∙ old.thread;
            buffer =
                buffer_then test options schedule one p.state p.doing p.good t d below does
                ∙ ap (buffer_after test (p.state.buffer t)) (sym is) ∙ sym buffer;
            log =
                log ∙ ap (λ l. l ++ filter_map value_read turn) old.log
                ∙ ap (λ e. log_of t p.run ++ filter_map value_read e) is
                ∙ sym (filter_map-append value_read (part_of t p.run) tn)
                ∙ ap (filter_map value_read) (sym (part_back t p.run tn own));
            todo =
                subst (λ o. TodoOf (slice_index_or playing' t false) o new.walker)
                (sym (updated-same p.doing t (next test options schedule p.state t d) t refl)) todo;
          })

      other : (u : ℕ) (k : Enrolled) → u < threads → (t ≡ u → ⊥)
          → IsPlayer job state run u (doing u) (slice_index_or playing' u false) (get_or members' u k)
      other u k lt isnt =
          let q = p.players u k lt in
          subst (IsPlayer job state run u (doing u) (slice_index_or playing' u false)) (sym (member_other u k isnt))
          (record {
            lane = q.lane;
            test = q.test;
            options = q.options;
            thread = q.thread;
            buffer = buffers_other test p.state t u tn own isnt ∙ q.buffer;
            log = q.log ∙ ap (filter_map value_read) (sym (part_back_other t u p.run tn own isnt));
            todo = subst (λ b. TodoOf b (doing u) (get_or members u k).walker) (sym (flags u isnt))
                (subst (λ o. TodoOf (slice_index_or playing u false) o (get_or members u k).walker)
                (sym (updated-other p.doing t (next test options schedule p.state t d) u isnt)) q.todo);
          })

  -- at the end
  named_ends : (i from : ℕ) (ts : List ℕ) → named schedule i from ts ≡ None → ts ≡ []
  named_ends i from [] none = refl
  named_ends i from (x ∷ xs) none =
      let some = named_some schedule i from x xs in
      let e : None ≡ Some some.0 = sym none ∙ some.1 in
      cc

  pub record Ended (members : List Enrolled) (trace : Trace) (run : List Event) : Type 0 where
    pub scheduled : IsScheduled job.test job.options schedule run
    pub history : trace.history ≡ shared_history job.test initial run
    pub finished : (t : ℕ) (d : Enrolled) → t < threads → IsFinished (slice_index_or members t d).walker
    pub read : (t : ℕ) (d : Enrolled) → t < threads → HasRead job run t (slice_index_or members t d)

  pub plays_end : (members : List Enrolled) (playing : List Bool) (from : ℕ) (generator : List ℕ) (trace : Trace)
      (p : Plays members playing from generator trace)
      → named schedule p.number from (filter (λ t. slice_index_or playing t false) (range_with_len 0 threads)) ≡ None
      → Ended members trace p.run
  plays_end members playing from generator trace p none =
      let idle : live threads p.doing ≡ [] = sym (live_are members playing from generator trace p)
      ∙ named_ends p.number from (filter (λ t. slice_index_or playing t false) (range_with_len 0 threads)) none in
      let end = at_end job.test job.options schedule p.state p.doing p.number from p.good idle in
      let all = p.leads [] end.0 end.1 in
      record {
        scheduled =
            subst (IsScheduled job.test job.options schedule) (all.3 ∙ append-nil p.run)
            (scheduled_by job.test job.options schedule all.0 all.1 all.2);
        history = p.history;
        finished =
            λ t d lt. todo_end (slice_index_or playing t false) (p.doing t) (slice_index_or members t d).walker
            (p.players t d lt).todo (all_none job.test job.options schedule p.state p.doing p.good idle t);
        read = λ t d lt. let q = p.players t d lt in record { test = q.test; thread = q.thread; log = q.log };
      }

  -- the logs of walkers that have ended
  module _ (members : List Enrolled) (trace : Trace) (run : List Event) (ended : Ended members trace run)
      (count : length members ≡ threads) (logs : List Values) (of_walkers : AreLogs members logs) where
    pub ended_logs : HaveValuesOf job.test run logs
    ended_logs = values_of_run job members count logs of_walkers run (λ t. ended.read t (someone job))

    pub ended_whole : AreWholeFor job.test job.options.iterations logs
    ended_whole =
        whole_of_run job members count logs of_walkers run (λ t. ended.read t (someone job))
        (scheduled_run job.test job.options schedule run ended.scheduled)
