-- A walker's step on the stored history keeps what walkers have come to, and lowers a number.
use Rattle.std.proofs.Common.{◌≡◌, ◌∙◌, refl, sym, ap, subst, ⊎_elim, ℕ, zero, suc, ◌+◌, ◌*◌, ◌<◌, ◌≤◌, Bool, true, false, cond, None, Some, List, [], ◌∷◌, ◌++◌, length, set, get_or, get_or-set_same, get_or-set_other, drop, arith, append-nil, length-append}
use Rattle.std.specs.Prelude.{slice_index_or}
use Rattle.std.specs.List.{AllByRecursion as Each, range_with_len}
use Rattle.std.proofs.lemmas.Bool.{cases_eq}
use Rattle.std.proofs.lemmas.List.{length-map}
use Rattle.perp_base.proofs.Lists.{each_both, each_left, each_passes}
use Rattle.std.proofs.lemmas.List.Elements.{recursion_from_All}
use Rattle.x86_subset.specs.Test.{LitmusTest, body_of}
use Rattle.tso_machine.specs.Event.{Event}
use Rattle.tso_machine.specs.Machine.{State, Steps, Write, initial}
use Rattle.tso_machine.specs.Part.{Slot, slots_of_loop}
use Rattle.load_log.specs.Values.{Lists}
use Rattle.tso_words.proofs.Eight.{below_eight}
use Rattle.tso_words.specs.History.{IsFlat, history_part}
use Rattle.tso_words.specs.History as words
use Rattle.tso_words.specs.Traces.{Continues, HasRoom, Trace, Tracing, entries}
use Rattle.tso_words.specs.declared.step.Step.{Step}
use Rattle.tso_words.specs.declared.step.TracedStep.{TracedStep}
use Rattle.perp_base.specs.declared.options.Options.{Options}
use Rattle.perp_base.specs.declared.schedule.Schedule.{Schedule}
use Rattle.perp_loop.specs.declared.went.Went.{Went}
use Rattle.perp_loop.specs.declared.went.Went.TheVariants.{Action, Finished}
use Rattle.perp_loop.specs.Crews.{IsCrew, IsSameWalker, Job, Enrolled}
use Rattle.perp_loop.specs.Replaying.{IsAtTurn, SteppedOn, goes_on_after, owed_by, players_in, sum_below}
use Rattle.tso_runs.specs.Schedule.{named}
use Rattle.tso_runs.specs.SharedSteps.{shared_history, shared_steps}
use Rattle.perp_loop.specs.Walking.{IsFinished, TakesTurn, Walking, buffer_after, owed, slots_left}
use Rattle.tso_runs.proofs.Memories.{FindsAll, finds_memory, memory_after, same_zeros, zeros}
use Rattle.perp_loop.proofs.Crewed.{someone}
use Rattle.perp_loop.proofs.Played.{entries_of, gained_is, next_left, same_turn, steps_from}
use Rattle.perp_loop.proofs.Replayed.{IsPlayer, Plays, TodoOf, live_are, plays_turn, sum_same, sum_swap, todo_of, walker_at}
use Rattle.tso_runs.proofs.Rest.{IsRest}
use Rattle.tso_runs.proofs.Runs.{FindsAll-back, memory_all}
use Rattle.tso_runs.proofs.Scheduled.{next, start_good, start, started, turn_of}
use Rattle.tso_runs.proofs.ThreadsLeft.{live, named_has, threads_below}
use Rattle.tso_machine.proofs.Slots.{loop_length}
use Rattle.perp_loop.proofs.Stepping.{own}
use Rattle.perp_loop.proofs.Taken.{rest_from_finishes}
use Rattle.tso_runs.proofs.Turns.{AreOf, Doing, next_by, turn_by}

-- what is made, buffered and logged does not make another walker
same_walker : (old new : Walking) (made : ℕ) (buffer : List Write) (log : List ℕ)
    → new ≡ record old { made = made; buffer = buffer; log = log } → IsSameWalker old new
same_walker old new made buffer log same = record {
  test = ap (λ (w : Walking). w.test) same;
  sequences = ap (λ (w : Walking). w.sequences) same;
  options = ap (λ (w : Walking). w.options) same;
  thread = ap (λ (w : Walking). w.thread) same;
}

turn_end : (test : LitmusTest) (options : Options) (t : ℕ) (s : State) (slots : List Slot) (j : ℕ) (buffer : List Write)
    → slots ≡ [] → buffer ≡ [] → ([] ≡ turn_by test options t s slots j buffer)
    × (next_by test options t slots j buffer ≡ None)
turn_end test options t s [] j [] a b = (refl, refl)
turn_end test options t s [] j (w ∷ ws) a b = absurd cc
turn_end test options t s (slot ∷ slots) j buffer a b = absurd cc

module _ (job : Job) (schedule : Schedule) where
  -- what a step on the history leaves
  module _ (members : List Enrolled) (playing : List Bool) (from : ℕ) (generator generator' : List ℕ)
      (trace trace' : Trace) (p : Plays job schedule members playing from generator trace)
      (one : 1 ≤ job.options.buffer)
      (t : ℕ) (below : t < length job.test.bodies) (eight : length job.test.bodies ≤ 8) (long : length playing ≡ 8)
      (flag : slice_index_or playing t false ≡ true)
      (is_named : named schedule p.number from (players_in playing (length job.test.bodies)) ≡ Some t)
      (new : Enrolled) (lane : new.lane ≡ None) (at : IsAtTurn schedule (p.number + 1) generator') where
    abbrev w : Walking
    w = walker_at job members t

    abbrev d : Doing
    d = record { slots = slots_left w; made = w.made }

    q : IsPlayer job p.state p.run t (p.doing t) (slice_index_or playing t false) (get_or members t (someone job))
    q = p.players t (someone job) below

    does : p.doing t ≡ Some d
    does = todo_of (slice_index_or playing t false) (p.doing t) w flag q.todo

    named_live : named schedule p.number from (live (length job.test.bodies) p.doing) ≡ Some t
    named_live =
        ap (named schedule p.number from) (sym (live_are job schedule members playing from generator trace p))
        ∙ is_named

    flags : (b : Bool) (u : ℕ) → (t ≡ u → ⊥) → slice_index_or (set playing t b) u false ≡ slice_index_or playing u false
    flags b u isnt = get_or-set_other playing t u b false (λ e. isnt (sym e))

    flag_now : (b : Bool) → slice_index_or (set playing t b) t false ≡ b
    flag_now b = get_or-set_same playing t b false (omega arith)

    finished : IsFinished w → new.walker ≡ w → trace' ≡ trace
        → Plays job schedule (set members t new) (set playing t false) (t + 1) generator' trace'
    finished end same still =
        let e = turn_end job.test job.options t p.state (slots_left w) w.made (p.state.buffer t) end.made
        (q.buffer ∙ end.drained) in
        let history : trace'.history ≡ trace.history = ap (λ (x : Trace). x.history) still in
        plays_turn job schedule members (set members t new) playing
        (set playing t false) from generator generator' trace trace' p one t d below does named_live
        [] e.0 new refl (flags false) lane
        (same_walker w new.walker w.made w.buffer w.log same)
        (ap (λ (v : Walking). v.buffer) same ∙ sym q.buffer)
        (ap (λ (v : Walking). v.log) same ∙ sym (append-nil w.log))
        (history ∙ sym (append-nil trace.history))
        (subst (λ b. TodoOf b (next job.test job.options schedule p.state t d) new.walker) (sym (flag_now false))
        (e.1, subst IsFinished (sym same) end))
        (let o = ap owed same in let l = ap (length {A = TracedStep}) history in omega (arith, o, l))
        (ap (λ (x : Trace). x.room) still)
        at

    goes : TakesTurn {P = Tracing} own HasRoom Continues w (record { thread = w.thread; trace = trace }) new.walker
        (record { thread = w.thread; trace = trace' }) → IsFlat trace'.words trace'.history
        → Plays job schedule (set members t new) (set playing t true) (t + 1) generator' trace'
    goes k flat =
        let test = job.test in
        let state = p.state in
        let rest = k.can_end.0 in
        let f : IsRest w.test w.options w.thread (slots_left w) w.buffer w.made 0
        (k.turn ++ rest) = rest_from_finishes w (k.turn ++ rest) (k.takes.leads rest k.can_end.1) in
        let r : IsRest test job.options t (slots_left w) (state.buffer t) w.made 0 (k.turn ++ rest) =
        subst (λ (T : Type 0). T)
        (λ i. IsRest (q.test i) (q.options i) (q.thread i) (slots_left w) ((sym q.buffer) i) w.made 0 (k.turn ++ rest))
        f in
        let own_all : AreOf t (k.turn ++ rest) = recursion_from_All (λ (e : Event). e.thread ≡ t)
        (k.turn ++ rest) r.own in
        let own_turn : AreOf t k.turn = each_left (λ (e : Event). e.thread ≡ t) k.turn rest own_all in
        let gained : List Step = k.appends.stays.2.0 in
        let grew : trace'.history ≡ trace.history ++ entries w.thread gained = k.appends.stays.2.1 in
        let steps_are : gained ≡ shared_steps w.test w.buffer k.turn =
        gained_is w.thread trace.history gained (shared_steps w.test w.buffer k.turn)
        (ap (history_part w.thread) (sym grew) ∙ k.appends.appended)
        in
        let steps_here : gained ≡ shared_steps test (state.buffer t) k.turn =
        steps_are ∙ ap (λ x. shared_steps x w.buffer k.turn) q.test
        ∙ ap (λ b. shared_steps test b k.turn) (sym q.buffer)
        in
        let history : trace'.history ≡ trace.history ++ shared_history test state k.turn =
        grew ∙ ap (λ n. trace.history ++ entries n gained) q.thread ∙ ap (λ g. trace.history ++ entries t g) steps_here
        ∙ ap (λ h. trace.history ++ h) (sym (entries_of test state t k.turn own_turn))
        in
        let before : memory_after zeros (shared_history test initial p.run) ≡ state.memory =
        sym (memory_all test initial p.run) ∙ ap (λ (x : State). x.memory) (sym p.is_state)
        in
        let found : FindsAll zeros (shared_history test initial p.run ++ shared_history test state k.turn) =
        subst (FindsAll zeros) (history ∙ ap (λ h. h ++ shared_history test state k.turn) p.history)
        (finds_memory words.zeros zeros trace'.history same_zeros flat.0)
        in
        let finds : FindsAll state.memory (shared_history test state k.turn) =
        subst (λ (m : ℕ → ℕ). FindsAll m (shared_history test state k.turn)) before
        (FindsAll-back zeros (shared_history test initial p.run) (shared_history test state k.turn) found)
        in
        let come : Steps test state k.turn = steps_from test state t k.turn rest own_turn r.keeps finds in
        let is : k.turn ≡ turn_of test job.options schedule state t d = same_turn test job.options t state
        (slots_left w) w.made (state.buffer t) k.turn rest (k.is_turn rest k.can_end.1) r come in
        let left = next_left test job.options t (slots_of_loop (body_of w.test w.thread) w.options.iterations)
        (slots_left w) w.made new.walker.made (state.buffer t) k.turn rest refl k.takes.made
        (k.is_turn rest k.can_end.1) r in
        let slots_are : drop new.walker.made (slots_of_loop (body_of w.test w.thread) w.options.iterations)
        ≡ slots_left new.walker =
        sym (ap slots_left k.takes.same)
        in
        let todo : next test job.options schedule state t d
        ≡ Some (record { slots = slots_left new.walker; made = new.walker.made }) =
        left ∙ ap (λ x. Some (record { slots = x; made = new.walker.made })) slots_are
        in
        plays_turn job schedule members (set members t new) playing
        (set playing t true) from generator generator' trace trace' p one t d below does named_live
        k.turn is new refl (flags true) lane
        (same_walker w new.walker new.walker.made new.walker.buffer new.walker.log k.takes.same)
        (k.takes.buffer ∙ ap (λ x. buffer_after x w.buffer k.turn) q.test
        ∙ ap (λ b. buffer_after test b k.turn) (sym q.buffer))
        k.takes.log
        history
        (subst (λ b. TodoOf b (next test job.options schedule state t d) new.walker) (sym (flag_now true)) todo)
        (let long_now = ap (length {A = TracedStep}) grew ∙ length-append trace.history (entries w.thread gained) in
        let long_gained : length (entries w.thread gained)
        ≡ length gained = length-map gained (λ (x : Step). record { thread = w.thread; step = x }) in
        let same_long = ap (length {A = Step}) steps_are in
        let less = k.owes_less in
        omega (arith, long_now, long_gained, same_long, less))
        k.appends.stays.1
        at

    pub plays_step : (went : Went) → SteppedOn went w trace new.walker trace' → IsFlat trace'.words trace'.history
        → Plays job schedule (set members t new) (set playing t (goes_on_after went)) (t + 1) generator' trace'
    plays_step Action s flat = goes s flat
    plays_step Finished s flat = finished s.0 s.1 (ap (λ (x : Tracing). x.trace) s.2)

  -- the start
  pub plays_start : (members : List Enrolled) (logs : Lists) (generator : List ℕ) (trace : Trace)
      → IsCrew job members logs → IsAtTurn schedule 0 generator → trace.history ≡ [] → owed_by job ≤ trace.room
      → Plays job schedule members (true ∷ true ∷ true ∷ true ∷ true ∷ true ∷ true ∷ true ∷ []) 0 generator trace
  plays_start members logs generator trace crew at empty room = record {
    run = [];
    number = 0;
    doing = start job.test job.options schedule;
    state = initial;
    good = start_good job.test job.options schedule;
    is_state = refl;
    count = crew.count;
    players = players;
    history = empty;
    at = at;
    leads = λ turns c e. (turns, c, e, refl);
    room =
        let same : sum_below (length job.test.bodies) (λ t. owed (walker_at job members t)) ≡ owed_by job =
        sum_same (length job.test.bodies) (λ t. owed (walker_at job members t))
        (λ t. job.options.iterations * length (body_of job.test t)) owes
        in
        let none = ap (length {A = TracedStep}) empty in
        omega (arith, same, none, room);
  }
    where
      all_true : (t : ℕ) → t < 8 → get_or (true ∷ true ∷ true ∷ true ∷ true ∷ true ∷ true ∷ true ∷ []) t false ≡ true
      all_true t l = below_eight
          (λ t. get_or (true ∷ true ∷ true ∷ true ∷ true ∷ true ∷ true ∷ true ∷ []) t false ≡ true)
          (refl, refl, refl, refl, refl, refl, refl, refl) t l

      slots_are : (v : Walking) (t : ℕ) → v.test ≡ job.test → v.options ≡ job.options → v.thread ≡ t → v.made ≡ 0
          → slots_left v ≡ slots_of_loop (body_of job.test t) job.options.iterations
      slots_are v t test options thread made =
          ap (λ m. drop m (slots_of_loop (body_of v.test v.thread) v.options.iterations)) made
          ∙ ap (λ (x : LitmusTest). slots_of_loop (body_of x v.thread) v.options.iterations) test
          ∙ ap (λ (x : Options). slots_of_loop (body_of job.test v.thread) x.iterations) options
          ∙ ap (λ n. slots_of_loop (body_of job.test n) job.options.iterations) thread

      owes : (t : ℕ) → t < length job.test.bodies → owed (walker_at job members t)
          ≡ job.options.iterations * length (body_of job.test t)
      owes t lt =
          let v = walker_at job members t in
          let n = crew.count in
          let fresh = crew.fresh t (someone job) (omega arith) in
          let of = crew.of_job t (someone job) (omega arith) in
          let slots = ap (length {A = Slot}) (slots_are v t of.0 of.1 fresh.1 fresh.2.made) in
          let none = ap (length {A = Write}) fresh.2.buffer in
          omega (arith, slots, none, loop_length (body_of job.test t) job.options.iterations)

      players : (t : ℕ) (d : Enrolled) → t < length job.test.bodies →
          IsPlayer job initial [] t (start job.test job.options schedule t)
          (slice_index_or (true ∷ true ∷ true ∷ true ∷ true ∷ true ∷ true ∷ true ∷ []) t false)
          (slice_index_or members t d)
      players t d lt =
          let v = (get_or members t d).walker in
          let n = crew.count in
          let few = crew.is_test.few_threads in
          let fresh = crew.fresh t d (omega arith) in
          let of = crew.of_job t d (omega arith) in
          let slots = slots_are v t of.0 of.1 fresh.1 fresh.2.made in
          let todo : start job.test job.options schedule t ≡ Some (record { slots = slots_left v; made = v.made }) =
          started job.test job.options schedule t lt ∙ (λ i. Some (record {
            slots = (sym slots) i;
            made = (sym fresh.2.made) i;
          }))
          in
          record {
            lane = fresh.0;
            test = of.0;
            options = of.1;
            thread = fresh.1;
            buffer = sym fresh.2.buffer;
            log = fresh.2.log;
            todo =
                subst (λ b. TodoOf b (start job.test job.options schedule t) v) (sym (all_true t (omega arith))) todo;
          }

-- a number that falls with each step
abbrev pub turns_over : Job → List Enrolled → List Bool → ℕ
turns_over job members playing =
    sum_below 8 (λ t. cond (slice_index_or playing t false) 1 0) + sum_below (length job.test.bodies)
    (λ t. length (slots_left (walker_at job members t)) + owed (walker_at job members t))

pub turns_fall : (job : Job) (members : List Enrolled) (playing : List Bool) (t : ℕ) (new : Enrolled)
    (trace trace' : Trace) (went : Went) → length members ≡ length job.test.bodies → t < length job.test.bodies
    → length job.test.bodies ≤ 8 → length playing ≡ 8
    → slice_index_or playing t false ≡ true → SteppedOn went (walker_at job members t) trace new.walker trace'
    → turns_over job (set members t new) (set playing t (goes_on_after went)) < turns_over job members playing
turns_fall job members playing t new trace trace' went count below few long flag s =
    let b = goes_on_after went in
    let f : ℕ → ℕ = λ u. cond (slice_index_or playing u false) 1 0 in
    let g : ℕ → ℕ = λ u. cond (slice_index_or (set playing t b) u false) 1 0 in
    let flags : sum_below 8 g + f t ≡ sum_below 8 f + g t = sum_swap 8 t f g (omega arith)
    (λ u l isnt. ap (λ c. cond c 1 0) (get_or-set_other playing t u b false (λ e. isnt (sym e)))) in
    let h : ℕ → ℕ = λ u. length (slots_left (walker_at job members u)) + owed (walker_at job members u) in
    let k : ℕ → ℕ = λ u. length (slots_left (walker_at job (set members t new) u)) + owed
    (walker_at job (set members t new) u) in
    let others : sum_below (length job.test.bodies) k + h t ≡ sum_below (length job.test.bodies) h + k t =
    sum_swap (length job.test.bodies) t h k below (λ u l isnt. ap
    (λ (x : Enrolled). length (slots_left x.walker) + owed x.walker)
    (get_or-set_other members t u new (someone job) (λ e. isnt (sym e))))
    in
    let was : f t ≡ 1 = ap (λ c. cond c 1 0) flag in
    let is : g t ≡ cond b 1 0 = ap (λ c. cond c 1 0) (get_or-set_same playing t b false (omega arith)) in
    let now : k t ≡ length (slots_left new.walker) + owed new.walker = ap
    (λ (x : Enrolled). length (slots_left x.walker) + owed x.walker)
    (get_or-set_same members t new (someone job) (omega arith)) in
    let less : cond b 1 0 + (length (slots_left new.walker) + owed new.walker) < 1 + h t = falls went s in
    omega (arith, flags, others, was, is, now, less)
  where
    falls : (went : Went) → SteppedOn went (walker_at job members t) trace new.walker trace' →
        cond (goes_on_after went) 1 0 + (length (slots_left new.walker) + owed new.walker)
        < 1 + (length (slots_left (walker_at job members t)) + owed (walker_at job members t))
    falls Action s = let e = s.ends in omega (arith, e)
    falls Finished s = let e = ap (λ (v : Walking). length (slots_left v) + owed v) s.1 in omega (arith, e)

-- the thread that is picked has turns left
pub record Picked (job : Job) (schedule : Schedule) (number from : ℕ) (playing : List Bool) (t : ℕ) : Type 0 where
  pub below : t < length job.test.bodies
  pub flag : slice_index_or playing t false ≡ true
  pub is_named : named schedule number from (players_in playing (length job.test.bodies)) ≡ Some t

pub picked : (job : Job) (schedule : Schedule) (number from : ℕ) (playing : List Bool) (t n : ℕ)
    → n ≡ length job.test.bodies → Some t ≡ named schedule number from (players_in playing n)
    → Picked job schedule number from playing t
picked job schedule number from playing t n count is =
    let threads = length job.test.bodies in
    let here : named schedule number from (players_in playing threads)
    ≡ Some t = ap (λ k. named schedule number from (players_in playing k)) (sym count) ∙ sym is in
    let all : Each (λ t. (t < threads) × (slice_index_or playing t false ≡ true)) (players_in playing threads) =
    each_both (λ t. t < threads) (λ t. slice_index_or playing t false ≡ true) (players_in playing threads)
    (threads_below threads (λ t. slice_index_or playing t false))
    (each_passes (λ t. slice_index_or playing t false) (range_with_len 0 threads))
    in
    let has = named_has (λ t. (t < threads) × (slice_index_or playing t false ≡ true)) schedule number from
    (players_in playing threads) t all here in
    record { below = has.0; flag = has.1; is_named = here }

sum_has : (n t : ℕ) (f : ℕ → ℕ) → t < n → f t ≤ sum_below n f
sum_has zero t f l = absurd (omega arith)
sum_has (suc n) t f l =
    ⊎_elim (λ is. let e = ap f is in omega arith) (λ isnt. let rest = sum_has n t f (omega arith) in omega arith)
    (cases_eq t n)

-- what a turn requires
pub room_for : (job : Job) (schedule : Schedule) (members : List Enrolled) (playing : List Bool) (from : ℕ)
    (generator : List ℕ) (trace : Trace) → Plays job schedule members playing from generator trace → (t : ℕ)
    → t < length job.test.bodies
    → owed (walker_at job members t) + length trace.history ≤ trace.room
room_for job schedule members playing from generator trace p t below =
    let has = sum_has (length job.test.bodies) t (λ u. owed (walker_at job members u)) below in
    let room = p.room in
    omega (arith, has, room)
