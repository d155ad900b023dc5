-- A walker takes the next turn.
use Rattle.std.proofs.Common.{◌≡◌, refl, sym, ap, ◌∙◌, subst, ℕ, ◌+◌, ◌*◌, ◌-◌, ◌≤◌, ◌<◌, Bool, false, not, filter, if◌then◌else◌, Some, List, [], ◌∷◌, ◌++◌, length, map, take, drop, append_assoc, append-nil, arith}
use Rattle.std.specs.Prelude.{IsTrue, All, slice_get, slice_index_or, count_by}
use Rattle.std.specs.List.{AllByRecursion as Each, AllZip, filter_map}
use Rattle.std.proofs.lemmas.List.{length-drop, length-append, length-map, length-take-le, take-map, drop-map}
use Rattle.std.proofs.lemmas.Bool.{false≢true}
use Rattle.std.proofs.lemmas.Option.{slice_get-get_or}
use Rattle.std.proofs.lemmas.List.Sums.{sum_by-cons, sum_by-append}
use Rattle.std.proofs.lemmas.List.Elements.{All-drop, All-map, All-head, All-tail, filter_map-append, recursion_from_All}
use Rattle.x86_subset.specs.Test.{LitmusTest, body_of}
use Rattle.x86_subset.specs.declared.instr.Instr.{Instr}
use Rattle.x86_subset.specs.declared.instr.Instr.TheVariants.{Store as DoStore, Load as DoLoad, Fence, Exchange}
use Rattle.seq_conv.specs.Numbers.{Table, value_at}
use Rattle.x86_subset.specs.Instr.{is_reading}
use Rattle.tso_machine.specs.Event.{Event, is_drain}
use Rattle.tso_machine.specs.Log.{value_read}
use Rattle.tso_machine.specs.Part.{Slot, slots_of_loop, Fills, Agrees, own_after}
use Rattle.tso_words.specs.declared.step.Step.{Step}
use Rattle.tso_words.specs.Appended.{Appends}
use Rattle.store_buffer.specs.declared.entry.Entry.{Entry}
use Rattle.store_buffer.specs.Asking.{Asking}
use Rattle.store_buffer.specs.Contents.{Contents}
use Rattle.store_buffer.specs.Generator.{asks_drain}
use Rattle.load_log.specs.Values.{Values}
use Rattle.perp_base.specs.declared.options.Options.{Options}
use Rattle.perp_loop.specs.Actions.{write_from, store_step, AreInRange, entries_after, own_steps, logged, due_before, left_by_drains, Makes}
use Rattle.tso_runs.specs.Drained.{kind_as, drains_due}
use Rattle.tso_runs.specs.SharedSteps.{shared_steps, steps_of}
use Rattle.perp_loop.specs.Sound.{drain_event, IsWriteOf, IsPosition, IsSound}
use Rattle.perp_loop.specs.Walking.{Walking, slots_left, Finishes, IsFinished, buffer_after, actions_in, owed, Takes, StandsFor, TakesTurn}
use Rattle.tso_runs.specs.Fits.{IsLawful}
use Rattle.perp_loop.proofs.Acted.{at_site, agrees-action, steps-action, buffer-action, own-action, in_range-action, values-event, weight_of_action, empty_after}
use Rattle.tso_runs.specs.Turns.{IsCutBetween, IsTurnBefore}
use Rattle.tso_runs.proofs.Cuts.{action_turn, cut_after, drain_turn, drains_alone}
use Rattle.tso_runs.proofs.Rest.{IsRest, is_rest, rest_drained}
use Rattle.perp_loop.proofs.Sites.{action_in_range}
use Rattle.perp_loop.proofs.Slots.{left_at, none_left}
use Rattle.perp_loop.proofs.Played.{no_actions, one_action}
use Rattle.perp_loop.proofs.Turn.{can_finish, shared_steps-drains, store_of, values-drains}
use Rattle.tso_runs.proofs.Turns.{after_drains, all_drain, buffer_after-append, drains_of, gives_kind, gives_no_drain, rest_last, rest_turn}

-- a walker by its parts
abbrev pub walking : LitmusTest → Table → Options → ℕ → ℕ → Contents → Values → Walking
walking test table options t m buffer log = record {
  test = test;
  sequences = table;
  options = options;
  thread = t;
  made = m;
  buffer = map write_from buffer.entries;
  log = log.values;
}

pub rest_from_finishes : (w : Walking) (rest : List Event) → Finishes w rest
    → IsRest w.test w.options w.thread (slots_left w) w.buffer w.made 0 rest
rest_from_finishes w rest f =
    is_rest w.test w.options w.thread (slots_left w) w.buffer w.made rest f.own f.performs f.keeps f.drained

pub finishes_from_rest : (w : Walking) (rest : List Event)
    → IsRest w.test w.options w.thread (slots_left w) w.buffer w.made 0 rest → Finishes w rest
finishes_from_rest w rest r =
    record {
      own = r.own;
      performs = r.fills;
      keeps = r.keeps;
      drained = rest_drained w.test w.options w.thread (slots_left w) w.buffer w.made rest r;
    }

-- what is cut before the events is cut after them too, so they are whole turns
abbrev pub AreWhole : Walking → List Event → Type 0
AreWhole new events =
    (front rest : List Event) → Finishes new rest → IsCutBetween front (events ++ rest)
    → IsCutBetween (front ++ events) rest

-- a walker that stands for the front of a part stands for a longer front when it has taken more
pub stands_more : (old new : Walking) (front events : List Event) → Takes old events new → AreWhole new events
    → (rest : List Event) × Finishes new rest → StandsFor old front →
    StandsFor new (front ++ events)
stands_more old new front events t whole ends s =
    let test : old.test ≡ new.test = sym (ap (λ (w : Walking). w.test) t.same) in
    let lawful : (part : List Event) → IsLawful old.test old.options old.thread part
    → IsLawful new.test new.options new.thread part =
    λ part l. subst (λ (w : Walking). IsLawful w.test w.options w.thread part) (sym t.same) l in
    record {
      made =
          t.made ∙ ap (λ n. n + actions_in events) s.made
          ∙ sym (sum_by-append (λ e. if not (is_drain e) then 1 else 0) front events);
      buffer =
          t.buffer ∙ ap (λ ws. buffer_after old.test ws events) s.buffer
          ∙ sym (buffer_after-append old.test [] front events)
          ∙ ap (λ t. buffer_after t [] (front ++ events)) test;
      log =
          t.log ∙ ap (λ vs. vs ++ filter_map value_read events) s.log ∙ sym (filter_map-append value_read front events);
      leads =
          λ rest f. lawful ((front ++ events) ++ rest) (subst (IsLawful old.test old.options old.thread)
          (sym (append_assoc front events rest)) (s.leads (events ++ rest) (t.leads rest f)));
      cuts = λ rest f. whole front rest f (s.cuts (events ++ rest) (t.leads rest f));
      ends = ends;
    }

-- every walker can be finished
pub can_end : (test : LitmusTest) (table : Table) (options : Options) (t m : ℕ) (buffer : Contents) (log : Values)
    → 1 ≤ options.buffer →
    All (λ e. IsWriteOf test t (write_from e)) buffer.entries
    → (rest : List Event) × Finishes (walking test table options t m buffer log) rest
can_end test table options t m buffer log low own =
    let writes = map write_from buffer.entries in
    let each = recursion_from_All (IsWriteOf test t) writes (All-map (IsWriteOf test t) write_from buffer.entries own)
    in
    let r = can_finish test options t (drop m (slots_of_loop (body_of test t) options.iterations)) writes m low each in
    (r.0, finishes_from_rest (walking test table options t m buffer log) r.0 r.1)

stores-writes : (es : List Entry) → map store_of (map write_from es) ≡ map store_step es
stores-writes [] = refl
stores-writes (e ∷ es) = ap (λ xs. store_step e ∷ xs) (stores-writes es)

module _ {P : Type 0} (steps : P → List Step) (ready : P → ℕ → Type 0) (kept : P → P → Type 0) where
  pub takes_last :
      (test : LitmusTest) (table : Table) (options : Options) (t m capacity : ℕ) (es : List Entry) (buffer' : Contents)
      (log : Values) (port port' : P) →
      1 ≤ options.buffer → drop m (slots_of_loop (body_of test t) options.iterations) ≡ []
      → All (λ e. IsWriteOf test t (write_from e)) es → (es ≡ [] → ⊥) →
      buffer' ≡ record { capacity = capacity; entries = drop 1 es }
      → Appends steps ready kept port port' (map store_step (take 1 es)) →
      TakesTurn steps ready kept (walking test table options t m (record { capacity = capacity; entries = es }) log)
      port (walking test table options t m buffer' log) port'
  takes_last test table options t m capacity [] buffer' log port port' low none own some rest appends =
      absurd (some refl)
  takes_last test table options t m capacity (x ∷ xs) buffer' log port port' low none own some rest appends =
      let slots = drop m (slots_of_loop (body_of test t) options.iterations) in
      let w = write_from x in
      let d = drain_event t w in
      let here : IsWriteOf test t w = All-head (λ e. IsWriteOf test t (write_from e)) x xs own in
      let buffered : map write_from buffer'.entries
      ≡ map write_from xs = ap (λ (b : Contents). map write_from b.entries) rest in
      let step : store_step x ∷ [] ≡ shared_steps test (map write_from (x ∷ xs)) (d ∷ []) = ap (λ u. store_of u ∷ [])
      (sym here) in
      let old = walking test table options t m (record { capacity = capacity; entries = x ∷ xs }) log in
      let new = walking test table options t m buffer' log in
      let takes : Takes old (d ∷ []) new = record {
        same = refl;
        made = omega (arith, no_actions (d ∷ []) (refl, tt));
        buffer = buffered;
        log = sym (append-nil log.values);
        leads = λ more f.
            let r = rest_from_finishes new more f in
            let r1 : IsRest test options t [] (map write_from xs) m 0 more =
            subst (λ (T : Type 0). T) (λ i. IsRest test options t (none i) (buffered i) m 0 more) r in
            let r2 = rest_last test options t w (map write_from xs) m more here r1 in
            finishes_from_rest old (d ∷ more) (subst (λ ss. IsRest test options t ss (map write_from (x ∷ xs)) m 0
            (d ∷ more)) (sym none) r2);
      } in
      let own' : All (λ e. IsWriteOf test t (write_from e)) buffer'.entries =
      subst (λ (b : Contents). All (λ e. IsWriteOf test t (write_from e)) b.entries) (sym rest)
      (All-tail (λ e. IsWriteOf test t (write_from e)) x xs own) in
      let ends = can_end test table options t m buffer' log low own' in
      let is_turn : (rest : List Event) → Finishes new rest → IsTurnBefore (d ∷ []) rest =
      λ rest f. drain_turn d rest refl (drains_alone t rest (subst (λ ss. AllZip (Fills t) ss
      (filter (λ e. not (is_drain e)) rest)) none f.performs)) in
      record {
        turn = d ∷ [];
        is_turn = is_turn;
        takes = takes;
        stands =
            λ front. stands_more old new front (d ∷ []) takes (λ front rest f cut. cut_after front (d ∷ []) rest cut
            (is_turn rest f)) ends;
        can_end = ends;
        appends = subst (λ xs. Appends steps ready kept port port' xs) step appends;
        owes_less = omega (arith, ap length buffered);
        ends = omega (arith, ap length buffered);
      }

abbrev pub reads : Slot → Bool
reads slot = is_reading slot.action

counted : (slot : Slot) (slots : List Slot) → count_by reads (slot ∷ slots)
    ≡ (if reads slot then 1 else 0) + count_by reads slots
counted slot slots = sum_by-cons (λ s. if reads s then 1 else 0) slot slots

-- a reading action has room in the log
pub room_now : (i p : ℕ) (action : Instr) (slots : List Slot) (n : ℕ) →
    count_by reads (record { iteration = i; place = p; action = action } ∷ slots) ≤ n → IsTrue (is_reading action)
    → 1 ≤ n
room_now i p (DoStore loc w) slots n h r = absurd (false≢true r)
room_now i p (DoLoad reg loc) slots n h r =
    omega (arith, counted (record { iteration = i; place = p; action = DoLoad reg loc }) slots)
room_now i p Fence slots n h r = absurd (false≢true r)
room_now i p (Exchange loc w reg) slots n h r =
    omega (arith, counted (record { iteration = i; place = p; action = Exchange loc w reg }) slots)

room_later : (i p : ℕ) (action : Instr) (v : ℕ) (slots : List Slot) (n : ℕ) →
    count_by reads (record { iteration = i; place = p; action = action } ∷ slots) ≤ n
    → count_by reads slots ≤ n - length (logged action v)
room_later i p (DoStore loc w) v slots n h =
    let e = counted (record { iteration = i; place = p; action = DoStore loc w }) slots in
    let goal : count_by reads slots ≤ n - 0 = omega (arith, e) in goal
room_later i p (DoLoad reg loc) v slots n h =
    let e = counted (record { iteration = i; place = p; action = DoLoad reg loc }) slots in
    let goal : count_by reads slots ≤ n - 1 = omega (arith, e) in goal
room_later i p Fence v slots n h =
    let e = counted (record { iteration = i; place = p; action = Fence }) slots in
    let goal : count_by reads slots ≤ n - 0 = omega (arith, e) in goal
room_later i p (Exchange loc w reg) v slots n h =
    let e = counted (record { iteration = i; place = p; action = Exchange loc w reg }) slots in
    let goal : count_by reads slots ≤ n - 1 = omega (arith, e) in goal

-- A walker of which the code keeps what is true of each.
module _ {test : LitmusTest} {table : Table} {options : Options} {t i p : ℕ} {drains : Asking} {buffer : Contents}
    {log : Values}
    (sound : IsSound test table options t i p drains buffer log) where
  abbrev code : List Instr
  code = body_of test t

  abbrev slots : List Slot
  slots = slots_of_loop code options.iterations

  abbrev m : ℕ
  m = i * length code + p

  abbrev pub here : Walking
  here = walking test table options t m buffer log

  -- It has an action left, in the body that it reads.
  module _ (below : i < options.iterations) (body : List Instr) (is : body ≡ code) where
    abbrev action : Instr
    action = slice_index_or body p (DoStore 0 0)

    abbrev slot : Slot
    slot = record { iteration = i; place = p; action = action }

    at : slice_get code p ≡ Some action
    at =
        ap (λ b. slice_get b p) (sym is)
        ∙ slice_get-get_or body p (DoStore 0 0) (subst (λ b. p < length b) (sym is) (sound.position.place below))

    left : drop m slots ≡ slot ∷ drop (m + 1) slots
    left = left_at code options.iterations i p action below at

    pub room_for : IsTrue (is_reading action) → 1 ≤ log.spare
    room_for =
        room_now i p action (drop (m + 1) slots) log.spare (subst (λ ss. count_by reads ss ≤ log.spare) left sound.room)

    pub owes_turn : length buffer.entries + 1 ≤ owed here
    owes_turn = omega (arith, ap length left, length-map buffer.entries write_from)

    module _ {P : Type 0} {steps : P → List Step} {ready : P → ℕ → Type 0} {kept : P → P → Type 0} {asks : Bool}
        {buffer' : Contents} {log' : Values} {port port' : P} (i' p' : ℕ)
        (further : i' * length body + p' ≡ i * length body + p + 1)
        (makes : Makes steps ready kept action (value_at table t p i) i p asks buffer log port buffer' log' port') where
      abbrev m' : ℕ
      m' = i' * length code + p'

      next : m' ≡ m + 1
      next = subst (λ b. i' * length b + p' ≡ i * length b + p + 1) is further

      own' : All (λ e. IsWriteOf test t (write_from e)) buffer'.entries
      own' =
          let d = due_before action asks buffer in
          let kept = All-drop (λ e. IsWriteOf test t (write_from e)) d buffer.entries sound.own in
          subst (λ (b : Contents). All (λ e. IsWriteOf test t (write_from e)) b.entries) (sym makes.buffered)
          (own-action test table t i p sound.numbers action (left_by_drains action asks buffer) at kept)

      pub takes_action : asks ≡ asks_drain drains.seed drains.thread drains.rate drains.taken
          → TakesTurn steps ready kept here port (walking test table options t m' buffer' log') port'
      takes_action asked =
          let new = walking test table options t m' buffer' log' in
          let asks_now : asks ≡ asks_drain options.seed t options.rate m =
          asked ∙ ap (λ (d : Asking). asks_drain d.seed d.thread d.rate d.taken) sound.asking in
          let es = buffer.entries in
          let writes = map write_from es in
          let d = due_before action asks buffer in
          let v = makes.read in
          let e = at_site test table t i p sound.numbers action v in
          let ds = drains_of t d writes in
          let turn = ds ++ e ∷ [] in
          let left' : drop m' slots ≡ drop (m + 1) slots = ap (λ k. drop k slots) next in
          let few : d ≤ length writes = omega (arith, makes.few, length-map es write_from) in
          let own : Each (IsWriteOf test t) writes =
          recursion_from_All (IsWriteOf test t) writes (All-map (IsWriteOf test t) write_from es sound.own) in
          let fills : Fills t slot e = record {
            thread = refl;
            iteration = refl;
            place = refl;
            kind = gives_kind action v;
          } in
          let acts : is_drain e ≡ false = gives_no_drain action e.kind fills.kind in
          let drop_w : drop d writes ≡ map write_from (drop d es) = drop-map write_from d es in
          let took : take d writes ≡ map write_from (take d es) = take-map write_from d es in
          let agrees : Agrees test (drop d writes) e =
          subst (λ ws. Agrees test ws e) (sym drop_w) (agrees-action test table t i p sound.numbers action v
          (drop d es) at makes.newest (empty_after action asks buffer)) in
          let buffered : map write_from buffer'.entries ≡ own_after test (drop d writes) e =
          ap (λ (b : Contents). map write_from b.entries) makes.buffered
          ∙ buffer-action test table t i p sound.numbers action v (drop d es) at
          ∙ ap (λ ws. own_after test ws e) (sym drop_w) in
          let due : d ≡ drains_due (kind_as action 0) options.buffer (asks_drain options.seed t options.rate m)
          (length writes) =
          ap (λ c. drains_due (kind_as action 0) c asks (length es)) sound.capacity
          ∙ ap (λ a. drains_due (kind_as action 0) options.buffer a (length es)) asks_now
          ∙ ap (drains_due (kind_as action 0) options.buffer (asks_drain options.seed t options.rate m))
          (sym (length-map es write_from)) in
          let step : map store_step (take d es) ++ own_steps action (value_at table t p i) v (drop d es)
          ≡ shared_steps test writes turn =
          ap (λ xs. xs ++ own_steps action (value_at table t p i) v (drop d es))
          (sym (ap (map store_of) took ∙ stores-writes (take d es)))
          ∙ ap (λ ys. map store_of (take d writes) ++ ys)
          (steps-action test table t i p sound.numbers action v (drop d es) at ∙ ap (λ ws. steps_of test ws e)
          (sym drop_w) ∙ sym (append-nil (steps_of test (drop d writes) e)))
          ∙ sym (shared_steps-drains test t d writes (e ∷ []) own) in
          let fewer : length (slots_left here) ≡ length (drop m' slots) + 1 =
          ap length left ∙ omega (arith, ap length left') in
          let long : length (shared_steps test writes turn)
          ≡ d + length (own_steps action (value_at table t p i) v (drop d es)) =
          sym (ap length step) ∙ simp (length-append, length-map) (ap
          (λ n. n + length (own_steps action (value_at table t p i) v (drop d es))) (length-take-le d es makes.few))
          in
          let entries : length (map write_from buffer'.entries)
          ≡ length (entries_after action (value_at table t p i) i p (drop d es)) =
          length-map buffer'.entries write_from ∙ ap (λ (b : Contents). length b.entries) makes.buffered in
          let weight = weight_of_action action (value_at table t p i) v i p (drop d es) in
          let actions = one_action ds e (all_drain t d writes) acts in
          let takes : Takes here turn new = record {
            same = refl;
            made = omega (arith, next, actions);
            buffer = buffered ∙ sym (after_drains test t d writes (e ∷ []));
            log =
                ap (λ (l : Values). l.values) makes.logs ∙ ap (λ vs. log.values ++ vs)
                (sym (values-drains t d writes (e ∷ []) ∙ values-event t i p action v));
            leads = λ rest f.
                let r = rest_from_finishes new rest f in
                let r1 : IsRest test options t (drop (m + 1) slots) (own_after test (drop d writes) e) (m + 1) 0 rest =
                subst (λ (T : Type 0). T) (λ i. IsRest test options t (left' i) (buffered i) (next i) 0 rest) r in
                let r2 = rest_turn test options t slot (drop (m + 1) slots) writes m d e rest due few own fills agrees
                r1 in
                finishes_from_rest here (turn ++ rest)
                (subst (λ ss. IsRest test options t ss writes m 0 (turn ++ rest)) (sym left) r2);
          } in
          let ends = can_end test table options t m' buffer' log' sound.limits.low_buffer own' in
          let is_turn : (rest : List Event) → Finishes new rest → IsTurnBefore turn rest =
          λ rest f. action_turn ds e rest (all_drain t d writes) acts in
          record {
            turn = turn;
            is_turn = is_turn;
            takes = takes;
            stands =
                λ front. stands_more here new front turn takes (λ front rest f cut. cut_after front turn rest cut
                (is_turn rest f)) ends;
            can_end = ends;
            appends = subst (λ xs. Appends steps ready kept port port' xs) step makes.appends;
            owes_less =
                omega (arith, fewer, long, entries, weight, length-drop d es, length-map es write_from, makes.few);
            ends = omega (arith, fewer, long, entries, weight, length-drop d es, length-map es write_from, makes.few);
          }

      pub sound_action : {drains' : Asking} → drains' ≡ record drains { taken = drains.taken + 1 }
          → IsPosition options.iterations (length body) i' p' → IsSound test table options t i' p' drains' buffer' log'
      sound_action asked stands =
          let asking : ℕ → Asking = λ n. record { seed = options.seed; thread = t; rate = options.rate; taken = n } in
          let room : count_by reads (drop (m + 1) slots) ≤ log.spare - length (logged action makes.read) =
          room_later i p action makes.read (drop (m + 1) slots) log.spare
          (subst (λ ss. count_by reads ss ≤ log.spare) left sound.room) in
          record {
            is_test = sound.is_test;
            thread = sound.thread;
            limits = sound.limits;
            numbers = sound.numbers;
            position = subst (λ b. IsPosition options.iterations (length b) i' p') is stands;
            asking =
                asked ∙ ap {B = Asking} (λ (a : Asking). record a { taken = a.taken + 1 }) sound.asking
                ∙ ap asking (sym next);
            capacity = ap (λ (b : Contents). b.capacity) makes.buffered ∙ sound.capacity;
            in_range = subst (λ (b : Contents). AreInRange b.entries) (sym makes.buffered)
                (in_range-action test table t i p sound.numbers action (left_by_drains action asks buffer)
                (action_in_range test t p action sound.is_test at) (All-drop (λ e. e.loc < 16)
                (due_before action asks buffer) buffer.entries sound.in_range));
            own = own';
            columns = ap (λ (l : Values). l.columns) makes.logs ∙ sound.columns;
            room = subst (λ n. count_by reads (drop n slots) ≤ log'.spare) (sym next)
                (subst (λ (l : Values). count_by reads (drop (m + 1) slots) ≤ l.spare) (sym makes.logs) room);
          }

  -- It has none left.
  module _ (last : i ≡ options.iterations) where
    none : drop m slots ≡ []
    none =
        let n = options.iterations in
        let end : n * length code + 0 ≡ m =
        ap (λ i. i * length code + 0) (sym last) ∙ ap (λ p. i * length code + p) (sym (sound.position.last last)) in
        ap (λ m. drop m slots) (sym end) ∙ none_left code n

    pub finished : buffer.entries ≡ [] → IsFinished here
    finished empty = record { made = none; drained = ap (map write_from) empty }

    module _ {P : Type 0} {steps : P → List Step} {ready : P → ℕ → Type 0} {kept : P → P → Type 0}
        {buffer' : Contents} {port port' : P} (rest : buffer' ≡ record buffer { entries = drop 1 buffer.entries }) where
      pub takes_drain : (buffer.entries ≡ [] → ⊥)
          → Appends steps ready kept port port' (map store_step (take 1 buffer.entries))
          → TakesTurn steps ready kept here port (walking test table options t m buffer' log) port'
      takes_drain some appends =
          takes_last steps ready kept test table options t m buffer.capacity buffer.entries buffer' log port port'
          sound.limits.low_buffer none sound.own some rest appends

  pub sound_last : {buffer' : Contents} → buffer' ≡ record buffer { entries = drop 1 buffer.entries }
      → IsSound test table options t i p drains buffer' log
  sound_last rest = subst (λ (b : Contents). IsSound test table options t i p drains b log) (sym rest) (record {
    is_test = sound.is_test;
    thread = sound.thread;
    limits = sound.limits;
    numbers = sound.numbers;
    position = sound.position;
    asking = sound.asking;
    capacity = sound.capacity;
    in_range = All-drop (λ e. e.loc < 16) 1 buffer.entries sound.in_range;
    own = All-drop (λ e. IsWriteOf test t (write_from e)) 1 buffer.entries sound.own;
    columns = sound.columns;
    room = sound.room;
  })
