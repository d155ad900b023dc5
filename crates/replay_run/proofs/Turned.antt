-- A player's turn is the next turn of the machine's state.
use Rattle.std.proofs.Common.{◌≡◌, ◌∙◌, refl, sym, ap, subst, ℕ, zero, suc, ◌+◌, ◌*◌, ◌≤◌, Option, None, Some, List, [], ◌∷◌, ◌++◌, length, map, take, drop, set, append-nil, append_assoc, arith}
use Rattle.std.specs.Prelude.{slice_get, slice_index, unwrap_or}
use Rattle.std.specs.List.{AllByRecursion as Each}
use Rattle.std.proofs.lemmas.List.{drop-map, length-map, map-append}
use Rattle.x86_subset.specs.Shape.{IsTest}
use Rattle.x86_subset.specs.Test.{LitmusTest, body_of}
use Rattle.x86_subset.specs.declared.instr.Instr.{Instr}
use Rattle.x86_subset.specs.declared.instr.Instr.TheVariants.{Store as DoStore, Load as DoLoad, Fence, Exchange}
use Rattle.seq_conv.specs.Numbers.{Table, AreOf, value_at}
use Rattle.tso_machine.specs.Event.{Event, Read, Exchanged, event_location, written_value}
use Rattle.tso_machine.specs.Machine.{State, Write, after, after_all, newest, updated}
use Rattle.tso_machine.specs.Part.{Slot, own_after, slots_of_loop}
use Rattle.tso_words.specs.declared.step.Step.TheVariants.{Store}
use Rattle.store_buffer.specs.declared.entry.Entry.{Entry}
use Rattle.store_buffer.specs.Contents.{newest_value}
use Rattle.store_buffer.specs.Generator.{asks_drain}
use Rattle.perp_base.specs.declared.options.Options.{Options}
use Rattle.tso_runs.specs.Drained.{drains_due, kind_as}
use Rattle.tso_runs.specs.Own.{IsWriteOf, buffer_after, drain_event}
use Rattle.perp_base.proofs.Lists.{each_left}
use Rattle.tso_runs.proofs.Memories.{AreSame, same_after}
use Rattle.tso_runs.proofs.Rest.{event}
use Rattle.tso_runs.proofs.ThreadsLeft.{after_all-append}
use Rattle.tso_runs.proofs.Turns.{AreOf as AreOfThread, Doing, after_drains, buffers_own, built, drains_of, event_now, next_by, own_drains, turn_by}
use Rattle.perp_loop.specs.Actions.{IsInRange, due_before, entries_after, write_from}
use Rattle.perp_loop.proofs.Acted.{buffer-action, newest-writes, steps-action}
use Rattle.perp_loop.proofs.Sites.{action_in_range}
use Rattle.perp_loop.proofs.Slots.{left_at, none_left}
use Rattle.run_judge.specs.Judgement.{event_of}
use Rattle.run_judge.specs.declared.event.RunEvent.{RunEvent}
use Rattle.replay_run.specs.declared.player.Player.{Player}
use Rattle.replay_run.specs.Players.{made_by}
use Rattle.replay_run.specs.Turns.{DrainsOne, HasNothingLeft, MakesAction, asks_now, drained, kind_of, value_found, words_after, words_with}

-- The words are those of the memory, write by write.

set_same : (ws : List ℕ) (memory : ℕ → ℕ) (loc value : ℕ) → AreSame ws memory
    → AreSame (set ws loc value) (updated memory loc value)
set_same ws memory loc value same = same_after ws memory (record { thread = 0; step = Store loc value } ∷ []) same

drains_events : (t n : ℕ) (es : List Entry)
    → map event_of (map (drained t) (take n es)) ≡ drains_of t n (map write_from es)
drains_events t zero es = refl
drains_events t (suc n) [] = refl
drains_events t (suc n) (e ∷ es) = ap (λ l. drain_event t (write_from e) ∷ l) (drains_events t n es)

drains_words : (test : LitmusTest) (t n : ℕ) (es : List Entry) (s : State) (ws : List ℕ)
    → Each (IsWriteOf test t) (map write_from es) → AreSame ws s.memory
    → AreSame (words_with ws (take n es)) (after_all test s (drains_of t n (map write_from es))).memory
drains_words test t zero es s ws own same = same
drains_words test t (suc n) [] s ws own same = same
drains_words test t (suc n) (e ∷ es) s ws own same =
    let d = drain_event t (write_from e) in
    let is : updated s.memory e.loc e.value ≡ (after test s d).memory =
    λ i. updated s.memory ((sym own.0 i).location) ((sym own.0 i).value) in
    drains_words test t n es (after test s d) (set ws e.loc e.value) own.1
    (subst (AreSame (set ws e.loc e.value)) is (set_same ws s.memory e.loc e.value same))

pub words_with-last : (ws : List ℕ) (xs : List Entry) (x : Entry)
    → words_with ws (xs ++ x ∷ []) ≡ set (words_with ws xs) x.loc x.value
words_with-last ws [] x = refl
words_with-last ws (y ∷ ys) x = words_with-last (set ws y.loc y.value) ys x

-- An action of the player is the event of the state.
module _ (test : LitmusTest) (table : Table) (t i p : ℕ) (numbers : AreOf test table) where
  abbrev slot_of : Instr → Slot
  slot_of action = record { iteration = i; place = p; action = action }

  abbrev told : Instr → ℕ → RunEvent
  told action v = record { thread = t; iteration = i; place = p; kind = kind_of action v }

  load_is : (reg : _) (loc : ℕ) → slice_get (body_of test t) p ≡ Some (DoLoad reg loc)
      → loc ≡ event_location test (event t i p (Read 0))
  load_is reg loc at = let e = steps-action test table t i p numbers (DoLoad reg loc) 0 [] at in cc

  exchange_is : (loc w : ℕ) (reg : _) → slice_get (body_of test t) p ≡ Some (Exchange loc w reg)
      → (loc ≡ event_location test (event t i p (Exchanged 0)))
      × (value_at table t p i ≡ written_value test (event t i p (Exchanged 0)))
  exchange_is loc w reg at = let e = steps-action test table t i p numbers (Exchange loc w reg) 0 [] at in (cc, cc)

  event_made : (action : Instr) (s : State) (ws : List ℕ) (es : List Entry)
      → slice_get (body_of test t) p ≡ Some action → IsInRange action → s.buffer t ≡ map write_from es
      → AreSame ws s.memory
      → event_of (told action (value_found action ws es)) ≡ event_now test s t (slot_of action)
  event_made (DoStore loc w) s ws es at low buffer same = refl
  event_made (DoLoad reg loc) s ws es at low buffer same =
      let x = load_is reg loc at in
      let own : newest_value loc es ≡ newest loc (s.buffer t) =
      sym (newest-writes loc es) ∙ ap (newest loc) (sym buffer)
      in
      ap (λ v. event t i p (Read v)) (ap (λ o. unwrap_or o (slice_index ws loc)) own
      ∙ ap (unwrap_or (newest loc (s.buffer t))) (same.each loc low)
      ∙ ap (λ x. unwrap_or (newest x (s.buffer t)) (s.memory x)) x)
  event_made Fence s ws es at low buffer same = refl
  event_made (Exchange loc w reg) s ws es at low buffer same =
      ap (λ v. event t i p (Exchanged v)) (same.each loc low ∙ ap s.memory (exchange_is loc w reg at).0)

  words_made : (action : Instr) (s : State) (ws : List ℕ) → slice_get (body_of test t) p ≡ Some action
      → AreSame ws s.memory
      → AreSame (words_after action (value_at table t p i) ws)
      (after test s (event_now test s t (slot_of action))).memory
  words_made (DoStore loc w) s ws at same = same
  words_made (DoLoad reg loc) s ws at same = same
  words_made Fence s ws at same = same
  words_made (Exchange loc w reg) s ws at same =
      let x = exchange_is loc w reg at in
      subst (AreSame (set ws loc (value_at table t p i))) (λ j. updated s.memory (x.0 j) (x.1 j))
      (set_same ws s.memory loc (value_at table t p i) same)

  buffer_made : (action : Instr) (s : State) (es : List Entry) → slice_get (body_of test t) p ≡ Some action
      → map write_from (entries_after action (value_at table t p i) i p es)
      ≡ own_after test (map write_from es) (event_now test s t (slot_of action))
  buffer_made (DoStore loc w) s es at = buffer-action test table t i p numbers (DoStore loc w) 0 es at
  buffer_made (DoLoad reg loc) s es at = refl
  buffer_made Fence s es at = refl
  buffer_made (Exchange loc w reg) s es at = refl

-- what a turn made is the turn of the state, and leaves its words, its buffer and what is to do
pub record IsTurn (test : LitmusTest) (options : Options) (t : ℕ) (s : State) (slots : List Slot) (j : ℕ)
    (entries : List Entry) (before after : List RunEvent) (left : List ℕ) (entries' : List Entry)
    (todo : Option Doing) : Type 0 where
  pub events : map event_of after ≡ map event_of before
      ++ turn_by test options t s slots j (map write_from entries)
  pub words : AreSame left (after_all test s (turn_by test options t s slots j (map write_from entries))).memory
  pub buffer : map write_from entries' ≡ buffer_after test (map write_from entries)
      (turn_by test options t s slots j (map write_from entries))
  pub next : next_by test options t slots j (map write_from entries) ≡ todo

-- the player's slots that are left, and how many are made
abbrev pub slots_by : LitmusTest → Options → Player → List Slot
slots_by test options p = drop (made_by test p) (slots_of_loop (body_of test p.thread) options.iterations)

abbrev pub todo_by : LitmusTest → Options → Player → Doing
todo_by test options p = record { slots = slots_by test options p; made = made_by test p }

module _ (test : LitmusTest) (table : Table) (options : Options) (old new : Player) (words words' : List ℕ)
    (events events' : List RunEvent) (s : State) (numbers : AreOf test table) (is_test : IsTest test)
    (one : 1 ≤ options.buffer) (capacity : old.buffer.capacity ≡ options.buffer)
    (buffer : s.buffer old.thread ≡ map write_from old.buffer.entries)
    (own : Each (IsWriteOf test old.thread) (map write_from old.buffer.entries)) (same : AreSame words s.memory) where
  abbrev t : ℕ
  t = old.thread

  abbrev j : ℕ
  j = made_by test old

  abbrev es : List Entry
  es = old.buffer.entries

  abbrev writes : List Write
  writes = map write_from es

  module _ (m : MakesAction test table options old words events new words' events') where
    abbrev slot : Slot
    slot = record { iteration = old.iteration; place = old.place; action = m.action }

    abbrev written : ℕ
    written = value_at table t old.place old.iteration

    abbrev due_then : ℕ
    due_then = due_before m.action (asks_now test options old) old.buffer

    abbrev n : ℕ
    n = drains_due (kind_as m.action 0) options.buffer (asks_drain options.seed t options.rate j) (length writes)

    due_is : due_then ≡ n
    due_is =
        ap (λ k. drains_due (kind_as m.action 0) k (asks_now test options old) (length es)) capacity
        ∙ ap (drains_due (kind_as m.action 0) options.buffer (asks_now test options old))
        (sym (length-map es write_from))

    abbrev ds : List Event
    ds = drains_of t n writes

    abbrev mid : State
    mid = after_all test s ds

    abbrev then_words : List ℕ
    then_words = words_with words (take n es)

    abbrev e : Event
    e = event_now test mid t slot

    low : IsInRange m.action
    low = action_in_range test t old.place m.action is_test m.at

    own_ds : AreOfThread t ds
    own_ds =
        each_left (λ (e : Event). e.thread ≡ t) ds (e ∷ []) (built test options t s (slot ∷ []) j writes buffer own
        one).own

    left_writes : drop n writes ≡ map write_from (drop n es)
    left_writes = drop-map write_from n es

    there : mid.buffer t ≡ map write_from (drop n es)
    there =
        buffers_own test s t ds own_ds ∙ ap (λ b. buffer_after test b ds) buffer ∙ own_drains test t n writes
        ∙ left_writes

    mid_words : AreSame then_words mid.memory
    mid_words = drains_words test t n es s words own same

    abbrev last : ℕ → RunEvent
    last k = record {
      thread = t;
      iteration = old.iteration;
      place = old.place;
      kind = kind_of m.action (value_found m.action (words_with words (take k es)) (drop k es));
    }

    last_is : event_of (last n) ≡ e
    last_is =
        event_made test table t old.iteration old.place numbers m.action mid then_words (drop n es) m.at low there
        mid_words

    events_made : map event_of events' ≡ map event_of events ++ (ds ++ e ∷ [])
    events_made =
        let all : events' ≡ (events ++ map (drained t) (take n es)) ++ last n ∷ [] =
        m.events ∙ ap (λ k. (events ++ map (drained t) (take k es)) ++ last k ∷ []) due_is in
        ap (map event_of) all
        ∙ map-append event_of (events ++ map (drained t) (take n es)) (last n ∷ [])
        ∙ ap (λ l. l ++ event_of (last n) ∷ []) (map-append event_of events (map (drained t) (take n es)))
        ∙ append_assoc (map event_of events) (map event_of (map (drained t) (take n es))) (event_of (last n) ∷ [])
        ∙ ap (λ l. map event_of events ++ (l ++ event_of (last n) ∷ [])) (drains_events t n es)
        ∙ ap (λ x. map event_of events ++ (ds ++ x ∷ [])) last_is

    words_left : AreSame words' (after_all test s (ds ++ e ∷ [])).memory
    words_left =
        let all : words' ≡ words_after m.action written then_words =
        m.words ∙ ap (λ k. words_after m.action written (words_with words (take k es))) due_is in
        subst (λ (z : State). AreSame words' z.memory) (sym (after_all-append test s ds (e ∷ [])))
        (subst (λ w. AreSame w (after test mid e).memory) (sym all)
        (words_made test table t old.iteration old.place numbers m.action mid then_words m.at mid_words))

    buffer_left : map write_from new.buffer.entries ≡ buffer_after test writes (ds ++ e ∷ [])
    buffer_left =
        ap (map write_from) (m.buffer ∙ ap (λ k. entries_after m.action written old.iteration old.place (drop k es))
        due_is)
        ∙ buffer_made test table t old.iteration old.place numbers m.action mid (drop n es) m.at
        ∙ ap (λ b. own_after test b e) (sym left_writes)
        ∙ sym (after_drains test t n writes (e ∷ []))

    pub action_is_turn : new.thread ≡ old.thread
        → IsTurn test options t s (slots_by test options old) j es events events' words' new.buffer.entries
        (Some (todo_by test options new))
    action_is_turn thread =
        let left = left_at (body_of test t) options.iterations old.iteration old.place m.action m.below m.at in
        let made : j + 1 ≡ made_by test new = sym m.made in
        let rest : drop (j + 1) (slots_of_loop (body_of test t) options.iterations) ≡ slots_by test options new =
        (λ i. drop (made i) (slots_of_loop (body_of test (sym thread i)) options.iterations)) in
        subst (λ slots. IsTurn test options t s slots j es events events' words' new.buffer.entries
        (Some (todo_by test options new))) (sym left) (record {
          events = events_made;
          words = words_left;
          buffer = buffer_left;
          next = λ i. Some (record { slots = rest i; made = made i });
        })

  -- After the last action.
  no_slots : (i place : ℕ) → i ≡ options.iterations → (i ≡ options.iterations → place ≡ 0)
      → drop (i * length (body_of test t) + place) (slots_of_loop (body_of test t) options.iterations) ≡ []
  no_slots i place last stands =
      (λ k. drop (last k * length (body_of test t) + stands last k) (slots_of_loop (body_of test t)
      options.iterations))
      ∙ none_left (body_of test t) options.iterations

  one_drained : (xs : List Entry) → 1 ≤ length xs → Each (IsWriteOf test t) (map write_from xs)
      → map event_of events' ≡ map event_of events ++ map event_of (map (drained t) (take 1 xs))
      → words' ≡ words_with words (take 1 xs) → new.buffer.entries ≡ drop 1 xs
      → IsTurn test options t s [] j xs events events' words' new.buffer.entries
      (Some (record { slots = []; made = j }))
  one_drained [] some owned told kept left = absurd (omega arith)
  one_drained (x ∷ xs) some owned told kept left = record {
    events = told;
    words =
        subst (λ w. AreSame w (after_all test s (drain_event t (write_from x) ∷ [])).memory) (sym kept)
        (drains_words test t 1 (x ∷ xs) s words owned same);
    buffer = ap (map write_from) left;
    next = refl;
  }

  pub drain_is_turn : (d : DrainsOne test options old words events new words' events')
      → (old.iteration ≡ options.iterations → old.place ≡ 0) → new.thread ≡ old.thread
      → IsTurn test options t s (slots_by test options old) j es events events' words' new.buffer.entries
      (Some (todo_by test options new))
  drain_is_turn d stands thread =
      let none = no_slots old.iteration old.place d.last stands in
      let same_todo : ◌≡◌ {A = Doing} (record { slots = []; made = j }) (todo_by test options new) =
      (λ i. record { slots = (sym none) i; made = j })
      ∙ (λ i. record {
        slots = drop (sym d.made i) (slots_of_loop (body_of test (sym thread i)) options.iterations);
        made = sym d.made i;
      })
      in
      let told =
      ap (map event_of) d.events ∙ map-append event_of events (map (drained t) (take 1 es)) in
      subst (λ todo. IsTurn test options t s (slots_by test options old) j es events events' words' new.buffer.entries
      (Some todo)) same_todo
      (subst (λ slots. IsTurn test options t s slots j es events events' words' new.buffer.entries
      (Some (record { slots = []; made = j }))) (sym none) (one_drained es d.some own told d.words d.buffer))

  pub nothing_is_turn : (h : HasNothingLeft options old words events new words' events')
      → (old.iteration ≡ options.iterations → old.place ≡ 0)
      → IsTurn test options t s (slots_by test options old) j es events events' words' new.buffer.entries None
  nothing_is_turn h stands =
      let none = no_slots old.iteration old.place h.last stands in
      let buffer_same : new.buffer.entries ≡ [] = ap (λ (p : Player). p.buffer.entries) h.same ∙ h.empty in
      subst (λ xs. IsTurn test options t s (slots_by test options old) j xs events events' words' new.buffer.entries
      None) (sym h.empty)
      (subst (λ slots. IsTurn test options t s slots j [] events events' words' new.buffer.entries None) (sym none)
      (record {
        events = ap (map event_of) h.events ∙ sym (append-nil (map event_of events));
        words = subst (λ w. AreSame w s.memory) (sym h.words) same;
        buffer = ap (map write_from) buffer_same;
        next = refl;
      }))
