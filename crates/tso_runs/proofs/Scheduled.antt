-- The run of a schedule: in each state the next turn is one, so there is one run, and taking turns until none is left
-- makes it.
use Rattle.std.proofs.Common.{◌≡◌, ◌∙◌, refl, sym, ap, subst, inl, inr, ⊎_elim, ◌⊎◌, ℕ, zero, suc, ◌+◌, ◌<◌, ◌≤◌, Bool, true, false, cond, Option, None, Some, is_some, List, [], ◌∷◌, ◌++◌, length, filter, drop, slice_get, ltb, arith, lt-ltb, le-ltb}
use Rattle.std.proofs.lemmas.Bool.{cases_eq, cases_lt}
use Rattle.std.proofs.lemmas.List.{append_cancel_left}
use Rattle.std.proofs.lemmas.List.Elements.{All-from_recursion}
use Rattle.std.specs.List.{AllByRecursion as Each, range_with_len}
use Rattle.x86_subset.specs.Test.{LitmusTest, body_of}
use Rattle.tso_machine.specs.Event.{Event}
use Rattle.tso_machine.specs.Machine.{State, Steps, Write, after_all, initial, updated}
use Rattle.tso_machine.specs.Part.{part_of, slots_of_loop}
use Rattle.perp_base.proofs.Lists.{each_append, each_both, each_passes, each_weaker}
use Rattle.tso_machine.proofs.Runs.{steps_left, steps_right}
use Rattle.perp_base.specs.declared.options.Options.{Options}
use Rattle.perp_base.specs.declared.schedule.Schedule.{Schedule}
use Rattle.tso_runs.specs.Schedule.{EachScheduleHasOneRun, Follows, IsScheduled, named, threads_left}
use Rattle.tso_runs.specs.Turns.{joined, turns_of}
use Rattle.tso_runs.proofs.Events.{updated-other, updated-same}
use Rattle.tso_runs.proofs.Fitting.{part_of_past}
use Rattle.tso_runs.proofs.Rest.{IsRest, is_rest, rest_drained}
use Rattle.tso_runs.specs.Own.{IsWriteOf, buffer_after}
use Rattle.tso_runs.proofs.Turns.{AreOf, Built, Doing, RestAt, buffers_other, buffers_own, built, left_of, next_by, steps_join, taken, turn_by, weight_falls, weight_of}
use Rattle.tso_runs.proofs.ThreadsLeft.{after_all-append, follows_same, left_at, left_at_next, live, named_has, named_none, named_some, part_other, part_own, threads_below, threads_live}

module _ (test : LitmusTest) (options : Options) (schedule : Schedule) where
  abbrev pub threads : ℕ
  threads = length test.bodies

  -- these turns lead on from a state, where the threads have this to do
  pub record Continues (s : State) (doing : ℕ → Option Doing) (i from : ℕ) (turns : List (List Event)) : Type 0 where
    pub steps : Steps test s (joined turns)
    pub rests : (t : ℕ) → RestAt test options t (doing t) (s.buffer t) (part_of t (joined turns))
    pub follows : Follows schedule threads i from (left_at doing (joined turns)) turns

  abbrev pub next : State → ℕ → Doing → Option Doing
  next s t d = next_by test options t d.slots d.made (s.buffer t)

  abbrev pub turn_of : State → ℕ → Doing → List Event
  turn_of s t d = turn_by test options t s d.slots d.made (s.buffer t)

  -- One run.

  record Step (s : State) (doing : ℕ → Option Doing) (i from : ℕ) (turn : List Event)
      (turns : List (List Event)) : Type 0 where
    thread : ℕ
    todo : Doing
    is_named : named schedule i from (live threads doing) ≡ Some thread
    does : doing thread ≡ Some todo
    is : turn ≡ turn_of s thread todo
    later : Continues (after_all test s turn) (updated doing thread (next s thread todo)) (i + 1) (thread + 1) turns

  step_by : (s : State) (doing : ℕ → Option Doing) (i from : ℕ) (turn : List Event) (turns : List (List Event)) (t : ℕ)
      (o : Option Doing) → doing t ≡ o → Continues s doing i from (turn ∷ turns)
      → named schedule i from (threads_left threads (left_at doing (turn ++ joined turns))) ≡ Some t
      → slice_get (left_at doing (turn ++ joined turns) t) 0 ≡ Some turn
      → Follows schedule threads (i + 1) (t + 1) (updated (left_at doing (turn ++ joined turns)) t
      (drop 1 (left_at doing (turn ++ joined turns) t))) turns → Step s doing i from turn turns
  step_by s doing i from turn turns t None does c n g f =
      let k : None ≡ Some turn = ap (λ o. slice_get (left_of o (part_of t (turn ++ joined turns))) 0) (sym does) ∙ g in
      cc
  step_by s doing i from turn turns t (Some d) does c n g f =
      let rest = joined turns in
      let part = part_of t (turn ++ rest) in
      let r : IsRest test options t d.slots (s.buffer t) d.made 0
      part = subst (λ o. RestAt test options t o (s.buffer t) part) does (c.rests t) in
      let h = taken test options t s d.slots d.made (s.buffer t) part r in
      let nxt = next s t d in
      let heads : Some h.turn ≡ Some turn = ap (λ l. slice_get l 0) (sym h.cut)
      ∙ ap (λ o. slice_get (left_of o part) 0) (sym does) ∙ g in
      let same : h.turn ≡ turn = cc in
      let own : AreOf t turn = subst (AreOf t) same h.own in
      let left : part_of t rest ≡ h.later = append_cancel_left turn (part_of t rest) h.later
      (sym (part_own t turn rest own) ∙ h.whole ∙ ap (λ l. l ++ h.later) same) in
      let cut : turns_of part ≡ turn ∷ left_of nxt (part_of t rest) = h.cut
      ∙ (λ i. same i ∷ left_of nxt (sym left i)) in
      let buffer : (after_all test s turn).buffer t
      ≡ buffer_after test (s.buffer t) h.turn = buffers_own test s t turn own
      ∙ ap (buffer_after test (s.buffer t)) (sym same) in
      let here : RestAt test options t nxt ((after_all test s turn).buffer t) (part_of t rest) =
      subst (λ b. RestAt test options t nxt b (part_of t rest)) (sym buffer)
      (subst (RestAt test options t nxt (buffer_after test (s.buffer t) h.turn)) (sym left) h.rest) in
      let P : ℕ → Type 0 = λ u. RestAt test options u (updated doing t nxt u) ((after_all test s turn).buffer u)
      (part_of u rest) in
      record {
        thread = t;
        todo = d;
        is_named = ap (named schedule i from) (sym (threads_live threads doing (turn ++ rest))) ∙ n;
        does = does;
        is = sym same ∙ h.is (subst (Steps test s) (sym same) (steps_left test s turn rest c.steps));
        later = record {
          steps = steps_right test s turn rest c.steps;
          rests = λ u.
              ⊎_elim
              (λ is. subst P is (subst (λ o. RestAt test options t o ((after_all test s turn).buffer t)
              (part_of t rest)) (sym (updated-same doing t nxt t refl)) here))
              (λ isnt.
              let Q : Option Doing → List Write → List Event → Type 0 = λ o b p. RestAt test options u o b p in
              subst (λ o. Q o ((after_all test s turn).buffer u) (part_of u rest))
              (sym (updated-other doing t nxt u isnt))
              (subst (λ b. Q (doing u) b (part_of u rest)) (sym (buffers_other test s t u turn own isnt))
              (subst (λ p. Q (doing u) (s.buffer u) p) (part_other t u turn rest own isnt) (c.rests u))))
              (cases_eq t u);
          follows =
              follows_same schedule threads (i + 1) (t + 1) (updated (left_at doing (turn ++ rest)) t
              (drop 1 (left_at doing (turn ++ rest) t))) (left_at (updated doing t nxt) rest) turns
              (λ u l. left_at_next doing t d nxt turn rest does own cut u) f;
        };
      }

  step : (s : State) (doing : ℕ → Option Doing) (i from : ℕ) (turn : List Event) (turns : List (List Event))
      → Continues s doing i from (turn ∷ turns) → Step s doing i from turn turns
  step s doing i from turn turns c =
      step_by s doing i from turn turns c.follows.0 (doing c.follows.0) refl c c.follows.1 c.follows.2 c.follows.3

  ended_or_not : (s : State) (doing : ℕ → Option Doing) (i from : ℕ) (turn : List Event) (turns : List (List Event))
      → Continues s doing i from [] → Continues s doing i from (turn ∷ turns) → ⊥
  ended_or_not s doing i from turn turns a b =
      let h = step s doing i from turn turns b in
      let none : live threads doing ≡ [] = sym (threads_live threads doing []) ∙ a.follows in
      let k : None ≡ Some h.thread = sym (named_none schedule i from) ∙ ap (named schedule i from) (sym none)
      ∙ h.is_named in
      cc

  one_by_one : (turns others : List (List Event)) (s : State) (doing : ℕ → Option Doing) (i from : ℕ)
      → Continues s doing i from turns → Continues s doing i from others → turns ≡ others
  one_by_one [] [] s doing i from a b = refl
  one_by_one [] (o ∷ os) s doing i from a b = absurd (ended_or_not s doing i from o os a b)
  one_by_one (t ∷ ts) [] s doing i from a b = absurd (ended_or_not s doing i from t ts b a)
  one_by_one (t ∷ ts) (o ∷ os) s doing i from a b =
      let h = step s doing i from t ts a in
      let k = step s doing i from o os b in
      let names : Some k.thread ≡ Some h.thread = sym k.is_named ∙ h.is_named in
      let thread : k.thread ≡ h.thread = cc in
      let todos : Some k.todo ≡ Some h.todo = sym k.does ∙ ap doing thread ∙ h.does in
      let todo : k.todo ≡ h.todo = cc in
      let turn : o ≡ t = k.is ∙ (λ i. turn_of s (thread i) (todo i)) ∙ sym h.is in
      let later : Continues (after_all test s t) (updated doing h.thread (next s h.thread h.todo)) (i + 1)
      (h.thread + 1) os =
      subst (λ o. Continues (after_all test s o) (updated doing h.thread (next s h.thread h.todo)) (i + 1)
      (h.thread + 1) os) turn
      (subst (λ d. Continues (after_all test s o) (updated doing h.thread (next s h.thread d)) (i + 1)
      (h.thread + 1) os) todo
      (subst (λ u. Continues (after_all test s o) (updated doing u (next s u k.todo)) (i + 1) (u + 1) os) thread
      k.later)) in
      let rest = one_by_one ts os (after_all test s t) (updated doing h.thread (next s h.thread h.todo)) (i + 1)
      (h.thread + 1) h.later later in
      λ i. sym turn i ∷ rest i

  -- A run.

  -- what holds of each state that turns lead to
  pub record IsGood (s : State) (doing : ℕ → Option Doing) : Type 0 where
    pub own : (t : ℕ) → Each (IsWriteOf test t) (s.buffer t)
    pub ended : (t : ℕ) → doing t ≡ None → s.buffer t ≡ []
    pub past : (t : ℕ) → threads ≤ t → doing t ≡ None

  -- the turns end with empty buffers, and are of the test's threads
  pub record Ends (s : State) (turns : List (List Event)) : Type 0 where
    pub drained : (t : ℕ) → (after_all test s (joined turns)).buffer t ≡ []
    pub within : Each (λ e. e.thread < threads) (joined turns)

  -- nothing is left

  none_step : (p : ℕ → Bool) (a t : ℕ) (ts : List ℕ) (b : Bool) → p a ≡ b → cond b (a ∷ ts) ts ≡ []
      → (ts ≡ [] → a < t → p t ≡ false) → (a ≡ t) ⊎ (a < t) → p t ≡ false
  none_step p a t ts true e h rec w = cc
  none_step p a t ts false e h rec (inl is) = subst (λ (u : ℕ). p u ≡ false) is e
  none_step p a t ts false e h rec (inr l) = rec h l

  none_pass : (p : ℕ → Bool) (a n t : ℕ) → filter p (range_with_len a n) ≡ [] → a ≤ t → t < a + n → p t ≡ false
  none_pass p a zero t h l m = absurd (omega arith)
  none_pass p a (suc n) t h l m =
      none_step p a t (filter p (range_with_len (a + 1) n)) (p a) refl h
      (λ e k. none_pass p (a + 1) n t e (omega arith) (omega arith)) (let w : (a ≡ t) ⊎ (a < t) = grind arith in w)

  not_some : (o : Option Doing) → is_some o ≡ false → o ≡ None
  not_some None h = refl
  not_some (Some d) h = cc

  pub all_none : (s : State) (doing : ℕ → Option Doing) → IsGood s doing → live threads doing ≡ [] → (t : ℕ)
      → doing t ≡ None
  all_none s doing good h t =
      ⊎_elim (λ l. not_some (doing t) (none_pass (λ t. is_some (doing t)) 0 threads t h (omega arith) (omega arith)))
      (λ g. good.past t g) (cases_lt t threads)

  pub at_end : (s : State) (doing : ℕ → Option Doing) (i from : ℕ) → IsGood s doing → live threads doing ≡ []
      → Continues s doing i from [] × Ends s []
  at_end s doing i from good h = (
    record {
      steps = tt;
      rests = λ t. subst (λ o. RestAt test options t o (s.buffer t) []) (sym (all_none s doing good h t)) refl;
      follows = threads_live threads doing [] ∙ h;
    },
    record { drained = λ t. good.ended t (all_none s doing good h t); within = tt },
  )

  -- how much is left

  total : ℕ → (ℕ → ℕ) → ℕ
  total zero f = 0
  total (suc n) f = f n + total n f

  total_same : (n : ℕ) (f g : ℕ → ℕ) → ((u : ℕ) → u < n → f u ≡ g u) → total n f ≡ total n g
  unfolding total
  total_same zero f g h = refl
  total_same (suc n) f g h =
      let a = h n (omega arith) in let b = total_same n f g (λ u l. h u (omega arith)) in omega arith

  total_falls : (n t : ℕ) (f g : ℕ → ℕ) → t < n → g t < f t → ((u : ℕ) → (t ≡ u → ⊥) → g u ≡ f u)
      → total n g < total n f
  unfolding total
  total_falls zero t f g l less same = absurd (omega arith)
  total_falls (suc n) t f g l less same =
      ⊎_elim
      (λ is.
      let less_n : g n < f n = subst (λ u. g u < f u) is less in
      let rest = total_same n g f (λ u k. same u (λ e. omega arith)) in
      omega arith)
      (λ isnt.
      let other = same n isnt in
      let rest = total_falls n t f g (omega arith) less same in
      omega arith)
      (cases_eq t n)

  abbrev left_over : State → (ℕ → Option Doing) → ℕ
  left_over s doing = total threads (λ t. weight_of test options t (doing t) (s.buffer t))

  -- a turn is taken

  module _ (one : 1 ≤ options.buffer) (s : State) (doing : ℕ → Option Doing) (good : IsGood s doing) (t : ℕ)
      (d : Doing) (below : t < threads) (does : doing t ≡ Some d) where
    abbrev pub turn : List Event
    turn = turn_of s t d

    abbrev pub then : State
    then = after_all test s turn

    abbrev pub after_turn : ℕ → Option Doing
    after_turn = updated doing t (next s t d)

    pub front : Built test options t s d.slots d.made (s.buffer t)
    front = built test options t s d.slots d.made (s.buffer t) refl (good.own t) one

    pub buffer_then : then.buffer t ≡ buffer_after test (s.buffer t) turn
    buffer_then = buffers_own test s t turn front.own

    empty_end : (slots : List _) (j : ℕ) (buffer : List Write) → next_by test options t slots j buffer ≡ None
        → buffer_after test buffer (turn_by test options t s slots j buffer) ≡ []
    empty_end (slot ∷ slots) j buffer h = cc
    empty_end [] j (w ∷ ws) h = cc
    empty_end [] j [] h = refl

    pub good_then : IsGood then after_turn
    good_then = record {
      own = λ u.
          ⊎_elim
          (λ is. subst (λ u. Each (IsWriteOf test u) (then.buffer u)) is
          (subst (Each (IsWriteOf test t)) (sym buffer_then) front.kept))
          (λ isnt. subst (Each (IsWriteOf test u)) (sym (buffers_other test s t u turn front.own isnt)) (good.own u))
          (cases_eq t u);
      ended = λ u h.
          ⊎_elim
          (λ is. subst (λ u. then.buffer u ≡ []) is (buffer_then
          ∙ empty_end d.slots d.made (s.buffer t) (sym (updated-same doing t (next s t d) u is) ∙ h)))
          (λ isnt. buffers_other test s t u turn front.own isnt
          ∙ good.ended u (sym (updated-other doing t (next s t d) u isnt) ∙ h))
          (cases_eq t u);
      past = λ u l. updated-other doing t (next s t d) u (λ is. omega (arith, below)) ∙ good.past u l;
    }

    falls : left_over then after_turn < left_over s doing
    falls =
        let f : ℕ → ℕ = λ u. weight_of test options u (doing u) (s.buffer u) in
        let g : ℕ → ℕ = λ u. weight_of test options u (after_turn u) (then.buffer u) in
        let less : g t < f t =
        subst (λ o. weight_of test options t o (then.buffer t) < f t) (sym (updated-same doing t (next s t d) t refl))
        (subst (λ b. weight_of test options t (next s t d) b < f t) (sym buffer_then)
        (subst (λ o. weight_of test options t (next s t d) (buffer_after test (s.buffer t) turn)
        < weight_of test options t o (s.buffer t)) (sym does)
        (weight_falls test options t s d.slots d.made (s.buffer t)))) in
        total_falls threads t f g below less (λ u isnt. λ i. weight_of test options u
        (updated-other doing t (next s t d) u isnt i) (buffers_other test s t u turn front.own isnt i))

    module _ (i from : ℕ) (is_named : named schedule i from (live threads doing) ≡ Some t)
        (turns : List (List Event)) (later : Continues then after_turn (i + 1) (t + 1) turns)
        (ends : Ends then turns) where
      abbrev rest : List Event
      rest = joined turns

      rest_here : RestAt test options t (next s t d) (buffer_after test (s.buffer t) turn) (part_of t rest)
      rest_here =
          subst (λ b. RestAt test options t (next s t d) b (part_of t rest)) buffer_then
          (subst (λ o. RestAt test options t o (then.buffer t) (part_of t rest))
          (updated-same doing t (next s t d) t refl) (later.rests t))

      cut_here : turns_of (part_of t (turn ++ rest)) ≡ turn ∷ left_of (next s t d) (part_of t rest)
      cut_here = ap turns_of (part_own t turn rest front.own) ∙ front.cut (part_of t rest) rest_here

      pub continues : Continues s doing i from (turn ∷ turns)
      continues = record {
        steps = steps_join test s turn rest front.steps later.steps;
        rests = λ u.
            ⊎_elim
            (λ is.
            subst (λ u. RestAt test options u (doing u) (s.buffer u) (part_of u (turn ++ rest))) is
            (subst (λ o. RestAt test options t o (s.buffer t) (part_of t (turn ++ rest))) (sym does)
            (subst (λ p. IsRest test options t d.slots (s.buffer t) d.made 0 p) (sym (part_own t turn rest front.own))
            (front.back (part_of t rest) rest_here))))
            (λ isnt.
            subst (λ o. RestAt test options u o (s.buffer u) (part_of u (turn ++ rest)))
            (updated-other doing t (next s t d) u isnt)
            (subst (λ b. RestAt test options u (after_turn u) b (part_of u (turn ++ rest)))
            (buffers_other test s t u turn front.own isnt)
            (subst (λ p. RestAt test options u (after_turn u) (then.buffer u) p)
            (sym (part_other t u turn rest front.own isnt)) (later.rests u))))
            (cases_eq t u);
        follows = (
          t,
          ap (named schedule i from) (threads_live threads doing (turn ++ rest)) ∙ is_named,
          ap (λ o. slice_get (left_of o (part_of t (turn ++ rest))) 0) does ∙ ap (λ l. slice_get l 0) cut_here,
          follows_same schedule threads (i + 1) (t + 1) (left_at after_turn rest)
              (updated (left_at doing (turn ++ rest)) t (drop 1 (left_at doing (turn ++ rest) t))) turns
              (λ u l. sym (left_at_next doing t d (next s t d) turn rest does front.own cut_here u)) later.follows,
        );
      }

      pub ends_here : Ends s (turn ∷ turns)
      ends_here = record {
        drained = λ u. ap (λ z. z.buffer u) (after_all-append test s turn rest) ∙ ends.drained u;
        within =
            each_append (λ e. e.thread < threads) turn rest (each_weaker (λ e. e.thread ≡ t) (λ e. e.thread < threads)
            (λ e k. omega (arith, k, below)) turn front.own) ends.within;
      }

  pub live_has : (doing : ℕ → Option Doing) → Each (λ t. (t < threads) × (is_some (doing t) ≡ true))
      (live threads doing)
  live_has doing =
      each_both (λ t. t < threads) (λ t. is_some (doing t) ≡ true) (live threads doing)
      (threads_below threads (λ t. is_some (doing t))) (each_passes (λ t. is_some (doing t))
      (range_with_len 0 threads))

  some_of : (o : Option Doing) → is_some o ≡ true → (d : Doing) × (o ≡ Some d)
  some_of None h = cc
  some_of (Some d) h = (d, refl)

  abbrev pub Goes : State → (ℕ → Option Doing) → ℕ → ℕ → Type 0
  Goes s doing i from = (turns : List (List Event)) × Continues s doing i from turns × Ends s turns

  go_on : (s : State) (doing : ℕ → Option Doing) (i from : ℕ) (ts : List ℕ) → 1 ≤ options.buffer → IsGood s doing
      → live threads doing ≡ ts
      → ((s' : State) (doing' : ℕ → Option Doing) (i' from' : ℕ) → left_over s' doing' < left_over s doing
      → IsGood s' doing' → Goes s' doing' i' from') → Goes s doing i from
  go_on s doing i from [] one good h rec = let e = at_end s doing i from good h in ([], e.0, e.1)
  go_on s doing i from (x ∷ xs) one good h rec =
      let n = named_some schedule i from x xs in
      let t = n.0 in
      let is_named : named schedule i from (live threads doing) ≡ Some t = ap (named schedule i from) h ∙ n.1 in
      let has = named_has (λ t. (t < threads) × (is_some (doing t) ≡ true)) schedule i from (live threads doing) t
      (live_has doing) is_named in
      let d = some_of (doing t) has.1 in
      let later =
      rec (then one s doing good t d.0 has.0 d.1) (after_turn one s doing good t d.0 has.0 d.1) (i + 1) (t + 1)
      (falls one s doing good t d.0 has.0 d.1) (good_then one s doing good t d.0 has.0 d.1) in (
        turn_of s t d.0 ∷ later.0,
        continues one s doing good t d.0 has.0 d.1 i from is_named later.0 later.1 later.2,
        ends_here one s doing good t d.0 has.0 d.1 i from is_named later.0 later.1 later.2,
      )

  goes : (fuel : ℕ) (s : State) (doing : ℕ → Option Doing) (i from : ℕ) → left_over s doing < fuel → 1 ≤ options.buffer
      → IsGood s doing → Goes s doing i from
  goes zero s doing i from l one good = absurd (omega arith)
  goes (suc fuel) s doing i from l one good =
      go_on s doing i from (live threads doing) one good refl (λ s' doing' i' from' less good'. goes fuel s' doing' i'
      from' (omega arith) one good')

  -- From the start.

  abbrev pub start : ℕ → Option Doing
  start t =
      cond (ltb t threads) (Some (record { slots = slots_of_loop (body_of test t) options.iterations; made = 0 })) None

  pub started : (t : ℕ) → t < threads → start t
      ≡ Some (record { slots = slots_of_loop (body_of test t) options.iterations; made = 0 })
  started t l = rw (lt-ltb t threads l) refl

  not_started : (t : ℕ) → threads ≤ t → start t ≡ None
  not_started t l = rw (le-ltb t threads l) refl

  pub start_good : IsGood initial start
  start_good = record { own = λ t. tt; ended = λ t h. refl; past = not_started }

  pub from_start : (run : List Event) → (t : ℕ) → t < threads → left_at start run t ≡ turns_of (part_of t run)
  from_start run t l = ap (λ o. left_of o (part_of t run)) (started t l)

  -- turns that lead from the start to the end make a run of the schedule
  pub scheduled_by : (turns : List (List Event)) → Continues initial start 0 0 turns → Ends initial turns
      → IsScheduled test options schedule (joined turns)
  scheduled_by turns c e =
      let run = joined turns in
      record {
        legal = record { steps = c.steps; drained = e.drained };
        threads = All-from_recursion (λ (e : Event). e.thread < threads) run e.within;
        lawful = λ t l.
            let slots = slots_of_loop (body_of test t) options.iterations in
            let r : IsRest test options t slots [] 0 0 (part_of t run) = subst (λ o. RestAt test options t o []
            (part_of t run)) (started t l) (c.rests t) in
            record {
              own = r.own;
              performs = r.fills;
              keeps = r.keeps;
              drained = rest_drained test options t slots [] 0 (part_of t run) r;
            };
        turns = turns;
        whole = refl;
        follows =
            follows_same schedule threads 0 0 (left_at start run) (λ t. turns_of (part_of t run)) turns
            (from_start run) c.follows;
      }

  some_run : 1 ≤ options.buffer → (run : List Event) × IsScheduled test options schedule run
  some_run one =
      let g = goes (suc (left_over initial start)) initial start 0 0 (omega arith) one start_good in
      (joined g.0, scheduled_by g.0 g.1 g.2)

  goes_from_start : (run : List Event) (h : IsScheduled test options schedule run) → Continues initial start 0 0 h.turns
  goes_from_start run h = record {
    steps = subst (Steps test initial) h.whole h.legal.steps;
    rests = λ t.
        ⊎_elim
        (λ l.
        let w = h.lawful t l in
        let slots = slots_of_loop (body_of test t) options.iterations in
        let r = is_rest test options t slots [] 0 (part_of t run) w.own w.performs w.keeps w.drained in
        subst (λ run. RestAt test options t (start t) [] (part_of t run)) h.whole
        (subst (λ o. RestAt test options t o [] (part_of t run)) (sym (started t l)) r))
        (λ g. subst (λ o. RestAt test options t o [] (part_of t (joined h.turns))) (sym (not_started t g))
        (ap (part_of t) (sym h.whole) ∙ part_of_past threads t run h.threads g))
        (cases_lt t threads);
    follows =
        follows_same schedule threads 0 0 (λ t. turns_of (part_of t run)) (left_at start (joined h.turns)) h.turns
        (λ t l. ap (λ run. turns_of (part_of t run)) h.whole ∙ sym (from_start (joined h.turns) t l)) h.follows;
  }

  pub one_run : 1 ≤ options.buffer → (run : List Event) × IsScheduled test options schedule run
      × ((other : List Event) → IsScheduled test options schedule other → other ≡ run)
  one_run one =
      let r = some_run one in (
        r.0,
        r.1,
        λ other h. h.whole ∙ ap joined (one_by_one h.turns r.1.turns initial start 0 0 (goes_from_start other h)
            (goes_from_start r.0 r.1)) ∙ sym r.1.whole,
      )

pub each_schedule_has_one_run : EachScheduleHasOneRun
each_schedule_has_one_run test options schedule one = one_run test options schedule one
