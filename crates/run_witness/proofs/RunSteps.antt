-- Each event of a run is a step: a deed or a Drain.
use Rattle.std.proofs.Common.{◌≡◌, ℕ, ◌+◌, ◌<◌, ◌≤◌, ◌==◌, Bool, true, false, cond, not, List, [], ◌∷◌, filter, drop, refl, sym, ap, ◌∙◌, arith, subst, inl, inr, ◌⊎◌, eq-eqb}
use Rattle.std.proofs.lemmas.Bool.{cases_lt, true≢false}
use Rattle.std.specs.List.{AllZip}
use Rattle.x86_subset.specs.Test.{LitmusTest}
use Rattle.x86_subset.specs.declared.instr.Instr.{Instr}
use Rattle.x86_subset.specs.declared.instr.Instr.TheVariants.{Store, Load, Fence, Exchange}
use Rattle.load_log.specs.Values.{Values}
use Rattle.tso_machine.specs.Event.{Event, Kind, Push, Drain, Read, Fenced, Exchanged, is_drain, is_drain_kind}
use Rattle.tso_machine.specs.Machine.{NeedsAs, State, after, after_as, updated}
use Rattle.tso_machine.specs.Part.{Fills, Gives, part_of}
use Rattle.tso_machine.specs.Source.{is_memory_kind}
use Rattle.tso_machine.proofs.Parts.{deeds}
use Rattle.run_witness.specs.Stage.{IsOpen, bound}
use Rattle.run_witness.specs.Marks.{Mark, index_of, is_storing, loop_of}
use Rattle.run_witness.specs.Order.{IsEvent, deed_kind, is_store, logged}
use Rattle.run_witness.proofs.Slots.{none_waits}
use Rattle.run_witness.proofs.Stands.{AreWriters, Drained, IsOf, Stands, all_drained, done_more, empty_waits, mark_at, stands_deed, stands_drain, stands_exchange, stands_push}
use Rattle.run_witness.proofs.Steps.{IsDone, NextSlot, Rest, Step, before_deed, before_drain, bound_deed, bound_drain, deed_no_drain, deed_only, drain_stores, fills_after, given_kind, index_is, next_by, no_drain_among, one_event, open_deed, open_drain, same_index}

-- The step of a deed.

-- what is open and then executed is a deed of the event's thread up to the mark, or a Drain
only_by : (test : LitmusTest) (n : ℕ) (logs : List Values) (marks : ℕ → Mark) (e : Event) (m : Mark) (b : Event)
    (ev : IsEvent test n logs b) → IsOpen test marks b → IsDone test (updated marks e.thread m) b
    → (b.kind ≡ deed_kind ev.action (logged test logs b.thread b.iteration b.place) → b.thread ≡ e.thread
    → (marks e.thread).done ≤ index_of test b → index_of test b < m.done → b ≡ e)
    → (b.kind ≡ Drain → b.thread ≡ e.thread → (marks e.thread).drained ≤ index_of test b
    → index_of test b < m.drained → b ≡ e)
    → b ≡ e
only_by test n logs marks e m b ev free ready deed drain =
    mark_at (λ z. index_of test b < bound z b → b ≡ e) marks e.thread m b.thread here
    (λ ne h. absurd (omega (arith, h, free))) ready
  where
    here : e.thread ≡ b.thread → index_of test b < bound m b → b ≡ e
    here t h =
        let P : ℕ → Type 0 = λ z. index_of test b < z in
        elim ev.kind [
          | inl k ↦
              let d = deed_no_drain ev.action (logged test logs b.thread b.iteration b.place) b.kind k in
              deed k (sym t) (open_deed test marks b e.thread free (sym t) d) (subst P (bound_deed m b d) h)
          | inr k ↦
              drain k.0 (sym t) (open_drain test marks b e.thread free (sym t) k.0) (subst P (bound_drain m b k.0) h)
        ]

only_deed : (test : LitmusTest) (n : ℕ) (logs : List Values) (marks : ℕ → Mark) (e : Event) (j : Instr) (m : Mark)
    → IsOf test n e (marks e.thread).done j → e.kind ≡ deed_kind j (logged test logs e.thread e.iteration e.place)
    → m.done ≡ (marks e.thread).done + 1
    → ((b : Event) → IsEvent test n logs b → b.kind ≡ Drain → b.thread ≡ e.thread
    → (marks e.thread).drained ≤ index_of test b → index_of test b < m.drained → ⊥)
    → (b : Event) → IsEvent test n logs b → IsOpen test marks b → IsDone test (updated marks e.thread m) b → b ≡ e
only_deed test n logs marks e j m of ke more none b ev free ready =
    only_by test n logs marks e m b ev free ready
    (λ k t low below. deed_only test n logs b e (marks e.thread).done j ev of ke k t (omega arith))
    (λ k t low below. absurd (none b ev k t low below))

grows_at : (marks : ℕ → Mark) (t : ℕ) (m : Mark) → (marks t).drained ≤ m.drained → (u : ℕ)
    → (marks u).drained ≤ (updated marks t m u).drained
grows_at marks t m h u =
    mark_at (λ z. (marks u).drained ≤ z.drained) marks t m u (λ e. let same : (marks u).drained
    ≡ (marks t).drained = ap (λ v. (marks v).drained) (sym e) in omega arith) (λ ne. omega arith)

make_deed : (test : LitmusTest) (n : ℕ) (w : ℕ → ℕ) (logs : List Values) (s : State) (marks : ℕ → Mark) (e : Event)
    (es : List Event) (m : Mark) → AreWriters test w → Stands test n s marks → Rest test n logs s marks (e ∷ es)
    → (slot : NextSlot e.thread (loop_of test n e.thread) (marks e.thread).done e (deeds e.thread es))
    → is_drain e ≡ false → m.done ≡ (marks e.thread).done + 1 → (marks e.thread).drained ≤ m.drained
    → ((b : Event) → IsEvent test n logs b → b.kind ≡ Drain → b.thread ≡ e.thread
    → (marks e.thread).drained ≤ index_of test b → index_of test b < m.drained → ⊥)
    → (is_memory_kind e.kind ≡ true → (marks e.thread).done < m.drained)
    → Stands test n (after test s e) (updated marks e.thread m) → Step test n logs s marks e es
make_deed test n w logs s marks e es m ws st r slot d more up none wrote stands =
    let kind = given_kind slot.action e.kind (logged test logs e.thread e.iteration e.place) slot.gives r.given.0 in
    record {
      next = updated marks e.thread m;
      stands = stands;
      rest = record {
        steps = r.steps.1;
        threads = r.threads.1;
        fills =
            fills_after test n marks e es m d (let P : ℕ
            → Type 0 = λ z. AllZip (Fills e.thread) (drop z (loop_of test n e.thread)) (deeds e.thread es) in
            subst P (sym more) slot.more) r.fills;
        given = r.given.1;
        drained = r.drained;
      };
      grows = grows_at marks e.thread m up;
      only = only_deed test n logs marks e slot.action m slot.stands kind more none;
      before = before_deed test n w logs s marks e slot.action ws st slot.stands d r.steps.0;
      deed = λ h. sym (index_is test n e (marks e.thread).done slot.action slot.stands);
      wrote = λ h.
          let i = index_is test n e (marks e.thread).done slot.action slot.stands in
          let l : (marks e.thread).done < m.drained = wrote h in
          mark_at (λ z. index_of test e < z.drained) marks e.thread m e.thread (λ g. omega arith)
          (λ ne. absurd (ne refl));
    }

gives_push : (a : Instr) → Gives a Push → is_storing a ≡ true
gives_push (Store loc written) g = refl
gives_push _ g = absurd g

gives_read : (a : Instr) (v : ℕ) → Gives a (Read v) → is_storing a ≡ false
gives_read (Load reg loc) v g = refl
gives_read _ v g = absurd g

gives_fenced : (a : Instr) → Gives a Fenced → is_storing a ≡ false
gives_fenced Fence g = refl
gives_fenced _ g = absurd g

gives_exchanged : (a : Instr) (v : ℕ) → Gives a (Exchanged v) → (is_storing a ≡ true) × (is_store a ≡ false)
gives_exchanged (Exchange loc written reg) v g = (refl, refl)
gives_exchanged _ v g = absurd g

next_slot : (test : LitmusTest) (n : ℕ) (logs : List Values) (s : State) (marks : ℕ → Mark) (e : Event)
    (es : List Event) → Rest test n logs s marks (e ∷ es) → is_drain e ≡ false
    → NextSlot e.thread (loop_of test n e.thread) (marks e.thread).done e (deeds e.thread es)
next_slot test n logs s marks e es r d =
    let t = e.thread in
    let z : AllZip (Fills t) (drop (marks t).done (loop_of test n t))
    (e ∷ deeds t es) = rw (eq-eqb t t refl, d) at (r.fills t r.threads.0) in
    next_by t (loop_of test n t) (marks t).done e (deeds t es) (drop (marks t).done (loop_of test n t)) refl z

abbrev none_more : (test : LitmusTest) (n : ℕ) (logs : List Values) (marks : ℕ → Mark) (e : Event) → (b : Event)
    → IsEvent test n logs b → b.kind ≡ Drain → b.thread ≡ e.thread → (marks e.thread).drained ≤ index_of test b
    → index_of test b < (marks e.thread).drained → ⊥
none_more test n logs marks e b ev k t h l = omega arith

-- where nothing waits, an exchange leaves no Drain to be executed
none_drains : (test : LitmusTest) (n : ℕ) (logs : List Values) (s : State) (marks : ℕ → Mark) (e : Event) (j : Instr)
    → Stands test n s marks → IsOf test n e (marks e.thread).done j → is_store j ≡ false → s.buffer e.thread ≡ []
    → (b : Event) → IsEvent test n logs b → b.kind ≡ Drain → b.thread ≡ e.thread
    → (marks e.thread).drained ≤ index_of test b → index_of test b < (marks e.thread).done + 1 → ⊥
none_drains test n logs s marks e j st of h empty b ev k t l below =
    go (cases_lt (index_of test b) (marks e.thread).done)
  where
    go : (index_of test b < (marks e.thread).done) ⊎ ((marks e.thread).done ≤ index_of test b) → ⊥
    go (inl lt) =
        let m = marks e.thread in
        let none = none_waits (loop_of test n e.thread) m.drained m.done
        (empty_waits test n e.thread m (s.buffer e.thread) (st.own e.thread) empty) in
        no_drain_among test n logs b e.thread m.drained m.done ev k t none l lt
    go (inr le) =
        let o = same_index test n logs b e (marks e.thread).done j ev of t (omega arith) in
        true≢false (sym (drain_stores test n logs b ev k) ∙ ap is_store o.2 ∙ h)

deed_step : (test : LitmusTest) (n : ℕ) (w : ℕ → ℕ) (logs : List Values) (s : State) (marks : ℕ → Mark) (e : Event)
    (es : List Event) (k : Kind) → e.kind ≡ k → is_drain_kind k ≡ false → AreWriters test w → Stands test n s marks
    → Rest test n logs s marks (e ∷ es)
    → Step test n logs s marks e es
deed_step test n w logs s marks e es Push h d ws st r =
    let slot = next_slot test n logs s marks e es r (ap is_drain_kind h) in
    let storing = gives_push slot.action (let P : Kind → Type 0 = λ z. Gives slot.action z in subst P h slot.gives) in
    let P : Kind → Type 0 = λ z. Stands test n (after_as z test s e)
    (updated marks e.thread (done_more marks e.thread)) in
    make_deed test n w logs s marks e es (done_more marks e.thread) ws st r slot (ap is_drain_kind h) refl (omega arith)
    (none_more test n logs marks e) (λ g. absurd (true≢false (sym g ∙ ap is_memory_kind h)))
    (subst P (sym h) (stands_push test n s marks e slot.action st slot.stands storing))
deed_step test n w logs s marks e es Drain h d ws st r = cc
deed_step test n w logs s marks e es (Read v) h d ws st r =
    let slot = next_slot test n logs s marks e es r (ap is_drain_kind h) in
    let storing = gives_read slot.action v (let P : Kind → Type 0 = λ z. Gives slot.action z in subst P h slot.gives) in
    let P : Kind → Type 0 = λ z. Stands test n (after_as z test s e)
    (updated marks e.thread (done_more marks e.thread)) in
    make_deed test n w logs s marks e es (done_more marks e.thread) ws st r slot (ap is_drain_kind h) refl (omega arith)
    (none_more test n logs marks e) (λ g. absurd (true≢false (sym g ∙ ap is_memory_kind h)))
    (subst P (sym h) (stands_deed test n s marks e slot.action st slot.stands storing))
deed_step test n w logs s marks e es Fenced h d ws st r =
    let slot = next_slot test n logs s marks e es r (ap is_drain_kind h) in
    let storing = gives_fenced slot.action (let P : Kind → Type 0 = λ z. Gives slot.action z in subst P h slot.gives) in
    let P : Kind → Type 0 = λ z. Stands test n (after_as z test s e)
    (updated marks e.thread (done_more marks e.thread)) in
    make_deed test n w logs s marks e es (done_more marks e.thread) ws st r slot (ap is_drain_kind h) refl (omega arith)
    (none_more test n logs marks e) (λ g. absurd (true≢false (sym g ∙ ap is_memory_kind h)))
    (subst P (sym h) (stands_deed test n s marks e slot.action st slot.stands storing))
deed_step test n w logs s marks e es (Exchanged v) h d ws st r =
    let slot = next_slot test n logs s marks e es r (ap is_drain_kind h) in
    let storing = gives_exchanged slot.action v (let P : Kind → Type 0 = λ z. Gives slot.action z in
    subst P h slot.gives) in
    let needs : NeedsAs (Exchanged v) test s e = (let P : Kind → Type 0 = λ z. NeedsAs z test s e in
    subst P h r.steps.0) in
    let order : (marks e.thread).drained ≤ (marks e.thread).done = (st.own e.thread).order in
    let P : Kind → Type 0 = λ z. Stands test n (after_as z test s e)
    (updated marks e.thread (all_drained marks e.thread)) in
    make_deed test n w logs s marks e es (all_drained marks e.thread) ws st r slot (ap is_drain_kind h) refl
    (omega arith) (none_drains test n logs s marks e slot.action st slot.stands storing.1 needs.0)
    (λ g. omega arith)
    (subst P (sym h) (stands_exchange test n s marks e slot.action st slot.stands storing.0 needs.0))

-- The step of a Drain.

only_drain : (test : LitmusTest) (n : ℕ) (logs : List Values) (s : State) (marks : ℕ → Mark) (e : Event)
    (h : Drained test n s marks e) → e.kind ≡ Drain
    → (b : Event) → IsEvent test n logs b → IsOpen test marks b
    → IsDone test (updated marks e.thread (record { done = (marks e.thread).done; drained = h.place + 1 })) b
    → b ≡ e
only_drain test n logs s marks e h k b ev free ready =
    only_by test n logs marks e (record { done = (marks e.thread).done; drained = h.place + 1 }) b ev free ready
    (λ kb t low below. absurd (omega arith))
    (λ kb t low below. at_place t kb low below (cases_lt (index_of test b) h.place))
  where
    at_place : b.thread ≡ e.thread → b.kind ≡ Drain → (marks e.thread).drained ≤ index_of test b
        → index_of test b < h.place + 1 → (index_of test b < h.place) ⊎ (h.place ≤ index_of test b) → b ≡ e
    at_place t kb low below (inl lt) =
        absurd (no_drain_among test n logs b e.thread (marks e.thread).drained h.place ev kb t h.none_before low lt)
    at_place t kb low below (inr le) =
        let o = same_index test n logs b e h.place h.action ev h.of t (omega arith) in
        one_event b e t o.0 o.1 (kb ∙ sym k)

drain_step : (test : LitmusTest) (n : ℕ) (w : ℕ → ℕ) (logs : List Values) (s : State) (marks : ℕ → Mark) (e : Event)
    (es : List Event) → e.kind ≡ Drain → AreWriters test w → Stands test n s marks → Rest test n logs s marks (e ∷ es)
    → Step test n logs s marks e es
drain_step test n w logs s marks e es h ws st r =
    let needs : NeedsAs Drain test s e = (let P : Kind → Type 0 = λ z. NeedsAs z test s e in subst P h r.steps.0) in
    let d = stands_drain test n s marks e st needs in
    let m : Mark = record { done = (marks e.thread).done; drained = d.place + 1 } in
    let P : Kind → Type 0 = λ z. Stands test n (after_as z test s e) (updated marks e.thread m) in
    let from : (marks e.thread).drained ≤ d.place = d.from in
    record {
      next = updated marks e.thread m;
      stands = subst P (sym h) d.stands;
      rest = record {
        steps = r.steps.1;
        threads = r.threads.1;
        fills = λ t below.
            let same : deeds t (e ∷ es) ≡ deeds t es = drain_no_deed t e es (e.thread == t) h in
            mark_at (λ z. AllZip (Fills t) (drop z.done (loop_of test n t)) (deeds t es)) marks e.thread m t
            (λ q. (let Q : ℕ → Type 0 = λ u. AllZip (Fills t) (drop (marks u).done (loop_of test n t)) (deeds t es) in
            subst Q (sym q) (rw same at (r.fills t below))))
            (λ ne. rw same at (r.fills t below));
        given = r.given.1;
        drained = r.drained;
      };
      grows = grows_at marks e.thread m (omega arith);
      only = only_drain test n logs s marks e d h;
      before = before_drain test n logs s marks e d h;
      deed = λ g. absurd (true≢false (sym (ap is_drain_kind h) ∙ g));
      wrote = λ g.
          let i = index_is test n e d.place d.action d.of in
          mark_at (λ z. index_of test e < z.drained) marks e.thread m e.thread (λ q. omega arith)
          (λ ne. absurd (ne refl));
    }
  where
    drain_no_deed : (t : ℕ) (e : Event) (es : List Event) (b : Bool) → e.kind ≡ Drain
        → filter (λ d. not (is_drain d)) (cond b (e ∷ part_of t es) (part_of t es)) ≡ deeds t es
    drain_no_deed t e es true h = rw h refl
    drain_no_deed t e es false h = refl

step_by : (test : LitmusTest) (n : ℕ) (w : ℕ → ℕ) (logs : List Values) (s : State) (marks : ℕ → Mark) (e : Event)
    (es : List Event) (k : Kind) → e.kind ≡ k → AreWriters test w → Stands test n s marks
    → Rest test n logs s marks (e ∷ es) → Step test n logs s marks e es
step_by test n w logs s marks e es Push h ws st r = deed_step test n w logs s marks e es Push h refl ws st r
step_by test n w logs s marks e es Drain h ws st r = drain_step test n w logs s marks e es h ws st r
step_by test n w logs s marks e es (Read v) h ws st r = deed_step test n w logs s marks e es (Read v) h refl ws st r
step_by test n w logs s marks e es Fenced h ws st r = deed_step test n w logs s marks e es Fenced h refl ws st r
step_by test n w logs s marks e es (Exchanged v) h ws st r =
    deed_step test n w logs s marks e es (Exchanged v) h refl ws st r

-- each event of a run is such a step
pub step_of : (test : LitmusTest) (n : ℕ) (w : ℕ → ℕ) (logs : List Values) (s : State) (marks : ℕ → Mark) (e : Event)
    (es : List Event) → AreWriters test w → Stands test n s marks → Rest test n logs s marks (e ∷ es)
    → Step test n logs s marks e es
step_of test n w logs s marks e es ws st r = step_by test n w logs s marks e es e.kind refl ws st r
