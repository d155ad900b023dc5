-- Events that perform the bodies once do the instructions of the text.
use Rattle.std.proofs.Common.{◌≡◌, ℕ, ◌+◌, ◌<◌, ◌≤◌, ◌==◌, Bool, false, not, ◌&&◌, Option, None, Some, List, [], ◌∷◌, length, map, filter, slice_get, refl, sym, ap, ◌∙◌, arith, subst, unwrap_or, option_and_then, inl, inr, ◌⊎◌, ne_eqb}
use Rattle.std.proofs.lemmas.Bool.{cases_lt}
use Rattle.std.proofs.lemmas.List.Elements.{recursion_from_All}
use Rattle.std.specs.List.{AllZip, AllByRecursion as Each}
use Rattle.std.specs.Option.{option_map_or}
use Rattle.x86_subset.specs.Instr.{location_of}
use Rattle.x86_subset.specs.Test.{Code, LitmusTest, body_of}
use Rattle.x86_subset.specs.declared.instr.Instr.{Instr}
use Rattle.x86_subset.specs.declared.instr.Instr.TheVariants.{Store, Load, Fence, Exchange}
use Rattle.seq_conv.specs.Sequence.{Site, action_at}
use Rattle.tso_machine.specs.Event.{Event, Kind, Push, Drain, Read, Fenced, Exchanged, event_location, is_drain, is_drain_kind, site_of}
use Rattle.tso_machine.specs.Part.{Fills, Gives, Performs, Slot, part_of, slots_of_body, slots_of_loop}
use Rattle.perp_base.proofs.Lists.{each_from_among, each_weaker, filter_filter, filter_none, filter_same, map_filter, zip_with_each}
use Rattle.tso_machine.proofs.Parts.{IsLoopSlot, deeds, loop_slots}
use Rattle.run_judge.specs.Written.{number_of, text_value}
use Rattle.litmus_outcomes.specs.Machine.{Action, Step}
use Rattle.litmus_outcomes.specs.Outcome.{Does, done_by, is_draining}
use Rattle.litmus_outcomes.proofs.Images.{at_place_of, no_body}
use Rattle.execution_check.specs.Steps.{action_as, action_of, step_of, steps_of}

draining_as : (test : LitmusTest) (e : Event) (k : Kind) → is_draining (action_as k test e) ≡ is_drain_kind k
draining_as test e Push = refl
draining_as test e Drain = refl
draining_as test e (Read v) = refl
draining_as test e Fenced = refl
draining_as test e (Exchanged v) = refl

-- what a thread does is what its events do
done_is : (test : LitmusTest) (t : ℕ) (run : List Event)
    → done_by t (steps_of test run) ≡ map (action_of test) (deeds t run)
done_is test t run =
    let p : Event → Bool = λ e. (e.thread == t) && not (is_draining (action_of test e)) in
    let q : Event → Bool = λ e. (e.thread == t) && not (is_drain e) in
    sym (map_filter (λ (f : Step). f.action) (λ (f : Step). (f.thread == t) && not (is_draining f.action))
    (step_of test) run)
    ∙ ap (map (action_of test)) (filter_same p q run
    (each_from_among (λ e. p e ≡ q e) run (λ e m. ap (λ b. (e.thread == t) && not b) (draining_as test e e.kind))))
    ∙ ap (map (action_of test)) (sym (filter_filter (λ (e : Event). not (is_drain e)) (λ (e : Event). e.thread == t)
    run))

text_of : (test : LitmusTest) (s : Site) (n : ℕ) (a : Instr) → action_at test s ≡ Some a
    → text_value test s n ≡ number_of a
text_of test s n a h = ap (λ o. option_map_or number_of o 0) h

does_as : (test : LitmusTest) (e : Event) (a : Instr) (k : Kind) → action_at test (site_of e) ≡ Some a → Gives a k
    → Does a (action_as k test e)
does_as test e (Store x v) Push h g =
    (at_place_of test e (Store x v) h, text_of test (site_of e) e.iteration (Store x v) h)
does_as test e (Load reg x) (Read v) h g = at_place_of test e (Load reg x) h
does_as test e Fence Fenced h g = tt
does_as test e (Exchange x v reg) (Exchanged w) h g =
    (at_place_of test e (Exchange x v reg) h, text_of test (site_of e) e.iteration (Exchange x v reg) h)
does_as test e _ _ h g = absurd g

slot_does : (test : LitmusTest) (t : ℕ) (slot : Slot) (e : Event) → Fills t slot e → IsLoopSlot (body_of test t) 1 slot
    → Does slot.action (action_of test e)
slot_does test t slot e f k =
    does_as test e slot.action e.kind (rw (f.thread, f.place) (k.1.stands)) f.kind

zip_does : (test : LitmusTest) (t q : ℕ) (body : List Instr) (es : List Event)
    → AllZip (λ slot e. Fills t slot e × IsLoopSlot (body_of test t) 1 slot) (slots_of_body 0 q body) es
    → AllZip Does body (map (action_of test) es)
zip_does test t q [] [] h = tt
zip_does test t q [] (e ∷ es) h = absurd h
zip_does test t q (a ∷ body) [] h = absurd h
zip_does test t q (a ∷ body) (e ∷ es) h = (
  slot_does test t (record { iteration = 0; place = q; action = a }) e h.0.0 h.0.1,
  zip_does test t (q + 1) body es h.1,
)

none_past : (test : LitmusTest) (t : ℕ) (run : List Event) → Each (λ e. e.thread < length test.bodies) run
    → length test.bodies ≤ t → part_of t run ≡ []
none_past test t run h l =
    filter_none (λ (e : Event). e.thread == t) run (each_weaker (λ (e : Event). e.thread < length test.bodies)
    (λ (e : Event). (e.thread == t) ≡ false) (λ e k. ne_eqb e.thread t (λ s. omega arith)) run h)

in_order_by : (test : LitmusTest) (t : ℕ) (run : List Event)
    → (t < length test.bodies → Performs test 1 t (part_of t run)) → Each (λ e. e.thread < length test.bodies) run
    → (t < length test.bodies) ⊎ (length test.bodies ≤ t)
    → AllZip Does (body_of test t) (map (action_of test) (deeds t run))
in_order_by test t run r h (inl l) =
    zip_does test t 0 (body_of test t) (deeds t run)
    (zip_with_each (Fills t) (IsLoopSlot (body_of test t) 1) (slots_of_loop (body_of test t) 1) (deeds t run)
    (r l) (loop_slots (body_of test t) 1))
in_order_by test t run r h (inr l) =
    let P : List Event → Type 0 = λ es. AllZip Does (body_of test t)
    (map (action_of test) (filter (λ e. not (is_drain e)) es)) in
    let Q : List Instr → Type 0 = λ body. AllZip Does body [] in
    subst P (sym (none_past test t run h l)) (subst Q (sym (no_body test t l)) tt)

-- each thread does its instructions once
pub does_all : (test : LitmusTest) (t : ℕ) (run : List Event)
    → (t < length test.bodies → Performs test 1 t (part_of t run)) → Each (λ e. e.thread < length test.bodies) run
    → AllZip Does (body_of test t) (done_by t (steps_of test run))
does_all test t run r h =
    let P : List Action → Type 0 = λ l. AllZip Does (body_of test t) l in
    subst P (sym (done_is test t run)) (in_order_by test t run r h (cases_lt t (length test.bodies)))
