-- The event of a reading action in an iteration, and where its value stands in the log.
use Rattle.std.proofs.Common.{◌≡◌, ℕ, ◌+◌, ◌*◌, ◌<◌, ◌==◌, Bool, true, false, cond, not, ◌&&◌, Some, List, [], ◌∷◌, ◌++◌, length, filter, filter_map, take, count_by, slice_index, refl, sym, ap, ◌∙◌, arith, subst}
use Rattle.std.proofs.lemmas.Bool.{and_left, and_right, not-true}
use Rattle.std.proofs.lemmas.List.{get_or_at}
use Rattle.std.proofs.lemmas.List.Elements.{filter_map-append}
use Rattle.std.proofs.lemmas.List.Sums.{sum_by-cons}
use Rattle.std.specs.List.{AllZip, AllByRecursion as Each, cons_option}
use Rattle.x86_subset.specs.Test.{LitmusTest, body_of}
use Rattle.x86_subset.specs.declared.instr.Instr.{Instr}
use Rattle.x86_subset.specs.declared.instr.Instr.TheVariants.{Store, Load, Fence, Exchange}
use Rattle.tso_machine.specs.Event.{Event, Kind, Push, Drain, Read, Fenced, Exchanged, is_drain, is_drain_kind}
use Rattle.tso_machine.specs.Laws.{LogsAreWhole}
use Rattle.tso_machine.specs.Log.{log_of, value_read, value_read_as}
use Rattle.tso_machine.specs.Part.{Slot, slots_of_loop, Fills, Gives, Performs, part_of}
use Rattle.x86_subset.specs.Instr.{is_reading}
use Rattle.seq_conv.specs.Sequence.{action_at}
use Rattle.tso_machine.specs.Source.{same_store}
use Rattle.perp_base.proofs.Lists.{Apart, apart_across, each_before, each_weaker, filter_split, zip_split}
use Rattle.tso_machine.proofs.Parts.{deeds, deeds_apart, reads_in, reads_of_loop, slot_in_loop}

-- The log of a part is that of its deeds.

unread_step : (e : Event) (es : List Event) (k : Kind)
    → filter_map value_read (filter (λ d. not (is_drain d)) es) ≡ filter_map value_read es → e.kind ≡ k
    → filter_map value_read (cond (not (is_drain_kind k)) (e ∷ filter (λ d. not (is_drain d)) es)
    (filter (λ d. not (is_drain d)) es)) ≡ cons_option (value_read_as k) (filter_map value_read es)
unread_step e es Push h k = rw k h
unread_step e es Drain h k = h
unread_step e es (Read v) h k = rw k (ap (λ l. v ∷ l) h)
unread_step e es Fenced h k = rw k h
unread_step e es (Exchanged v) h k = rw k (ap (λ l. v ∷ l) h)

pub drains_unread : (es : List Event) → filter_map value_read (filter (λ d. not (is_drain d)) es)
    ≡ filter_map value_read es
drains_unread [] = refl
drains_unread (e ∷ es) = unread_step e es e.kind (drains_unread es) refl

-- as long as its reads

reads_step : (a : Instr) (k : Kind) (l : List ℕ) (n : ℕ) → Gives a k → length l ≡ n
    → length (cons_option (value_read_as k) l) ≡ cond (is_reading a) 1 0 + n
reads_step (Store loc written) Push l n g h = omega arith
reads_step (Load reg loc) (Read v) l n g h = omega arith
reads_step Fence Fenced l n g h = omega arith
reads_step (Exchange loc written reg) (Exchanged v) l n g h = omega arith
reads_step _ _ l n g h = absurd g

reads_length : (t : ℕ) (slots : List Slot) (es : List Event) → AllZip (Fills t) slots es
    → length (filter_map value_read es) ≡ reads_in slots
reads_length t [] [] h = refl
reads_length t [] (e ∷ es) h = absurd h
reads_length t (s ∷ slots) [] h = absurd h
reads_length t (s ∷ slots) (e ∷ es) h =
    reads_step s.action e.kind (filter_map value_read es) (reads_in slots) h.0.kind (reads_length t slots es h.1)
    ∙ sym (sum_by-cons (λ (r : Slot). cond (is_reading r.action) 1 0) s slots)

read_of : (a : Instr) (k : Kind) → Gives a k → is_reading a ≡ true → (v : ℕ) × (value_read_as k ≡ Some v)
read_of (Store loc written) Push g h = cc
read_of (Load reg loc) (Read v) g h = (v, refl)
read_of Fence Fenced g h = cc
read_of (Exchange loc written reg) (Exchanged v) g h = (v, refl)
read_of _ _ g h = absurd g

-- the event of thread t's reading action at place p in iteration i
pub record ReadAt (test : LitmusTest) (run : List Event) (t p i : ℕ) (action : Instr) : Type 0 where
  pub before : List Event
  pub event : Event
  pub after : List Event
  pub value : ℕ
  pub whole : run ≡ before ++ event ∷ after
  pub thread : event.thread ≡ t
  pub place : event.place ≡ p
  pub iteration : event.iteration ≡ i
  pub gives : Gives action event.kind
  pub no_drain : is_drain event ≡ false
  pub reads : value_read event ≡ Some value
  pub none_before : Each (λ d. (not (is_drain d) && (d.thread == t) && (d.place == p) && (d.iteration == i)) ≡ false)
      before
  pub logged : slice_index (log_of t run) (i * count_by is_reading (body_of test t) + count_by is_reading
      (take p (body_of test t))) ≡ value

guarded : (a b c d : Bool) → (b && c && d) ≡ false → (a && b && c && d) ≡ false
guarded true b c d h = h
guarded false b c d h = refl

left_false : (a b c d : Bool) → (a && b) ≡ false → (a && b && c && d) ≡ false
left_false a b c d h = rw h refl

log_at : (t : ℕ) (run part first rest : List Event) (e : Event) (v k : ℕ) → part_of t run ≡ first ++ e ∷ rest
    → value_read e ≡ Some v → length (filter_map value_read first) ≡ k → slice_index (log_of t run) k ≡ v
log_at t run part first rest e v k h r l =
    let cut : log_of t run ≡ filter_map value_read first ++ v ∷ filter_map value_read rest =
    ap (filter_map value_read) h ∙ filter_map-append value_read first (e ∷ rest)
    ∙ ap (λ o. filter_map value_read first ++ cons_option o (filter_map value_read rest)) r in
    rw cut (get_or_at (filter_map value_read first) v (filter_map value_read rest) 0 k l)

pub read_at : (test : LitmusTest) (n : ℕ) (run : List Event) (t p i : ℕ) (action : Instr)
    → Performs test n t (part_of t run) → i < n → action_at test (record { thread = t; place = p }) ≡ Some action
    → is_reading action ≡ true → ReadAt test run t p i action
read_at test n run t p i action performs early stands reading =
    let body = body_of test t in
    let slot = slot_in_loop body n i p action early stands in
    let here : Slot = record { iteration = i; place = p; action = action } in
    let zipped : AllZip (Fills t) (slot.front ++ here ∷ slot.rest)
    (deeds t run) = subst (λ l. AllZip (Fills t) l (deeds t run)) slot.whole performs in
    let z = zip_split (Fills t) slot.front here slot.rest (deeds t run) zipped in
    let e = z.here in
    let in_part = filter_split (λ d. not (is_drain d)) (part_of t run) z.before e z.after z.whole in
    let in_run = filter_split (λ (d : Event). d.thread == t) run in_part.before e in_part.after in_part.whole in
    let v = read_of action e.kind z.in_step.kind reading in
    let apart : Each (λ d. same_store d e ≡ false) z.before =
    each_weaker (λ d. Each (λ f. same_store d f ≡ false) (e ∷ z.after)) (λ d. same_store d e ≡ false)
    (λ d k. k.0) z.before
    (apart_across same_store z.before (e ∷ z.after) (subst (Apart same_store) z.whole
    (deeds_apart test n t run performs))) in
    let P : Event → Type 0 = λ d. (not (is_drain d) && (d.thread == t) && (d.place == p) && (d.iteration == i))
    ≡ false in
    let none_deed : Each P z.before = each_weaker (λ d. same_store d e ≡ false) P (λ d k.
    guarded (not (is_drain d)) (d.thread == t) (d.place == p) (d.iteration == i)
    (rw (z.in_step.thread, z.in_step.place, z.in_step.iteration) at k)) z.before apart in
    let none_part : Each P in_part.before = each_before P (λ d. not (is_drain d))
    (part_of t run) z.before e z.after in_part (λ d k. left_false (not (is_drain d)) (d.thread == t) (d.place == p)
    (d.iteration == i) (and_left (not (is_drain d)) (d.thread == t) k)) none_deed in
    let none : Each P in_run.before = each_before P (λ d. d.thread == t) run in_part.before e in_part.after in_run
    (λ d k. left_false (not (is_drain d)) (d.thread == t) (d.place == p) (d.iteration == i)
    (and_right (not (is_drain d)) (d.thread == t) k)) none_part in
    let count : length (filter_map value_read in_part.before)
    ≡ i * count_by is_reading body + count_by is_reading (take p body) =
    ap length (sym (drains_unread in_part.before) ∙ ap (filter_map value_read) in_part.kept_before)
    ∙ reads_length t slot.front z.before z.in_step_before ∙ slot.reads_before in
    record {
      before = in_run.before;
      event = e;
      after = in_run.after;
      value = v.0;
      whole = in_run.whole;
      thread = z.in_step.thread;
      place = z.in_step.place;
      iteration = z.in_step.iteration;
      gives = z.in_step.kind;
      no_drain = not-true (is_drain e) in_part.passes;
      reads = v.1;
      none_before = none;
      logged =
          log_at t run (part_of t run) in_part.before in_part.after e v.0
          (i * count_by is_reading body + count_by is_reading (take p body)) in_part.whole v.1 count;
    }

pub logs_are_whole_lem : LogsAreWhole
logs_are_whole_lem test n run t r below =
    ap length (sym (drains_unread (part_of t run)))
    ∙ reads_length t (slots_of_loop (body_of test t) n) (deeds t run) (r.performs t below)
    ∙ reads_of_loop (body_of test t) n
