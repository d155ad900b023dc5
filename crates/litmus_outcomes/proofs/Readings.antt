-- What the instruction at a place read in an execution is what was logged for it in the run.
use Rattle.std.proofs.Common.{◌≡◌, ℕ, zero, suc, ◌+◌, ◌*◌, true, cond, Some, List, [], ◌∷◌, take, count_by, slice_get, slice_index, refl, sym, ap, ◌∙◌, arith, option_and_then, option_map, one-add, zero-add, zero-mul}
use Rattle.std.proofs.lemmas.List.Sums.{sum_by-cons}
use Rattle.std.proofs.lemmas.Option.{slice_get-map}
use Rattle.std.specs.List.{AllZip, filter_map, cons_option}
use Rattle.x86_subset.specs.Instr.{is_reading}
use Rattle.x86_subset.specs.Test.{LitmusTest, body_of, columns_of}
use Rattle.x86_subset.specs.declared.instr.Instr.{Instr}
use Rattle.x86_subset.specs.declared.instr.Instr.TheVariants.{Store, Load, Fence, Exchange}
use Rattle.tso_machine.specs.Event.{Event, Kind, Push, Drain, Read, Fenced, Exchanged, event_location, site_of}
use Rattle.tso_machine.specs.Log.{value_read, value_read_as}
use Rattle.tso_machine.specs.Part.{Fills, Gives, part_of, slots_of_body}
use Rattle.tso_machine.specs.Run.{IsRunOf}
use Rattle.seq_conv.specs.Sequence.{action_at}
use Rattle.tso_machine.proofs.Parts.{deeds}
use Rattle.tso_machine.proofs.ReadEvents.{drains_unread}
use Rattle.profile_check.proofs.KindLemmas.{IsReader, named_by}
use Rattle.outcome_conv.specs.Conds.{logged_in}
use Rattle.outcome_conv.proofs.Agree.{thread_below}
use Rattle.litmus_outcomes.specs.Outcome.{done_by, value_read_by}
use Rattle.litmus_outcomes.proofs.Values.{told}
use Rattle.litmus_outcomes.proofs.Images.{action_as, action_of, at_place_of, done_is, steps_of}

-- the event of a reading instruction among what its thread did, from place q on
record DeedAt (t q p : ℕ) (body : List Instr) (es : List Event) : Type 0 where
  event : Event
  value : ℕ
  at : slice_get es p ≡ Some event
  thread : event.thread ≡ t
  place : event.place ≡ q + p
  reads : value_read event ≡ Some value
  logged : slice_index (filter_map value_read es) (count_by is_reading (take p body)) ≡ value

skip : (b : Instr) (k : Kind) (l : List ℕ) (c : ℕ) → Gives b k
    → slice_index (cons_option (value_read_as k) l) (cond (is_reading b) 1 0 + c) ≡ slice_index l c
skip (Store x v) Push l c g = ap (slice_index l) (zero-add c)
skip (Load reg x) (Read v) l c g = rw one-add refl
skip Fence Fenced l c g = ap (slice_index l) (zero-add c)
skip (Exchange x v reg) (Exchanged w) l c g = rw one-add refl
skip _ _ l c g = absurd g

read_by : (a : Instr) (k : Kind) → Gives a k → is_reading a ≡ true → (v : ℕ) × (value_read_as k ≡ Some v)
read_by (Store x v) Push g h = cc
read_by (Load reg x) (Read v) g h = (v, refl)
read_by Fence Fenced g h = cc
read_by (Exchange x v reg) (Exchanged w) g h = (w, refl)
read_by _ _ g h = absurd g

deed_at : (t q p : ℕ) (body : List Instr) (es : List Event) (a : Instr) → AllZip (Fills t) (slots_of_body 0 q body) es
    → slice_get body p ≡ Some a → is_reading a ≡ true → DeedAt t q p body es
deed_at t q p [] es a h e r = cc
deed_at t q p (b ∷ body) [] a h e r = absurd h
deed_at t q zero (b ∷ body) (f ∷ es) a h e r =
    let same : b ≡ a = cc in
    let v = read_by b f.kind h.0.kind (ap is_reading same ∙ r) in
    record {
      event = f;
      value = v.0;
      at = refl;
      thread = h.0.thread;
      place = (let k : f.place ≡ q = h.0.place in omega arith);
      reads = v.1;
      logged = ap (λ o. slice_index (cons_option o (filter_map value_read es)) 0) v.1;
    }
deed_at t q (suc p) (b ∷ body) (f ∷ es) a h e r =
    let d = deed_at t (q + 1) p body es a h.1 e r in
    record {
      event = d.event;
      value = d.value;
      at = d.at;
      thread = d.thread;
      place = (let k : d.event.place ≡ q + 1 + p = d.place in omega arith);
      reads = d.reads;
      logged =
          ap (slice_index (filter_map value_read (f ∷ es)))
          (sum_by-cons (λ i. cond (is_reading i) 1 0) b (take p body))
          ∙ skip b f.kind (filter_map value_read es) (count_by is_reading (take p body)) h.0.kind
          ∙ d.logged;
    }

value_as : (test : LitmusTest) (e : Event) (k : Kind)
    → value_read_by (action_as k test e) ≡ option_map (told test (event_location test e)) (value_read_as k)
value_as test e Push = refl
value_as test e Drain = refl
value_as test e (Read v) = refl
value_as test e Fenced = refl
value_as test e (Exchanged v) = refl

pub value_is : (test : LitmusTest) (run : List Event) (t column place : ℕ) (action : Instr) → IsRunOf test 1 run
    → IsReader test t column place action
    → option_and_then value_read_by (slice_get (done_by t (steps_of test run)) place)
    ≡ Some (told test (named_by action) (logged_in test run t column 0))
value_is test run t column place action r a =
    let body = body_of test t in
    let l = thread_below test t place action a.stands in
    let d = deed_at t 0 place body (deeds t run) action (r.performs t l) a.stands a.reading in
    let e = d.event in
    let at_zero : e.place ≡ place = d.place ∙ zero-add place in
    let stands : action_at test (site_of e) ≡ Some action = rw (d.thread, at_zero) (a.stands) in
    let loc : event_location test e ≡ named_by action = at_place_of test e action stands in
    let column_is : 0 * columns_of test t + column ≡ count_by is_reading (take place body) =
    ap (λ z. z + column) (zero-mul (columns_of test t)) ∙ zero-add column ∙ a.column_is in
    let value : logged_in test run t column 0 ≡ d.value =
    (λ i. slice_index (sym (drains_unread (part_of t run)) i) (column_is i)) ∙ d.logged in
    ap (λ z. option_and_then value_read_by (slice_get z place)) (done_is test t run)
    ∙ ap (option_and_then value_read_by) (slice_get-map (action_of test) (deeds t run) place)
    ∙ ap (λ o. option_and_then value_read_by (option_map (action_of test) o)) d.at
    ∙ value_as test e e.kind
    ∙ ap (option_map (told test (event_location test e))) d.reads
    ∙ (λ i. Some (told test (loc i) (sym value i)))
