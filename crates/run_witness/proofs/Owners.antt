-- The write that a read waits for.
use Rattle.std.proofs.Common.{◌≡◌, ℕ, zero, suc, ◌+◌, ◌*◌, ◌<◌, ◌≤◌, ◌==◌, Bool, true, false, Option, None, Some, List, [], ◌∷◌, length, slice_get, get_or, refl, sym, ap, ◌∙◌, arith, subst, inl, inr, ◌⊎◌, eq-eqb, mul-le-mul_right, unwrap_or, IfSome, MatchOption, option_and_then, zero-mul}
use Rattle.std.proofs.lemmas.Bool.{and_from, cases_lt, cases_eq, true≢false}
use Rattle.std.proofs.lemmas.Option.{slice_get_within}
use Rattle.std.specs.List.{AllByRecursion as Each}
use Rattle.std.specs.Option.{option_map_or}
use Rattle.std.proofs.lemmas.List.Elements.{recursion_from_All}
use Rattle.x86_subset.specs.Instr.{is_store_to, location_of}
use Rattle.x86_subset.specs.Test.{LitmusTest, body_of, Code}
use Rattle.x86_subset.specs.declared.instr.Instr.{Instr}
use Rattle.x86_subset.specs.declared.instr.Instr.TheVariants.{Store, Load, Fence, Exchange}
use Rattle.x86_subset.specs.Shape.{IsLocated, IsTest}
use Rattle.load_log.specs.Values.{Values}
use Rattle.tso_machine.specs.Event.{Event, Kind, Push, Drain, Read, Fenced, event_location, is_drain, is_drain_kind, site_of, written_value}
use Rattle.tso_machine.specs.Machine.{after_all, initial}
use Rattle.seq_conv.specs.Numbers.{IsOwner, Table}
use Rattle.tso_machine.specs.Part.{Slot}
use Rattle.seq_conv.specs.Sequence.{Site, rank_of, site_location, store_count, stores_of, value_of, Origin, store_of}
use Rattle.tso_machine.specs.Source.{is_memory_kind}
use Rattle.tso_machine.specs.Log.{value_read_as}
use Rattle.perp_base.proofs.Lists.{Among, among_from_contains, each_among}
use Rattle.seq_conv.proofs.Stores.{IsStoreOf, location_at_store, rank_within, stores_are}
use Rattle.run_judge.specs.Judgement.{event_of}
use Rattle.run_judge.specs.declared.event.RunEvent.{RunEvent}
use Rattle.run_witness.specs.Marks.{Mark, index_of, is_storing, loop_of, stored}
use Rattle.run_witness.specs.Order.{IsEvent, deed_kind, is_store, logged, stores_to}
use Rattle.run_witness.specs.Order.MustPrecede.{read_from}
use Rattle.run_witness.specs.Right.{AreRight}
use Rattle.run_witness.specs.Search.{IsCase}
use Rattle.run_witness.specs.Stage.{Blocks, IsClear, IsFront, IsOpen, IsStage, at_marks, writer_of}
use Rattle.run_witness.proofs.Begun.{deed_kind_of, writers}
use Rattle.run_witness.proofs.Reading.{store_stores}
use Rattle.run_witness.proofs.Slots.{has_item, stored_lt}
use Rattle.run_witness.proofs.Stands.{IsOf}
use Rattle.run_witness.proofs.Steps.{event_of_slot, memory_storing, writes_at}
use Rattle.run_witness.proofs.Waits.{match_false, read_by, right_value}

-- Owners.

thread_some : (test : LitmusTest) (t p : ℕ) (a : Instr) (o : Option Code)
    → slice_get test.bodies t ≡ o → slice_get (option_map_or
    (λ (code : Code). code.actions) o []) p ≡ Some a → t < length test.bodies
thread_some test t p a None e h = cc
thread_some test t p a (Some code) e h = slice_get_within test.bodies t code e

-- the store of an origin
pub record Owned (test : LitmusTest) (n x : ℕ) (o : Origin) : Type 0 where
  pub thread : o.thread < length test.bodies
  pub place : o.place < length (body_of test o.thread)
  pub early : o.iteration < n
  pub action : Instr
  pub stands : slice_get (body_of test o.thread) o.place ≡ Some action
  pub stores : is_store_to x action ≡ true
  pub among : Among (store_of o) (stores_of test x)

owned : (test : LitmusTest) (n x v : ℕ) (o : Origin) → IsOwner test x v (Some o) → v ≤ store_count test x * n
    → Owned test n x o
owned test n x v o h l =
    let a = among_from_contains (stores_of test x) (store_of o) h.store in
    let s = each_among (IsStoreOf test x) (store_of o) (stores_of test x) a (stores_are test x) in
    let r = rank_within test x (store_of o) a in
    let val : store_count test x * o.iteration + rank_of test x (store_of o) ≡ v = h.value in
    let pos : 1 ≤ rank_of test x (store_of o) = r.positive in
    record {
      thread = thread_some test o.thread o.place s.action (slice_get test.bodies o.thread) refl s.stands;
      place = slice_get_within (body_of test o.thread) o.place s.action s.stands;
      early = early (store_count test x) val pos (cases_lt o.iteration n);
      action = s.action;
      stands = s.stands;
      stores = s.stores;
      among = a;
    }
  where
    early : (k : ℕ) → store_count test x * o.iteration + rank_of test x (store_of o) ≡ v
        → 1 ≤ rank_of test x (store_of o) → (o.iteration < n) ⊎ (n ≤ o.iteration) → o.iteration < n
    early k val pos (inl g) = g
    early k val pos (inr g) =
        (let m : n * store_count test x ≤ o.iteration * store_count test x = mul-le-mul_right (store_count test x) g in
        absurd (omega arith))

-- nobody's value is none that a read can wait for
pub owner_some : (test : LitmusTest) (n x v : ℕ) → IsOwner test x v None → v ≤ store_count test x * n → 1 ≤ v → ⊥
owner_some test n x v h l one =
    elim (h.nobody.0 refl) [
      | inl e ↦ omega arith
      | inr e ↦ (let c : store_count test x * n ≡ 0 = ap (λ (ss : List Site). length ss * n) e
          ∙ zero-mul n in omega arith)
    ]

memory_push : (a : Instr) (v : ℕ) (k : Kind) → k ≡ deed_kind a v → is_store a ≡ true → is_memory_kind k ≡ false
memory_push (Store loc written) v k h s = ap is_memory_kind h
memory_push _ v k h s = cc

-- a read waits for the write of its value, where memory has another one
pub writer_blocks : (test : LitmusTest) (table : Table) (n : ℕ) (logs : List Values) (ms : List Mark) (words : List ℕ)
    (events : List Event) (e b : Event) (x v : ℕ) (o : Origin) → IsCase test table n logs → AreRight test n logs
    → IsStage test n logs ms words events → IsFront test n logs (at_marks ms) e
    → e.kind ≡ Read v → x ≡ event_location test e → x < 16 → stores_to test e.thread x ≡ false
    → (get_or words x 0 ≡ v → ⊥) → IsOwner test x v (Some o)
    → IsEvent test n logs b → b.thread ≡ o.thread → b.iteration ≡ o.iteration → b.place ≡ o.place
    → is_memory_kind b.kind ≡ true → Blocks test n logs (at_marks ms) e b
writer_blocks test table n logs ms words events e b x v o case right st f k at l other ne h ev th it pl m =
    let w = writer_of test in
    let ws = writers test case.writers in
    let marks = at_marks ms in
    let s = after_all test initial events in
    let a = among_from_contains (stores_of test x) (store_of o) h.store in
    let site : site_of b ≡ store_of o = (λ i. record { thread = th i; place = pl i }) in
    let loc : event_location test b ≡ x = ap (site_location test) site ∙ location_at_store test x (store_of o) a in
    let written : written_value test b ≡ v = (λ i. value_of test (loc i) (site i) (it i)) ∙ h.value in
    let free_e : IsOpen test marks e = (let q = f.next in omega arith) in
    let le : s.memory (event_location test e) ≤ v = st.begun.coming e v f.event k
    (ap (stores_to test e.thread) (sym at) ∙ other) free_e in
    let word : get_or words x 0 ≡ s.memory (event_location test e) = st.memory x l ∙ ap s.memory at in
    let less : s.memory (event_location test e) < v = strict le word in
    let storing = memory_storing test n logs b ev m in
    let of = event_of_slot test n logs b ev in
    let r = writes_at test n w logs b x ws ev m loc in
    let val = r.value in
    let memory : s.memory (event_location test e)
    ≡ stored x (loop_of test n b.thread) (marks b.thread).drained = ap s.memory (sym at)
    ∙ st.begun.stands.memory x (w x) (ws x) ∙ ap (λ u. stored x (loop_of test n u) (marks u).drained) (sym r.mine) in
    let slot : Slot = record { iteration = b.iteration; place = b.place; action = ev.action } in
    let after : (index_of test b < (marks b.thread).drained)
    → ⊥ = λ g. (let q = stored_lt x (loop_of test n b.thread) (index_of test b)
    (marks b.thread).drained slot of r.here g in omega arith) in
    record {
      event = ev;
      free =
          free after storing of (is_drain b) refl ev.kind (cases_lt (index_of test b) (at_marks ms b.thread).drained)
          (cases_lt (index_of test b) (at_marks ms b.thread).done);
      precedes =
          read_from v k (omega arith) (ap (stores_to test e.thread) (sym at) ∙ other)
          (and_from (is_memory_kind b.kind) (event_location test b == event_location test e) m
          (eq-eqb (event_location test b) (event_location test e) (loc ∙ at))) written;
    }
  where
    strict : (after_all test initial events).memory (event_location test e) ≤ v
        → get_or words x 0 ≡ (after_all test initial events).memory (event_location test e)
        → (after_all test initial events).memory (event_location test e) < v
    strict le word = go (cases_eq ((after_all test initial events).memory (event_location test e)) v)
      where
        go : ((after_all test initial events).memory (event_location test e) ≡ v)
            ⊎ ((after_all test initial events).memory (event_location test e) ≡ v → ⊥)
            → (after_all test initial events).memory (event_location test e) < v
        go (inl q) = absurd (ne (word ∙ q))
        go (inr q) = omega arith

    free : ((index_of test b < (at_marks ms b.thread).drained) → ⊥) → is_storing ev.action ≡ true
        → IsOf test n b (index_of test b) ev.action → (c : Bool) → is_drain b ≡ c
        → (b.kind ≡ deed_kind ev.action (logged test logs b.thread b.iteration b.place))
        ⊎ ((b.kind ≡ Drain) × (is_store ev.action ≡ true))
        → (index_of test b < (at_marks ms b.thread).drained) ⊎ ((at_marks ms b.thread).drained ≤ index_of test b)
        → (index_of test b < (at_marks ms b.thread).done) ⊎ ((at_marks ms b.thread).done ≤ index_of test b)
        → IsOpen test (at_marks ms) b
    free after storing of c d kind (inl g) r = absurd (after g)
    free after storing of true d kind (inr g) r = rw d g
    free after storing of false d kind (inr g) (inr q) = rw d q
    free after storing of false d (inr kb) (inr g) (inl q) = absurd (true≢false (sym (ap is_drain_kind kb.0) ∙ d))
    free after storing of false d (inl kb) (inr g) (inl q) =
        absurd (true≢false (sym m ∙ memory_push ev.action (logged test logs b.thread b.iteration b.place) b.kind kb
        (st.begun.stores b.thread (index_of test b) (record {
          iteration = b.iteration;
          place = b.place;
          action = ev.action;
        }) g q of storing)))

pub other_value : (test : LitmusTest) (n : ℕ) (logs : List Values) (e : Event) (x v : ℕ) → AreRight test n logs
    → IsEvent test n logs e → e.kind ≡ Read v → x ≡ event_location test e → stores_to test e.thread x ≡ false
    → v ≤ store_count test x * n
other_value test n logs e x v right ev k at other =
    let r = right_value test n logs e v right ev (ap value_read_as k) in
    let P : ℕ → Type 0 = λ z. v ≤ store_count test z * n in
    subst P (sym at) (match_false (stores_to test e.thread (event_location test e)) _ _
    (ap (stores_to test e.thread) (sym at) ∙ other) r)

pub owned_for : (test : LitmusTest) (n : ℕ) (logs : List Values) (e : Event) (x v : ℕ) (o : Origin)
    → AreRight test n logs → IsEvent test n logs e → e.kind ≡ Read v → x ≡ event_location test e
    → stores_to test e.thread x ≡ false → IsOwner test x v (Some o) → Owned test n x o
owned_for test n logs e x v o right ev k at other h =
    owned test n x v o h (other_value test n logs e x v right ev k at other)

pub waits_some : (test : LitmusTest) (n : ℕ) (logs : List Values) (ms : List Mark) (words : List ℕ)
    (events : List Event) (e : Event) (x v : ℕ) → IsStage test n logs ms words events
    → IsFront test n logs (at_marks ms) e → e.kind ≡ Read v → x ≡ event_location test e → x < 16
    → stores_to test e.thread x ≡ false
    → (get_or words x 0 ≡ v → ⊥) → 1 ≤ v
waits_some test n logs ms words events e x v st f k at l other ne =
    let s = after_all test initial events in
    let le : s.memory (event_location test e) ≤ v = st.begun.coming e v f.event k
    (ap (stores_to test e.thread) (sym at) ∙ other) (let q = f.next in omega arith) in
    let word : get_or words x 0 ≡ s.memory (event_location test e) = st.memory x l ∙ ap s.memory at in
    go (cases_lt v 1) word le
  where
    go : (v < 1) ⊎ (1 ≤ v) → get_or words x 0 ≡ (after_all test initial events).memory (event_location test e)
        → (after_all test initial events).memory (event_location test e) ≤ v → 1 ≤ v
    go (inl q) word le = absurd (ne (omega arith))
    go (inr q) word le = q

pub write_is_event : (test : LitmusTest) (n : ℕ) (logs : List Values) (e : Event) → e.thread < length test.bodies
    → e.place < length (body_of test e.thread) → e.iteration < n
    → ((a : Instr) → slice_get (body_of test e.thread) e.place ≡ Some a → is_storing a ≡ true)
    → ((a : Instr) → slice_get (body_of test e.thread) e.place ≡ Some a → is_storing a ≡ true
    → (e.kind ≡ deed_kind a (logged test logs e.thread e.iteration e.place))
    ⊎ ((e.kind ≡ Drain) × (is_store a ≡ true)))
    → IsEvent test n logs e
write_is_event test n logs e below within early storing kind =
    let s = has_item (body_of test e.thread) e.place within in
    record {
      thread = below;
      early = early;
      action = s.item;
      stands = s.stands;
      kind = kind s.item s.stands (storing s.item s.stands);
    }

-- the store of an origin is one
pub owned_storing : (test : LitmusTest) (n x : ℕ) (o : Origin) → Owned test n x o → (a : Instr)
    → slice_get (body_of test o.thread) o.place ≡ Some a → is_storing a ≡ true
owned_storing test n x o w a h =
    let c : Some a ≡ Some w.action = sym h ∙ w.stands in
    let same : a ≡ w.action = cc in
    ap is_storing same ∙ store_stores x w.action w.stores

pub match_both : {X : Type 0} (o : Option X) (P R : Type 0) (Q S : X → Type 0) → (P → R) → ((x : X) → Q x → S x)
    → MatchOption o P Q → MatchOption o R S
match_both None P R Q S f g h = f h
match_both (Some x) P R Q S f g h = g x h

-- A location that is named is one of the test.

located_in : (m : ℕ) (actions : List Instr) (p : ℕ) (a : Instr)
    → Each (λ i. IfSome (location_of i) (λ x. x < m)) actions → slice_get actions p ≡ Some a
    → IfSome (location_of a) (λ x. x < m)
located_in m [] p a h e = cc
located_in m (i ∷ actions) zero a h e =
    let s : i ≡ a = cc in
    let P : Instr → Type 0 = λ z. IfSome (location_of z) (λ x. x < m) in subst P s h.0
located_in m (i ∷ actions) (suc p) a h e = located_in m actions p a h.1 e

pub located_by : (m : ℕ) (codes : List Code) (t p : ℕ) (a : Instr)
    → Each (λ (code : Code). IsLocated m code.actions) codes
    → slice_get (option_map_or (λ (code : Code). code.actions)
    (slice_get codes t) []) p ≡ Some a → IfSome (location_of a) (λ x. x < m)
located_by m [] t p a h e = cc
located_by m (code ∷ codes) zero p a h e =
    located_in m code.actions p a (recursion_from_All
    (λ i. IfSome (location_of i) (λ x. x < m)) code.actions h.0) e
located_by m (code ∷ codes) (suc t) p a h e = located_by m codes t p a h.1 e

load_at : (a : Instr) (m v : ℕ) (k : Kind) → k ≡ Read v → k ≡ deed_kind a v
    → IfSome (location_of a) (λ x. x < m)
    → unwrap_or (option_and_then location_of (Some a)) 0 < m
load_at (Store loc written) m v k h d l = (let c : Read v ≡ Push = sym h ∙ d in cc)
load_at (Load reg loc) m v k h d l = l
load_at Fence m v k h d l = (let c : Read v ≡ Fenced = sym h ∙ d in cc)
load_at (Exchange loc written reg) m v k h d l = l

pub location_within : (test : LitmusTest) (n : ℕ) (logs : List Values) (e : Event) (v x : ℕ)
    → IsTest test → IsEvent test n logs e → e.kind ≡ Read v → x ≡ event_location test e
    → x < length test.locations
location_within test n logs e v x h ev k at =
    let d = deed_kind_of test n logs e ev (ap is_drain_kind k) in
    let l = located_by (length test.locations) test.bodies e.thread e.place ev.action
    (recursion_from_All
    (λ (code : Code). IsLocated
    (length test.locations) code.actions) test.bodies h.located) ev.stands in
    let r = read_by test n logs e ev v e.kind refl (ap value_read_as k) ev.action refl d in
    let q = load_at ev.action (length test.locations) v e.kind k (d ∙ ap (deed_kind ev.action) (sym r.value)) l in
    let s : event_location test e ≡ unwrap_or (option_and_then location_of (Some ev.action))
    0 = ap (λ o. unwrap_or (option_and_then location_of o) 0) ev.stands in
    omega arith

pub clear_or : (test : LitmusTest) (n : ℕ) (logs : List Values) (marks : ℕ → Mark) (e : Event) (R : Type 0)
    (o : Option RunEvent) → (IsClear test n logs marks e → R)
    → MatchOption o (IsClear test n logs marks e)
    (λ b. Blocks test n logs marks e (event_of b))
    → MatchOption o R (λ b. Blocks test n logs marks e (event_of b))
clear_or test n logs marks e R None f h = f h
clear_or test n logs marks e R (Some x) f h = h
