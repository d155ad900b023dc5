-- What is kept of a run that has been begun along edges, and that an event more keeps it.
use Rattle.std.proofs.Common.{◌≡◌, ℕ, ◌==◌, ◌&&◌, Bool, true, false, cond, Some, List, [], ◌∷◌, ◌++◌, refl, sym, ap, ◌∙◌, subst, inl, inr, ◌⊎◌, eq-eqb, unwrap_or, option_and_then}
use Rattle.std.proofs.lemmas.Bool.{and_from, and_parts, both_ways, cases_eq, eqb-true}
use Rattle.x86_subset.specs.Instr.{is_store_to, location_of}
use Rattle.x86_subset.specs.Test.{LitmusTest, body_of}
use Rattle.x86_subset.specs.declared.instr.Instr.{Instr}
use Rattle.x86_subset.specs.declared.instr.Instr.TheVariants.{Fence}
use Rattle.tso_machine.specs.Event.{Event, Kind, event_location, written_value}
use Rattle.tso_machine.specs.Machine.{State, after_all, initial, updated}
use Rattle.tso_machine.specs.Part.{Slot}
use Rattle.tso_machine.specs.Source.{is_memory_kind}
use Rattle.tso_machine.proofs.Runs.{memory_after_event}
use Rattle.seq_conv.specs.Sequence.{action_at, site_location, value_of}
use Rattle.perp_base.proofs.Lists.{each_append}
use Rattle.run_witness.specs.Marks.{Mark, is_storing}
use Rattle.run_witness.proofs.Begun.{after_push}
use Rattle.run_witness.proofs.Reading.{store_stores}
use Rattle.run_witness.proofs.Slots.{slot_at}
use Rattle.run_witness.proofs.Stands.{stores_at}
use Rattle.verdict.specs.Edges.{is_access}
use Rattle.run_orders.specs.Orders.{FromStart, FromStore, IsWanted, Spot, StoresAt, slot_in, value_at}
use Rattle.run_orders.specs.Course.{Begun, IsOpen, mark_then}
use Rattle.run_orders.proofs.Gone.{Next, deed}

pub storing_access : (a : Instr) → is_storing a ≡ true → is_access a ≡ true
storing_access Fence h = cc
storing_access _ h = refl

abbrev pub spot : ℕ → ℕ → Spot
spot t i = record { thread = t; index = i }

-- no edge leads to the spot from an open one
abbrev pub IsFree : LitmusTest → ℕ → (Spot → Spot → Bool) → (ℕ → Mark) → Spot → Type 0
IsFree test n edge marks a = (b : Spot) → edge b a ≡ true → IsOpen test n marks b → ⊥

-- the moment of a spot has come with the event of this kind at place i of thread t's loop
pub record Came (test : LitmusTest) (n : ℕ) (edge : Spot → Spot → Bool) (marks : ℕ → Mark) (t i : ℕ) (k : Kind)
    (a : Spot) : Type 0 where
  pub is : a ≡ spot t i
  pub free : IsFree test n edge marks a
  pub writes : (x : ℕ) → StoresAt test n x a → is_memory_kind k ≡ true

abbrev pub marks_then : (ℕ → Mark) → ℕ → ℕ → Kind → ℕ → Mark
marks_then marks t i k = updated marks t (mark_then k i (marks t))

-- what an event changes of the open spots
pub record Comes (test : LitmusTest) (n : ℕ) (edge : Spot → Spot → Bool) (wanted : Spot → ℕ → Bool)
    (marks : ℕ → Mark) (t i : ℕ) (s : Slot) (k : Kind) : Type 0 where
  pub back : (a : Spot) → IsOpen test n (marks_then marks t i k) a → IsOpen test n marks a
  pub stays : (a : Spot) → IsOpen test n marks a
      → IsOpen test n (marks_then marks t i k) a ⊎ Came test n edge marks t i k a
  pub comes : is_memory_kind k ≡ true → IsOpen test n marks (spot t i) × IsFree test n edge marks (spot t i)
      × (IsOpen test n (marks_then marks t i k) (spot t i) → ⊥)
  pub wants : IsWanted test wanted (deed t s k)

cases_spot : (a b : Spot) → (a ≡ b) ⊎ (a ≡ b → ⊥)
cases_spot a b = go (cases_eq a.thread b.thread) (cases_eq a.index b.index)
  where
    go : (a.thread ≡ b.thread) ⊎ (a.thread ≡ b.thread → ⊥) → (a.index ≡ b.index) ⊎ (a.index ≡ b.index → ⊥)
        → (a ≡ b) ⊎ (a ≡ b → ⊥)
    go (inl t) (inl i) = inl (λ j. record { thread = t j; index = i j })
    go (inl t) (inr ne) = inr (λ q. ne (ap (λ (z : Spot). z.index) q))
    go (inr ne) i = inr (λ q. ne (ap (λ (z : Spot). z.thread) q))

-- the action of a slot
pub slot_action : (test : LitmusTest) (n : ℕ) (a : Spot) (s : Slot) → slot_in test n a ≡ Some s
    → action_at test (record { thread = a.thread; place = s.place }) ≡ Some s.action
slot_action test n a s h = (slot_at (body_of test a.thread) n a.index s h).stands

pub one_slot : (a b : Slot) → Some a ≡ Some b → a ≡ b
one_slot a b h = cc

-- the location of what stores there
pub location_at : (test : LitmusTest) (n x : ℕ) (a : Spot) → (w : StoresAt test n x a)
    → site_location test (record { thread = a.thread; place = w.slot.place }) ≡ x
location_at test n x a w =
    let act = w.slot.action in
    let at : is_store_to x act ≡ (unwrap_or (option_and_then location_of (Some act)) 0 == x) = stores_at act x
    (store_stores x act w.stores) in
    ap (λ o. unwrap_or (option_and_then location_of o) 0) (slot_action test n a w.slot w.stands)
    ∙ eqb-true (unwrap_or (option_and_then location_of (Some act)) 0) x (sym at ∙ w.stores)

-- the event that writes memory stores to its location
stores_then : (test : LitmusTest) (n t i : ℕ) (s : Slot) (x : ℕ) → slot_in test n (spot t i) ≡ Some s
    → is_storing s.action ≡ true → site_location test (record { thread = t; place = s.place }) ≡ x
    → StoresAt test n x (spot t i)
stores_then test n t i s x stands storing h = record {
  slot = s;
  stands = stands;
  stores =
      stores_at s.action x storing
      ∙ eq-eqb (unwrap_or (option_and_then location_of (Some s.action)) 0) x
      (ap (λ o. unwrap_or (option_and_then location_of o) 0) (sym (slot_action test n (spot t i) s stands)) ∙ h);
}

memory_then : (test : LitmusTest) (events : List Event) (e : Event) (x : ℕ)
    → (after_all test initial (events ++ e ∷ [])).memory x
    ≡ cond (is_memory_kind e.kind && (event_location test e == x)) (written_value test e)
    ((after_all test initial events).memory x)
memory_then test events e x =
    ap (λ (z : State). z.memory x) (after_push test initial events e)
    ∙ memory_after_event test (after_all test initial events) e x e.kind

start_then : (test : LitmusTest) (n : ℕ) (edge : Spot → Spot → Bool) (wanted : Spot → ℕ → Bool) (marks : ℕ → Mark)
    (events : List Event) (t i : ℕ) (s : Slot) (k : Kind) → Begun test n edge wanted marks events
    → Next test n marks events t i s k → Comes test n edge wanted marks t i s k → (x : ℕ) (r : Spot)
    → FromStart test n edge x r → IsOpen test n (marks_then marks t i k) r
    → (after_all test initial (events ++ deed t s k ∷ [])).memory x ≡ 0
start_then test n edge wanted marks events t i s k b next c x r f o =
    memory_then test events (deed t s k) x
    ∙ go (is_memory_kind k && (event_location test (deed t s k) == x)) refl
  where
    go : (w : Bool) → (is_memory_kind k && (event_location test (deed t s k) == x)) ≡ w
        → cond w (written_value test (deed t s k)) ((after_all test initial events).memory x) ≡ 0
    go false h = b.start x r f (c.back r o)
    go true h =
        let p = and_parts (is_memory_kind k) (event_location test (deed t s k) == x) h in
        let w = stores_then test n t i s x next.stands (next.writes p.0)
        (eqb-true (event_location test (deed t s k)) x p.1) in
        let P : Spot → Type 0 = λ z. IsOpen test n (marks_then marks t i k) z in
        absurd ((c.comes p.0).1 r (f.after (spot t i) w (λ q. (c.comes p.0).2 (subst P (sym q) o))) (c.back r o))

stored_then : (test : LitmusTest) (n : ℕ) (edge : Spot → Spot → Bool) (wanted : Spot → ℕ → Bool) (marks : ℕ → Mark)
    (events : List Event) (t i : ℕ) (s : Slot) (k : Kind) → Begun test n edge wanted marks events
    → Next test n marks events t i s k → Comes test n edge wanted marks t i s k → (x : ℕ) (r : Spot)
    → (f : FromStore test n edge x r) → IsOpen test n (marks_then marks t i k) r
    → (IsOpen test n (marks_then marks t i k) f.source → ⊥)
    → (after_all test initial (events ++ deed t s k ∷ [])).memory x ≡ value_at test n x f.source f.stores
stored_then test n edge wanted marks events t i s k b next c x r f o shut =
    memory_then test events (deed t s k) x
    ∙ go (is_memory_kind k && (event_location test (deed t s k) == x)) refl
  where
    -- the event is of the source's slot
    same_slot : spot t i ≡ f.source → s ≡ f.stores.slot
    same_slot q =
        let P : Spot → Type 0 = λ z. slot_in test n z ≡ Some s in
        one_slot s f.stores.slot (sym (subst P q next.stands) ∙ f.stores.stands)

    old : (is_memory_kind k && (event_location test (deed t s k) == x)) ≡ false → IsOpen test n marks f.source → ⊥
    old h q = out (c.stays f.source q)
      where
        out : IsOpen test n (marks_then marks t i k) f.source ⊎ Came test n edge marks t i k f.source → ⊥
        out (inl g) = shut g
        out (inr g) =
            let sl = same_slot (sym g.is) in
            let at : event_location test (deed t s k) ≡ x =
            (λ j. site_location test (record { thread = (sym g.is j).thread; place = (sl j).place }))
            ∙ location_at test n x f.source f.stores in
            both_ways (is_memory_kind k && (event_location test (deed t s k) == x)) h
            (and_from (is_memory_kind k) (event_location test (deed t s k) == x) (g.writes x f.stores)
            (eq-eqb (event_location test (deed t s k)) x at))

    other : StoresAt test n x (spot t i) → (spot t i ≡ f.source → ⊥)
        → IsOpen test n marks (spot t i) × IsFree test n edge marks (spot t i)
        × (IsOpen test n (marks_then marks t i k) (spot t i) → ⊥) → ⊥
    other w ne m = out (f.either (spot t i) w ne (λ q.
        let P : Spot → Type 0 = λ z. IsOpen test n (marks_then marks t i k) z in m.2 (subst P (sym q) o)))
      where
        past : IsOpen test n marks f.source → ⊥
        past q = in_turn (c.stays f.source q)
          where
            in_turn : IsOpen test n (marks_then marks t i k) f.source ⊎ Came test n edge marks t i k f.source → ⊥
            in_turn (inl g) = shut g
            in_turn (inr g) = ne (sym g.is)

        out : (edge (spot t i) f.source ≡ true) ⊎ (edge r (spot t i) ≡ true) → ⊥
        out (inl g) =
            past (b.closed (spot t i) f.source g m.0 f.stores.slot f.stores.stands
            (storing_access f.stores.slot.action (store_stores x f.stores.slot.action f.stores.stores)))
        out (inr g) = m.1 r g (c.back r o)

    go : (w : Bool) → (is_memory_kind k && (event_location test (deed t s k) == x)) ≡ w
        → cond w (written_value test (deed t s k)) ((after_all test initial events).memory x)
        ≡ value_at test n x f.source f.stores
    go false h = b.stored x r f (c.back r o) (old h)
    go true h = by (cases_spot (spot t i) f.source)
      where
        p : (is_memory_kind k ≡ true) × ((event_location test (deed t s k) == x) ≡ true)
        p = and_parts (is_memory_kind k) (event_location test (deed t s k) == x) h

        at : event_location test (deed t s k) ≡ x
        at = eqb-true (event_location test (deed t s k)) x p.1

        by : (spot t i ≡ f.source) ⊎ (spot t i ≡ f.source → ⊥)
            → written_value test (deed t s k) ≡ value_at test n x f.source f.stores
        by (inl q) =
            let sl = same_slot q in
            (λ j. value_of test (at j) (record { thread = (q j).thread; place = (sl j).place }) (sl j).iteration)
        by (inr ne) =
            absurd (other (stores_then test n t i s x next.stands (next.writes p.0) at) ne (c.comes p.0))

pub begun_step : (test : LitmusTest) (n : ℕ) (edge : Spot → Spot → Bool) (wanted : Spot → ℕ → Bool)
    (marks : ℕ → Mark) (events : List Event) (t i : ℕ) (s : Slot) (k : Kind) → Begun test n edge wanted marks events
    → Next test n marks events t i s k → Comes test n edge wanted marks t i s k
    → Begun test n edge wanted (marks_then marks t i k) (events ++ deed t s k ∷ [])
begun_step test n edge wanted marks events t i s k b next c = record {
  gone = next.gone;
  closed = λ a d h o z at acc. out a d h o (c.stays d (b.closed a d h (c.back a o) z at acc));
  start = λ x r f o. start_then test n edge wanted marks events t i s k b next c x r f o;
  stored = λ x r f o q. stored_then test n edge wanted marks events t i s k b next c x r f o q;
  reads = each_append (IsWanted test wanted) events (deed t s k ∷ []) b.reads (c.wants, tt);
}
  where
    out : (a d : Spot) → edge a d ≡ true → IsOpen test n (marks_then marks t i k) a
        → IsOpen test n (marks_then marks t i k) d ⊎ Came test n edge marks t i k d
        → IsOpen test n (marks_then marks t i k) d
    out a d h o (inl g) = g
    out a d h o (inr g) = absurd (g.free a h (c.back a o))
