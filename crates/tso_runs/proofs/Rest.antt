-- What a part has left: the form in which parts are compared and built.
use Rattle.std.proofs.Common.{◌≡◌, refl, ap, ◌∙◌, subst, ℕ, suc, ◌+◌, ◌-◌, Bool, true, false, not, if◌then◌else◌, None, Some, List, [], ◌∷◌, ◌++◌, length, arith}
use Rattle.std.proofs.lemmas.List.{length-append}
use Rattle.std.specs.Prelude.{All, filter}
use Rattle.std.specs.List.{AllZip}
use Rattle.x86_subset.specs.Test.{LitmusTest}
use Rattle.x86_subset.specs.declared.instr.Instr.{Instr}
use Rattle.x86_subset.specs.declared.instr.Instr.TheVariants.{Store as DoStore, Load as DoLoad, Fence, Exchange}
use Rattle.tso_machine.specs.Event.{Event, Kind, Push, Drain, Read, Fenced, Exchanged, is_drain, is_drain_kind}
use Rattle.tso_machine.specs.Machine.{Write}
use Rattle.tso_machine.specs.Part.{Slot, Gives, Fills, KeepsBuffer, own_after}
use Rattle.perp_base.proofs.Lists.{each_append}
use Rattle.store_buffer.specs.Generator.{asks_drain}
use Rattle.perp_base.specs.declared.options.Options.{Options}
use Rattle.tso_runs.specs.Drained.{kind_as, drains_due, pushed, DrainsWhereDue}
use Rattle.tso_runs.specs.Turns.{turn_action, turn_drains, turns_after, turns_of}
use Rattle.tso_runs.proofs.Cuts.{AreDrains}

-- the event with these parts
abbrev pub event : ℕ → ℕ → ℕ → Kind → Event
event t n p k = record { thread = t; iteration = n; place = p; kind = k }

pub kind_from_gives : (action : Instr) (k : Kind) → Gives action k → (v : ℕ) × (k ≡ kind_as action v)
kind_from_gives (DoStore loc written) Push g = (0, refl)
kind_from_gives (DoLoad reg loc) (Read v) g = (v, refl)
kind_from_gives Fence Fenced g = (0, refl)
kind_from_gives (Exchange loc written reg) (Exchanged v) g = (v, refl)
kind_from_gives _ _ g = absurd g

-- the Drains that are due before an action
abbrev pub due_of : Instr → ℕ → Bool → ℕ → ℕ
due_of action = drains_due (kind_as action 0)

due-kind_as : (action : Instr) (v capacity : ℕ) (asks : Bool) (b : ℕ)
    → drains_due (kind_as action v) capacity asks b ≡ due_of action capacity asks b
due-kind_as (DoStore loc written) v capacity asks b = refl
due-kind_as (DoLoad reg loc) v capacity asks b = refl
due-kind_as Fence v capacity asks b = refl
due-kind_as (Exchange loc written reg) v capacity asks b = refl

pub due-kind : (action : Instr) (k : Kind) → Gives action k → (capacity : ℕ) (asks : Bool) (b : ℕ)
    → drains_due k capacity asks b ≡ due_of action capacity asks b
due-kind action k g capacity asks b =
    let e = kind_from_gives action k g in
    ap (λ l. drains_due l capacity asks b) e.1 ∙ due-kind_as action e.0 capacity asks b

-- an event that is no Drain, and how many Drains stand directly before it
pub record Counted : Type 0 where
  pub drains : ℕ
  pub event : Event

-- the turns of a part that have an action, where so many Drains stand before the part already
abbrev pub counted_from : ℕ → List Event → List Counted
counted_from d [] = []
counted_from d (e ∷ es) =
    if is_drain e then counted_from (d + 1) es else (record { drains = d; event = e } ∷ counted_from 0 es)

-- as many Drains as are due, from turn j on
abbrev pub AreDue : Options → ℕ → ℕ → ℕ → List Counted → Type 0
AreDue options t j b [] = Unit {0}
AreDue options t j b (turn ∷ turns) =
    (turn.drains ≡ drains_due turn.event.kind options.buffer (asks_drain options.seed t options.rate j) b)
    × AreDue options t (j + 1) (pushed turn.event.kind (b - turn.drains)) turns

no_action : (ds : List Event) → AreDrains ds → turn_action ds ≡ None
no_action [] drains = refl
no_action (d ∷ ds) drains = rw (drains.0) (no_action ds drains.1)

one_action : (ds : List Event) (e : Event) → AreDrains ds → is_drain e ≡ false → turn_action (ds ++ e ∷ []) ≡ Some e
one_action [] e drains acts = rw acts refl
one_action (d ∷ ds) e drains acts = rw (drains.0) (one_action ds e drains.1 acts)

count_before : (ds : List Event) (e : Event) → AreDrains ds → is_drain e ≡ false
    → turn_drains (ds ++ e ∷ []) ≡ length ds
count_before [] e drains acts = rw acts refl
count_before (d ∷ ds) e drains acts = rw (drains.0) (ap suc (count_before ds e drains.1 acts))

module _ (options : Options) (t : ℕ) where
  -- the rule of the seed, and its form with Drains counted
  abbrev Same : List Event → Type 0
  Same part = (held : List Event) (j b : ℕ) → AreDrains held →
      (DrainsWhereDue options t j b (turns_after held part) → AreDue options t j b (counted_from (length held) part))
      × (AreDue options t j b (counted_from (length held) part) → DrainsWhereDue options t j b (turns_after held part))

  same_turn : (ds : List Event) (e : Event) (es : List Event) (j b : ℕ) → AreDrains ds → is_drain e ≡ false → Same es →
      let counted : List Counted = record { drains = length ds; event = e } ∷ counted_from 0 es in
      (DrainsWhereDue options t j b ((ds ++ e ∷ []) ∷ turns_of es) → AreDue options t j b counted)
      × (AreDue options t j b counted → DrainsWhereDue options t j b ((ds ++ e ∷ []) ∷ turns_of es))
  same_turn ds e es j b drains acts same =
      let later = same [] (j + 1) (pushed e.kind (b - length ds)) tt in
      rw (one_action ds e drains acts, count_before ds e drains acts)
      ((λ h. (h.0, later.0 h.1)), (λ h. (h.0, later.1 h.1)))

  same_drain : (held : List Event) (d : Event) (es : List Event) (j b : ℕ) → AreDrains held → is_drain d ≡ true
      → Same es →
      let counted = counted_from (length held + 1) es in
      (DrainsWhereDue options t j b (turns_after (held ++ d ∷ []) es) → AreDue options t j b counted)
      × (AreDue options t j b counted → DrainsWhereDue options t j b (turns_after (held ++ d ∷ []) es))
  same_drain held d es j b drains drain same =
      let long : length (held ++ d ∷ []) ≡ length held + 1 = length-append held (d ∷ []) in
      let all = each_append (λ (e : Event). is_drain e ≡ true) held (d ∷ []) drains (drain, tt) in
      rw (← long) (same (held ++ d ∷ []) j b all)

  same_cons : (e : Event) (es : List Event) (c : Bool) → is_drain e ≡ c → Same es → Same (e ∷ es)
  same_cons e es true is same held j b drains = rw is (same_drain held e es j b drains is same)
  same_cons e es false is same held j b drains = rw is (same_turn held e es j b drains is same)

  same : (part : List Event) → Same part
  same [] [] j b drains = ((λ h. tt), (λ h. tt))
  same [] (d ∷ ds) j b drains = ((λ h. tt), (λ h. rw (drains.0) tt))
  same (e ∷ es) held j b drains = same_cons e es (is_drain e) refl (same es) held j b drains

  pub counted : (part : List Event) (j b : ℕ) → DrainsWhereDue options t j b (turns_of part)
      → AreDue options t j b (counted_from 0 part)
  counted part j b h = (same part [] j b tt).0 h

  pub from_counted : (part : List Event) (j b : ℕ) → AreDue options t j b (counted_from 0 part)
      → DrainsWhereDue options t j b (turns_of part)
  from_counted part j b h = (same part [] j b tt).1 h

-- the rest of a lawful part: its slots, the own buffer, the number of its next turn, and the Drains of this turn that
-- are done
pub record IsRest (test : LitmusTest) (options : Options) (t : ℕ) (slots : List Slot) (buffer : List Write)
    (j d : ℕ) (part : List Event) : Type 0 where
  pub own : All (λ e. e.thread ≡ t) part
  pub fills : AllZip (Fills t) slots (filter (λ e. not (is_drain e)) part)
  pub keeps : KeepsBuffer test buffer part
  pub drained : AreDue options t j (length buffer + d) (counted_from d part)

module _ (test : LitmusTest) (options : Options) (t : ℕ) (slots : List Slot) (buffer : List Write) (j : ℕ)
    (part : List Event) where
  -- a rest whose next turn has not begun, and the rule of the seed
  pub is_rest : All (λ e. e.thread ≡ t) part → AllZip (Fills t) slots (filter (λ e. not (is_drain e)) part)
      → KeepsBuffer test buffer part → DrainsWhereDue options t j (length buffer) (turns_of part)
      → IsRest test options t slots buffer j 0 part
  is_rest own fills keeps drained =
      let long : length buffer ≡ length buffer + 0 = omega arith in
      let due = counted options t part j (length buffer) drained in
      record {
        own = own;
        fills = fills;
        keeps = keeps;
        drained = subst (λ b. AreDue options t j b (counted_from 0 part)) long due;
      }

  pub rest_drained : IsRest test options t slots buffer j 0 part
      → DrainsWhereDue options t j (length buffer) (turns_of part)
  rest_drained r =
      let long : length buffer + 0 ≡ length buffer = omega arith in
      from_counted options t part j (length buffer)
      (subst (λ b. AreDue options t j b (counted_from 0 part)) long r.drained)

module _ (test : LitmusTest) where
  -- the own buffer is as long as the turns say
  pub length_pushed : (buffer : List Write) (d : ℕ) (s n p : ℕ) (k : Kind) → is_drain_kind k ≡ false →
      pushed k (length buffer + d - d) ≡ length (own_after test buffer (event s n p k)) + 0
  length_pushed buffer d s n p Push h = simp length-append (omega arith)
  length_pushed buffer d s n p Drain h = cc
  length_pushed buffer d s n p (Read v) h = omega arith
  length_pushed buffer d s n p Fenced h = omega arith
  length_pushed buffer d s n p (Exchanged v) h = omega arith
