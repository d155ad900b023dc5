-- Its shared steps determine a thread's lawful part.
use Rattle.std.proofs.Common.{◌≡◌, refl, sym, ap, ◌∙◌, subst, ℕ, ◌+◌, ◌≤◌, false, not, if◌then◌else◌, Option, None, Some, List, [], ◌∷◌, ◌++◌, length, drop, arith}
use Rattle.std.specs.Prelude.{IfSome, filter, slice_get, is_some}
use Rattle.std.specs.List.{AllZip}
use Rattle.std.proofs.lemmas.List.Elements.{All-head, All-tail}
use Rattle.x86_subset.specs.Test.{LitmusTest, body_of}
use Rattle.x86_subset.specs.declared.instr.Instr.{Instr}
use Rattle.x86_subset.specs.declared.instr.Instr.TheVariants.{Store as DoStore, Load as DoLoad, Fence, Exchange}
use Rattle.tso_machine.specs.Event.{Event, Kind, Drain, Read, Fenced, Exchanged, event_location, is_drain, is_drain_kind}
use Rattle.tso_machine.specs.Machine.{Write, write_of, newest}
use Rattle.tso_machine.specs.Part.{Slot, slots_of_loop, Fills, Agrees, own_after}
use Rattle.tso_words.specs.declared.step.Step.{Step}
use Rattle.tso_words.specs.declared.step.Step.TheVariants.{Load}
use Rattle.store_buffer.specs.Generator.{asks_drain}
use Rattle.perp_base.specs.declared.options.Options.{Options}
use Rattle.tso_runs.specs.SharedSteps.{shared_steps, steps_of}
use Rattle.tso_runs.specs.Fits.{IsLawful, LawfulPartsAreOne}
use Rattle.tso_runs.specs.Drained.{kind_as}
use Rattle.tso_runs.proofs.Rest.{AreDue, counted_from, event, kind_from_gives, due_of, due-kind, IsRest, is_rest, length_pushed}

module _ (test : LitmusTest) (options : Options) (t : ℕ) where
  -- the Drains that are due before an action in turn j
  abbrev pub due : Instr → ℕ → ℕ → ℕ
  due action j b = due_of action options.buffer (asks_drain options.seed t options.rate j) b

  -- no more Drains stand before the event of the next slot than are due
  AtMostDue : Slot → List Slot → ℕ → ℕ → List Event → Type 0
  AtMostDue slot slots j b part = (d : ℕ) →
      AllZip (Fills t) (slot ∷ slots) (filter (λ e. not (is_drain e)) part)
      → AreDue options t j b (counted_from d part) →
      d ≤ due slot.action j b

  at_most_due-cons :
      (slot : Slot) (slots : List Slot) (j b : ℕ) (s n p : ℕ) (k : Kind) (es : List Event)
      → AtMostDue slot slots j b es → AtMostDue slot slots j b (event s n p k ∷ es)
  unfolding AtMostDue
  at_most_due-cons slot slots j b s n p Drain es ih d fills drained = omega (arith, ih (d + 1) fills drained)
  at_most_due-cons slot slots j b s n p k es ih d fills drained =
      omega (
        arith,
        due-kind slot.action k fills.0.kind options.buffer (asks_drain options.seed t options.rate j) b,
        drained.0,
      )

  at_most_due : (slot : Slot) (slots : List Slot) (j b : ℕ) (part : List Event) → AtMostDue slot slots j b part
  unfolding AtMostDue
  at_most_due slot slots j b [] = λ d fills drained. absurd fills
  at_most_due slot slots j b (e ∷ es) =
      at_most_due-cons slot slots j b e.thread e.iteration e.place e.kind es (at_most_due slot slots j b es)

  -- an event that is no Drain is that of the next slot, stands after the Drains that are due, and leaves a rest
  pub record Acts (slot : Slot) (slots : List Slot) (buffer : List Write) (j d : ℕ) (e : Event)
      (es : List Event) : Type 0 where
    pub due_now : d ≡ due slot.action j (length buffer + d)
    pub thread : e.thread ≡ t
    pub fills : Fills t slot e
    pub agrees : Agrees test buffer e
    pub rest : IsRest test options t slots (own_after test buffer e) (j + 1) 0 es

  pub acts : (slot : Slot) (slots : List Slot) (buffer : List Write) (j d : ℕ) (s n p : ℕ) (k : Kind)
      (es : List Event) →
      is_drain_kind k ≡ false → IsRest test options t (slot ∷ slots) buffer j d (event s n p k ∷ es) →
      Acts slot slots buffer j d (event s n p k) es
  acts slot slots buffer j d s n p k es h r =
      let fills = rw h at r.fills in
      let drained = rw h at r.drained in
      record {
        due_now =
            drained.0 ∙ due-kind slot.action k fills.0.kind options.buffer (asks_drain options.seed t options.rate j)
            (length buffer + d);
        thread = All-head (λ e. e.thread ≡ t) (event s n p k) es r.own;
        fills = fills.0;
        agrees = r.keeps.0;
        rest = record {
          own = All-tail (λ e. e.thread ≡ t) (event s n p k) es r.own;
          fills = fills.1;
          keeps = r.keeps.1;
          drained = rw (← length_pushed test buffer d s n p k h) drained.1;
        };
      }

  -- a Drain is of the oldest write, and leaves a rest
  pub record Drains (slots : List Slot) (buffer : List Write) (j d : ℕ) (e : Event) (es : List Event) : Type 0 where
    pub thread : e.thread ≡ t
    pub oldest : slice_get buffer 0 ≡ Some (write_of test e)
    pub rest : IsRest test options t slots (drop 1 buffer) j (d + 1) es

  length_drained : (buffer : List Write) (w : Write) (d : ℕ) → slice_get buffer 0 ≡ Some w
      → length buffer + d ≡ length (drop 1 buffer) + (d + 1)
  length_drained [] w d h = cc
  length_drained (x ∷ xs) w d h = omega arith

  pub drains : (slots : List Slot) (buffer : List Write) (j d : ℕ) (s n p : ℕ) (es : List Event) →
      IsRest test options t slots buffer j d (event s n p Drain ∷ es) → Drains slots buffer j d (event s n p Drain) es
  drains slots buffer j d s n p es r = record {
    thread = All-head (λ e. e.thread ≡ t) (event s n p Drain) es r.own;
    oldest = r.keeps.0;
    rest = record {
      own = All-tail (λ e. e.thread ≡ t) (event s n p Drain) es r.own;
      fills = r.fills;
      keeps = r.keeps.1;
      drained = rw (← length_drained buffer (write_of test (event s n p Drain)) d r.keeps.0) r.drained;
    };
  }

  -- what is to be shown of a list of events
  Same : List Event → Type 0
  Same part = (other : List Event) (slots : List Slot) (buffer : List Write) (j d : ℕ) →
      IsRest test options t slots buffer j d part → IsRest test options t slots buffer j d other →
      shared_steps test buffer part ≡ shared_steps test buffer other → part ≡ other

  same_read : (o : Option ℕ) (l v w : ℕ) (xs ys : List Step) → IfSome o (λ u. v ≡ u) → IfSome o (λ u. w ≡ u) →
      (if is_some o then [] else (Load l v ∷ [])) ++ xs ≡ (if is_some o then [] else (Load l w ∷ [])) ++ ys
      → (Read v ≡ Read w) × (xs ≡ ys)
  same_read None l v w xs ys a b e = let h : v ≡ w = cc in (ap Read h, cc)
  same_read (Some u) l v w xs ys a b e = (ap Read (a ∙ sym b), e)

  -- the value that was read is in the own buffer or in the shared steps
  same_kind : (action : Instr) (v w : ℕ) (buffer : List Write) (s n p : ℕ) (xs ys : List Step) →
      Agrees test buffer (event s n p (kind_as action v)) → Agrees test buffer (event s n p (kind_as action w)) →
      steps_of test buffer (event s n p (kind_as action v)) ++ xs
      ≡ steps_of test buffer (event s n p (kind_as action w)) ++ ys →
      (kind_as action v ≡ kind_as action w) × (xs ≡ ys)
  same_kind (DoStore loc written) v w buffer s n p xs ys a b e = (refl, e)
  same_kind (DoLoad reg loc) v w buffer s n p xs ys a b e =
      same_read (newest (event_location test (event s n p Fenced)) buffer)
      (event_location test (event s n p Fenced)) v w xs ys a b e
  same_kind Fence v w buffer s n p xs ys a b e = (refl, e)
  same_kind (Exchange loc written reg) v w buffer s n p xs ys a b e = let h : v ≡ w = cc in (ap Exchanged h, cc)

  -- the event of a slot, but for the value that it reads
  filled : (slot : Slot) (e : Event) → Fills t slot e
      → (v : ℕ) × (e ≡ event t slot.iteration slot.place (kind_as slot.action v))
  filled slot e f =
      let g = kind_from_gives slot.action e.kind f.kind in
      (g.0, λ i. record { thread = f.thread i; iteration = f.iteration i; place = f.place i; kind = g.1 i })

  same_event : (slot : Slot) (buffer : List Write) (e f : Event) (xs ys : List Step) → Fills t slot e → Fills t slot f →
      Agrees test buffer e → Agrees test buffer f → steps_of test buffer e ++ xs ≡ steps_of test buffer f ++ ys
      → (e ≡ f) × (xs ≡ ys)
  same_event slot buffer e f xs ys fe ff =
      let a = filled slot e fe in
      let b = filled slot f ff in
      let at : ℕ → Event = λ v. event t slot.iteration slot.place (kind_as slot.action v) in
      let P : Event → Event → Type 0 = λ e f. Agrees test buffer e → Agrees test buffer f →
      steps_of test buffer e ++ xs ≡ steps_of test buffer f ++ ys → (e ≡ f) × (xs ≡ ys) in
      let base : P (at a.0) (at b.0) = λ x y h.
      let r = same_kind slot.action a.0 b.0 buffer t slot.iteration slot.place xs ys x y h in
      (ap (event t slot.iteration slot.place) r.0, r.1) in
      subst (λ e. P e f) (sym a.1) (subst (λ f. P (at a.0) f) (sym b.1) base)

  -- the first events are no Drains
  same_acts : (slots : List Slot) (buffer : List Write) (j d : ℕ) (s n p : ℕ) (k : Kind) (es : List Event)
      (s' n' p' : ℕ) (k' : Kind) (es' : List Event) →
      is_drain_kind k ≡ false → is_drain_kind k' ≡ false → Same es →
      IsRest test options t slots buffer j d (event s n p k ∷ es)
      → IsRest test options t slots buffer j d (event s' n' p' k' ∷ es') →
      shared_steps test buffer (event s n p k ∷ es) ≡ shared_steps test buffer (event s' n' p' k' ∷ es')
      → event s n p k ∷ es ≡ event s' n' p' k' ∷ es'
  unfolding Same
  same_acts [] buffer j d s n p k es s' n' p' k' es' h h' ih r r' e = absurd (rw h at r.fills)
  same_acts (slot ∷ slots) buffer j d s n p k es s' n' p' k' es' h h' ih r r' e =
      let a = acts slot slots buffer j d s n p k es h r in
      let b = acts slot slots buffer j d s' n' p' k' es' h' r' in
      let f = event s n p k in
      let g = event s' n' p' k' in
      let both = same_event slot buffer f g (shared_steps test (own_after test buffer f) es)
      (shared_steps test (own_after test buffer g) es') a.fills b.fills a.agrees b.agrees e in
      let back : IsRest test options t slots (own_after test buffer f) (j + 1) 0 es' =
      subst (λ x. IsRest test options t slots (own_after test buffer x) (j + 1) 0 es') (sym both.0) b.rest in
      let steps : shared_steps test (own_after test buffer f) es ≡ shared_steps test (own_after test buffer f) es' =
      both.1 ∙ ap (λ x. shared_steps test (own_after test buffer x) es') (sym both.0) in
      let rest : es ≡ es' = ih es' slots (own_after test buffer f) (j + 1) 0 a.rest back steps in
      λ i. both.0 i ∷ rest i

  -- a Drain and an event that is none cannot both be next
  not_both : (slots : List Slot) (buffer : List Write) (j d : ℕ) (s n p : ℕ) (es : List Event) (s' n' p' : ℕ)
      (k' : Kind) (es' : List Event) →
      is_drain_kind k' ≡ false → IsRest test options t slots buffer j d (event s n p Drain ∷ es)
      → IsRest test options t slots buffer j d (event s' n' p' k' ∷ es') → ⊥
  unfolding AtMostDue
  not_both [] buffer j d s n p es s' n' p' k' es' h r r' = rw h at r'.fills
  not_both (slot ∷ slots) buffer j d s n p es s' n' p' k' es' h r r' =
      let b = acts slot slots buffer j d s' n' p' k' es' h r' in
      let late = at_most_due slot slots j (length buffer + d) es (d + 1) r.fills r.drained in
      omega (arith, b.due_now)

  -- both first events are Drains
  same_drains : (slots : List Slot) (buffer : List Write) (j d : ℕ) (s n p : ℕ) (es : List Event) (s' n' p' : ℕ)
      (es' : List Event) →
      Same es →
      IsRest test options t slots buffer j d (event s n p Drain ∷ es)
      → IsRest test options t slots buffer j d (event s' n' p' Drain ∷ es') →
      shared_steps test buffer (event s n p Drain ∷ es) ≡ shared_steps test buffer (event s' n' p' Drain ∷ es')
      → event s n p Drain ∷ es ≡ event s' n' p' Drain ∷ es'
  unfolding Same
  same_drains slots buffer j d s n p es s' n' p' es' ih r r' e =
      let a = drains slots buffer j d s n p es r in
      let b = drains slots buffer j d s' n' p' es' r' in
      let w : write_of test (event s n p Drain) ≡ write_of test (event s' n' p' Drain) = cc in
      let thread : s ≡ s' = a.thread ∙ sym b.thread in
      let steps : shared_steps test (drop 1 buffer) es ≡ shared_steps test (drop 1 buffer) es' = cc in
      let rest : es ≡ es' = ih es' slots (drop 1 buffer) j (d + 1) a.rest b.rest steps in
      λ i. event (thread i) ((w i).iteration) ((w i).place) Drain ∷ rest i

  -- no event is left on one side only
  not_empty : (slots : List Slot) (buffer : List Write) (j d : ℕ) (s n p : ℕ) (k : Kind) (es : List Event) →
      IsRest test options t slots buffer j d [] → IsRest test options t slots buffer j d (event s n p k ∷ es) → ⊥
  not_empty (slot ∷ slots) buffer j d s n p k es r r' = r.fills
  not_empty [] buffer j d s n p Drain es r r' =
      let a = drains [] buffer j d s n p es r' in
      let e : slice_get buffer 0 ≡ None = ap (λ b. slice_get b 0) r.keeps in
      cc
  not_empty [] buffer j d s n p k es r r' = r'.fills

  same_cons : (s n p : ℕ) (k : Kind) (es : List Event) → Same es → (s' n' p' : ℕ) (k' : Kind) (es' : List Event) →
      (slots : List Slot) (buffer : List Write) (j d : ℕ) →
      IsRest test options t slots buffer j d (event s n p k ∷ es)
      → IsRest test options t slots buffer j d (event s' n' p' k' ∷ es') →
      shared_steps test buffer (event s n p k ∷ es) ≡ shared_steps test buffer (event s' n' p' k' ∷ es')
      → event s n p k ∷ es ≡ event s' n' p' k' ∷ es'
  same_cons s n p Drain es ih s' n' p' Drain es' slots buffer j d r r' e =
      same_drains slots buffer j d s n p es s' n' p' es' ih r r' e
  same_cons s n p Drain es ih s' n' p' k' es' slots buffer j d r r' e =
      absurd (not_both slots buffer j d s n p es s' n' p' k' es' refl r r')
  same_cons s n p k es ih s' n' p' Drain es' slots buffer j d r r' e =
      absurd (not_both slots buffer j d s' n' p' es' s n p k es refl r' r)
  same_cons s n p k es ih s' n' p' k' es' slots buffer j d r r' e =
      same_acts slots buffer j d s n p k es s' n' p' k' es' refl refl ih r r' e

  same : (part : List Event) → Same part
  unfolding Same
  same [] [] slots buffer j d r r' e = refl
  same [] (f ∷ fs) slots buffer j d r r' e =
      absurd (not_empty slots buffer j d f.thread f.iteration f.place f.kind fs r r')
  same (e ∷ es) [] slots buffer j d r r' h =
      absurd (not_empty slots buffer j d e.thread e.iteration e.place e.kind es r' r)
  same (e ∷ es) (f ∷ fs) slots buffer j d r r' h =
      same_cons e.thread e.iteration e.place e.kind es (same es) f.thread f.iteration f.place f.kind fs slots buffer j d
      r r' h

  from_lawful : (part : List Event) → IsLawful test options t part →
      IsRest test options t (slots_of_loop (body_of test t) options.iterations) [] 0 0 part
  from_lawful part l =
      is_rest test options t (slots_of_loop (body_of test t) options.iterations)
      [] 0 part l.own l.performs l.keeps l.drained

  one_part : (p q : List Event) → IsLawful test options t p → IsLawful test options t q
      → shared_steps test [] p ≡ shared_steps test [] q → p ≡ q
  unfolding Same
  one_part p q a b e =
      same p q (slots_of_loop (body_of test t) options.iterations) [] 0 0 (from_lawful p a) (from_lawful q b) e

pub lawful_parts_are_one : LawfulPartsAreOne
lawful_parts_are_one test options t p q a b e = one_part test options t p q a b e
