-- A read at a frame: each other store to its location is in memory before the read's source, or after the read. The
-- case of a frame's iterations.
use Rattle.std.proofs.Common.{◌≡◌, ℕ, ◌<◌, true, Option, None, Some, List, ◌∷◌, ◌++◌, refl, sym, ap, ◌∙◌, inr, ◌⊎◌}
use Rattle.x86_subset.specs.Instr.{is_reading}
use Rattle.x86_subset.specs.Test.{LitmusTest}
use Rattle.x86_subset.specs.declared.instr.Instr.{Instr}
use Rattle.tso_machine.specs.Event.{Event}
use Rattle.tso_machine.specs.Run.{IsRunOf}
use Rattle.tso_machine.specs.Source.{source_of}
use Rattle.seq_conv.specs.Sequence.{Origin, action_at, site_location}
use Rattle.outcome_conv.specs.Hits.{IsFrame}
use Rattle.outcome_conv.specs.Holds.{iteration_in, source_at}
use Rattle.verdict.specs.declared.node.Node.{Node}
use Rattle.verdict.specs.Edges.{site}
use Rattle.verdict.proofs.InOrder.{early_at}
use Rattle.once.proofs.Draws.{StoresAt}
use Rattle.once.proofs.Turns.{At, Stores}
use Rattle.once.proofs.Turns as turns

-- a node in the frame's iteration
abbrev pub origin_in : List ℕ → Node → Origin
origin_in frame n = record { thread = n.thread; place = n.place; iteration = iteration_in frame n.thread }

-- the moment of a is before that of b
abbrev pub Leads : List Event → List ℕ → Node → Node → Type 0
Leads run frame a b = turns.Leads run (origin_in frame a) (origin_in frame b)

apart : (frame : List ℕ) (a b : Node) → (a ≡ b → ⊥) → origin_in frame a ≡ origin_in frame b → ⊥
apart frame a b ne q =
    let t = ap (λ (o : Origin). o.thread) q in
    let p = ap (λ (o : Origin). o.place) q in
    ne (λ i. record { thread = t i; place = p i })

stores_in : (test : LitmusTest) (frame : List ℕ) (x : ℕ) (n : Node) → StoresAt test x n
    → Stores test x (origin_in frame n)
stores_in test frame x n w = record { action = w.action; stands = w.stands; stores = w.stores }

early_in : (test : LitmusTest) (n : ℕ) (frame : List ℕ) (x : ℕ) (a : Node) → IsFrame test n frame → StoresAt test x a
    → iteration_in frame a.thread < n
early_in test n frame x a f w = early_at test n frame (site a) w.action f w.stands

pub source_leads : (test : LitmusTest) (n : ℕ) (frame : List ℕ) (r s : Node) (before : List Event) (e : Event)
    (after : List Event) → At test n (origin_in frame r) before e after → (x : ℕ) → site_location test (site r) ≡ x
    → source_of test e before ≡ Some (origin_in frame s) → (s.thread ≡ r.thread → ⊥)
    → Leads (before ++ e ∷ after) frame s r
source_leads test n frame r s before e after a x loc source ne =
    turns.source_leads test n (origin_in frame r) (origin_in frame s) before e after a x loc source ne

-- the reader's own stores before the read, where the source stands in another thread
pub own_leads : (test : LitmusTest) (n : ℕ) (frame : List ℕ) (r s o : Node) (before : List Event) (e : Event)
    (after : List Event) → IsFrame test n frame → At test n (origin_in frame r) before e after → (x : ℕ)
    → site_location test (site r) ≡ x → source_of test e before ≡ Some (origin_in frame s) → StoresAt test x s
    → (s.thread ≡ r.thread → ⊥) → StoresAt test x o → o.thread ≡ r.thread → o.place < r.place
    → Leads (before ++ e ∷ after) frame o s
own_leads test n frame r s o before e after f a x loc source w ne v t l =
    turns.come_first test n (origin_in frame r) (origin_in frame s) (origin_in frame o) before e after a x loc source
    (stores_in test frame x s w) (stores_in test frame x o v)
    (λ q. ne (sym (ap (λ (z : Origin). z.thread) q) ∙ t))
    (turns.own_came test n (origin_in frame r) (origin_in frame s) (origin_in frame o) before e after a x loc source ne
    (stores_in test frame x o v) t (early_in test n frame x o f v) (inr (ap (iteration_in frame) t, l)))

-- each other store is before the source or after the read
pub either_leads : (test : LitmusTest) (n : ℕ) (frame : List ℕ) (r s o : Node) (before : List Event) (e : Event)
    (after : List Event) → At test n (origin_in frame r) before e after → (x : ℕ) → site_location test (site r) ≡ x
    → source_of test e before ≡ Some (origin_in frame s) → StoresAt test x s → StoresAt test x o → (o ≡ s → ⊥)
    → (o ≡ r → ⊥) → Leads (before ++ e ∷ after) frame o s ⊎ Leads (before ++ e ∷ after) frame r o
either_leads test n frame r s o before e after a x loc source w v ne nr =
    turns.either_leads test n (origin_in frame r) (origin_in frame s) (origin_in frame o) before e after a x loc source
    (stores_in test frame x s w) (stores_in test frame x o v) (apart frame o s ne) (apart frame o r nr)

-- The initial value.

pub initial_leads : (test : LitmusTest) (n : ℕ) (frame : List ℕ) (r o : Node) (before : List Event) (e : Event)
    (after : List Event) → At test n (origin_in frame r) before e after → (x : ℕ) → site_location test (site r) ≡ x
    → source_of test e before ≡ None → StoresAt test x o → (o ≡ r → ⊥) → Leads (before ++ e ∷ after) frame r o
initial_leads test n frame r o before e after a x loc source w ne =
    turns.initial_leads test n (origin_in frame r) (origin_in frame o) before e after a x loc source
    (stores_in test frame x o w) (apart frame o r ne)

-- an own store before the read hides it
pub initial_own : (test : LitmusTest) (n : ℕ) (frame : List ℕ) (r : Node) (p : ℕ) (before : List Event) (e : Event)
    (after : List Event) → IsFrame test n frame → At test n (origin_in frame r) before e after → (x : ℕ)
    → site_location test (site r) ≡ x → source_of test e before ≡ None
    → StoresAt test x (record { thread = r.thread; place = p }) → p < r.place → ⊥
initial_own test n frame r p before e after f a x loc source w l =
    let o : Node = record { thread = r.thread; place = p } in
    turns.initial_own test n (origin_in frame r) (origin_in frame o) before e after a x loc source
    (stores_in test frame x o w) refl (early_in test n frame x o f w) (inr (refl, l))

-- The cut.

abbrev pub CutAt : LitmusTest → ℕ → List ℕ → Node → List Event → Option Origin → Type 0
CutAt test n frame r run source = turns.CutAt test n (origin_in frame r) run source

pub cut_at : (test : LitmusTest) (n : ℕ) (frame : List ℕ) (r : Node) (run : List Event) (source : Option Origin)
    (action : Instr) → IsRunOf test n run → IsFrame test n frame → action_at test (site r) ≡ Some action
    → is_reading action ≡ true → source_at test (site r) (iteration_in frame r.thread) run ≡ source
    → CutAt test n frame r run source
cut_at test n frame r run source action is f stands reading h =
    turns.cut_at test n (origin_in frame r) run source action is (early_at test n frame (site r) action f stands) stands
    reading h
