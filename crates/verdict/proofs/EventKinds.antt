-- What the kinds of events are, and which kinds the actions give.
use Rattle.std.proofs.Common.{◌≡◌, ℕ, Bool, true, false, refl}
use Rattle.x86_subset.specs.Instr.{is_store_to}
use Rattle.x86_subset.specs.declared.instr.Instr.{Instr}
use Rattle.x86_subset.specs.declared.instr.Instr.TheVariants.{Store, Load, Fence, Exchange}
use Rattle.tso_machine.specs.Event.{Kind, Push, Drain, Read, Fenced, Exchanged, is_drain_kind}
use Rattle.tso_machine.specs.Part.{Gives}
use Rattle.tso_machine.specs.Source.{is_memory_kind, is_push_kind}
use Rattle.tso_machine.proofs.Runs.{comes_out_kind, goes_in_kind}
use Rattle.verdict.specs.Edges.{is_barrier}

-- Kinds.

pub push_no_drain : (k : Kind) → is_push_kind k ≡ true → is_drain_kind k ≡ false
push_no_drain Push h = refl
push_no_drain _ h = cc

pub memory_no_push : (k : Kind) → is_memory_kind k ≡ true → is_push_kind k ≡ false
memory_no_push Drain h = refl
memory_no_push (Exchanged v) h = refl
memory_no_push _ h = cc

pub out_writes : (b : Bool) (k : Kind) → comes_out_kind b k ≡ true → is_memory_kind k ≡ true
out_writes b Drain h = refl
out_writes b (Exchanged v) h = refl
out_writes b _ h = cc

pub memory_out : (k : Kind) → is_memory_kind k ≡ true → comes_out_kind true k ≡ true
memory_out Drain h = refl
memory_out (Exchanged v) h = refl
memory_out _ h = cc

pub drain_memory : (k : Kind) → is_drain_kind k ≡ true → is_memory_kind k ≡ true
drain_memory Drain h = refl
drain_memory _ h = cc

pub in_pushes : (k : Kind) → goes_in_kind false k ≡ true → is_push_kind k ≡ true
in_pushes Push h = refl
in_pushes _ h = cc

-- Actions.

abbrev pub is_store : Instr → Bool
is_store (Store loc written) = true
is_store (Load reg loc) = false
is_store Fence = false
is_store (Exchange loc written reg) = false

abbrev pub is_storing : Instr → Bool
is_storing (Store loc written) = true
is_storing (Load reg loc) = false
is_storing Fence = false
is_storing (Exchange loc written reg) = true

pub stores_storing : (x : ℕ) (action : Instr) → is_store_to x action ≡ true → is_storing action ≡ true
stores_storing x (Load reg loc) h = cc
stores_storing x Fence h = cc
stores_storing x _ h = refl

-- the kind of event that an action gives, by what the action does
pub record GivesKind (a : Instr) (k : Kind) : Type 0 where
  pub push : is_push_kind k ≡ is_store a
  pub no_drain : is_drain_kind k ≡ false
  pub goes_in : (goes_in_kind false k ≡ is_store a) × (goes_in_kind true k ≡ is_storing a)
  pub storing : is_storing a ≡ true → is_store a ≡ false → is_memory_kind k ≡ true
  pub memory : is_memory_kind k ≡ true → (is_store a ≡ false) × (is_barrier a ≡ true)

pub gives_kind : (a : Instr) (k : Kind) → Gives a k → GivesKind a k
gives_kind (Store loc written) Push g =
    record { push = refl; no_drain = refl; goes_in = (refl, refl); storing = λ h e. cc; memory = λ h. absurd cc }
gives_kind (Load reg loc) (Read v) g =
    record { push = refl; no_drain = refl; goes_in = (refl, refl); storing = λ h e. cc; memory = λ h. (refl, cc) }
gives_kind Fence Fenced g =
    record { push = refl; no_drain = refl; goes_in = (refl, refl); storing = λ h e. cc; memory = λ h. (refl, refl) }
gives_kind (Exchange loc written reg) (Exchanged v) g =
    record { push = refl; no_drain = refl; goes_in = (refl, refl); storing = λ h e. refl; memory = λ h. (refl, refl) }
gives_kind _ _ g = absurd g
