-- What edges between the nodes of a test say of reads and their sources.
use Rattle.std.proofs.Common.{◌≡◌, ℕ, ◌<◌, ◌≤◌, ◌==◌, Bool, true, Some, ◌∙◌, sym, ap, ◌⊎◌, unwrap_or, option_and_then}
use Rattle.std.proofs.lemmas.Bool.{eqb-true}
use Rattle.x86_subset.specs.Instr.{is_reading, is_store_to, location_of}
use Rattle.x86_subset.specs.Test.{LitmusTest, body_of}
use Rattle.x86_subset.specs.declared.instr.Instr.{Instr}
use Rattle.seq_conv.specs.Sequence.{action_at, rank_of, site_location}
use Rattle.verdict.specs.declared.node.Node.{Node}
use Rattle.verdict.specs.Edges.{is_access, is_barred, keeps, site}
use Rattle.run_witness.proofs.Reading.{store_stores}
use Rattle.run_witness.proofs.Stands.{stores_at}
use Rattle.once.specs.Edges.{Reading}
use Rattle.once.specs.Sources.{wanted}

-- edges that have kept order
abbrev pub KeepsEdges : LitmusTest → (Node → Node → Bool) → Type 0
KeepsEdges test edge =
    (t p q : ℕ) (a b : Instr) → p < q → action_at test (record { thread = t; place = p }) ≡ Some a
    → action_at test (record { thread = t; place = q }) ≡ Some b → is_access a ≡ true → is_access b ≡ true
    → keeps (is_barred (body_of test t) p q) a b ≡ true
    → edge (record { thread = t; place = p }) (record { thread = t; place = q }) ≡ true

-- a store or an exchange to x stands at the node
pub record StoresAt (test : LitmusTest) (x : ℕ) (n : Node) : Type 0 where
  pub action : Instr
  pub stands : action_at test (site n) ≡ Some action
  pub stores : is_store_to x action ≡ true

-- the source stands in another thread: it, and the reader's own stores before it, are in memory
pub record Afar (test : LitmusTest) (edge : Node → Node → Bool) (x : ℕ) (r s : Node) : Type 0 where
  pub leads : edge s r ≡ true
  pub behind : (o : Node) → StoresAt test x o → o.thread ≡ r.thread → o.place < r.place → edge o s ≡ true

-- or it is the newest of the reader's own stores
pub record Near (test : LitmusTest) (x : ℕ) (r s : Node) : Type 0 where
  pub own : s.thread ≡ r.thread
  pub before : s.place < r.place
  pub newest : (o : Node) → StoresAt test x o → o.thread ≡ r.thread → o.place < r.place → o.place ≤ s.place

-- each other store stands before the source or after the read
pub record FromStore (test : LitmusTest) (edge : Node → Node → Bool) (x : ℕ) (r : Node) : Type 0 where
  pub source : Node
  pub stores : StoresAt test x source
  pub either : (o : Node) → StoresAt test x o → (o ≡ source → ⊥) → (o ≡ r → ⊥)
      → (edge o source ≡ true) ⊎ (edge r o ≡ true)
  pub place : Afar test edge x r source ⊎ Near test x r source

-- each store stands after the read, and none is the reader's own and before it in the text
pub record FromStart (test : LitmusTest) (edge : Node → Node → Bool) (x : ℕ) (r : Node) : Type 0 where
  pub after : (o : Node) → StoresAt test x o → (o ≡ r → ⊥) → edge r o ≡ true
  pub other : (o : Node) → StoresAt test x o → o.thread ≡ r.thread → o.place < r.place → ⊥

-- what the edges say of a read
pub record Draws (test : LitmusTest) (edge : Node → Node → Bool) (r : Reading) : Type 0 where
  pub reader : Node
  pub location : ℕ
  pub action : Instr
  pub is : r.reader ≡ reader
  pub stands : action_at test (site reader) ≡ Some action
  pub reading : is_reading action ≡ true
  pub reads : site_location test (site reader) ≡ location
  pub source : (FromStart test edge location reader × (wanted test r ≡ 0))
      ⊎ ((f : FromStore test edge location reader) × (wanted test r ≡ rank_of test location (site f.source)))

-- the location of what stores there
pub location_at : (test : LitmusTest) (x : ℕ) (n : Node) → StoresAt test x n → site_location test (site n) ≡ x
location_at test x n s =
    let at : is_store_to x s.action ≡ (unwrap_or (option_and_then location_of (Some s.action)) 0 == x) =
    stores_at s.action x (store_stores x s.action s.stores) in
    ap (λ o. unwrap_or (option_and_then location_of o) 0) s.stands
    ∙ eqb-true (unwrap_or (option_and_then location_of (Some s.action)) 0) x (sym at ∙ s.stores)
