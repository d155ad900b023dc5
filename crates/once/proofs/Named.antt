-- The read of an atom, and the store that it names.
use Rattle.std.proofs.Common.{◌≡◌, ℕ, true, Some, sym, ◌∙◌, subst}
use Rattle.x86_subset.specs.Instr.{is_store_to}
use Rattle.x86_subset.specs.Test.{LitmusTest}
use Rattle.x86_subset.specs.declared.instr.Instr.{Instr}
use Rattle.seq_conv.specs.Sequence.{Site, action_at, stores_of}
use Rattle.seq_conv.proofs.Stores.{IsStoreOf, store_at, stores_are}
use Rattle.perp_base.proofs.Lists.{Among, each_among}
use Rattle.profile_check.proofs.KindLemmas.{IsReader, OneOther, named_by}
use Rattle.outcome_conv.specs.Holds.{location_read, reading_site}
use Rattle.outcome_conv.proofs.Agree.{location_is, site_is}
use Rattle.verdict.specs.declared.node.Node.{Node}
use Rattle.verdict.specs.Edges.{site}
use Rattle.once.proofs.Draws.{StoresAt}

-- the reader of an atom, at its site
pub reader_at : (test : LitmusTest) (t column p : ℕ) (a : Instr) → IsReader test t column p a
    → action_at test (reading_site test t column) ≡ Some a
reader_at test t column p a r =
    let P : Site → Type 0 = λ z. action_at test z ≡ Some a in subst P (sym (site_is test t column p a r)) r.stands

-- the store that it names
pub store_named : (test : LitmusTest) (t column p : ℕ) (a : Instr) → IsReader test t column p a → (s : Node)
    → Among (site s) (stores_of test (named_by a)) → StoresAt test (location_read test t column) s
store_named test t column p a r s am =
    let k = each_among (IsStoreOf test (named_by a)) (site s) (stores_of test (named_by a)) am
    (stores_are test (named_by a)) in
    let P : ℕ → Type 0 = λ x. is_store_to x k.action ≡ true in
    record {
      action = k.action;
      stands = k.stands;
      stores = subst P (sym (location_is test t column p a r)) k.stores;
    }

-- a store of a location that one other thread stores to
pub other_store : (test : LitmusTest) (t column p w : ℕ) (a : Instr) → IsReader test t column p a
    → OneOther test (named_by a) t w → (o : Node) → StoresAt test (location_read test t column) o
    → o.thread ≡ t → ⊥
other_store test t column p w a r other o s e =
    let P : ℕ → Type 0 = λ x. is_store_to x s.action ≡ true in
    let am = store_at (named_by a) test o.thread o.place s.action s.stands
    (subst P (location_is test t column p a r) s.stores) in
    let mine : o.thread ≡ w = each_among (λ (z : Site). z.thread ≡ w) (site o) (stores_of test (named_by a)) am
    other.one_thread in
    other.apart (sym e ∙ mine)
