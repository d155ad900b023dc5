-- It can be told of each row: its sources are among finitely many.
use Rattle.std.proofs.Common.{◌≡◌, ◌↔◌, ℕ, true, false, Option, None, Some, List, [], ◌∷◌, ◌++◌, map, refl, sym, subst, inl, inr, ◌⊎◌, append_assoc, append-nil}
use Rattle.std.proofs.lemmas.Bool.{cases_Bool, cases_eq}
use Rattle.std.specs.List.{AllByRecursion as Each, AllZip, list_any}
use Rattle.x86_subset.specs.Test.{LitmusTest}
use Rattle.tso_machine.specs.Event.{Event}
use Rattle.seq_conv.specs.Sequence.{Site, stores_of}
use Rattle.seq_conv.proofs.Stores.{IsStoreOf, stores_are, store_at}
use Rattle.perp_base.proofs.Lists.{each_append}
use Rattle.verdict.specs.declared.node.Node.{Node}
use Rattle.verdict.specs.Edges.{node, site}
use Rattle.once.specs.Edges.{Reading}
use Rattle.once.specs.Sources.{AreReadings, HasSources, IsReading, is_hidden_source, is_source_to}
use Rattle.once.specs.Trees.{RefutesAmong, Tree}
use Rattle.once.proofs.Drawing.{writes_from, writes_tells}
use Rattle.once.proofs.Sourced.{hidden_sources_are_not_read_lem, sources_tree_or_run_lem, trees_forbid_sources_lem}
use Rattle.outcome_rows.specs.Laws.{RowsAreTold}
use Rattle.outcome_rows.specs.Rows.{IsReadingOf, IsRow, ReadValues, Register, location_of_read, reading_from, text_value, values_read}
use Rattle.outcome_rows.proofs.Members.{In, among_in, in_map}
use Rattle.outcome_rows.proofs.Valued.{HeldRead, held_reads, reading_is, rows_are_sources_lem}

abbrev Told : Type 0 → Type 0
Told P = P ⊎ (P → ⊥)

-- whether a run has these sources
run_told : (test : LitmusTest) (readings : List Reading) → AreReadings test readings
    → Told ((run : List Event) × HasSources test readings run)
run_told test readings are = go (cases_Bool (list_any (is_hidden_source test) readings))
  where
    by : ((tree : Tree) × RefutesAmong test readings [] tree) ⊎ ((run : List Event) × HasSources test readings run)
        → Told ((run : List Event) × HasSources test readings run)
    by (inl t) = inr (λ r. trees_forbid_sources_lem test readings t.0 r.0 are t.1 r.1)
    by (inr r) = inl r

    go : (list_any (is_hidden_source test) readings ≡ true) ⊎ (list_any (is_hidden_source test) readings ≡ false)
        → Told ((run : List Event) × HasSources test readings run)
    go (inl h) = inr (λ r. hidden_sources_are_not_read_lem test readings r.0 are h r.1)
    go (inr h) = by (sources_tree_or_run_lem test readings are h)

-- the sources that a register's read can have
abbrev sources_for : LitmusTest → Register → List (Option Node)
sources_for test register = None ∷ map (λ (s : Site). Some (node s)) (stores_of test (location_of_read test register))

-- readings of the registers that are left, beside those that are chosen
abbrev Rest : LitmusTest → List Reading → List Register → List ℕ → Type 0
Rest test chosen registers values =
    (readings : List Reading) × ReadValues test registers values readings
    × ((run : List Event) × HasSources test (chosen ++ readings) run)

-- with one of these sources for the first
record First (test : LitmusTest) (chosen : List Reading) (register : Register) (registers : List Register) (v : ℕ)
    (values : List ℕ) (sources : List (Option Node)) : Type 0 where
  source : Option Node
  among : In source sources
  stores : is_source_to test (location_of_read test register) source ≡ true
  value : text_value test source ≡ v
  rest : Rest test (chosen ++ reading_from test register source ∷ []) registers values

first_more : (test : LitmusTest) (chosen : List Reading) (register : Register) (registers : List Register) (v : ℕ)
    (values : List ℕ) (o : Option Node) (os : List (Option Node)) → First test chosen register registers v values os
    → First test chosen register registers v values (o ∷ os)
first_more test chosen register registers v values o os f = record {
  source = f.source;
  among = inr f.among;
  stores = f.stores;
  value = f.value;
  rest = f.rest;
}

first_told : (test : LitmusTest) (chosen : List Reading) (register : Register) (registers : List Register) (v : ℕ)
    (values : List ℕ) (sources : List (Option Node))
    → ((o : Option Node) → is_source_to test (location_of_read test register) o ≡ true
    → Told (Rest test (chosen ++ reading_from test register o ∷ []) registers values))
    → Each (λ o. is_source_to test (location_of_read test register) o ≡ true) sources
    → Told (First test chosen register registers v values sources)
first_told test chosen register registers v values [] told src = inr (λ f. absurd f.among)
first_told test chosen register registers v values (o ∷ os) told src =
    go (cases_eq (text_value test o) v) (told o src.0)
    (first_told test chosen register registers v values os told src.1)
  where
    later : (f : First test chosen register registers v values (o ∷ os))
        → ((text_value test o ≡ v) → Rest test (chosen ++ reading_from test register o ∷ []) registers values → ⊥)
        → (First test chosen register registers v values os → ⊥) → (f.source ≡ o) ⊎ In f.source os → ⊥
    later f one rec (inl e) =
        let P : Option Node → Type 0 = λ z. text_value test z ≡ v in
        let Q : Option Node → Type 0 = λ z. Rest test (chosen ++ reading_from test register z ∷ []) registers values in
        one (subst P e f.value) (subst Q e f.rest)
    later f one rec (inr k) =
        rec (record { source = f.source; among = k; stores = f.stores; value = f.value; rest = f.rest })

    none : ((text_value test o ≡ v) → Rest test (chosen ++ reading_from test register o ∷ []) registers values → ⊥)
        → Told (First test chosen register registers v values os)
        → Told (First test chosen register registers v values (o ∷ os))
    none one (inl f) = inl (first_more test chosen register registers v values o os f)
    none one (inr rec) = inr (λ f. later f one rec f.among)

    go : (text_value test o ≡ v) ⊎ (text_value test o ≡ v → ⊥)
        → Told (Rest test (chosen ++ reading_from test register o ∷ []) registers values)
        → Told (First test chosen register registers v values os)
        → Told (First test chosen register registers v values (o ∷ os))
    go (inl e) (inl r) rec =
        inl (record { source = o; among = inl refl; stores = src.0; value = e; rest = r })
    go (inl e) (inr n) rec = none (λ k r. n r) rec
    go (inr ne) t rec = none (λ k r. ne k) rec

-- each of them can be one
sources_store : (test : LitmusTest) (x : ℕ) (ss : List Site) → Each (IsStoreOf test x) ss
    → Each (λ o. is_source_to test x o ≡ true) (map (λ (s : Site). Some (node s)) ss)
sources_store test x [] h = tt
sources_store test x (s ∷ ss) h = (
  writes_from test x (node s) (record { action = h.0.action; stands = h.0.stands; stores = h.0.stores }),
  sources_store test x ss h.1,
)

source_among : (test : LitmusTest) (register : Register) (o : Option Node)
    → is_source_to test (location_of_read test register) o ≡ true → In o (sources_for test register)
source_among test register None h = inl refl
source_among test register (Some s) h =
    let x = location_of_read test register in
    let w = writes_tells test x s h in
    let a = store_at x test s.thread s.place w.action w.stands w.stores in
    inr (in_map (λ (z : Site). Some (node z)) (stores_of test x) (site s) (among_in (stores_of test x) (site s) a))

rest_by : (test : LitmusTest) (chosen : List Reading) (register : Register) (registers : List Register) (v : ℕ)
    (values : List ℕ) → Told (First test chosen register registers v values (sources_for test register))
    → Told (Rest test chosen (register ∷ registers) (v ∷ values))
rest_by test chosen register registers v values (inl f) =
    let r = reading_from test register f.source in
    let P : List Reading → Type 0 = λ l. HasSources test l f.rest.2.0 in
    inl (
      r ∷ f.rest.0,
      (((refl, f.stores), f.rest.1.0), (λ i. f.value i ∷ f.rest.1.1 i)),
      (f.rest.2.0, subst P (append_assoc chosen (r ∷ []) f.rest.0) f.rest.2.1),
    )
rest_by test chosen register registers v values (inr n) = inr (λ r. from r.0 r.1 r.2)
  where
    from : (readings : List Reading) → ReadValues test (register ∷ registers) (v ∷ values) readings
        → ((run : List Event) × HasSources test (chosen ++ readings) run) → ⊥
    from [] reads run = absurd reads.0
    from (r ∷ rs) reads run =
        let z = reads.0.0 in
        let head : text_value test r.source ≡ v = (let k = reads.1 in cc) in
        let tail : values_read test rs ≡ values = (let k = reads.1 in cc) in
        let P : Reading → Type 0 = λ y. is_source_to test y.location r.source ≡ true in
        let src = subst P z.0 z.1 in
        let Q : Reading → Type 0 = λ y. HasSources test (chosen ++ y ∷ rs) run.0 in
        let R : List Reading → Type 0 = λ l. HasSources test l run.0 in
        let first = reading_from test register r.source in
        n (record {
          source = r.source;
          among = source_among test register r.source src;
          stores = src;
          value = head;
          rest = (
            rs,
            (reads.0.1, tail),
            (run.0, subst R (sym (append_assoc chosen (first ∷ []) rs)) (subst Q z.0 run.1)),
          );
        })

rest_told : (test : LitmusTest) (chosen : List Reading) (registers : List Register) (values : List ℕ)
    → AreReadings test chosen → Each (HeldRead test) registers → Told (Rest test chosen registers values)
rest_told test chosen [] [] are held = go (run_told test chosen are)
  where
    to : (readings : List Reading) → AllZip (IsReadingOf test) [] readings
        → ((run : List Event) × HasSources test (chosen ++ readings) run)
        → (run : List Event) × HasSources test chosen run
    to [] z r = let P : List Reading → Type 0 = λ l. HasSources test l r.0 in (r.0, subst P (append-nil chosen) r.1)
    to (y ∷ ys) z r = absurd z

    go : Told ((run : List Event) × HasSources test chosen run) → Told (Rest test chosen [] [])
    go (inl r) =
        let P : List Reading → Type 0 = λ l. HasSources test l r.0 in
        inl ([], (tt, refl), (r.0, subst P (sym (append-nil chosen)) r.1))
    go (inr n) = inr (λ r. n (to r.0 r.1.0 r.2))
rest_told test chosen [] (v ∷ values) are held = inr (λ r. none r.0 r.1)
  where
    none : (readings : List Reading) → ReadValues test [] (v ∷ values) readings → ⊥
    none [] reads = let k = reads.1 in cc
    none (r ∷ rs) reads = absurd reads.0
rest_told test chosen (register ∷ registers) [] are held = inr (λ r. none r.0 r.1)
  where
    none : (readings : List Reading) → ReadValues test (register ∷ registers) [] readings → ⊥
    none [] reads = absurd reads.0
    none (r ∷ rs) reads = let k = reads.1 in cc
rest_told test chosen (register ∷ registers) (v ∷ values) are held =
    let x = location_of_read test register in
    rest_by test chosen register registers v values
    (first_told test chosen register registers v values (sources_for test register)
    (λ o src. rest_told test (chosen ++ reading_from test register o ∷ []) registers values
    (each_append (IsReading test) chosen (reading_from test register o ∷ []) are
    (reading_is test register o held.0 src, tt)) held.1)
    (refl, sources_store test x (stores_of test x) (stores_are test x)))

pub rows_are_told_lem : RowsAreTold
rows_are_told_lem test registers values h holds =
    go (rest_told test [] registers values tt (held_reads test registers h holds))
  where
    k : IsRow test registers values
        ↔ ((readings : List Reading) × ReadValues test registers values readings
        × ((run : List Event) × HasSources test readings run))
    k = rows_are_sources_lem test registers values h holds

    go : Told (Rest test [] registers values) → Told (IsRow test registers values)
    go (inl r) = inl (k.1 r)
    go (inr n) = inr (λ row. n (k.0 row))
