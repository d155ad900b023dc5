-- Front parts of rows.
use Rattle.std.proofs.Common.{◌≡◌, ℕ, ◌<◌, ◌==◌, ◌&&◌, true, false, Contains, Option, None, Some, List, [], ◌∷◌, ◌++◌, nat_lt, refl, sym, ◌∙◌, subst, inl, inr, ◌⊎◌}
use Rattle.std.proofs.lemmas.Bool.{and_parts, false_from_ne_true, ltb-true}
use Rattle.std.specs.List.{AllZip}
use Rattle.x86_subset.specs.Test.{LitmusTest, body_of}
use Rattle.seq_conv.specs.Sequence.{Site, action_at, stores_of}
use Rattle.seq_conv.proofs.Stores.{store_at}
use Rattle.perp_base.proofs.Lists.{Among, contains_from_among, zip_push}
use Rattle.verdict.specs.declared.node.Node.{Node}
use Rattle.verdict.specs.Edges.{is_barred, is_cycle_of, is_kept, keeps_at, node, site}
use Rattle.verdict.proofs.Forward.{no_cycle}
use Rattle.litmus_outcomes.specs.Machine.{Step}
use Rattle.litmus_outcomes.specs.Outcome.{IsExecution}
use Rattle.litmus_outcomes.proofs.Images.{is_execution, steps_of}
use Rattle.litmus_outcomes.proofs.Rebuilt.{imaged}
use Rattle.once.specs.Edges.{edge_among}
use Rattle.once.specs.Sources.{is_source_to}
use Rattle.once.proofs.Drawing.{among_map, edge_is, writes_tells}
use Rattle.once.proofs.Sourced.{no_cycle_has_sources_lem}
use Rattle.outcome_rows.specs.Laws.{RowsBegin, RowsGoOn, RowsTakeValues, SomeExecution}
use Rattle.outcome_rows.specs.Listing.{values_stored}
use Rattle.outcome_rows.specs.Rows.{EndsWith, IsRow, Register, location_of_read, text_value}
use Rattle.outcome_rows.proofs.Valued.{HeldRead, ends_by, held_read}

-- kept order has no cycle
kept_on : (test : LitmusTest) (a b : Node) → edge_among test [] [] a b ≡ true → a.place < b.place
kept_on test a b h = go ((edge_is test [] [] a b h).why)
  where
    go : (is_kept test (site a) (site b) ≡ true) ⊎ ((false ≡ true) ⊎ (false ≡ true)) → a.place < b.place
    go (inl k) =
        let p = and_parts ((a.thread == b.thread) && nat_lt a.place b.place)
        (keeps_at (is_barred (body_of test a.thread) a.place b.place) (action_at test (site a))
        (action_at test (site b))) k
        in
        ltb-true a.place b.place ((and_parts (a.thread == b.thread) (nat_lt a.place b.place) p.0).1)
    go (inr (inl k)) = cc
    go (inr (inr k)) = cc

pub some_execution_lem : SomeExecution
some_execution_lem test =
    let edge = edge_among test [] [] in
    let r = no_cycle_has_sources_lem test [] [] tt refl tt (λ cycle. false_from_ne_true (is_cycle_of edge cycle)
    (no_cycle edge (λ (n : Node). n.place) (λ a b h. kept_on test a b h) cycle)) in
    (steps_of test r.0, is_execution test r.0 r.1.0, tt)

zip_front : {A B : Type 0} (R : A → B → Type 0) (xs : List A) (ys : List B) (x : A) (y : B)
    → AllZip R (xs ++ x ∷ []) (ys ++ y ∷ []) → AllZip R xs ys
zip_front R [] [] x y z = tt
zip_front R [] (b ∷ []) x y z = absurd z.1
zip_front R [] (b ∷ c ∷ ys) x y z = absurd z.1
zip_front R (a ∷ []) [] x y z = absurd z.1
zip_front R (a ∷ c ∷ xs) [] x y z = absurd z.1
zip_front R (a ∷ xs) (b ∷ ys) x y z = (z.0, zip_front R xs ys x y z.1)

pub rows_begin_lem : RowsBegin
rows_begin_lem test registers register values v row =
    (row.0, row.1, zip_front (EndsWith test row.0) registers values register v row.2)

-- the value of a source is 0 or that of a store of the location
stored_value : (test : LitmusTest) (register : Register) (o : Option Node)
    → is_source_to test (location_of_read test register) o ≡ true
    → Among (text_value test o) (values_stored test register)
stored_value test register None h = record { front = []; rest = _; whole = refl }
stored_value test register (Some s) h =
    let x = location_of_read test register in
    let w = writes_tells test x s h in
    let f : Site → ℕ = λ z. text_value test (Some (node z)) in
    let a = among_map f (site s) (stores_of test x)
    (store_at x test s.thread s.place w.action w.stands w.stores) in
    record { front = 0 ∷ a.front; rest = a.rest; whole = (λ i. 0 ∷ a.whole i) }

pub rows_go_on_lem : RowsGoOn
rows_go_on_lem test registers register values h holds row =
    let i = imaged test row.0 row.1 in
    let e = ends_by test i.run register i.is_run (held_read test register h holds) in
    let P : List Step → Type 0 = λ steps. EndsWith test steps register (text_value test e.0) in (
      text_value test e.0,
      contains_from_among (values_stored test register) (text_value test e.0) (stored_value test register e.0 e.1),
      (
        row.0,
        row.1,
        zip_push (EndsWith test row.0) registers values register (text_value test e.0) row.2 (subst P i.image e.2),
      ),
    )

zip_last : {A B : Type 0} (R : A → B → Type 0) (xs : List A) (x : A) (ys : List B) → AllZip R (xs ++ x ∷ []) ys
    → (front : List B) × (y : B) × (ys ≡ front ++ y ∷ []) × R x y
zip_last R [] x [] z = absurd z
zip_last R [] x (y ∷ []) z = ([], y, refl, z.0)
zip_last R [] x (y ∷ c ∷ ys) z = absurd z.1
zip_last R (a ∷ xs) x [] z = absurd z
zip_last R (a ∷ xs) x (b ∷ ys) z =
    let r = zip_last R xs x ys z.1 in (b ∷ r.0, r.1, (λ i. b ∷ r.2 i), r.3)

-- the last value of a row is one that can come
pub record RowEnds (test : LitmusTest) (registers : List Register) (register : Register)
    (values : List ℕ) : Type 0 where
  pub front : List ℕ
  pub value : ℕ
  pub is : values ≡ front ++ value ∷ []
  pub row : IsRow test registers front
  pub can_come : Contains (values_stored test register) value

value_comes : (test : LitmusTest) (steps : List Step) (register : Register) (v : ℕ) → IsExecution test steps
    → HeldRead test register → EndsWith test steps register v → Contains (values_stored test register) v
value_comes test steps register v x h ends =
    let i = imaged test steps x in
    let e = ends_by test i.run register i.is_run h in
    let P : List Step → Type 0 = λ z. EndsWith test z register (text_value test e.0) in
    let one : Some (text_value test e.0) ≡ Some v = sym (subst P i.image e.2) ∙ ends in
    let same : text_value test e.0 ≡ v = cc in
    let Q : ℕ → Type 0 = λ z. Contains (values_stored test register) z in
    subst Q same (contains_from_among (values_stored test register) (text_value test e.0)
    (stored_value test register e.0
    e.1))

pub row_ends : (test : LitmusTest) (registers : List Register) (register : Register) (values : List ℕ)
    → HeldRead test register → IsRow test (registers ++ register ∷ []) values
    → RowEnds test registers register values
row_ends test registers register values h row =
    let l = zip_last (EndsWith test row.0) registers register values row.2 in
    let P : List ℕ → Type 0 = λ z. IsRow test (registers ++ register ∷ []) z in
    record {
      front = l.0;
      value = l.1;
      is = l.2;
      row = rows_begin_lem test registers register l.0 l.1 (subst P l.2 row);
      can_come = value_comes test row.0 register l.1 row.1 h l.3;
    }

pub rows_take_values_lem : RowsTakeValues
rows_take_values_lem test registers register values v h holds row =
    let l = zip_last (EndsWith test row.0) registers register (values ++ v ∷ []) row.2 in
    let same : v ≡ l.1 = last_same values l.0 v l.1 l.2 in
    let Q : ℕ → Type 0 = λ z. Contains (values_stored test register) z in
    subst Q (sym same) (value_comes test row.0 register l.1 row.1 (held_read test register h holds) l.3)
  where
    last_same : (xs ys : List ℕ) (x y : ℕ) → xs ++ x ∷ [] ≡ ys ++ y ∷ [] → x ≡ y
    last_same [] [] x y e = cc
    last_same [] (b ∷ []) x y e = cc
    last_same [] (b ∷ c ∷ ys) x y e = cc
    last_same (a ∷ []) [] x y e = cc
    last_same (a ∷ c ∷ xs) [] x y e = cc
    last_same (a ∷ xs) (b ∷ ys) x y e = let r : xs ++ x ∷ [] ≡ ys ++ y ∷ [] = cc in last_same xs ys x y r
