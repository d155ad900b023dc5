-- What a register holds at the end is the value of the source of its read.
use Rattle.std.proofs.Common.{◌≡◌, ℕ, ◌+◌, ◌*◌, ◌<◌, ◌==◌, true, false, Option, None, Some, List, [], ◌∷◌, option_map, option_and_then, unwrap_or, refl, sym, ap, ◌∙◌, arith, subst, eq-eqb}
use Rattle.std.proofs.lemmas.Bool.{and_from}
use Rattle.std.specs.List.{AllByRecursion as Each, AllZip}
use Rattle.std.specs.Option.{is_some, option_map_or}
use Rattle.x86_subset.specs.Instr.{is_reading, location_of}
use Rattle.x86_subset.specs.Test.{HoldsReads, LitmusTest, column_of, last_writer_of}
use Rattle.tso_machine.specs.Event.{Event}
use Rattle.tso_machine.specs.Laws.{NamesSource}
use Rattle.tso_machine.specs.Run.{IsRunOf}
use Rattle.seq_conv.specs.Sequence.{Origin, action_at, in_iteration, rank_of, site_location, store_count, store_of, stores_of}
use Rattle.seq_conv.proofs.Stores.{IsStoreOf, stores_are}
use Rattle.perp_base.proofs.Lists.{among_from_contains, each_among, each_weaker}
use Rattle.profile_check.proofs.KindLemmas.{named_by, reads_at}
use Rattle.outcome_conv.specs.Holds.{source_at}
use Rattle.verdict.specs.declared.node.Node.{Node}
use Rattle.verdict.specs.Edges.{node, site}
use Rattle.litmus_outcomes.specs.Machine.{Step}
use Rattle.litmus_outcomes.specs.Outcome.{final_value}
use Rattle.litmus_outcomes.proofs.Atoms.{final_is}
use Rattle.litmus_outcomes.proofs.Images.{is_execution, steps_of}
use Rattle.litmus_outcomes.proofs.Readings.{value_is}
use Rattle.litmus_outcomes.proofs.Rebuilt.{imaged}
use Rattle.litmus_outcomes.proofs.Values.{told, told_rank}
use Rattle.once.specs.Edges.{Reading}
use Rattle.once.specs.Sources.{AreReadings, HasSource, IsReading, is_source_to}
use Rattle.once.proofs.Drawing.{writes_from}
use Rattle.once.proofs.Showing.{ReadsOf}
use Rattle.once.proofs.Sourced.{logged_by, reader_of, source_named, sources_are_decided_lem}
use Rattle.outcome_rows.specs.Laws.{RowsAreDecided, RowsAreSources}
use Rattle.outcome_rows.specs.Rows.{EndsWith, HoldReads, HoldsRead, IsReadingOf, ReadValues, Register, location_of_read, read_of, reading_from, text_value, values_read}

-- The read of a register.

pub record HeldRead (test : LitmusTest) (register : Register) : Type 0 where
  pub holds : last_writer_of test register.thread register.reg ≡ Some (read_of test register).place
  pub reads : ReadsOf test (location_of_read test register) (read_of test register)

held_step : (test : LitmusTest) (register : Register) (o : Option ℕ) → HoldsReads test
    → last_writer_of test register.thread register.reg ≡ o → is_some o ≡ true → HeldRead test register
held_step test register None h e k = cc
held_step test register (Some p) h e k =
    let a = reads_at test register.thread register.reg p h e in
    let is : read_of test register ≡ record { thread = register.thread; place = p } =
    (λ i. record { thread = register.thread; place = unwrap_or (e i) 0 }) in
    let P : Node → Type 0 = λ z. action_at test (site z) ≡ Some a.0 in
    record {
      holds = e ∙ sym (ap (λ (z : Node). Some z.place) is);
      reads = record { action = a.0; stands = subst P (sym is) a.1; reading = a.2; location = refl };
    }

pub held_read : (test : LitmusTest) (register : Register) → HoldsReads test → HoldsRead test register
    → HeldRead test register
held_read test register h k =
    held_step test register (last_writer_of test register.thread register.reg) h refl k

pub held_reads : (test : LitmusTest) (registers : List Register) → HoldsReads test → HoldReads test registers
    → Each (HeldRead test) registers
held_reads test registers h holds = each_weaker (HoldsRead test) (HeldRead test) (λ register k.
    held_read test register h k) registers holds

-- What it holds at the end.

-- the value of the text behind what names its source
told_source : (test : LitmusTest) (x v : ℕ) (o : Option Node) (source : Option Origin) → NamesSource test 1 x v source
    → source ≡ option_map (λ (s : Node). in_iteration (site s) 0) o → told test x v ≡ text_value test o
told_source test x v None source h e = ap (told test x) (h.initial.1 e)
told_source test x v (Some s) source h e =
    let P : Option Origin → Type 0 = λ z. NamesSource test 1 x v z in
    let k = subst P e h in
    let r : v ≡ store_count test x * 0 + rank_of test x (site s) = k.value in
    told_rank test x v (site s) (among_from_contains (stores_of test x) (site s) k.store.0) (omega arith)

final_held : (test : LitmusTest) (run : List Event) (register : Register) (o : Option Node) → IsRunOf test 1 run
    → (h : HeldRead test register)
    → EndsWith test (steps_of test run) register
    (told test (location_of_read test register) (logged_by test run (reading_from test register o)))
final_held test run register o is h =
    let t = register.thread in
    let q = (read_of test register).place in
    let r = reading_from test register o in
    let v = logged_by test run r in
    let loc : named_by h.reads.action ≡ location_of_read test register =
    ap (λ z. unwrap_or (option_and_then location_of z) 0) (sym h.reads.stands) ∙ h.reads.location in
    final_is test (steps_of test run) t register.reg q h.holds
    ∙ value_is test run t (column_of test t q) q h.reads.action is (reader_of test r h.reads)
    ∙ ap (λ x. Some (told test x v)) loc

held_from : (test : LitmusTest) (run : List Event) (register : Register) (o : Option Node) → IsRunOf test 1 run
    → HeldRead test register → HasSource test run (reading_from test register o)
    → EndsWith test (steps_of test run) register (text_value test o)
held_from test run register o is h source =
    let r = reading_from test register o in
    final_held test run register o is h
    ∙ ap (λ z. Some z) (told_source test r.location (logged_by test run r) o (source_at test (site r.reader) 0 run)
    (source_named test run r h.reads is) source)

pub ends_each : (test : LitmusTest) (run : List Event) (registers : List Register) (readings : List Reading)
    → IsRunOf test 1 run → Each (HeldRead test) registers → AllZip (IsReadingOf test) registers readings
    → Each (HasSource test run) readings
    → AllZip (EndsWith test (steps_of test run)) registers (values_read test readings)
ends_each test run [] [] is h z sources = tt
ends_each test run [] (r ∷ rs) is h z sources = absurd z
ends_each test run (register ∷ registers) [] is h z sources = absurd z
ends_each test run (register ∷ registers) (r ∷ rs) is h z sources = (
  held_from test run register r.source is h.0 (subst (HasSource test run) z.0.0 sources.0),
  ends_each test run registers rs is h.1 z.1 sources.1,
)

-- The source that a register's read has in a run.

record Sourced (test : LitmusTest) (x : ℕ) (source : Option Origin) : Type 0 where
  node : Option Node
  is : source ≡ option_map (λ (s : Node). in_iteration (site s) 0) node
  stores : is_source_to test x node ≡ true

sourced_by : (test : LitmusTest) (x v : ℕ) (source : Option Origin) → NamesSource test 1 x v source
    → Sourced test x source
sourced_by test x v None h = record { node = None; is = refl; stores = refl }
sourced_by test x v (Some o) h =
    let s = store_of o in
    let l : o.iteration < 1 = h.store.1 in
    let z : o.iteration ≡ 0 = omega arith in
    let am = among_from_contains (stores_of test x) s h.store.0 in
    let k = each_among (IsStoreOf test x) s (stores_of test x) am (stores_are test x) in
    record {
      node = Some (node s);
      is = (λ i. Some (record { thread = o.thread; place = o.place; iteration = z i }));
      stores =
          writes_from test x (node s) (record { action = k.action; stands = k.stands; stores = k.stores });
    }

-- so the register ends with a value
pub ends_by : (test : LitmusTest) (run : List Event) (register : Register) → IsRunOf test 1 run
    → HeldRead test register
    → (o : Option Node) × (is_source_to test (location_of_read test register) o ≡ true)
    × EndsWith test (steps_of test run) register (text_value test o)
ends_by test run register is h =
    let any = reading_from test register None in
    let s = sourced_by test any.location (logged_by test run any) (source_at test (site any.reader) 0 run)
    (source_named test run any h.reads is) in
    (s.node, s.stores, held_from test run register s.node is h s.is)

record FromEnds (test : LitmusTest) (run : List Event) (registers : List Register) (values : List ℕ) : Type 0 where
  readings : List Reading
  reads : ReadValues test registers values readings
  sources : Each (HasSource test run) readings

from_ends : (test : LitmusTest) (run : List Event) (registers : List Register) (values : List ℕ) → IsRunOf test 1 run
    → Each (HeldRead test) registers → AllZip (EndsWith test (steps_of test run)) registers values
    → FromEnds test run registers values
from_ends test run [] [] is h z = record { readings = []; reads = (tt, refl); sources = tt }
from_ends test run [] (v ∷ vs) is h z = absurd z
from_ends test run (register ∷ registers) [] is h z = absurd z
from_ends test run (register ∷ registers) (v ∷ vs) is h z =
    let rest = from_ends test run registers vs is h.1 z.1 in
    let any = reading_from test register None in
    let s = sourced_by test any.location (logged_by test run any) (source_at test (site any.reader) 0 run)
    (source_named test run any h.0.reads is) in
    let r = reading_from test register s.node in
    let ends = held_from test run register s.node is h.0 s.is in
    let value : text_value test s.node ≡ v =
    some_same (final_value test (steps_of test run) register.thread register.reg)
    (text_value test s.node) v ends z.0 in
    record {
      readings = r ∷ rest.readings;
      reads = (
        ((refl, s.stores), rest.reads.0),
        (λ i. value i ∷ rest.reads.1 i),
      );
      sources = (s.is, rest.sources);
    }
  where
    some_same : (o : Option ℕ) (a b : ℕ) → o ≡ Some a → o ≡ Some b → a ≡ b
    some_same o a b h k = let e : Some a ≡ Some b = sym h ∙ k in cc

pub rows_are_sources_lem : RowsAreSources
rows_are_sources_lem test registers values h holds = (
  λ row.
      let i = imaged test row.0 row.1 in
      let P : List Step → Type 0 = λ steps. AllZip (EndsWith test steps) registers values in
      let f = from_ends test i.run registers values i.is_run (held_reads test registers h holds)
      (subst P (sym i.image) row.2) in
      (f.readings, f.reads, (i.run, (i.is_run, f.sources))),
  λ s.
      let P : List ℕ → Type 0 = λ vs. AllZip (EndsWith test (steps_of test s.2.0)) registers vs in (
        steps_of test s.2.0,
        is_execution test s.2.0 s.2.1.0,
        subst P s.1.1 (ends_each test s.2.0 registers s.0 s.2.1.0 (held_reads test registers h holds) s.1.0 s.2.1.1),
      ),
)

-- Readings.

pub reading_is : (test : LitmusTest) (register : Register) (o : Option Node) → HeldRead test register
    → is_source_to test (location_of_read test register) o ≡ true → IsReading test (reading_from test register o)
reading_is test register o h src =
    let n = read_of test register in
    let x = location_of_read test register in (
      and_from (option_map_or is_reading (action_at test (site n)) false) (site_location test (site n) == x)
          (ap (λ z. option_map_or is_reading z false) h.reads.stands ∙ h.reads.reading)
          (eq-eqb (site_location test (site n)) x refl),
      src,
    )

pub readings_are : (test : LitmusTest) (registers : List Register) (readings : List Reading)
    → Each (HeldRead test) registers → AllZip (IsReadingOf test) registers readings → AreReadings test readings
readings_are test [] [] h z = tt
readings_are test [] (r ∷ rs) h z = absurd z
readings_are test (register ∷ registers) [] h z = absurd z
readings_are test (register ∷ registers) (r ∷ rs) h z =
    let P : Reading → Type 0 = λ y. is_source_to test y.location r.source ≡ true in (
      subst (IsReading test) (sym z.0.0) (reading_is test register r.source h.0 (subst P z.0.0 z.0.1)),
      readings_are test registers rs h.1 z.1,
    )

pub rows_are_decided_lem : RowsAreDecided
rows_are_decided_lem test registers values h holds =
    let k = rows_are_sources_lem test registers values h holds in
    let held = held_reads test registers h holds in (
      λ row.
          let s = k.0 row in
          let d = (sources_are_decided_lem test s.0 (readings_are test registers s.0 held s.1.0)).0 s.2 in
          (s.0, s.1, d.0, d.1),
      λ d. k.1 (
        d.0,
        d.1,
        (sources_are_decided_lem test d.0 (readings_are test registers d.0 held d.1.0)).1 (d.2, d.3),
      ),
    )
