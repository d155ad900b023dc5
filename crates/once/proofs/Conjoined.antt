-- What the atoms of a conjunction say are readings, and a run that reads from their sources shows the conjunction.
use Rattle.std.proofs.Common.{◌≡◌, ℕ, ◌==◌, ◌&&◌, Bool, true, false, cond, Contains, None, Some, List, [], map, nat_lt, refl, sym, ap, ◌∙◌, inl, inr, ◌⊎◌, eq-eqb}
use Rattle.std.proofs.lemmas.Bool.{and_from, and_parts, eqb-true, false_from_ne_true}
use Rattle.std.specs.List.{AllByRecursion as Each, list_any}
use Rattle.std.specs.Option.{is_some, option_map_or}
use Rattle.x86_subset.specs.Instr.{is_reading}
use Rattle.x86_subset.specs.Test.{LitmusTest}
use Rattle.x86_subset.specs.declared.instr.Instr.{Instr}
use Rattle.tso_machine.specs.Event.{Event}
use Rattle.tso_machine.specs.Run.{IsRunOf}
use Rattle.seq_conv.specs.Sequence.{action_at, site_location, stores_of}
use Rattle.seq_conv.proofs.Stores.{IsStoreOf, stores_are}
use Rattle.perp_base.proofs.Lists.{Among, any_map, any_same, contains_from_among, among_from_contains, each_among, each_from_among}
use Rattle.profile_check.specs.Profile.{CheckedTest, IsChecked}
use Rattle.profile_check.specs.declared.kind.AtomKind.{AtomKind}
use Rattle.profile_check.specs.declared.kind.AtomKind.TheVariants.{Rf, Fr, Exact}
use Rattle.profile_check.proofs.KindLemmas.{IsReader, Tells}
use Rattle.outcome_conv.specs.Holds.{holds_in, location_read, reading_site}
use Rattle.verdict.specs.declared.node.Node.{Node}
use Rattle.verdict.specs.Edges.{asked_of, kinds_in, node}
use Rattle.verdict.proofs.Finds.{any_found}
use Rattle.verdict.proofs.Forward.{kinds_tell}
use Rattle.decision.specs.declared.hidden.HiddenRead.{HiddenRead}
use Rattle.decision.specs.Hidden.{is_hidden, is_hidden_store}
use Rattle.decision.specs.Shown.{Shows, zeros}
use Rattle.decision.specs.Stage.{IsWanted as IsKindWanted, wanted as kind_wanted}
use Rattle.decision.proofs.Finish.{all_from, holds_wanted}
use Rattle.once.specs.Edges.{Choice, Pair, choices_in, edge_once, reading_of, readings_in}
use Rattle.once.specs.Laws.{HidesNothing, NoCycleIsShownOnce, TreeOrRun}
use Rattle.once.specs.Sources.{HasValues, AreReadings, HidesNone, is_hidden_source, is_own_earlier, IsReading, IsWanted, reads_of, wanted}
use Rattle.once.specs.Trees.{Refutes, Tree}
use Rattle.once.proofs.Deciding.{Decided, no_cycle_made, tree_or_made}
use Rattle.once.proofs.Drawing.{IsTaken, among_map, writes_from}
use Rattle.once.proofs.Forbidding.{each_mapped}
use Rattle.once.proofs.Making.{Closed, Made}
use Rattle.once.proofs.Named.{other_store, reader_at, store_named}
use Rattle.once.proofs.Showing.{run_or_cycle}

-- An atom's reading.

reads_named : (test : LitmusTest) (t column p : ℕ) (a : Instr) → IsReader test t column p a
    → reads_of test (location_read test t column) (node (reading_site test t column)) ≡ true
reads_named test t column p a r =
    let s = reading_site test t column in
    and_from (option_map_or is_reading (action_at test s) false) (site_location test s == location_read test t column)
    (ap (λ o. option_map_or is_reading o false) (reader_at test t column p a r) ∙ r.reading)
    (eq-eqb (site_location test s) (location_read test t column) refl)

kind_reads : (test : LitmusTest) (kind : AtomKind) → Tells test kind → IsReading test (reading_of test kind)
kind_reads test (Rf t column w p) tells = (
  reads_named test t column tells.place tells.action tells.reader,
  writes_from test (location_read test t column) (record { thread = w; place = p })
      (store_named test t column tells.place tells.action tells.reader (record { thread = w; place = p }) tells.stands),
)
kind_reads test (Fr t column w) tells = (reads_named test t column tells.place tells.action tells.reader, refl)
kind_reads test (Exact t column w p) tells = (
  reads_named test t column tells.place tells.action tells.reader,
  writes_from test (location_read test t column) (record { thread = w; place = p })
      (store_named test t column tells.place tells.action tells.reader (record { thread = w; place = p }) tells.stands),
)

is_some_cond : (b : Bool) (h : HiddenRead) → is_some (cond b (Some h) None) ≡ b
is_some_cond true h = refl
is_some_cond false h = refl

-- it is hidden where the atom names a hidden store
pub kind_hides : (test : LitmusTest) (kind : AtomKind) → Tells test kind
    → is_hidden_source test (reading_of test kind) ≡ is_hidden test kind
kind_hides test (Rf t column w p) tells =
    let s : Node = record { thread = w; place = p } in
    let r = node (reading_site test t column) in
    sym (is_some_cond ((w == t) && is_hidden_store t p r.place (stores_of test (location_read test t column)))
    (record { store = s; read = r }))
kind_hides test (Exact t column w p) tells =
    false_from_ne_true (is_hidden_source test (reading_of test (Exact t column w p))) (λ h.
    let s : Node = record { thread = w; place = p } in
    let r = node (reading_site test t column) in
    let k = (and_parts (w == t) (is_hidden_store t p r.place (stores_of test (location_read test t column))) h).0 in
    tells.other.apart (sym (eqb-true w t k)))
kind_hides test (Fr t column w) tells =
    false_from_ne_true (is_hidden_source test (reading_of test (Fr t column w))) (λ h.
    let r = node (reading_site test t column) in
    let x = location_read test t column in
    let f = any_found (is_own_earlier r.thread r.place) (stores_of test x) h in
    let k = (and_parts (f.here.thread == t) (nat_lt f.here.place r.place) f.passes).0 in
    let i = each_among (IsStoreOf test x) f.here (stores_of test x) f.among (stores_are test x) in
    other_store test t column tells.place w tells.action tells.reader tells.other (node f.here)
    (record { action = i.action; stands = i.stands; stores = i.stores }) (eqb-true f.here.thread t k))

pub readings_are : (checked : CheckedTest) (c : ℕ) → IsChecked checked
    → AreReadings checked.test (readings_in checked c)
readings_are checked c h =
    let kinds = kinds_in checked c in
    each_mapped (IsReading checked.test) (reading_of checked.test) kinds
    (each_from_among (λ kind. IsReading checked.test (reading_of checked.test kind)) kinds (λ kind am.
    kind_reads checked.test kind (each_among (Tells checked.test) kind kinds am (kinds_tell checked c h))))

pub readings_hide : (checked : CheckedTest) (c : ℕ) → IsChecked checked
    → list_any (is_hidden_source checked.test) (readings_in checked c)
    ≡ list_any (is_hidden checked.test) (kinds_in checked c)
readings_hide checked c h =
    let kinds = kinds_in checked c in
    any_map (is_hidden_source checked.test) (reading_of checked.test) kinds
    ∙ any_same (λ kind. is_hidden_source checked.test (reading_of checked.test kind)) (is_hidden checked.test) kinds
    (each_from_among (λ kind. is_hidden_source checked.test (reading_of checked.test kind)
    ≡ is_hidden checked.test kind) kinds (λ kind am.
    kind_hides checked.test kind (each_among (Tells checked.test) kind kinds am (kinds_tell checked c h))))

-- What is read.

kind_wants : (test : LitmusTest) (kind : AtomKind) → wanted test (reading_of test kind) ≡ kind_wanted test kind
kind_wants test (Rf t column w p) = refl
kind_wants test (Fr t column w) = refl
kind_wants test (Exact t column w p) = refl

kind_reader : (test : LitmusTest) (kind : AtomKind) → (reading_of test kind).reader ≡ (asked_of test kind).reader
kind_reader test (Rf t column w p) = refl
kind_reader test (Fr t column w) = refl
kind_reader test (Exact t column w p) = refl

contains_map : {X Y : Type 0} (f : X → Y) (xs : List X) (x : X) → Contains xs x → Contains (map f xs) (f x)
contains_map f xs x c =
    let a = among_from_contains xs x c in
    contains_from_among (map f xs) (f x) (among_map f x xs a)

wants_kinds : (test : LitmusTest) (kinds : List AtomKind) (e : Event) → IsWanted test (map (reading_of test) kinds) e
    → IsKindWanted test kinds e
wants_kinds test kinds e h kind c drains t p v reads =
    let is = kind_reader test kind in
    h (reading_of test kind) (contains_map (reading_of test) kinds kind c) drains
    (t ∙ sym (ap (λ (n : Node). n.thread) is)) (p ∙ sym (ap (λ (n : Node). n.place) is)) v reads
    ∙ kind_wants test kind

-- a run whose reads have these values shows the conjunction
pub values_show : (checked : CheckedTest) (c : ℕ) (run : List Event) → IsChecked checked → IsRunOf checked.test 1 run
    → HasValues checked.test (readings_in checked c) run → Shows checked c run
values_show checked c run h legal values =
    let test = checked.test in
    let kinds = kinds_in checked c in
    let readings = readings_in checked c in
    let H : AtomKind → Type 0 = λ kind. holds_in test run (zeros test) kind ≡ true in
    let reads : Each (IsKindWanted test kinds) run = each_from_among (IsKindWanted test kinds) run (λ e am.
    wants_kinds test kinds e (each_among (IsWanted test readings) e run am values)) in (
      legal,
      all_from (holds_in test run (zeros test)) kinds (each_from_among H kinds (λ kind am.
          holds_wanted test kinds run kind legal reads am
          (each_among (Tells test) kind kinds am (kinds_tell checked c h)))),
    )

made_shows : (checked : CheckedTest) (c : ℕ) → IsChecked checked → Made checked.test (readings_in checked c)
    → (run : List Event) × Shows checked c run
made_shows checked c h m = (m.0, values_show checked c m.0 h m.1 m.2)

pub hides_none : (checked : CheckedTest) (c : ℕ) → IsChecked checked → HidesNothing checked c
    → HidesNone checked.test (readings_in checked c)
hides_none checked c h hides = readings_hide checked c h ∙ hides

pub shown_or_cycle : (checked : CheckedTest) (c : ℕ) (taken : List Pair) → IsChecked checked → HidesNothing checked c
    → ((choice : Choice) → Among choice (choices_in checked c) → IsTaken taken choice)
    → Closed (edge_once checked c taken) ⊎ ((run : List Event) × Shows checked c run)
shown_or_cycle checked c taken h hides sides =
    go (run_or_cycle checked.test (readings_in checked c) taken (readings_are checked c h)
    (hides_none checked c h hides)
    sides)
  where
    go : Closed (edge_once checked c taken) ⊎ Made checked.test (readings_in checked c)
        → Closed (edge_once checked c taken) ⊎ ((run : List Event) × Shows checked c run)
    go (inl l) = inl l
    go (inr m) = inr (made_shows checked c h m)

pub no_cycle_is_shown_once_lem : NoCycleIsShownOnce
no_cycle_is_shown_once_lem checked c taken h hides zip none =
    made_shows checked c h (no_cycle_made checked.test (readings_in checked c) taken (readings_are checked c h)
    (hides_none checked c h hides) zip none)

pub tree_or_run_lem : TreeOrRun
tree_or_run_lem checked c h hides =
    go (tree_or_made checked.test (readings_in checked c) (readings_are checked c h) (hides_none checked c h hides))
  where
    go : Decided checked.test (readings_in checked c) []
        → ((tree : Tree) × Refutes checked c [] tree) ⊎ ((run : List Event) × Shows checked c run)
    go (inl t) = inl t
    go (inr m) = inr (made_shows checked c h m)
