-- What reads and their sources, as the atoms of a conjunction name them, ask of a run of one iteration: edges that each
-- such run keeps, and choices of two edges of which it keeps one. Read-from and from-read are those of axiomatic memory
-- models (Alglave, Maranget and Tautschnig, "Herding cats", TOPLAS 2014); in place of an order of all stores of a
-- location there are the choices, which are this project's own.
use Rattle.std.specs.Prelude.{◌≡◌, ℕ, ◌==◌, ◌&&◌, ◌||◌, ◌⊎◌, Bool, false, not, nat_lt, Option, None, Some, List, [], ◌∷◌, ◌++◌, filter, map}
use Rattle.std.specs.List.{list_any}
use Rattle.std.specs.Option.{option_map_or}
use Rattle.x86_subset.specs.Instr.{is_store_to}
use Rattle.x86_subset.specs.Test.{LitmusTest}
use Rattle.seq_conv.specs.Sequence.{Site, action_at, stores_of}
use Rattle.profile_check.specs.Profile.{CheckedTest}
use Rattle.profile_check.specs.declared.kind.AtomKind.{AtomKind}
use Rattle.profile_check.specs.declared.kind.AtomKind.TheVariants.{Rf, Fr, Exact}
use Rattle.outcome_conv.specs.Holds.{location_read, reading_site}
use Rattle.verdict.specs.declared.node.Node.{Node}
use Rattle.verdict.specs.Edges.{is_kept, is_node, kinds_in, node, same_node, site}

-- what is said of a read of a run of one iteration: the read, the location that is read, and the store that the read
-- takes its value from, or none where it takes the initial value
pub record Reading : Type 0 where
  pub reader : Node
  pub location : ℕ
  pub source : Option Node

-- what an atom says
abbrev pub reading_of : LitmusTest → AtomKind → Reading
reading_of test (Rf reader column writer place) = record {
  reader = node (reading_site test reader column);
  location = location_read test reader column;
  source = Some (record { thread = writer; place = place });
}
reading_of test (Fr reader column writer) = record {
  reader = node (reading_site test reader column);
  location = location_read test reader column;
  source = None;
}
reading_of test (Exact reader column writer place) = record {
  reader = node (reading_site test reader column);
  location = location_read test reader column;
  source = Some (record { thread = writer; place = place });
}

-- whether a store or an exchange to x stands at a node
abbrev pub writes_to : LitmusTest → ℕ → Node → Bool
writes_to test x n = option_map_or (is_store_to x) (action_at test (site n)) false

-- ---- edges

-- one of the reader's own stores to the location before the read
abbrev pub is_own_before : LitmusTest → Reading → Node → Bool
is_own_before test r o =
    writes_to test r.location o && (o.thread == r.reader.thread) && nat_lt o.place r.reader.place

-- a later store to the location of the thread of store s
abbrev pub is_later : LitmusTest → Reading → Node → Node → Bool
is_later test r s o = writes_to test r.location o && (o.thread == s.thread) && nat_lt s.place o.place

-- A read of the initial value stands before each store of another thread. A read of another thread's store s stands
-- after s and before the later stores of the thread of s, and the reader's own earlier stores stand before s. A read of
-- a store of its own thread asks for no edge.
abbrev pub asks_by : LitmusTest → Reading → Option Node → Node → Node → Bool
asks_by test r None a b =
    same_node r.reader a && (writes_to test r.location b && not (b.thread == r.reader.thread))
asks_by test r (Some s) a b =
    not (s.thread == r.reader.thread)
    && ((same_node s a && same_node r.reader b || is_own_before test r a && same_node s b)
    || same_node r.reader a && is_later test r s b)

abbrev pub asks_of : LitmusTest → Node → Node → Reading → Bool
asks_of test a b r = asks_by test r r.source a b

-- ---- choices

-- an edge that is taken
pub record Pair : Type 0 where
  pub first : Node
  pub second : Node

-- a read, the store that it takes its value from, and a store to the location of a thread that is neither the reader's
-- nor that of the source
pub record Choice : Type 0 where
  pub reader : Node
  pub source : Node
  pub other : Node

-- the other store stands before the source
abbrev pub before_source : Choice → Pair
before_source c = record { first = c.other; second = c.source }

-- or after the read
abbrev pub after_reader : Choice → Pair
after_reader c = record { first = c.reader; second = c.other }

abbrev pub is_third : Node → Node → Site → Bool
is_third reader source s = not (s.thread == reader.thread) && not (s.thread == source.thread)

abbrev pub choice_of : Node → Node → Site → Choice
choice_of reader source s = record { reader = reader; source = source; other = node s }

abbrev pub choices_by : LitmusTest → Reading → Option Node → List Choice
choices_by test r None = []
choices_by test r (Some s) =
    map (choice_of r.reader s) (filter (is_third r.reader s) (stores_of test r.location))

abbrev pub choices_of : LitmusTest → Reading → List Choice
choices_of test r = choices_by test r r.source

abbrev pub choices_among : LitmusTest → List Reading → List Choice
choices_among test [] = []
choices_among test (r ∷ rs) = choices_of test r ++ choices_among test rs

-- what the atoms of conjunction c say, and its choices
abbrev pub readings_in : CheckedTest → ℕ → List Reading
readings_in checked c = map (reading_of checked.test) (kinds_in checked c)

abbrev pub choices_in : CheckedTest → ℕ → List Choice
choices_in checked c = choices_among checked.test (readings_in checked c)

-- a side of the choice
abbrev pub IsSideOf : Choice → Pair → Type 0
IsSideOf choice side = (side ≡ before_source choice) ⊎ (side ≡ after_reader choice)

-- ---- edges with some sides taken

abbrev pub is_pair : Node → Node → Pair → Bool
is_pair a b p = same_node p.first a && same_node p.second b

-- whether an edge leads from a to b: kept order, what a reading asks for, or a side that is taken
abbrev pub edge_among : LitmusTest → List Reading → List Pair → Node → Node → Bool
edge_among test readings taken a b =
    is_node test (site a) && is_node test (site b)
    && ((is_kept test (site a) (site b) || list_any (asks_of test a b) readings) || list_any (is_pair a b) taken)

-- the edges of conjunction c with some sides taken
abbrev pub edge_once : CheckedTest → ℕ → List Pair → Node → Node → Bool
edge_once checked c taken = edge_among checked.test (readings_in checked c) taken
