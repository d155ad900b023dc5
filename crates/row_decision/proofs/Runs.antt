-- The run along the edges and the sides that the search took has all sources.
use Rattle.std.proofs.Common.{◌≡◌, ℕ, ◌||◌, Bool, true, false, List, [], ◌∷◌, ◌++◌, map, refl, sym, ap, ◌∙◌, subst, inl, inr}
use Rattle.std.proofs.lemmas.Bool.{both_ways}
use Rattle.std.specs.List.{AllByRecursion as Each, AllZip}
use Rattle.x86_subset.specs.Shape.{IsTest}
use Rattle.x86_subset.specs.Test.{LitmusTest}
use Rattle.tso_machine.specs.Event.{Event}
use Rattle.perp_base.proofs.Lists.{each_among, each_from_among}
use Rattle.choice_search.specs.declared.graph.Pair.{Pair as PairOf}
use Rattle.choice_search.specs.declared.graph.Choice.{Choice as ChoiceOf}
use Rattle.choice_search.specs.Graph.{HasNoCycle, has_pair, is_cycle_of}
use Rattle.choice_search.specs.Graph.{IsSideOf as IsSide, edge_among as edge_in, is_pair as is_pair_of}
use Rattle.order_run.specs.Along.{HasCycle, IsRunAlong, StandFor}
use Rattle.run_orders.specs.Orders.{Spot}
use Rattle.once.specs.Edges.{Choice, IsSideOf, Reading, choices_among, edge_among}
use Rattle.once.specs.Sources.{AreReadings, HasSource, HasValues, HidesNone, IsReading}
use Rattle.once.proofs.Deciding.{sides_taken}
use Rattle.once.proofs.Drawing.{IsTaken, order_among}
use Rattle.once.proofs.Making.{all_draw, at_node, between, cycle_between, order_between, wanted_by, wants_all}
use Rattle.once.proofs.Showing.{draws_among}
use Rattle.once.proofs.Sourced.{made_has}
use Rattle.row_decision.specs.Seen.{AreChoices, AreEdges, choice_seen, node_at, number_of, pair_seen}
use Rattle.row_decision.specs.Shown.{IsRunOfReadings}
use Rattle.row_decision.proofs.Graphs.{HasNodes, choice_nodes, cycle_up, edge_down, edge_up, sides_up}
use Rattle.row_decision.proofs.Numbers.{AreNodes, number_node}

-- what is known where the search took a side of each choice
pub record HasSides (test : LitmusTest) (readings : List Reading) (edges : List PairOf) (choices : List ChoiceOf)
    (sides : List PairOf) : Type 0 where
  pub within : IsTest test
  pub are : AreReadings test readings
  pub hides : HidesNone test readings
  pub listed : AreEdges test readings edges
  pub offered : AreChoices test readings choices
  pub taken : AllZip IsSide choices sides
  pub none : HasNoCycle edges sides

-- the edges of the readings and the sides, between spots
abbrev pub leads : LitmusTest → List Reading → List PairOf → Spot → Spot → Bool
leads test readings sides = between (edge_among test readings (map pair_seen sides))

side_nodes : (test : LitmusTest) (choices : List ChoiceOf) (sides : List PairOf) → AllZip IsSide choices sides
    → Each (AreNodes test) (map choice_seen choices) → Each (HasNodes test) sides
side_nodes test [] [] z n = tt
side_nodes test [] (p ∷ ps) z n = absurd z
side_nodes test (c ∷ cs) [] z n = absurd z
side_nodes test (c ∷ cs) (p ∷ ps) z n = (go z.0, side_nodes test cs ps z.1 n.1)
  where
    go : IsSide c p → HasNodes test p
    go (inl e) = let P : PairOf → Type 0 = λ q. HasNodes test q in subst P (sym e) (n.0.other, n.0.source)
    go (inr e) = let P : PairOf → Type 0 = λ q. HasNodes test q in subst P (sym e) (n.0.reader, n.0.other)

both_same : (b c : Bool) → (b ≡ true → c ≡ true) → (c ≡ true → b ≡ true) → b ≡ c
both_same true true f g = refl
both_same true false f g = sym (f refl)
both_same false true f g = g refl
both_same false false f g = refl

or_joins : (a b c : Bool) → (a || (b || c)) ≡ ((a || b) || c)
or_joins true b c = refl
or_joins false b c = refl

pairs_joined : (xs ys : List PairOf) (a b : ℕ) → has_pair (xs ++ ys) a b ≡ edge_in xs ys a b
pairs_joined [] ys a b = refl
pairs_joined (x ∷ xs) ys a b =
    ap (λ z. is_pair_of a b x || z) (pairs_joined xs ys a b)
    ∙ or_joins (is_pair_of a b x) (has_pair xs a b) (has_pair ys a b)

-- the list of both stands for it
stands : (test : LitmusTest) (readings : List Reading) (edges : List PairOf) (choices : List ChoiceOf)
    (sides : List PairOf) → HasSides test readings edges choices sides
    → StandFor (edges ++ sides) (leads test readings sides)
stands test readings edges choices sides h a b =
    let E = edge_among test readings (map pair_seen sides) in
    let nodes = side_nodes test choices sides h.taken (choice_nodes test readings choices h.are h.offered) in
    let P : ℕ → ℕ → Type 0 = λ x y. edge_in edges sides x y ≡ true in
    pairs_joined edges sides a b
    ∙ both_same (edge_in edges sides a b) (E (node_at a) (node_at b))
    (edge_down test readings edges sides h.listed nodes a b)
    (λ e.
    let Q : ℕ → Type 0 = λ x. P x (number_of (node_at b)) in
    let R : ℕ → Type 0 = λ y. P a y in
    subst R (number_node b) (subst Q (number_node a)
    (edge_up test readings edges sides h.within h.listed (node_at a) (node_at b) e)))

-- there is a run along them
pub none_closed : (test : LitmusTest) (readings : List Reading) (edges : List PairOf) (choices : List ChoiceOf)
    (sides : List PairOf) → HasSides test readings edges choices sides → HasCycle test (edges ++ sides) → ⊥
none_closed test readings edges choices sides h cycle =
    let taken = map pair_seen sides in
    let E = edge_among test readings taken in
    let c = cycle (leads test readings sides) (stands test readings edges choices sides h)
    (order_between test E (order_among test readings taken)) in
    let nodes = map at_node c.0 in
    both_ways (is_cycle_of (edge_in edges sides) (map number_of nodes)) (h.none (map number_of nodes))
    (cycle_up E (edge_in edges sides) (edge_up test readings edges sides h.within h.listed) nodes
    (cycle_between E c.0 c.1))

-- and it has all sources
pub run_has : (test : LitmusTest) (readings : List Reading) (edges : List PairOf) (choices : List ChoiceOf)
    (sides : List PairOf) (run : List Event) → HasSides test readings edges choices sides
    → IsRunAlong test (edges ++ sides) run → IsRunOfReadings test readings run
run_has test readings edges choices sides run h along =
    let taken = map pair_seen sides in
    let all = choices_among test readings in
    let E = edge_among test readings taken in
    let P : List Choice → Type 0 = λ l. AllZip IsSideOf l taken in
    let zip : P all = subst P h.offered (sides_up choices sides h.taken) in
    let draws = draws_among test readings taken h.are h.hides
    (λ choice a. each_among (IsTaken taken) choice all a (sides_taken all taken taken zip (λ p b. b))) in
    let values : HasValues test readings run = wants_all test readings run along.legal
    (along.wants (leads test readings sides) (wanted_by test readings)
    (stands test readings edges choices sides h) (all_draw test readings E draws)) in
    record {
      sources = (
        along.legal,
        each_from_among (HasSource test run) readings (λ r am. made_has test readings r (run, along.legal, values) am
            (each_among (IsReading test) r readings am h.are)),
      );
      values = values;
    }

-- the search's answer, as the code has it
pub has_sides : (test : LitmusTest) (readings : List Reading) (edges de : List PairOf) (choices dc : List ChoiceOf)
    (sides ds : List PairOf) → IsTest test → AreReadings test readings → HidesNone test readings
    → AreEdges test readings edges → AreChoices test readings choices → de ≡ edges → dc ≡ choices → ds ≡ sides
    → AllZip IsSide dc ds × HasNoCycle de ds → HasSides test readings edges choices sides
has_sides test readings edges de choices dc sides ds is are hides es cs e f g h =
    let P : List ChoiceOf → Type 0 = λ l. AllZip IsSide l ds in
    let Q : List PairOf → Type 0 = λ l. AllZip IsSide choices l in
    let R : List PairOf → Type 0 = λ l. HasNoCycle l ds in
    let S : List PairOf → Type 0 = λ l. HasNoCycle edges l in
    record {
      within = is;
      are = are;
      hides = hides;
      listed = es;
      offered = cs;
      taken = subst Q g (subst P f h.0);
      none = subst S g (subst R e h.1);
    }
