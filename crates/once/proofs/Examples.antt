-- P0 and P1 store 1 and 2 to x, P2 reads 1 and then 2, and P3 reads 2 and then 1: whichever store is first, one of the
-- readers closes a cycle.
use Rattle.std.proofs.Common.{ℕ, ◌<◌, [], ◌∷◌, refl, arith}
use Rattle.std.proofs.lemmas.List.Elements.{All-from_recursion}
use Rattle.perp_base.proofs.Lists.{Among, contains_from_among}
use Rattle.profile_check.specs.Profile.{CheckedTest}
use Rattle.verdict.specs.declared.node.Node.{Node}
use Rattle.litmus_outcomes.proofs.Unordered.{readers, readers_checked, readers_kinds, twice, twice_is}
use Rattle.once.specs.Edges.{Choice, choices_in}
use Rattle.once.specs.Laws.{TreesAreNeeded}
use Rattle.once.specs.Trees.{Refutes, Tree, cycle, split}

abbrev readers_case : CheckedTest
readers_case = record { test = readers; kinds = readers_kinds }

abbrev at : ℕ → ℕ → Node
at t p = record { thread = t; place = p }

-- P2 reads 2: is 1 before it, or stored after the read?
abbrev second : Choice
second = record { reader = at 2 1; source = at 1 0; other = at 0 0 }

-- P3 reads 1: the same of 2
abbrev fourth : Choice
fourth = record { reader = at 3 1; source = at 0 0; other = at 1 0 }

abbrev tree : Tree
tree =
    split second
    (split fourth (cycle (at 1 0 ∷ at 0 0 ∷ [])) (cycle (at 3 1 ∷ at 1 0 ∷ at 3 0 ∷ [])))
    (cycle (at 2 1 ∷ at 0 0 ∷ at 2 0 ∷ []))

second_is : Among second (choices_in readers_case 0)
second_is = record {
  front = record { reader = at 2 0; source = at 0 0; other = at 1 0 } ∷ [];
  rest = record { reader = at 3 0; source = at 1 0; other = at 0 0 } ∷ fourth ∷ [];
  whole = refl;
}

fourth_is : Among fourth (choices_in readers_case 0)
fourth_is = record {
  front = record { reader = at 2 0; source = at 0 0; other = at 1 0 } ∷ second
      ∷ record { reader = at 3 0; source = at 1 0; other = at 0 0 } ∷ [];
  rest = [];
  whole = refl;
}

refutes : Refutes readers_case 0 [] tree
refutes = (
  contains_from_among (choices_in readers_case 0) second second_is,
  (contains_from_among (choices_in readers_case 0) fourth fourth_is, refl, refl),
  refl,
)

pub trees_are_needed_lem : TreesAreNeeded
trees_are_needed_lem = (
  readers_case,
  tree,
  twice,
  0 ∷ 0 ∷ 0 ∷ 0 ∷ [],
  readers_checked,
  refutes,
  twice_is,
  record {
    one_each = refl;
    below =
        All-from_recursion (λ i. i < 2) (0 ∷ 0 ∷ 0 ∷ 0 ∷ [])
        (omega arith, (omega arith, (omega arith, (omega arith, tt))));
  },
  refl,
)
