use Rattle.std.proofs.Common.{◌≡◌, ℕ, List, sym, subst}
use Rattle.std.specs.List.{AllZip}
use Rattle.choice_search.specs.declared.graph.Pair.{Pair}
use Rattle.choice_search.specs.Graph.{HasNoCycle, IsSideOf}
use Rattle.choice_search.proofs.TakenSides.{sides_of_each}
use Rattle.choice_search.proofs.taken.finish.Goals as goal

pub returns-in-None-clause-found : goal.returns-in-None-clause-found
returns-in-None-clause-found c =
    let P : List Pair → Type 0 = λ l. AllZip IsSideOf c.args.choices.now l in (
      subst P (sym c.in_ok-used.ensures)
          (sides_of_each c.args.choices.now c.args.sides.now c.requires.length c.requires.all),
      (let Q : List Pair → Type 0 = λ l. HasNoCycle c.args.edges.now l in
          subst Q c.deref.ensures.value (rw c.in-None.is at c.in_ok-find_cycle.ensures)),
    )
