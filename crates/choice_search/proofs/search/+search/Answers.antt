use Rattle.std.proofs.Common.{◌≡◌, ◌<◌, ◌+◌, ℕ, List, Option, Some, ◌∷◌, sym, subst, ◌∙◌, ap, length, slice_set, count_by, arith}
use Rattle.choice_search.specs.declared.graph.Side.{Side}
use Rattle.choice_search.specs.Search.{IsFound, IsKept, IsRefutation, opposite_of, is_open, side_of, taken_of}
use Rattle.choice_search.proofs.Trees.{found_more, kept_back}
use Rattle.choice_search.proofs.TakenSides.{contains_get, open_fewer, set_within}
use Rattle.choice_search.proofs.search.+search.Goals as goal

pub refute-returns-in_ok-both-in-Some-clause-found : goal.refute-returns-in_ok-both-in-Some-clause-found
refute-returns-in_ok-both-in-Some-clause-found n c =
    let edges = c.args.edges.now in
    let choices = c.args.choices.now in
    let sides = c.args.sides.now in
    let taken = taken_of choices sides in
    let at = c.in-Some.at in
    let free = c.in-Some.ensures in
    let has = contains_get choices at.index at.choice free.here in
    let left : IsRefutation edges choices (side_of at.choice at.side ∷ taken) c.in-Refuted.left =
    rw c.in-Refuted.is at c.in_ok-found-in-Some.ensures.found in
    let kept : c.under.new.sides ≡ sides = rw c.in-Refuted.is at c.in_ok-found-in-Some.ensures.kept in
    let right : IsRefutation edges choices (side_of at.choice (opposite_of at.side) ∷ taken) c.in-Refuted-2.right =
    rw (c.in-Refuted-2.is, c.opposite.ensures, kept) at c.in_ok-found-in-Some-2.ensures.found in
    c.in_ok-both-in-Some.ensures edges choices taken has left right

pub under-refute-requires : goal.under-refute-requires
under-refute-requires n c =
    let sides = c.args.sides.now in
    let at = c.args.at in
    let P : List (Option Side) → Type 0 = λ l. count_by is_open l < count_by is_open sides in
    let less : count_by is_open c.set_side.new.sides < count_by is_open sides = subst P (sym c.set_side.ensures)
    (open_fewer sides at.index at.side c.requires.at.free) in
    let h : count_by is_open sides + count_by is_open sides ≡ n = c.decreases in
    (omega arith, (c.set_side.auto.sides ∙ c.requires.length, c.add_side.ensures.within))

pub under-returns-clause-found : goal.under-returns-clause-found
under-returns-clause-found n c =
    let choices = c.args.choices.now in
    let sides = c.args.sides.now in
    let at = c.args.at in
    found_more c.args.edges.now choices (taken_of choices (slice_set sides at.index (Some at.side)))
    (side_of at.choice at.side ∷ taken_of choices sides) c.in_ok-found-2.found
    (set_within choices sides at.index at.choice at.side c.requires.at.here)
    (rw c.set_side.ensures at c.in_ok-found-2.ensures.found)

pub under-returns-clause-kept : goal.under-returns-clause-kept
under-returns-clause-kept n c =
    let sides = c.args.sides.now in
    let at = c.args.at in
    let h = kept_back sides c.refute.new.sides at.index (Some at.side) c.in_ok-found-2.found c.requires.at.free
    (rw c.set_side.ensures at c.in_ok-found-2.ensures.kept) in
    let P : List (Option Side) → Type 0 = λ l. IsKept sides l c.in_ok-found-2.found in
    subst P (sym c.set_side-2.ensures) h
