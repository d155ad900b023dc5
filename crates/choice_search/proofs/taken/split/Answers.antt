use Rattle.std.proofs.Common.{◌≡◌, ℕ, List, ◌∷◌, sym, subst}
use Rattle.choice_search.specs.declared.graph.Side.{Side}
use Rattle.choice_search.specs.declared.graph.Tree.{Tree}
use Rattle.choice_search.specs.Graph.{after_reader, before_source}
use Rattle.choice_search.specs.Trees.{Refutes}
use Rattle.choice_search.specs.Search.{opposite_of, side_of}
use Rattle.choice_search.proofs.Trees.{AreJoined, AreWithout, both_refute}
use Rattle.choice_search.proofs.taken.split.Goals as goal
use Rattle.choice_search.proofs.taken.split.Goals.{in-Before, in-After}

pub returns : goal.returns
returns c = λ edges choices taken has left right.
    let choice = c.args.choice in
    let first = c.args.first in
    let us = c.args.left.used.items in
    let vs = c.args.right.used.items in
    let rest = c.in_ok-rest.rest.items in
    let more = c.in_ok-more.more.items in
    let all = c.in_ok-used.used.items in
    let l = c.args.left.tree in
    let r = c.args.right.tree in
    let f : AreWithout (side_of choice first) us rest =
    rw (c.edge.ensures, c.deref.ensures.value) at c.in_ok-rest.ensures in
    let g : AreWithout (side_of choice (opposite_of first)) vs more =
    rw (c.edge-2.ensures, c.opposite.ensures, c.deref-2.ensures.value) at c.in_ok-more.ensures in
    let h : AreJoined rest more all = rw c.deref-3.ensures.value at c.in_ok-used.ensures in
    let b = both_refute edges choices (side_of choice first)
    (side_of choice (opposite_of first)) taken us vs rest more all
    l r f g h left.refutes left.within right.refutes right.within in
    let T : Tree → Type 0 = λ t. Refutes edges choices all t in
    let B : Tree → Type 0 = λ t. Refutes edges choices (before_source choice ∷ all) t in
    let A : Tree → Type 0 = λ t. Refutes edges choices (after_reader choice ∷ all) t in
    let L : Side → Type 0 = λ s. Refutes edges choices (side_of choice s ∷ all) l in
    let R : Side → Type 0 = λ s. Refutes edges choices (side_of choice (opposite_of s) ∷ all) r in
    elim c.match-first.branch [
      | in-Before w ↦ record {
        refutes = subst T (sym w.tree-is) (
          has,
          subst B (sym c.in_ok-left.ensures.ok) (subst L w.in-Before.is b.left),
          subst A (sym c.in_ok-right.ensures.ok) (subst R w.in-Before.is b.right),
        );
        within = b.within;
      }
      | in-After w ↦ record {
        refutes = subst T (sym w.tree-is) (
          has,
          subst B (sym c.in_ok-right.ensures.ok) (subst R w.in-After.is b.right),
          subst A (sym c.in_ok-left.ensures.ok) (subst L w.in-After.is b.left),
        );
        within = b.within;
      }
    ]
