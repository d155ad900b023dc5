use Rattle.std.proofs.Common.{ℕ, List, Vec, Global, map, ap, ◌∙◌, true, false, arith}
use Rattle.choice_search.specs.declared.graph.Pair.{Pair}
use Rattle.row_decision.specs.Seen.{seen}
use Rattle.row_decision.proofs.Adding.{leads_by, row_more, row_same}
use Rattle.row_decision.proofs.graph.add_edges.Goals as goal
use Rattle.row_decision.proofs.graph.add_edges.Goals.{then-has_edge+in_ok-push, else-has_edge}

pub loop-second-init : goal.loop-second-init
loop-second-init c = (λ h. h, λ a b h. h, λ b l h. absurd (omega arith))

pub loop-second-preserved : goal.loop-second-preserved
loop-second-preserved c =
    let test = c.args.test.now in
    let readings = map seen c.args.readings.now in
    let first : ℕ = c.args.first in
    let n : ℕ = c.loop-second.second in
    let old : List Pair = c.args.edges.now.items in
    let items : List Pair = c.loop-second.edges.items in
    let after : List Pair = c.if-has_edge.edges.items in
    elim c.if-has_edge.branch [
      | then-has_edge+in_ok-push w ↦
          row_more test readings first n old items after
          (ap (λ (z : Vec Pair Global). z.items) w.edges-is ∙ w.in_ok-push.ensures.items)
          (leads_by test readings first n c.node_at.result c.node_at-in-loop-second.result c.has_edge.result true
          c.node_at.ensures c.node_at-in-loop-second.ensures c.has_edge.ensures w.if-has_edge.true)
          c.loop-second.invariant
      | else-has_edge w ↦
          row_same test readings first n old items after (ap (λ (z : Vec Pair Global). z.items) w.edges-is)
          (leads_by test readings first n c.node_at.result c.node_at-in-loop-second.result c.has_edge.result false
          c.node_at.ensures c.node_at-in-loop-second.ensures c.has_edge.ensures w.if-has_edge.false)
          c.loop-second.invariant
    ]

pub returns-clause-sound : goal.returns-clause-sound
returns-clause-sound c = c.loop-second.invariant.0

pub returns-clause-kept : goal.returns-clause-kept
returns-clause-kept c = c.loop-second.invariant.1

pub returns-clause-complete : goal.returns-clause-complete
returns-clause-complete c b l h = let t = c.loop-second-test.false in c.loop-second.invariant.2 b (omega arith) h
