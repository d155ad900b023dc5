use Rattle.std.proofs.Common.{◌≡◌, ◌≤◌, ◌∙◌, ◌+◌, ◌++◌, ℕ, List, Option, Some, Vec, Global, ap, eq-eqb, filter, get_or, length, map, ne_eqb, subst, sym, take, true, false}
use Rattle.std.proofs.lemmas.List.{take_all}
use Rattle.seq_conv.specs.Sequence.{Site, stores_of}
use Rattle.verdict.specs.declared.node.Node.{Node}
use Rattle.verdict.specs.Edges.{node}
use Rattle.outcome_rows.specs.Rows.{text_value}
use Rattle.row_decision.specs.Fronts.{initial_source, store_source, writes_value}
use Rattle.row_decision.proofs.Fronted.{sources_more}
use Rattle.row_decision.proofs.front.sources_of.Goals as goal
use Rattle.row_decision.proofs.front.sources_of.Goals.{then-value_of-value+in_ok-push, else-value_of-value}

abbrev none : Site
none = record { thread = 0; place = 0 }

pub loop-site-preserved : goal.loop-site-preserved
loop-site-preserved c =
    let test = c.args.test.now in
    let x : ℕ = c.args.location in
    let v : ℕ = c.args.value in
    let sites : List Site = c.sites-site-items.result.now in
    let i : ℕ = c.loop-site.site-index in
    let s : Site = get_or sites i none in
    let old = initial_source v in
    let before : List (Option Node) = c.loop-site.sources.items in
    let after : List (Option Node) = c.if-value_of-value.sources.items in
    let e : sites ≡ stores_of test x = c.sites-site-items.ensures ∙ c.requires.same.stores x c.requires.location in
    let kept = c.loop-site.invariant
    ∙ ap (λ z. old ++ map store_source (filter (writes_value test v) (take i z))) (sym e) in
    let back = ap (λ z. old ++ map store_source (filter (writes_value test v) (take (i + 1) z))) e in
    elim c.if-value_of-value.branch [
      | then-value_of-value+in_ok-push w ↦
          sources_more test v sites i none old before after true c.loop-site-test.true kept
          (eq-eqb (text_value test (Some (node s))) v (sym c.value_of.ensures ∙ w.if-value_of-value.true))
          (ap (λ (z : Vec (Option Node) Global). z.items) w.sources-is ∙ w.in_ok-push.ensures.items) ∙ back
      | else-value_of-value w ↦
          sources_more test v sites i none old before after false c.loop-site-test.true kept
          (ne_eqb (text_value test (Some (node s))) v (λ k. w.if-value_of-value.false (c.value_of.ensures ∙ k)))
          (ap (λ (z : Vec (Option Node) Global). z.items) w.sources-is) ∙ back
    ]

pub returns : goal.returns
returns c =
    let test = c.args.test.now in
    let x : ℕ = c.args.location in
    let v : ℕ = c.args.value in
    let sites : List Site = c.sites-site-items.result.now in
    let i : ℕ = c.loop-site.site-index in
    let e : sites ≡ stores_of test x = c.sites-site-items.ensures ∙ c.requires.same.stores x c.requires.location in
    let P : List Site → Type 0 = λ z. length z ≤ i in
    c.loop-site.invariant ∙ ap (λ z. initial_source v ++ map store_source (filter (writes_value test v) z))
    (take_all i (stores_of test x) (subst P e c.loop-site-test.false))
