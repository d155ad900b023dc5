use Rattle.std.proofs.Common.{◌≡◌, ◌≤◌, ◌∙◌, ◌+◌, ◌++◌, ℕ, List, Vec, Global, ap, length, map, sym, subst, get_or, take}
use Rattle.std.proofs.lemmas.List.{take_all}
use Rattle.seq_conv.specs.Sequence.{Site, stores_of}
use Rattle.choice_search.specs.declared.graph.Choice.{Choice}
use Rattle.verdict.specs.Edges.{node}
use Rattle.once.specs.Edges.{choices_by}
use Rattle.row_decision.specs.Seen.{choice_seen, seen}
use Rattle.row_decision.proofs.Adding.{choice_is, site_small, third_more, third_same, third_sites}
use Rattle.row_decision.proofs.Numbers.{location_below}
use Rattle.row_decision.proofs.graph.add_choices.Goals as goal
use Rattle.row_decision.proofs.graph.add_choices.Goals.{then-is_third+in_ok-push, else-is_third}

abbrev none : Site
none = record { thread = 0; place = 0 }

pub number_of-requires-then-is_third-2-clause-thread : goal.number_of-requires-then-is_third-2-clause-thread
number_of-requires-then-is_third-2-clause-thread c =
    let x = c.args.reading.location in
    let e = c.sites-site-items.ensures
    ∙ c.requires.same.stores x (location_below c.args.test.now x c.args.reading.reader c.threads-threads.ensures.test
    c.requires.reading.0) in
    (site_small c.args.test.now x c.loop-site.site-index none c.sites-site-items.result.now
    c.threads-threads.ensures.test e c.loop-site-test.true).thread

pub number_of-requires-then-is_third-2-clause-place : goal.number_of-requires-then-is_third-2-clause-place
number_of-requires-then-is_third-2-clause-place c =
    let x = c.args.reading.location in
    let e = c.sites-site-items.ensures
    ∙ c.requires.same.stores x (location_below c.args.test.now x c.args.reading.reader c.threads-threads.ensures.test
    c.requires.reading.0) in
    (site_small c.args.test.now x c.loop-site.site-index none c.sites-site-items.result.now
    c.threads-threads.ensures.test e c.loop-site-test.true).place

pub loop-site-preserved : goal.loop-site-preserved
loop-site-preserved c =
    let x : ℕ = c.args.reading.location in
    let test = c.args.test.now in
    let sites : List Site = c.sites-site-items.result.now in
    let reader = c.args.reading.reader in
    let source = c.in-Some.source in
    let i : ℕ = c.loop-site.site-index in
    let old = map choice_seen c.args.choices.now.items in
    let items : List Choice = c.loop-site.choices.items in
    let after : List Choice = c.if-is_third.choices.items in
    let e : sites ≡ stores_of test x = c.sites-site-items.ensures ∙ c.requires.same.stores x
    (location_below test x reader c.threads-threads.ensures.test c.requires.reading.0) in
    let kept = c.loop-site.invariant ∙ ap (λ z. old ++ third_sites reader source (take i z)) (sym e) in
    let back = ap (λ z. old ++ third_sites reader source (take (i + 1) z)) e in
    elim c.if-is_third.branch [
      | then-is_third+in_ok-push w ↦
          ap (λ (z : Vec Choice Global). map choice_seen z.items) w.choices-is
          ∙ ap (map choice_seen) w.in_ok-push.ensures.items
          ∙ third_more reader source sites i none old items (record {
            reader = w.number_of.result;
            source = w.number_of-then-is_third.result;
            other = w.number_of-then-is_third-2.result;
          }) c.loop-site-test.true (sym c.is_third.ensures ∙ w.if-is_third.true)
          (choice_is reader source (node (get_or sites i none)) w.number_of.result w.number_of-then-is_third.result
          w.number_of-then-is_third-2.result w.number_of.ensures.back w.number_of-then-is_third.ensures.back
          w.number_of-then-is_third-2.ensures.back) kept
          ∙ back
      | else-is_third w ↦
          ap (λ (z : Vec Choice Global). map choice_seen z.items) w.choices-is
          ∙ third_same reader source sites i none old items c.loop-site-test.true
          (sym c.is_third.ensures ∙ w.if-is_third.false) kept
          ∙ back
    ]

pub returns : goal.returns
returns c =
    let x : ℕ = c.args.reading.location in
    let test = c.args.test.now in
    let reader = c.args.reading.reader in
    let sites : List Site = c.sites-site-items.result.now in
    let e : sites ≡ stores_of test x = c.sites-site-items.ensures ∙ c.requires.same.stores x
    (location_below test x reader c.threads-threads.ensures.test c.requires.reading.0) in
    let i : ℕ = c.loop-site.site-index in
    let old = map choice_seen c.args.choices.now.items in
    let P : List Site → Type 0 = λ z. length z ≤ i in
    let all = take_all i (stores_of test x) (subst P e c.loop-site-test.false) in
    c.loop-site.invariant ∙ ap (λ z. old ++ third_sites reader c.in-Some.source z) all
    ∙ ap (λ o. old ++ choices_by test (seen c.args.reading) o) (sym c.in-Some.is)
