use Rattle.std.proofs.Common.{◌≡◌, ◌+◌, ◌-◌, ◌++◌, All, List, None, Some, find, length, subst, sym, ap, ◌∙◌, arith}
use Rattle.std.proofs.lemmas.List.Elements.{All-push, recursion_from_All}
use Rattle.outcome_conv.specs.declared.cond.Cond.{Cond}
use Rattle.outcome_conv.specs.Conditions.{IsKind}
use Rattle.outcome_conv.specs.Plans.{is_open, order_of}
use Rattle.heuristic.specs.Plan.{has_iteration}
use Rattle.heuristic.proofs.Ordered.{found, order_ends, order_goes_on, order_starts}
use Rattle.heuristic.proofs.plan.order_from.Goals as goal

pub loop-init : goal.loop-init
loop-init c =
    let conds = c.args.conds.now in
    record {
      rest = ap (λ l. l ++ order_of (length conds - 0) conds (has_iteration c.args.base l)) c.new-order.ensures.items
          ∙ order_starts conds c.args.base;
      kinds = λ k d lt. absurd (let e = c.new-order.ensures.len in omega arith);
    }

pub returns-in-None-clause-order : goal.returns-in-None-clause-order
returns-in-None-clause-order c =
    let conds = c.args.conds.now in
    let base = c.args.base in
    let order = c.loop.order.items in
    let none : find (is_open (has_iteration base order)) conds ≡ None =
    sym (ap (λ l. find (is_open (has_iteration base l)) conds) c.deref.ensures.value)
    ∙ sym c.first_open.ensures ∙ c.in-None.is in
    order_ends (length conds - c.loop.counter) conds (has_iteration base order) order _ none c.loop.invariant.rest

pub loop-preserved : goal.loop-preserved
loop-preserved c =
    let conds = c.args.conds.now in
    let base = c.args.base in
    let order = c.loop.order.items in
    let next = c.in-Some.cond in
    let pushed = c.in_ok-push-in-Some.ensures.items in
    let open_now : find (is_open (has_iteration base order)) conds ≡ Some next =
    sym (ap (λ l. find (is_open (has_iteration base l)) conds) c.deref.ensures.value)
    ∙ sym c.first_open.ensures ∙ c.in-Some.is in
    let Kinds : Cond → Type 0 = λ d. IsKind d.kind in
    let kind = found (is_open (has_iteration base order)) Kinds conds next
    (recursion_from_All Kinds conds c.requires) open_now in
    let AreKinds : List Cond → Type 0 = All Kinds in
    record {
      rest = ap (λ l. l ++ order_of (length conds - (c.loop.counter + 1)) conds (has_iteration base l)) pushed
          ∙ order_goes_on (length conds) c.loop.counter conds base order _ next c.loop-test.true open_now
          c.loop.invariant.rest;
      kinds = subst AreKinds (sym pushed) (All-push Kinds order next c.loop.invariant.kinds kind.1);
    }
