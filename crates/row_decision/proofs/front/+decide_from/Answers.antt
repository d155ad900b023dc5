use Rattle.std.proofs.Common.{◌≡◌, ◌<◌, ◌∙◌, ℕ, List, None, Option, ap, arith, drop, get_or, length, map, subst, sym}
use Rattle.std.proofs.lemmas.List.{take_all}
use Rattle.std.specs.List.{AllByRecursion as Each}
use Rattle.verdict.specs.declared.node.Node.{Node}
use Rattle.outcome_rows.specs.Rows.{HoldReads, location_of_read}
use Rattle.seq_conv.specs.Sequence.{site_location}
use Rattle.verdict.specs.Edges.{site}
use Rattle.row_decision.specs.Seen.{seen}
use Rattle.row_decision.specs.Fronts.{register_seen}
use Rattle.row_decision.specs.declared.front.Register.{Register}
use Rattle.row_decision.proofs.Fronted.{NoneFrom, chosen_are, chosen_is, chosen_with, each_more, first_register, front_same, front_up, holds_first, holds_rest, impossible_none, more_is, no_length, none_all, none_values, register_below, rest_fewer, rest_is, some_length, sources_are}
use Rattle.row_decision.proofs.front.+decide_from.Goals as goal

pub returns-then-is_empty-2-clause-front : goal.returns-then-is_empty-2-clause-front
returns-then-is_empty-2-clause-front t c =
    none_values c.args.test.now c.args.registers.now c.args.values.now (map seen c.args.readings.now)
    (some_length (length c.args.registers.now) c.is_empty.result c.is_empty.ensures c.if-is_empty.false)
    (no_length (length c.args.values.now) c.is_empty-2.result c.is_empty-2.ensures c.if-is_empty-2.true)

pub sources_of-requires-clause-location : goal.sources_of-requires-clause-location
sources_of-requires-clause-location t c =
    let test = c.args.test.now in
    let register = first_register c.args.registers.now in
    let lr = some_length (length c.args.registers.now) c.is_empty.result c.is_empty.ensures c.if-is_empty.false in
    let e : c.location-location.result ≡ location_of_read test register = c.location-location.ensures
    ∙ ap (λ z. site_location test (site z)) c.read_of-reader.ensures in
    let P : ℕ → Type 0 = λ z. z < length test.locations in
    subst P (sym e) (register_below test register c.threads-threads.ensures.test
    (holds_first test c.args.registers.now lr c.requires.registers))

pub loop-source-init : goal.loop-source-init
loop-source-init t c = (c.requires.steps, tt)

pub decide_from-requires : goal.decide_from-requires
decide_from-requires t c =
    let test = c.args.test.now in
    let registers : List Register = c.args.registers.now in
    let values : List ℕ = c.args.values.now in
    let i : ℕ = c.loop-source.source-index in
    let sources : List (Option Node) = c.deref-source-items.result.now in
    let lr = some_length (length registers) c.is_empty.result c.is_empty.ensures c.if-is_empty.false in
    let src = sources_are test registers values c.read_of-reader.result c.location-location.result sources
    c.in_ok-sources.sources.items c.read_of-reader.ensures c.location-location.ensures
    c.deref-source-items.ensures.value c.in_ok-sources.ensures in
    let m = more_is c.args.readings.now c.in_ok-more.more.items c.push.new.self.items c.deref.result.now (record {
      reader = c.read_of-reader.result;
      location = c.location-location.result;
      source = get_or sources i None;
    }) c.deref.ensures.value c.in_ok-push.ensures.items c.in_ok-more.ensures.items in
    let chosen = chosen_is test registers c.args.readings.now c.deref.result.now c.read_of-reader.result
    c.location-location.result (get_or sources i None) m c.read_of-reader.ensures c.location-location.ensures in
    let H : List Register → Type 0 = λ z. HoldReads test (map register_seen z) in
    let fewer = rest_fewer registers lr in
    let d = c.decreases in (
      omega arith,
      (
        c.requires.same,
        (
          subst H (sym (rest_is registers)) (holds_rest test registers lr c.requires.registers),
          (
            chosen_are test registers values c.args.readings.now (map seen c.deref.result.now) sources i
                c.threads-threads.ensures.test lr c.requires.registers c.requires.readings src c.loop-source-test.true
                chosen,
            c.loop-source.invariant.0,
          ),
        ),
      ),
    )

pub returns-then-not-is_impossible-clause-front : goal.returns-then-not-is_impossible-clause-front
returns-then-not-is_impossible-clause-front t c =
    let test = c.args.test.now in
    let registers : List Register = c.args.registers.now in
    let values : List ℕ = c.args.values.now in
    let i : ℕ = c.loop-source.source-index in
    let sources : List (Option Node) = c.deref-source-items.result.now in
    let lr = some_length (length registers) c.is_empty.result c.is_empty.ensures c.if-is_empty.false in
    let lv = some_length (length values) c.is_empty-2.result c.is_empty-2.ensures c.if-is_empty-2.false in
    let src = sources_are test registers values c.read_of-reader.result c.location-location.result sources
    c.in_ok-sources.sources.items c.read_of-reader.ensures c.location-location.ensures
    c.deref-source-items.ensures.value c.in_ok-sources.ensures in
    let m = more_is c.args.readings.now c.in_ok-more.more.items c.push.new.self.items c.deref.result.now (record {
      reader = c.read_of-reader.result;
      location = c.location-location.result;
      source = get_or sources i None;
    }) c.deref.ensures.value c.in_ok-push.ensures.items c.in_ok-more.ensures.items in
    let chosen = chosen_is test registers c.args.readings.now c.deref.result.now c.read_of-reader.result
    c.location-location.result (get_or sources i None) m c.read_of-reader.ensures c.location-location.ensures in
    front_up test registers values (map seen c.args.readings.now) sources i c.args.most c.decide_from.new.steps
    c.in_ok-front.front lr lv src c.loop-source-test.true (c.is_impossible.ensures.no c.if-not-is_impossible.true)
    (front_same test registers values (map seen c.deref.result.now)
    (chosen_with test registers (map seen c.args.readings.now) (get_or sources i None)) c.args.most
    c.decide_from.new.steps c.in_ok-front.front chosen c.in_ok-front.ensures.front)

pub loop-source-preserved : goal.loop-source-preserved
loop-source-preserved t c =
    let test = c.args.test.now in
    let registers : List Register = c.args.registers.now in
    let values : List ℕ = c.args.values.now in
    let i : ℕ = c.loop-source.source-index in
    let sources : List (Option Node) = c.deref-source-items.result.now in
    let m = more_is c.args.readings.now c.in_ok-more.more.items c.push.new.self.items c.deref.result.now (record {
      reader = c.read_of-reader.result;
      location = c.location-location.result;
      source = get_or sources i None;
    }) c.deref.ensures.value c.in_ok-push.ensures.items c.in_ok-more.ensures.items in
    let chosen = chosen_is test registers c.args.readings.now c.deref.result.now c.read_of-reader.result
    c.location-location.result (get_or sources i None) m c.read_of-reader.ensures c.location-location.ensures in
    let N : Option Node → Type 0 = λ o. NoneFrom test (map register_seen (drop 1 registers)) (drop 1 values)
    (chosen_with test registers (map seen c.args.readings.now) o) in (
      c.in_ok-front.ensures.steps,
      each_more N sources i None c.loop-source-test.true c.loop-source.invariant.1
          (impossible_none test (map register_seen (drop 1 registers)) (drop 1 values)
          (chosen_with test registers (map seen c.args.readings.now) (get_or sources i None)) c.args.most
          c.decide_from.new.steps c.in_ok-front.front (c.is_impossible.ensures.yes c.if-not-is_impossible.false)
          (front_same test registers values (map seen c.deref.result.now)
          (chosen_with test registers (map seen c.args.readings.now) (get_or sources i None)) c.args.most
          c.decide_from.new.steps c.in_ok-front.front chosen c.in_ok-front.ensures.front)),
    )

pub returns-clause-steps : goal.returns-clause-steps
returns-clause-steps t c = c.loop-source.invariant.0

pub returns-clause-front : goal.returns-clause-front
returns-clause-front t c =
    let test = c.args.test.now in
    let registers : List Register = c.args.registers.now in
    let values : List ℕ = c.args.values.now in
    let i : ℕ = c.loop-source.source-index in
    let sources : List (Option Node) = c.deref-source-items.result.now in
    let lr = some_length (length registers) c.is_empty.result c.is_empty.ensures c.if-is_empty.false in
    let lv = some_length (length values) c.is_empty-2.result c.is_empty-2.ensures c.if-is_empty-2.false in
    let src = sources_are test registers values c.read_of-reader.result c.location-location.result sources
    c.in_ok-sources.sources.items c.read_of-reader.ensures c.location-location.ensures
    c.deref-source-items.ensures.value c.in_ok-sources.ensures in
    let N : Option Node → Type 0 = λ o. NoneFrom test (map register_seen (drop 1 registers)) (drop 1 values)
    (chosen_with test registers (map seen c.args.readings.now) o) in
    let P : List (Option Node) → Type 0 = λ z. Each N z in
    none_all test registers values (map seen c.args.readings.now) sources lr lv src
    (subst P (take_all i sources c.loop-source-test.false) c.loop-source.invariant.1)
