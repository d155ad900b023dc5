use Rattle.std.proofs.Common.{◌≡◌, ◌<◌, Vec, Global, IfSome, length, refl, sym, ap, subst, ◌∙◌, arith, eq-eqb, Some}
use Rattle.x86_subset.specs.Instr.{location_of}
use Rattle.seq_conv.specs.Sequence.{Site, rank_of, store_count, stores_of}
use Rattle.seq_conv.specs.Numbers.{action_number}
use Rattle.seq_conv.proofs.Numbering.{length_of_numbers, list_at_number, number_is, number_small, small_as}
use Rattle.seq_conv.proofs.sequences.action_number.Goals as goal

pub bounds-stores-loc : goal.bounds-stores-loc
bounds-stores-loc c =
    let lt : c.in-Store.loc < length c.args.test.now.locations = subst (λ a. IfSome (location_of a)
    (λ x. x < length c.args.test.now.locations)) c.in-Store.is c.requires.located in
    omega (
      arith,
      length_of_numbers (λ (v : Vec Site Global). v.items) c.args.stores.now (stores_of c.args.test.now)
          (length c.args.test.now.locations) c.requires.stores,
    )

pub bounds-stores-loc-in-Exchange : goal.bounds-stores-loc-in-Exchange
bounds-stores-loc-in-Exchange c =
    let lt : c.in-Exchange.loc < length c.args.test.now.locations = subst (λ a. IfSome (location_of a)
    (λ x. x < length c.args.test.now.locations)) c.in-Exchange.is c.requires.located in
    omega (
      arith,
      length_of_numbers (λ (v : Vec Site Global). v.items) c.args.stores.now (stores_of c.args.test.now)
          (length c.args.test.now.locations) c.requires.stores,
    )

store_is : (c : goal.After-number_among) → c.number_among.result ≡ record {
  k = store_count c.args.test.now c.in-Store.loc;
  a = rank_of c.args.test.now c.in-Store.loc c.args.site;
}
store_is c =
    let lt : c.in-Store.loc < length c.args.test.now.locations = subst (λ a. IfSome (location_of a)
    (λ x. x < length c.args.test.now.locations)) c.in-Store.is c.requires.located in
    let here = list_at_number (λ (v : Vec Site Global). v.items) c.args.stores.now (stores_of c.args.test.now)
    (length c.args.test.now.locations) c.in-Store.loc
    c.index-stores-loc.result c.requires.stores lt (sym c.index-stores-loc.is) in
    number_is c.args.test.now c.args.site c.in-Store.loc c.number_among.result c.deref.result.now
    (c.deref.ensures.value ∙ here) c.number_among.ensures.k c.number_among.ensures.a

exchange_is : (c : goal.After-number_among-in-Exchange) → c.number_among-in-Exchange.result ≡ record {
  k = store_count c.args.test.now c.in-Exchange.loc;
  a = rank_of c.args.test.now c.in-Exchange.loc c.args.site;
}
exchange_is c =
    let lt : c.in-Exchange.loc < length c.args.test.now.locations = subst (λ a. IfSome (location_of a)
    (λ x. x < length c.args.test.now.locations)) c.in-Exchange.is c.requires.located in
    let here = list_at_number (λ (v : Vec Site Global). v.items) c.args.stores.now (stores_of c.args.test.now)
    (length c.args.test.now.locations) c.in-Exchange.loc
    c.index-stores-loc-in-Exchange.result c.requires.stores lt (sym c.index-stores-loc-in-Exchange.is) in
    number_is c.args.test.now c.args.site c.in-Exchange.loc c.number_among-in-Exchange.result
    c.deref-in-Exchange.result.now (c.deref-in-Exchange.ensures.value ∙ here)
    c.number_among-in-Exchange.ensures.k c.number_among-in-Exchange.ensures.a

pub returns-in-Store-clause-is : goal.returns-in-Store-clause-is
returns-in-Store-clause-is c = store_is c ∙ sym (ap (action_number c.args.test.now c.args.site) c.in-Store.is)

pub returns-in-Exchange-clause-is : goal.returns-in-Exchange-clause-is
returns-in-Exchange-clause-is c = exchange_is c ∙ sym (ap (action_number c.args.test.now c.args.site) c.in-Exchange.is)

pub returns-in-Store-clause-small : goal.returns-in-Store-clause-small
returns-in-Store-clause-small c =
    small_as c.number_among.result _ (store_is c)
    (number_small c.args.test.now c.args.site c.in-Store.loc _ c.requires.test (c.requires.site ∙ ap Some c.in-Store.is)
    (eq-eqb c.in-Store.loc c.in-Store.loc refl))

pub returns-in-Exchange-clause-small : goal.returns-in-Exchange-clause-small
returns-in-Exchange-clause-small c =
    small_as c.number_among-in-Exchange.result _ (exchange_is c)
    (number_small c.args.test.now c.args.site c.in-Exchange.loc _ c.requires.test
    (c.requires.site ∙ ap Some c.in-Exchange.is) (eq-eqb c.in-Exchange.loc c.in-Exchange.loc refl))
