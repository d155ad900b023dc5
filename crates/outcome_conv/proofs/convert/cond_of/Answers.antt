use Rattle.std.proofs.Common.{length, ap, ◌∙◌}
use Rattle.seq_conv.specs.Numbers.{stores_at}
use Rattle.outcome_conv.specs.Holds.{location_read}
use Rattle.outcome_conv.proofs.Converting.{IsRead, StoreIn, exact_is, exact_read, fr_is, fr_read, rf_is, rf_read}
use Rattle.outcome_conv.proofs.convert.cond_of.Goals as goal
use Rattle.outcome_conv.proofs.convert.cond_of.Goals.{In-Rf, In-Exact}

-- what is read is that of a location with this store
rf : (c : In-Rf) → IsRead c.args.test.now c.args.sequences.now c.in-Rf.reader c.in-Rf.column
    × StoreIn c.args.test.now c.args.sequences.now (location_read c.args.test.now c.in-Rf.reader c.in-Rf.column)
    (record { thread = c.in-Rf.writer; place = c.in-Rf.place })
rf c =
    rf_read c.args.test.now c.args.sequences.now c.args.kind c.in-Rf.reader c.in-Rf.column c.in-Rf.writer
    c.in-Rf.place c.requires.test c.requires.sequences c.requires.kind c.in-Rf.is

pub stores-k-requires : goal.stores-k-requires
stores-k-requires c = rw (c.location_read-loc.ensures) ((rf c.before).0.within)

pub rank-a-requires-clause-thread : goal.rank-a-requires-clause-thread
rank-a-requires-clause-thread c = (rf c.before.before).1.thread

pub rank-a-requires-clause-place : goal.rank-a-requires-clause-place
rank-a-requires-clause-place c = (rf c.before.before).1.place

pub returns-in-Rf : goal.returns-in-Rf
returns-in-Rf c =
    let f = rf c.before.before.before.before in
    c.condition.ensures
    ∙ rf_is c.args.test.now c.args.kind c.in-Rf.reader c.in-Rf.column c.in-Rf.writer c.in-Rf.place _ _ _ c.in-Rf.is
    c.location_read-loc.ensures
    (c.stores-k.ensures ∙ ap (λ x. length (stores_at c.args.sequences.now x)) c.location_read-loc.ensures ∙ f.0.count)
    (c.rank-a.ensures ∙ f.1.rank)

pub stores-k-requires-in-Fr : goal.stores-k-requires-in-Fr
stores-k-requires-in-Fr c =
    let f =
    fr_read c.args.test.now c.args.sequences.now c.args.kind c.in-Fr.reader c.in-Fr.column c.in-Fr.writer
    c.requires.test c.requires.sequences c.requires.kind c.in-Fr.is in
    rw (c.location_read-loc-in-Fr.ensures) (f.within)

pub returns-in-Fr : goal.returns-in-Fr
returns-in-Fr c =
    let f = fr_read c.args.test.now c.args.sequences.now c.args.kind c.in-Fr.reader c.in-Fr.column c.in-Fr.writer
    c.requires.test c.requires.sequences c.requires.kind c.in-Fr.is in
    c.condition-in-Fr.ensures
    ∙ fr_is c.args.test.now c.args.kind c.in-Fr.reader c.in-Fr.column c.in-Fr.writer _ _ c.in-Fr.is
    c.location_read-loc-in-Fr.ensures
    (c.stores-k-in-Fr.ensures ∙ ap (λ x. length (stores_at c.args.sequences.now x)) c.location_read-loc-in-Fr.ensures
    ∙ f.count)

-- what is read is that of a location with this store
exact : (c : In-Exact) → IsRead c.args.test.now c.args.sequences.now c.in-Exact.reader c.in-Exact.column
    × StoreIn c.args.test.now c.args.sequences.now (location_read c.args.test.now c.in-Exact.reader c.in-Exact.column)
    (record { thread = c.in-Exact.writer; place = c.in-Exact.place })
exact c =
    exact_read c.args.test.now c.args.sequences.now c.args.kind c.in-Exact.reader c.in-Exact.column c.in-Exact.writer
    c.in-Exact.place c.requires.test c.requires.sequences c.requires.kind c.in-Exact.is

pub stores-k-requires-in-Exact : goal.stores-k-requires-in-Exact
stores-k-requires-in-Exact c = rw (c.location_read-loc-in-Exact.ensures) ((exact c.before).0.within)

pub rank-a-requires-in-Exact-clause-thread : goal.rank-a-requires-in-Exact-clause-thread
rank-a-requires-in-Exact-clause-thread c = (exact c.before.before).1.thread

pub rank-a-requires-in-Exact-clause-place : goal.rank-a-requires-in-Exact-clause-place
rank-a-requires-in-Exact-clause-place c = (exact c.before.before).1.place

pub returns-in-Exact : goal.returns-in-Exact
returns-in-Exact c =
    let f = exact c.before.before.before.before in
    c.condition-in-Exact.ensures
    ∙ exact_is c.args.test.now c.args.kind c.in-Exact.reader c.in-Exact.column c.in-Exact.writer c.in-Exact.place _ _ _
    c.in-Exact.is c.location_read-loc-in-Exact.ensures
    (c.stores-k-in-Exact.ensures ∙ ap (λ x. length (stores_at c.args.sequences.now x))
    c.location_read-loc-in-Exact.ensures ∙ f.0.count)
    (c.rank-a-in-Exact.ensures ∙ f.1.rank)
