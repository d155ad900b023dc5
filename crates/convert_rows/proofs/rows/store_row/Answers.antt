use Rattle.std.proofs.Common.{◌≡◌, ◌∙◌, length, ap}
use Rattle.seq_conv.specs.Sequence.{rank_of, store_count}
use Rattle.convert_rows.specs.Rows.{name_of}
use Rattle.convert_rows.proofs.Walks.{written_store}
use Rattle.convert_rows.proofs.rows.store_row.Goals as goal

pub returns : goal.returns
returns c =
    let name : c.in_ok-name_of.field-0 ≡ name_of c.args.test.now c.args.loc = c.in_ok-name_of.ensures in
    let k : c.stores.result ≡ store_count c.args.test.now c.args.loc = c.stores.ensures
    ∙ ap length (c.requires.sequences.stores c.args.loc c.requires.located) in
    let a : c.rank.result ≡ rank_of c.args.test.now c.args.loc c.args.site =
    c.rank.ensures ∙ c.requires.sequences.ranks c.args.site.thread c.args.site.place c.args.loc c.args.action
    c.requires.site (written_store c.args.action c.args.loc c.requires.writes) in
    λ i. record { thread = c.args.site.thread; place = c.args.site.place; loc = name i; k = k i; a = a i }
