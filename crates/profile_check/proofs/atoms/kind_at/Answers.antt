use Rattle.std.proofs.Common.{◌<◌, ◌∙◌, All, length, subst, sym}
use Rattle.seq_conv.specs.declared.site.Site.{Site}
use Rattle.profile_check.proofs.Reading.{in_threads}
use Rattle.profile_check.proofs.atoms.kind_at.Goals as goal

pub kind_of_value-requires : goal.kind_of_value-requires
kind_of_value-requires c =
    let loc = c.reader_of-column.result.1 in
    subst (All (λ (s : Site). s.thread < length c.args.test.now.bodies))
    (sym (c.sites-stores.ensures ∙ c.requires.sequences.stores loc c.reader_of-column.ensures.within))
    (in_threads c.args.test.now loc)

pub stores_named-requires : goal.stores_named-requires
stores_named-requires c =
    let loc = c.reader_of-column.result.1 in
    subst (All (λ (s : Site). s.thread < length c.args.test.now.bodies))
    (sym (c.sites-stores.ensures ∙ c.requires.sequences.stores loc c.reader_of-column.ensures.within))
    (in_threads c.args.test.now loc)
