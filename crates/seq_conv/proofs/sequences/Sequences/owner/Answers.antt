use Rattle.std.proofs.Common.{◌≡◌, ◌<◌, ◌∙◌, Vec, Global, List, length, subst, sym, ap}
use Rattle.seq_conv.specs.Sequence.{Site}
use Rattle.seq_conv.specs.Numbers.{Table, owner_among, stores_at}
use Rattle.seq_conv.proofs.Numbering.{list_here, owner_in_table}
use Rattle.seq_conv.proofs.sequences.Sequences.owner.Goals as goal

found : (c : goal.After-owner_among) → c.owner_among.result
    ≡ owner_among (stores_at c.args.self.now c.args.loc) c.args.value
found c =
    let lt = subst (λ (t : Table). c.args.loc < length t.stores) (sym c.self.view_is) c.requires in
    c.owner_among.ensures
    ∙ ap (λ (ss : List Site). owner_among ss c.args.value)
    (c.deref.ensures.value ∙ list_here (λ (v : Vec Site Global). v.items) c.self.inside.stores.items c.args.loc
    c.index.result.now lt c.index.ensures)
    ∙ ap (λ (t : Table). owner_among (stores_at t c.args.loc) c.args.value) c.self.view_is

pub returns-clause-owner : goal.returns-clause-owner
returns-clause-owner c = λ test h. owner_in_table test c.args.self.now c.args.loc c.args.value _ c.requires (found c) h
