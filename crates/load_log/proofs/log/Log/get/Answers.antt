use Rattle.std.proofs.Common.{◌+◌, ◌*◌, ◌<◌, length, sym, ◌∙◌, arith}
use Rattle.std.proofs.lemmas.Grind.{get_or_default_zero}
use Rattle.load_log.proofs.Columns.{length-by_iteration, get_or-by_iteration, value_within}
use Rattle.load_log.proofs.log.Log.get.Goals as goal

pub index-requires : goal.index-requires
index-requires c =
    let column : c.args.column < c.self.inside.columns = rw (← c.self.view_is) at c.requires.column in
    let there : c.args.n * c.self.inside.columns + c.args.column
    < c.self.inside.row * c.self.inside.columns + c.self.inside.at =
    rw length-by_iteration at (rw (← c.self.view_is) at c.requires.there) in
    omega (
      arith,
      value_within c.self.inside.columns c.self.inside.rows _ c.args.n c.args.column column there
          c.self.invariant.2,
    )

pub returns : goal.returns
returns c =
    let column : c.args.column < c.self.inside.columns = rw (← c.self.view_is) at c.requires.column in
    let there : c.args.n * c.self.inside.columns + c.args.column
    < c.self.inside.row * c.self.inside.columns + c.self.inside.at =
    rw length-by_iteration at (rw (← c.self.view_is) at c.requires.there) in
    let within : c.args.column * c.self.inside.rows + c.args.n < length c.self.inside.words.items =
    omega (
      arith,
      value_within c.self.inside.columns c.self.inside.rows _ c.args.n c.args.column column there
          c.self.invariant.2,
    ) in
    rw (← c.self.view_is) (record {
      value =
          c.index.ensures ∙ get_or_default_zero c.self.inside.words.items
          (c.args.column * c.self.inside.rows + c.args.n) c.index.result.now within
          ∙ sym (get_or-by_iteration _ _ _ _ c.args.n c.args.column column there);
    })
