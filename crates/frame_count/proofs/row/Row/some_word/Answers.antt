use Rattle.std.proofs.Common.{ℕ, ◌+◌, ◌||◌, false, ◌∷◌, bit_or, ap, sym, ◌∙◌, arith}
use Rattle.std.specs.List.{list_all, list_any}
use Rattle.load_log.specs.Values.{value_at}
use Rattle.outcome_conv.specs.Conds.{cond_holds}
use Rattle.frame_count.specs.Count.{with_last}
use Rattle.frame_count.specs.Row.{mask_along}
use Rattle.frame_count.proofs.Along.{along_false, along_or}
use Rattle.frame_count.proofs.Conjoining.{rest_first, rest_next, rest_of}
use Rattle.frame_count.proofs.ByKind.{some_more}
use Rattle.frame_count.proofs.row.Row.some_word.Goals as goal

pub loop-c-init : goal.loop-c-init
loop-c-init c =
    let row = c.args.self.now in (
      λ m. false,
      sym (along_false c.args.at 64),
      λ m. ap (list_any (list_all (cond_holds (value_at row.logs.now.logs) (with_last row.frame.now m))))
          (rest_first row.conds.now.ends row.conds.now.conds),
    )

pub loop-c-preserved : goal.loop-c-preserved
loop-c-preserved c =
    let q = c.loop-c.invariant.0 in
    let row = c.args.self.now in
    let ends = row.conds.now.ends in
    let conds = row.conds.now.conds in
    let holds = λ (m : ℕ). list_all (cond_holds (value_at row.logs.now.logs) (with_last row.frame.now m)) in
    let i = c.loop-c.c in
    let group = c.group-conds.result.now in
    let rest =
    rest_next ends conds i (omega arith)
    ∙ ap (λ g. g ∷ rest_of ends conds (i + 1)) (sym c.group-conds.ensures.value) in (
      λ m. q m || holds m group,
      ap (λ w. bit_or w c.all_word-word.result) c.loop-c.invariant.1
          ∙ ap (bit_or (mask_along q c.args.at 64)) c.all_word-word.ensures ∙ along_or q _ c.args.at 64,
      λ m. some_more (holds m) group (rest_of ends conds (i + 1)) (rest_of ends conds i) (q m) _ rest
          (c.loop-c.invariant.2 m),
    )
