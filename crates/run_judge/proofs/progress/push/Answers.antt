use Rattle.std.proofs.Common.{[], ◌∷◌, length, refl, ap, ◌∙◌, arith, length-append}
use Rattle.run_judge.proofs.Kept.{how_many_within, kept_push}
use Rattle.run_judge.proofs.progress.push.Goals as goal

pub overflow_add-count : goal.overflow_add-count
overflow_add-count c =
    let own = c.args.own.now in
    let x = c.args.entry.loc in
    let small = c.push_back.new.self.small in
    let long = (c.push_back.new.self.ok).0 in
    let items = ap length c.in_ok-push_back.ensures.items ∙ length-append own.buffer.items (c.args.entry ∷ []) in
    let few = how_many_within x own.buffer.items in
    let count = (c.requires.kept.each x (record { count = 0; newest = 0 }) c.requires.location).count in
    omega arith

pub returns-clause-kept : goal.returns-clause-kept
returns-clause-kept c =
    kept_push c.args.own.now _ c.args.entry _ c.requires.kept c.requires.location c.in_ok-push_back.ensures.items refl
