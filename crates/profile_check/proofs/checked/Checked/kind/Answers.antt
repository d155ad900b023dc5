use Rattle.std.proofs.Common.{◌≡◌, ◌<◌, ◌∙◌, IfSome, Ok, Some, length, slice_get, subst, sym, ap, arith}
use Rattle.std.proofs.lemmas.Option.{slice_get-get_or}
use Rattle.profile_check.specs.Kinds.{kind_of}
use Rattle.profile_check.specs.Profile.{CheckedTest}
use Rattle.profile_check.specs.declared.kind.AtomKind.{AtomKind}
use Rattle.profile_check.proofs.KeptKinds.{kind_kept, length-kinds}
use Rattle.profile_check.proofs.checked.Checked.kind.Goals as goal

pub index-requires : goal.index-requires
index-requires c =
    let lt : c.args.i < length c.self.inside.test.atoms = subst (λ (v : CheckedTest). c.args.i < length v.test.atoms)
    (sym c.self.view_is) c.requires in
    omega (arith, lt, length-kinds c.self.inside.test c.self.inside.kinds.items c.self.invariant.kinds)

kept : (c : goal.After-result-1) → slice_get c.self.inside.kinds.items c.args.i ≡ Some c.index.result.now
kept c =
    let lt : c.args.i < length c.self.inside.test.atoms = subst (λ (v : CheckedTest). c.args.i < length v.test.atoms)
    (sym c.self.view_is) c.requires in
    slice_get-get_or c.self.inside.kinds.items c.args.i c.index.result.now
    (omega (arith, lt, length-kinds c.self.inside.test c.self.inside.kinds.items c.self.invariant.kinds))
    ∙ ap (λ (k : AtomKind). Some k) (sym c.index.ensures)

pub returns-clause-kept : goal.returns-clause-kept
returns-clause-kept c =
    subst (λ (v : CheckedTest). slice_get v.kinds c.args.i ≡ Some c.index.result.now) c.self.view_is (kept c)

pub returns-clause-is : goal.returns-clause-is
returns-clause-is c =
    subst (λ (v : CheckedTest). IfSome (slice_get v.test.atoms c.args.i)
    (λ atom. kind_of v.test atom ≡ Ok c.index.result.now)) c.self.view_is
    (kind_kept c.self.inside.test c.self.inside.kinds.items c.args.i c.index.result.now c.self.invariant.kinds (kept c))
