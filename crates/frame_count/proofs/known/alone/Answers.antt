use Rattle.std.proofs.Common.{◌≡◌, ℕ, ◌-◌, ◌==◌, Option, None, Some, List, [], ◌∷◌, false, filter, length, take, sym, ap, ◌∙◌}
use Rattle.std.proofs.lemmas.List.{take_all}
use Rattle.std.specs.Option.{IfSome, MatchOption}
use Rattle.load_log.specs.Values.{Values}
use Rattle.outcome_conv.specs.declared.cond.Cond.{Cond}
use Rattle.frame_count.specs.Count.{IsGood}
use Rattle.frame_count.specs.Known.{IsAlone}
use Rattle.frame_count.proofs.known.alone.Goals as goal

found_alone : (logs : List Values) (part conds : List Cond) (t u : ℕ) (found : Option Cond) → part ≡ conds → t ≡ u
    → MatchOption found (filter (λ (c : Cond). c.reader == t) part ≡ [])
    (λ x. (filter (λ (c : Cond). c.reader == t) part ≡ x ∷ []) × ((x.writer == t) ≡ false) × IsGood logs x)
    → IfSome found (λ x. IsAlone conds u x × IsGood logs x)
found_alone logs part conds t u None e f h = tt
found_alone logs part conds t u (Some x) e f h = (
  record {
    only =
        ap (λ k. filter (λ (c : Cond). c.reader == k) conds) (sym f) ∙ ap (filter (λ (c : Cond). c.reader == t)) (sym e)
        ∙ h.0;
    writer = ap (λ k. x.writer == k) (sym f) ∙ h.1;
  },
  h.2,
)

pub returns : goal.returns
returns c =
    let conds = c.args.conds.now in
    found_alone c.args.logs.now.logs (take c.loop-cond.cond-index conds) conds (c.len-last.result - 1)
    (length c.args.logs.now.logs - 1) c.loop-cond.found
    (take_all c.loop-cond.cond-index conds c.loop-cond-test.false)
    (ap (λ k. k - 1) c.len-last.ensures) c.loop-cond.invariant
