-- The text of a verdict is right.
use Rattle.std.proofs.Common.{◌≡◌, ℕ, List, Result, Ok, Err, String, string_bytes, Global, IfOk, length, map}
use Rattle.perp_base.specs.declared.failure.NoMemory.{NoMemory}
use Rattle.profile_check.specs.Profile.{CheckedTest, IsChecked}
use Rattle.verdict.specs.Verdicts.{IsVerdict}
use Rattle.verdict.specs.declared.node.Node.{Node}
use Rattle.verdict.specs.declared.answer.Verdict.{Verdict}
use Rattle.verdict.specs.declared.answer.Verdict.TheVariants.{Forbidden, Open}
use Rattle.verdict.proofs.Forward.{cycle_at}
use Rattle.tool_core.proofs.Ruling.{ruled_by_cycles}
use Rattle.tool_core.specs.Texts.{IsVerdictOn, IsVerdictText, verdict_text_of}
use Rattle.tool_core.specs.Texts.IsVerdictOn.{forbidden, opened}

verdict_on : (checked : CheckedTest) (verdict : Verdict) (text : List ℕ) → IsChecked checked
    → IsVerdict checked verdict → text ≡ verdict_text_of verdict → IsVerdictOn checked text
verdict_on checked (Forbidden cycles) text h is e =
    let nodes : List (List Node) = map (λ cycle. cycle.items) cycles.items in
    forbidden nodes is
    (ruled_by_cycles checked h (λ c there. cycle_at checked (length checked.test.ends) c nodes is there)) e
verdict_on checked (Open c) text h is e = opened c is e

pub verdict_said : (checked : CheckedTest) (verdict : Verdict) (r : Result (String Global) NoMemory) → IsChecked checked
    → IsVerdict checked verdict
    → IfOk r (λ t. string_bytes t ≡ verdict_text_of verdict) → IfOk r (λ t. IsVerdictText checked.test (string_bytes t))
verdict_said checked verdict (Ok t) is right e = record {
  kinds = checked.kinds;
  are = is.kinds;
  is = verdict_on checked verdict (string_bytes t) is right e;
}
verdict_said checked verdict (Err e) is right _ = tt
