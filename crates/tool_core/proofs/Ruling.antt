-- Cycles and hidden reads rule a condition out.
use Rattle.std.proofs.Common.{◌≡◌, ℕ, ◌<◌, length, map, List, sym, subst}
use Rattle.profile_check.specs.Profile.{CheckedTest, IsChecked}
use Rattle.verdict.specs.Verdicts.{AreCycles, HasCycle}
use Rattle.verdict.specs.declared.node.Node.{Node}
use Rattle.verdict.proofs.Forward.{cycles_forbid_lem}
use Rattle.decision.specs.Decisions.{NeverHolds}
use Rattle.decision.proofs.HiddenReads.{found_never_holds}
use Rattle.litmus_outcomes.proofs.Possible.{never_is_impossible_lem}
use Rattle.tool_core.specs.RuledOut.{IsRuledOut}
use Rattle.tool_core.specs.Showing.{AreReasons, IsReason}
use Rattle.tool_core.specs.declared.reasons.Reason.{Reason}
use Rattle.tool_core.specs.declared.reasons.Reason.TheVariants.{Cycle, Hidden}

cycle_forbids : (checked : CheckedTest) (c : ℕ) → IsChecked checked → HasCycle checked c → NeverHolds checked c
cycle_forbids checked c is has =
    λ n run frame legal frames. cycles_forbid_lem checked n c run frame has.0 is legal frames has.1

ruled_out : (checked : CheckedTest) → IsChecked checked
    → ((c : ℕ) → c < length checked.test.ends → NeverHolds checked c) → IsRuledOut checked
ruled_out checked is never = record {
  never = never;
  impossible = λ allowed. never_is_impossible_lem checked allowed.0 is (never allowed.0 allowed.1) allowed.2;
}

pub ruled_by_cycles : (checked : CheckedTest) → IsChecked checked
    → ((c : ℕ) → c < length checked.test.ends → HasCycle checked c) → IsRuledOut checked
ruled_by_cycles checked is cycle =
    ruled_out checked is (λ c there. cycle_forbids checked c is (cycle c there))

reason_forbids : (checked : CheckedTest) (c : ℕ) (reason : Reason) → IsChecked checked → IsReason checked c reason
    → NeverHolds checked c
reason_forbids checked c (Cycle nodes) is why = cycle_forbids checked c is (nodes.items, why)
reason_forbids checked c (Hidden read) is why = found_never_holds checked c read is why.1

pub ruled_by_reasons : (checked : CheckedTest) → IsChecked checked
    → ((c : ℕ) → c < length checked.test.ends → (reason : Reason) × IsReason checked c reason) → IsRuledOut checked
ruled_by_reasons checked is reason =
    ruled_out checked is
    (λ c there. let r = reason c there in reason_forbids checked c r.0 is r.1)
