-- What is said of a test's loose atoms is right.
use Rattle.std.proofs.Common.{◌≡◌, ℕ, ◌+◌, Result, Ok, Err, String, string_bytes, Global, IfOk}
use Rattle.perp_base.specs.declared.failure.NoMemory.{NoMemory}
use Rattle.profile_check.specs.Profile.{CheckedTest, IsChecked}
use Rattle.frames_within.specs.Loose.{IsFirstLoose}
use Rattle.tool_core.specs.Faithful.{IsFaithText, loose_line}
use Rattle.tool_core.specs.Faithful.IsFaithOn.{loose}

pub loose_told : (checked : CheckedTest) (c i : ℕ) (r : Result (String Global) NoMemory) → IsChecked checked
    → IsFirstLoose checked c i → IfOk r (λ t. string_bytes t ≡ loose_line c (i + 1))
    → IfOk r (λ t. IsFaithText checked.test (string_bytes t))
loose_told checked c i (Ok t) is first e = record { kinds = checked.kinds; are = is.kinds; is = loose c i first e }
loose_told checked c i (Err e) is first _ = tt
