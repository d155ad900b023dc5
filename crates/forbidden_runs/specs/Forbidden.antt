-- Which tests are forbidden: no run of x86-TSO (Sewell, Sarkar, Owens, Zappa Nardelli and Myreen, CACM 2010) has their
-- outcome; and what forbids it. The words are this project's own.
use Rattle.std.specs.Prelude.{◌≡◌, ◌⊎◌, ℕ, ◌<◌, Some, length}
use Rattle.profile_check.specs.Profile.{CheckedTest}
use Rattle.verdict.specs.Verdicts.{HasCycle}
use Rattle.decision.specs.Decisions.{NeverHolds}
use Rattle.decision.specs.Hidden.{hidden_in}
use Rattle.decision.specs.declared.hidden.HiddenRead.{HiddenRead}

-- none of the test's conjunctions holds at any frame of any run
abbrev pub IsForbidden : CheckedTest → Type 0
IsForbidden checked = (c : ℕ) → c < length checked.test.ends → NeverHolds checked c

-- conjunction c has a cycle of edges, as `verdict` finds them, or an atom that names a hidden store, as `hidden_read`
-- finds it
abbrev pub HasReason : CheckedTest → ℕ → Type 0
HasReason checked c = HasCycle checked c ⊎ ((read : HiddenRead) × (hidden_in checked c ≡ Some read))
