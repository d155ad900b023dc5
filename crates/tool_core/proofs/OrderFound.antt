-- The text of what is found is right.
use Rattle.std.proofs.Common.{◌≡◌, ℕ, List, Result, Ok, Err, String, string_bytes, Global, IfOk}
use Rattle.perp_base.specs.declared.failure.NoMemory.{NoMemory}
use Rattle.x86_subset.specs.Test.{LitmusTest}
use Rattle.load_log.specs.Values.{Values}
use Rattle.run_witness.specs.Found.{IsFound}
use Rattle.run_witness.specs.declared.found.Found.{Found}
use Rattle.run_witness.specs.declared.found.Found.TheVariants.{Run, WrongValue, Cycle}
use Rattle.tool_core.specs.Texts.{IsOrderOf, order_text_of}
use Rattle.tool_core.specs.Texts.IsOrderOf.{ordered, wrong, none}

order_of : (test : LitmusTest) (n : ℕ) (logs : List Values) (found : Found) (text : List ℕ) → IsFound test n logs found
    → text ≡ order_text_of n found
    → IsOrderOf test n logs text
order_of test n logs (Run events) text is e = ordered events.items is.0 is.1 is.2 e
order_of test n logs (WrongValue t i c) text is e = wrong t i c is.0 is.1 e
order_of test n logs (Cycle events) text is e = none is.2 is.3 e

pub order_found : (test : LitmusTest) (n : ℕ) (logs : List Values) (found : Found) (r : Result (String Global) NoMemory)
    → IsFound test n logs found
    → IfOk r (λ t. string_bytes t ≡ order_text_of n found) → IfOk r (λ t. IsOrderOf test n logs (string_bytes t))
order_found test n logs found (Ok t) is e = order_of test n logs found (string_bytes t) is e
order_found test n logs found (Err e) is _ = tt
