-- What is known of a column before its rows are counted, sixty-four values by sixty-four (this project's own).
use Rattle.std.specs.Prelude.{◌≡◌, ℕ, ◌+◌, ◌-◌, ◌*◌, ◌<◌, ◌≤◌, ◌==◌, [], ◌∷◌, List, false, filter, length, slice_index_or}
use Rattle.x86_subset.specs.Conjunctions.{conjunction_of}
use Rattle.load_log.specs.Values.{Values, value_at}
use Rattle.outcome_conv.specs.declared.cond.Cond.{Cond}
use Rattle.outcome_conv.specs.declared.cond.CondKind.{CondKind}
use Rattle.outcome_conv.specs.Conditions.{Conditions}
use Rattle.frame_count.specs.Count.{IsGood}
use Rattle.frame_count.specs.Row.{mask_along, residue_fits}
use Rattle.frame_count.specs.declared.known.Known.{Known}
use Rattle.frame_count.specs.declared.known.Word.{Word}

-- the sixty-four values from this one on are between the least and the greatest, and those that have the residue are
-- marked
pub record Knows (kind : CondKind) (value : ℕ → ℕ) (at : ℕ) (w : Word) : Type 0 where
  pub least : (m : ℕ) → at ≤ m → m < at + 64 → w.least ≤ value m
  pub most : (m : ℕ) → at ≤ m → m < at + 64 → value m ≤ w.most
  pub fits : w.fits ≡ mask_along (λ m. residue_fits kind (value m)) at 64

-- of these conditions this one alone is on what thread t logged, and another thread writes
pub record IsAlone (conds : List Cond) (t : ℕ) (c : Cond) : Type 0 where
  pub only : filter (λ x. x.reader == t) conds ≡ c ∷ []
  pub writer : (c.writer == t) ≡ false

-- what is known of a word
pub record IsKnown (c : Conditions) (logs : List Values) (k : Known) : Type 0 where
  pub one : length c.ends ≡ 1
  pub good : IsGood logs k.cond
  pub alone : IsAlone (conjunction_of c.ends c.conds 0) (length logs - 1) k.cond
  pub words : (j : ℕ) (d : Word) → j < k.words
      → Knows k.cond.kind (value_at logs k.cond.reader k.cond.column) (64 * j) (slice_index_or k.of j d)

-- where there is a word, it is known
abbrev pub Tells : Conditions → List Values → Known → Type 0
Tells c logs k = 1 ≤ k.words → IsKnown c logs k
