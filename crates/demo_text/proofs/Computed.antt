-- The tests of demo texts: they pass no limit, each atom has a kind, and their texts are short. Computed at each list
-- of the bits.
use Rattle.std.proofs.Common.{◌≡◌, ℕ, ◌≤◌, ◌^◌, Bool, true, List, [], ◌∷◌, length, refl, sym, subst, arith, None, Ok}
use Rattle.std.specs.Prelude.{nat_le}
use Rattle.std.proofs.lemmas.Bool.{leb-true}
use Rattle.std.specs.Fmt.{digits}
use Rattle.x86_subset.specs.Shape.{limit_of}
use Rattle.x86_subset.specs.Token.{Spot, lex}
use Rattle.litmus_reader.specs.Reading.{tokens_at}
use Rattle.demo_text.specs.declared.draw.Draw.{Draw}
use Rattle.demo_text.specs.declared.line.Line.{Line}
use Rattle.demo_text.specs.declared.line.Line.TheVariants.{Columns, First, Middle, Last, Condition}
use Rattle.demo_text.specs.Demo.{line_text, demo_iterations_of}
use Rattle.demo_text.proofs.Table.{every, same_at}
use Rattle.demo_text.proofs.Lines.{plains, bit_of, bits_of, line-plain}
use Rattle.demo_text.proofs.Codes.{rest_text, test_by, test_for, reads_2, reads_3, reads_4}
use Rattle.demo_text.proofs.AtomKinds.{all_ok}

computing : ℕ
unfolding limit_of digits
computing = 0

-- ---- limits

-- at all bits of the rows
abbrev Within : ℕ → List Bool → List Bool → List Bool → Type 0
Within n ls fs os = (name : List ℕ)
    → every ls (λ ls. every fs (λ fs. limit_of (test_by name n ls fs os))) ≡ every ls (λ ls. every fs (λ fs. None))

pub within : (n : ℕ) (ls fs os : List Bool) → Within n ls fs os → (name : List ℕ)
    → limit_of (test_by name n ls fs os) ≡ None
within n ls fs os all name =
    same_at fs (λ fs. limit_of (test_by name n ls fs os)) (λ fs. None)
    (same_at ls (λ ls. every fs (λ fs. limit_of (test_by name n ls fs os))) (λ ls. every fs (λ fs. None)) (all name))

-- ---- kinds

abbrev HaveKinds : ℕ → List Bool → List Bool → List Bool → Type 0
HaveKinds n ls fs os = (name : List ℕ)
    → every ls (λ ls. every fs (λ fs. all_ok (test_by name n ls fs os) 0 os)) ≡ every ls (λ ls. every fs (λ fs. true))

pub have_kinds : (n : ℕ) (ls fs os : List Bool) → HaveKinds n ls fs os → (name : List ℕ)
    → all_ok (test_by name n ls fs os) 0 os ≡ true
have_kinds n ls fs os all name =
    same_at fs (λ fs. all_ok (test_by name n ls fs os) 0 os) (λ fs. true)
    (same_at ls (λ ls. every fs (λ fs. all_ok (test_by name n ls fs os) 0 os)) (λ ls. every fs (λ fs. true)) (all name))

within_2 : (l m p q x y : Bool) → Within 2 (l ∷ m ∷ []) (p ∷ q ∷ []) (x ∷ y ∷ [])
unfolding computing
within_2 l m p q x y name = refl

kinds_2 : (l m p q x y : Bool) → HaveKinds 2 (l ∷ m ∷ []) (p ∷ q ∷ []) (x ∷ y ∷ [])
unfolding computing
kinds_2 l m p q x y name = refl

within_3 : (l m n p q r x y z : Bool) → Within 3 (l ∷ m ∷ n ∷ []) (p ∷ q ∷ r ∷ []) (x ∷ y ∷ z ∷ [])
unfolding computing
within_3 l m n p q r x y z name = refl

kinds_3 : (l m n p q r x y z : Bool) → HaveKinds 3 (l ∷ m ∷ n ∷ []) (p ∷ q ∷ r ∷ []) (x ∷ y ∷ z ∷ [])
unfolding computing
kinds_3 l m n p q r x y z name = refl

within_4 : (l m n o p q r s w x y z : Bool) → Within 4 (l ∷ m ∷ n ∷ o ∷ []) (p ∷ q ∷ r ∷ s ∷ []) (w ∷ x ∷ y ∷ z ∷ [])
unfolding computing
within_4 l m n o p q r s w x y z name = refl

kinds_4 : (l m n o p q r s w x y z : Bool) → HaveKinds 4 (l ∷ m ∷ n ∷ o ∷ []) (p ∷ q ∷ r ∷ s ∷ []) (w ∷ x ∷ y ∷ z ∷ [])
unfolding computing
kinds_4 l m n o p q r s w x y z name = refl

-- ---- lengths

-- a line is short at all bits
abbrev Short : Line → List Bool → Type 0
Short line bs = every bs (λ bs. nat_le (length (line_text line (plains bs))) 200) ≡ every bs (λ bs. true)

pub short : (line : Line) (ds : List Draw) → Short line (bits_of line ds) → length (line_text line ds) ≤ 200
short line ds all =
    subst (λ text. length text ≤ 200) (sym (line-plain line ds))
    (leb-true _ _ (same_at (bits_of line ds) (λ bs. nat_le (length (line_text line (plains bs))) 200) (λ bs. true) all))

short_2 : (line : Line) (p q : Bool) → Short line (p ∷ q ∷ [])
unfolding computing
short_2 Columns p q = refl
short_2 First p q = refl
short_2 Middle p q = refl
short_2 Last p q = refl
short_2 Condition p q = refl

short_3 : (line : Line) (p q r : Bool) → Short line (p ∷ q ∷ r ∷ [])
unfolding computing
short_3 Columns p q r = refl
short_3 First p q r = refl
short_3 Middle p q r = refl
short_3 Last p q r = refl
short_3 Condition p q r = refl

short_4 : (line : Line) (p q r s : Bool) → Short line (p ∷ q ∷ r ∷ s ∷ [])
unfolding computing
short_4 Columns p q r s = refl
short_4 First p q r s = refl
short_4 Middle p q r s = refl
short_4 Last p q r s = refl
short_4 Condition p q r s = refl

-- ---- a demo's test

-- all that is computed of a demo's test
pub record Holds (ds : List Draw) : Type 0 where
  pub reads : (last : ℕ) (name : List ℕ) (at : Spot)
      → tokens_at last name (lex 0 at (rest_text ds)) ≡ Ok (test_for name ds)
  pub within : (name : List ℕ) → limit_of (test_for name ds) ≡ None
  pub kinds : (name : List ℕ) → all_ok (test_for name ds) 0 (bits_of Condition ds) ≡ true
  pub threads : (name : List ℕ) → length (test_for name ds).bodies ≡ length ds
  pub frames : demo_iterations_of (length ds) ^ length ds ≤ 4294967296
  pub short : (line : Line) → length (line_text line ds) ≤ 200

short_line_2 : (d e : Draw) (line : Line) → length (line_text line (d ∷ e ∷ [])) ≤ 200
short_line_2 d e line = short line (d ∷ e ∷ []) (short_2 line (bit_of line d) (bit_of line e))

pub holds_2 : (d e : Draw) → Holds (d ∷ e ∷ [])
holds_2 d e = record {
  reads = reads_2 d e;
  within =
      within 2 (d.loads_first ∷ e.loads_first ∷ []) (d.fenced ∷ e.fenced ∷ []) (d.wants_one ∷ e.wants_one ∷ [])
      (within_2 d.loads_first e.loads_first d.fenced e.fenced d.wants_one e.wants_one);
  kinds =
      have_kinds 2 (d.loads_first ∷ e.loads_first ∷ []) (d.fenced ∷ e.fenced ∷ []) (d.wants_one ∷ e.wants_one ∷ [])
      (kinds_2 d.loads_first e.loads_first d.fenced e.fenced d.wants_one e.wants_one);
  threads = λ name. refl;
  frames = omega arith;
  short = short_line_2 d e;
}

short_line_3 : (d e f : Draw) (line : Line) → length (line_text line (d ∷ e ∷ f ∷ [])) ≤ 200
short_line_3 d e f line = short line (d ∷ e ∷ f ∷ []) (short_3 line (bit_of line d) (bit_of line e) (bit_of line f))

pub holds_3 : (d e f : Draw) → Holds (d ∷ e ∷ f ∷ [])
holds_3 d e f = record {
  reads = reads_3 d e f;
  within =
      within 3 (d.loads_first ∷ e.loads_first ∷ f.loads_first ∷ []) (d.fenced ∷ e.fenced ∷ f.fenced ∷ [])
      (d.wants_one ∷ e.wants_one ∷ f.wants_one ∷ []) (within_3 d.loads_first e.loads_first f.loads_first d.fenced
      e.fenced f.fenced d.wants_one e.wants_one f.wants_one);
  kinds =
      have_kinds 3 (d.loads_first ∷ e.loads_first ∷ f.loads_first ∷ []) (d.fenced ∷ e.fenced ∷ f.fenced ∷ [])
      (d.wants_one ∷ e.wants_one ∷ f.wants_one ∷ []) (kinds_3 d.loads_first e.loads_first f.loads_first d.fenced
      e.fenced f.fenced d.wants_one e.wants_one f.wants_one);
  threads = λ name. refl;
  frames = omega arith;
  short = short_line_3 d e f;
}

short_line_4 : (d e f g : Draw) (line : Line) → length (line_text line (d ∷ e ∷ f ∷ g ∷ [])) ≤ 200
short_line_4 d e f g line =
    short line (d ∷ e ∷ f ∷ g ∷ []) (short_4 line (bit_of line d) (bit_of line e) (bit_of line f) (bit_of line g))

pub holds_4 : (d e f g : Draw) → Holds (d ∷ e ∷ f ∷ g ∷ [])
holds_4 d e f g = record {
  reads = reads_4 d e f g;
  within =
      within 4 (d.loads_first ∷ e.loads_first ∷ f.loads_first ∷ g.loads_first ∷ [])
      (d.fenced ∷ e.fenced ∷ f.fenced ∷ g.fenced ∷ []) (d.wants_one ∷ e.wants_one ∷ f.wants_one ∷ g.wants_one ∷ [])
      (within_4 d.loads_first e.loads_first f.loads_first g.loads_first d.fenced e.fenced f.fenced g.fenced
      d.wants_one e.wants_one f.wants_one g.wants_one);
  kinds =
      have_kinds 4 (d.loads_first ∷ e.loads_first ∷ f.loads_first ∷ g.loads_first ∷ [])
      (d.fenced ∷ e.fenced ∷ f.fenced ∷ g.fenced ∷ []) (d.wants_one ∷ e.wants_one ∷ f.wants_one ∷ g.wants_one ∷ [])
      (kinds_4 d.loads_first e.loads_first f.loads_first g.loads_first d.fenced e.fenced f.fenced g.fenced
      d.wants_one e.wants_one f.wants_one g.wants_one);
  threads = λ name. refl;
  frames = omega arith;
  short = short_line_4 d e f g;
}
