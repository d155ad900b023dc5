-- Each demo text reads as a test.
use Rattle.std.proofs.Common.{◌≡◌, ◌∙◌, ℕ, zero, suc, ◌+◌, ◌%◌, ◌<◌, ◌≤◌, ◌^◌, ◌++◌, List, [], ◌∷◌, length, map, refl, sym, ap, subst, arith, None, Ok}
use Rattle.std.specs.Prelude.{codes, decimal}
use Rattle.std.specs.List.{range_with_len}
use Rattle.std.proofs.Math.Nat.{mod-lt}
use Rattle.std.proofs.lemmas.List.{length-append}
use Rattle.std.proofs.lemmas.List.FromFn.{length-map-range_with_len}
use Rattle.std.proofs.lemmas.Fmt.{length-decimal-le}
use Rattle.x86_subset.specs.Test.{LitmusTest}
use Rattle.x86_subset.specs.Shape.{limit_of}
use Rattle.x86_subset.specs.Token.{is_blank, start, after_bytes, after_byte, lex}
use Rattle.litmus_reader.specs.Answer.{Accepted, ◌>>=◌, last_line}
use Rattle.litmus_reader.specs.Front.{item_at, head}
use Rattle.litmus_reader.specs.Reading.{Reads, tokens_at, sections_at, limited, answer_of, read_text}
use Rattle.litmus_reader.proofs.ReadingLaws.{one_reading}
use Rattle.store_buffer.specs.Generator.{generator_word}
use Rattle.demo_text.specs.declared.draw.Draw.{Draw}
use Rattle.demo_text.specs.declared.line.Line.TheVariants.{Columns, First, Middle, Last, Condition}
use Rattle.demo_text.specs.Demo.{draw_by, draws_of, demo_name, demo_threads, demo_iterations_of, line_text, text_by, demo_text_of}
use Rattle.demo_text.specs.Laws.{ReadsAsTest}
use Rattle.demo_text.proofs.Lines.{bits_of}
use Rattle.demo_text.proofs.Codes.{rest_text, test_for}
use Rattle.demo_text.proofs.AtomKinds.{kinds_from, all_inside}
use Rattle.demo_text.proofs.Front.{first_is, name_printed, printed_ascii}
use Rattle.demo_text.proofs.Computed.{Holds, holds_2, holds_3, holds_4}

-- ---- two, three or four threads are drawn

drawn : (f : ℕ → Draw) (r : ℕ) → r < 3 → Holds (map f (range_with_len 1 (2 + r)))
drawn f zero h = holds_2 (f 1) (f 2)
drawn f (suc zero) h = holds_3 (f 1) (f 2) (f 3)
drawn f (suc (suc zero)) h = holds_4 (f 1) (f 2) (f 3) (f 4)
drawn f (suc (suc (suc r))) h = absurd (omega arith)

holds : (k : ℕ) → Holds (draws_of k)
holds k = drawn (λ j. draw_by (generator_word k j)) (generator_word k 0 % 3) (mod-lt (generator_word k 0) (omega arith))

-- ---- the text

after_first : (k : ℕ) → k < 2 ^ 64 → (ds : List Draw)
    → sections_at (text_by (demo_name k) ds)
    ≡ tokens_at (last_line (text_by (demo_name k) ds)) (demo_name k)
    (lex 0 (after_byte (after_bytes start (codes "X86 " ++ (demo_name k ++ 10 ∷ []))) 123) (rest_text ds))
unfolding sections_at head item_at is_blank
after_first k h ds =
    ap (λ r. r >>= λ first. head (last_line (text_by (demo_name k) ds)) 0 first.1.at first.1.text >>= λ rest. tokens_at
    (last_line (text_by (demo_name k) ds)) first.0 (lex 0 rest.at rest.text))
    (first_is 68 (codes "EMO" ++ decimal k) (123 ∷ rest_text ds) (name_printed k h))

reads_as : (text : List ℕ) (test : LitmusTest) → sections_at text ≡ Ok test → limit_of test ≡ None
    → read_text text ≡ Accepted test
unfolding read_text
reads_as text test e none = ap answer_of e ∙ ap (limited test) none

-- ---- its length

lengths : (a b c d e f g h : List ℕ) → length a ≤ 24 → length b ≤ 10 → length c ≤ 200 → length d ≤ 200 → length e ≤ 200
    → length f ≤ 200 → length g ≤ 200
    → length (h ++ (a ++ (b ++ (c ++ (d ++ (e ++ (f ++ g))))))) ≤ length h + 1034
lengths a b c d e f g h la lb lc ld le lf lg =
    rw (
      length-append h (a ++ (b ++ (c ++ (d ++ (e ++ (f ++ g)))))),
      length-append a (b ++ (c ++ (d ++ (e ++ (f ++ g))))),
      length-append b (c ++ (d ++ (e ++ (f ++ g)))),
      length-append c (d ++ (e ++ (f ++ g))),
      length-append d (e ++ (f ++ g)),
      length-append e (f ++ g),
      length-append f g,
    ) (omega arith)

name_length : (k : ℕ) → k < 2 ^ 64 → length (demo_name k) ≤ 24
name_length k h =
    let few : length (decimal k) ≤ 20 = length-decimal-le 20 k (omega arith) (omega arith) h in
    rw (length-append (codes "DEMO") (decimal k)) (omega arith)

text_length : (k : ℕ) → k < 2 ^ 64 → (ds : List Draw) → Holds ds → length (text_by (demo_name k) ds) ≤ 65536
text_length k h ds holds =
    let few : length (text_by (demo_name k) ds) ≤ length (codes "X86 ") + 1034 =
    lengths (demo_name k) (codes "\n{ }\n") (line_text Columns ds) (line_text First ds) (line_text Middle ds)
    (line_text Last ds) (line_text Condition ds) (codes "X86 ")
    (name_length k h) (omega arith) (holds.short Columns) (holds.short First) (holds.short Middle) (holds.short Last)
    (holds.short Condition) in
    omega arith

-- ---- the law

threads_are : (k : ℕ) → length (draws_of k) ≡ demo_threads k
threads_are k = length-map-range_with_len (λ j. draw_by (generator_word k j)) 1 (demo_threads k)

pub reads_as_test : (k : ℕ) → k < 2 ^ 64 → ReadsAsTest k
reads_as_test k h =
    let all : Holds (draws_of k) = holds k in
    let test : LitmusTest = test_for (demo_name k) (draws_of k) in
    let kinds = kinds_from test 0 (bits_of Condition (draws_of k)) (all.kinds (demo_name k)) in
    let read : read_text (demo_text_of k) ≡ Accepted test =
    reads_as (demo_text_of k) test (after_first k h (draws_of k) ∙ all.reads _ (demo_name k) _)
    (all.within (demo_name k)) in
    let threads : length test.bodies ≡ length (draws_of k) = all.threads (demo_name k) in
    record {
      test = test;
      reads = subst (Reads (demo_text_of k)) read (one_reading (demo_text_of k)).0;
      kinds = kinds.kinds;
      are_kinds = kinds.are;
      inside = all_inside test 1 test.atoms kinds.kinds kinds.are;
      name = refl;
      ascii = printed_ascii (demo_name k) (name_printed k h);
      threads = threads ∙ threads_are k;
      frames = subst (λ n. demo_iterations_of n ^ n ≤ 4294967296) (sym threads) all.frames;
      short = text_length k h (draws_of k) all;
    }
