-- The line of an event is read as that event.
use Rattle.std.proofs.Common.{◌≡◌, ℕ, ◌^◌, ◌<◌, true, Option, Some, List, [], ◌∷◌, ◌++◌, codes, decimal, refl, ap, ◌∙◌}
use Rattle.x86_subset.specs.Token.{is_blank}
use Rattle.litmus_reader.specs.Front.{words}
use Rattle.run_judge.specs.Line.{kind_text}
use Rattle.run_judge.specs.declared.event.RunEvent.{RunEvent}
use Rattle.run_judge.specs.declared.event.RunKind.{RunKind}
use Rattle.run_judge.specs.declared.event.RunKind.TheVariants.{Push, Drain, Fence, Read, Exchange}
use Rattle.run_text.specs.Events.{event_by, event_of, kind_of, kind_with, valued_kind}
use Rattle.run_text.specs.Laws.{EventsAreReadBack, HasWidth}
use Rattle.run_text.proofs.WordsBack.{IsWord, cut, decimal_is_word, is_word, large_back, small_back, wide}

-- the words of a kind's text, and the kind that they tell
record IsKindBack (k : RunKind) : Type 0 where
  verb : List ℕ
  more : List (List ℕ)
  tail : List ℕ
  text : kind_text k ≡ 32 ∷ tail
  reads : words tail ≡ verb ∷ more
  kind : kind_of verb more ≡ Some k

blank_32 : is_blank 32 ≡ true
unfolding is_blank
blank_32 = refl

blank_10 : is_blank 10 ≡ true
unfolding is_blank
blank_10 = refl

-- a verb and the line feed
verb_alone : (verb : List ℕ) → IsWord verb → words (verb ++ codes "\n") ≡ verb ∷ []
verb_alone verb h = cut verb 10 [] h blank_10

-- a verb, a value and the line feed
verb_with : (verb : List ℕ) (v : ℕ) → IsWord verb → v < 2 ^ 64
    → words (verb ++ 32 ∷ (decimal v ++ codes "\n")) ≡ verb ∷ decimal v ∷ []
verb_with verb v h k =
    cut verb 32 (decimal v ++ codes "\n") h blank_32
    ∙ ap (λ ws. verb ∷ ws) (verb_alone (decimal v) (decimal_is_word v k))

-- a kind whose text is a verb, and one whose text is a verb and a value
alone : (k : RunKind) (verb : List ℕ) → IsWord verb → kind_text k ≡ 32 ∷ (verb ++ codes "\n") → kind_of verb [] ≡ Some k
    → IsKindBack k
alone k verb h text kind = record {
  verb = verb;
  more = [];
  tail = verb ++ codes "\n";
  text = text;
  reads = verb_alone verb h;
  kind = kind;
}

valued : (k : RunKind) (verb : List ℕ) (v : ℕ) → IsWord verb → v < 2 ^ 64
    → kind_text k ≡ 32 ∷ (verb ++ 32 ∷ (decimal v ++ codes "\n")) → valued_kind verb v ≡ Some k → IsKindBack k
valued k verb v h small text kind = record {
  verb = verb;
  more = decimal v ∷ [];
  tail = verb ++ 32 ∷ (decimal v ++ codes "\n");
  text = text;
  reads = verb_with verb v h small;
  kind = ap (kind_with verb) (large_back v small) ∙ kind;
}

kind_back : (k : RunKind) → HasWidth k → IsKindBack k
unfolding is_blank
kind_back Push h = alone Push (codes "push") (is_word _ _ refl) refl refl
kind_back Drain h = alone Drain (codes "drain") (is_word _ _ refl) refl refl
kind_back Fence h = alone Fence (codes "fence") (is_word _ _ refl) refl refl
kind_back (Read v) h = valued (Read v) (codes "read") v (is_word _ _ refl) h refl refl
kind_back (Exchange v) h = valued (Exchange v) (codes "exchange") v (is_word _ _ refl) h refl refl

-- the words in front of a kind's
is_thread : (t : ℕ) → t < 2 ^ 64 → IsWord (80 ∷ decimal t)
unfolding is_blank
is_thread t h = is_word 80 (decimal t) (decimal_is_word t h).plain

front_words : (t n p : ℕ) (tail : List ℕ) → t < 2 ^ 64 → n < 2 ^ 64 → p < 2 ^ 64
    → words ((80 ∷ decimal t) ++ 32 ∷ (decimal n ++ 32 ∷ (decimal p ++ 32 ∷ tail))) ≡ (80 ∷ decimal t) ∷ decimal n
    ∷ decimal p ∷ words tail
front_words t n p tail ht hn hp =
    cut (80 ∷ decimal t) 32 (decimal n ++ 32 ∷ (decimal p ++ 32 ∷ tail)) (is_thread t ht) blank_32
    ∙ ap (λ ws. (80 ∷ decimal t) ∷ ws) (cut (decimal n) 32 (decimal p ++ 32 ∷ tail) (decimal_is_word n hn) blank_32
    ∙ ap (λ ws. decimal n ∷ ws) (cut (decimal p) 32 tail (decimal_is_word p hp) blank_32))

told : (e : RunEvent) (a b c : Option ℕ) (d : Option RunKind)
    → a ≡ Some e.thread → b ≡ Some e.iteration → c ≡ Some e.place → d ≡ Some e.kind → event_by a b c d ≡ Some e
told e a b c d ha hb hc hd = rw (ha, hb, hc, hd) refl

pub event_back : EventsAreReadBack
event_back e h =
    let k = kind_back e.kind h.value in
    let t = wide e.thread h.thread in
    let n = wide e.iteration h.iteration in
    let p = wide e.place h.place in
    let front : List ℕ → List ℕ = λ text. (80 ∷ decimal e.thread) ++ 32
    ∷ (decimal e.iteration ++ 32 ∷ (decimal e.place ++ text)) in
    ap (λ text. event_of (words (front text))) k.text
    ∙ ap event_of (front_words e.thread e.iteration e.place k.tail t n p)
    ∙ ap (λ ws. event_of ((80 ∷ decimal e.thread) ∷ decimal e.iteration ∷ decimal e.place ∷ ws)) k.reads
    ∙ told e _ _ _ (kind_of k.verb k.more) (small_back e.thread h.thread) (small_back e.iteration h.iteration)
    (small_back e.place h.place) k.kind
