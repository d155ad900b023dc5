-- Flat histories: the steps of all threads on the sixteen shared words, one after another. So the words are
-- sequentially consistent (Lamport, "How to make a multiprocessor computer that correctly executes multiprocess
-- programs", 1979).
use Rattle.std.specs.Prelude.{◌≡◌, ℕ, ◌<◌, ◌==◌, List, [], ◌∷◌, filter, map, set, replicate, slice_index, slice_index_or}
use Rattle.perp_base.specs.declared.limits.TheConstants.{MOST_LOCATIONS, MOST_THREADS}
use Rattle.tso_words.specs.declared.step.Step.{Step}
use Rattle.tso_words.specs.declared.step.Step.TheVariants.{Load, Store, Swap}
use Rattle.tso_words.specs.declared.step.TracedStep.{TracedStep}

-- steps with the numbers of their threads, the first step first
abbrev pub History : Type 0
History = List TracedStep

-- how many words there are
abbrev pub word_count : ℕ
word_count = MOST_LOCATIONS

-- how many numbers of threads there are
abbrev pub thread_count : ℕ
thread_count = MOST_THREADS

-- the words before the first step
abbrev pub zeros : List ℕ
zeros = replicate word_count 0

-- the words after a step
abbrev pub memory_after_step : List ℕ → Step → List ℕ
memory_after_step words (Load loc value) = words
memory_after_step words (Store loc value) = set words loc value
memory_after_step words (Swap loc new old) = set words loc new

-- a load and a swap find what the words hold
abbrev pub Finds : List ℕ → Step → Type 0
Finds words (Load loc value) = (loc < word_count) × (slice_index words loc ≡ value)
Finds words (Store loc value) = loc < word_count
Finds words (Swap loc new old) = (loc < word_count) × (slice_index words loc ≡ old)

-- the words after a history that begins at these words
abbrev pub memory_after : List ℕ → History → List ℕ
memory_after words [] = words
memory_after words (e ∷ es) = memory_after (memory_after_step words e.step) es

-- each step is of one of eight threads, and finds what the steps before it left
abbrev pub FindsAll : List ℕ → History → Type 0
FindsAll words [] = Unit {0}
FindsAll words (e ∷ es) = (e.thread < thread_count) × Finds words e.step × FindsAll (memory_after_step words e.step) es

-- a history from words of 0, whose memory is these words
abbrev pub IsFlat : List ℕ → History → Type 0
IsFlat words history = FindsAll zeros history × (memory_after zeros history ≡ words)

-- the steps of one thread
abbrev pub history_part : ℕ → History → List Step
history_part t history = map (λ e. e.step) (filter (λ e. e.thread == t) history)

-- something for each of the eight threads
abbrev pub eight : {A : Type 0} → (ℕ → A) → List A
eight f = f 0 ∷ f 1 ∷ f 2 ∷ f 3 ∷ f 4 ∷ f 5 ∷ f 6 ∷ f 7 ∷ []

-- the list of a thread among these; none past the last one
abbrev pub list_at : List (List Step) → ℕ → List Step
list_at lists t = slice_index_or lists t []

-- the eight lists are the parts of one flat history, whose memory is the words
abbrev pub ArePartsOfOne : List ℕ → List (List Step) → Type 0
ArePartsOfOne words lists = (history : History) × IsFlat words history × (lists ≡ eight (λ t. history_part t history))
