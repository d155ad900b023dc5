-- The demo's text: a litmus test of herdtools' X86 format in which two to four threads stand in a ring. Each thread
-- stores to its own location and loads the next thread's. Which test it is is drawn by the words of Xoshiro256++; the
-- draw is this project's own.
use Rattle.std.specs.Prelude.{ℕ, ◌+◌, ◌/◌, ◌%◌, ◌==◌, Bool, not, List, [], ◌∷◌, ◌++◌, length, map, codes, decimal, if◌then◌else◌}
use Rattle.std.specs.List.{range_with_len}
use Rattle.store_buffer.specs.Generator.{generator_word}
use Rattle.demo_text.specs.declared.draw.Draw.{Draw}
use Rattle.demo_text.specs.declared.line.Line.{Line}
use Rattle.demo_text.specs.declared.line.Line.TheVariants.{Columns, First, Middle, Last, Condition}

-- ---- what is drawn

-- how many threads the first word draws
abbrev pub threads_by : ℕ → ℕ
threads_by word = 2 + word % 3

-- what a word draws for its thread, by its three lowest bits
abbrev pub draw_by : ℕ → Draw
draw_by word = record { fenced = word % 2 == 1; loads_first = word / 2 % 2 == 1; wants_one = word / 4 % 2 == 1 }

abbrev pub demo_threads : ℕ → ℕ
demo_threads k = threads_by (generator_word k 0)

-- what the words after the first draw, one for each thread
abbrev pub draws_of : ℕ → List Draw
draws_of k = map (λ j. draw_by (generator_word k j)) (range_with_len 1 (demo_threads k))

-- ---- cells

-- the store of thread t
abbrev pub store_text : ℕ → List ℕ
store_text t = codes "MOV [v" ++ decimal t ++ codes "],$1"

-- a load of thread u's location
abbrev pub load_text : ℕ → List ℕ
load_text u = codes "MOV EAX,[v" ++ decimal u ++ codes "]"

-- the load or the store of a thread, whose next thread in the ring is u
abbrev pub action_text : Bool → ℕ → ℕ → List ℕ
action_text loads t u = if loads then load_text u else store_text t

-- the cell of thread t, whose next thread in the ring is u
abbrev pub cell_of : Line → ℕ → ℕ → Draw → List ℕ
cell_of Columns t u d = codes "P" ++ decimal t
cell_of First t u d = action_text d.loads_first t u
cell_of Middle t u d = if d.fenced then codes "MFENCE" else []
cell_of Last t u d = action_text (not d.loads_first) t u
cell_of Condition t u d = decimal t ++ codes ":EAX=" ++ (if d.wants_one then codes "1" else codes "0")

-- ---- lines

abbrev pub opening_of : Line → List ℕ
opening_of Columns = []
opening_of First = []
opening_of Middle = []
opening_of Last = []
opening_of Condition = codes "exists ("

-- what stands between two cells
abbrev pub separator_of : Line → List ℕ
separator_of Columns = codes " | "
separator_of First = codes " | "
separator_of Middle = codes " | "
separator_of Last = codes " | "
separator_of Condition = codes " /\\ "

abbrev pub ending_of : Line → List ℕ
ending_of Columns = codes " ;\n"
ending_of First = codes " ;\n"
ending_of Middle = codes " ;\n"
ending_of Last = codes " ;\n"
ending_of Condition = codes ")\n"

-- a separator stands before each cell but the first
abbrev pub before_cell : Line → ℕ → List ℕ
before_cell line t = if t == 0 then [] else separator_of line

-- the cells of the threads from t on, of n in all
abbrev pub cells_from : Line → ℕ → ℕ → List Draw → List ℕ
cells_from line n t [] = []
cells_from line n t (d ∷ ds) = before_cell line t ++ (cell_of line t ((t + 1) % n) d ++ cells_from line n (t + 1) ds)

abbrev pub line_text : Line → List Draw → List ℕ
line_text line ds = opening_of line ++ (cells_from line (length ds) 0 ds ++ ending_of line)

-- ---- the text

-- the test's name
abbrev pub demo_name : ℕ → List ℕ
demo_name k = codes "DEMO" ++ decimal k

abbrev pub text_by : List ℕ → List Draw → List ℕ
text_by name ds =
    codes "X86 " ++ (name ++ (codes "\n{ }\n" ++ (line_text Columns ds ++ (line_text First ds
    ++ (line_text Middle ds ++ (line_text Last ds ++ line_text Condition ds))))))

abbrev pub demo_text_of : ℕ → List ℕ
demo_text_of k = text_by (demo_name k) (draws_of k)

-- the iterations of a demo of so many threads, of which a demo has 2, 3 or 4
abbrev pub demo_iterations_of : ℕ → ℕ
demo_iterations_of threads = if threads == 2 then 4000 else if threads == 3 then 250 else 60
