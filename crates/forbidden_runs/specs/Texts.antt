-- The report that nothing was seen, line by line. The counts are PerpLE's (Melissaris, Markakis, Shaw and Martonosi,
-- MICRO 2020); the texts are this project's own.
use Rattle.std.specs.Prelude.{ℕ, List, ◌++◌, length, codes}
use Rattle.x86_subset.specs.Test.{LitmusTest}
use Rattle.command_words.specs.Job.{Asked as Job}
use Rattle.command_words.specs.declared.job.Count.{Count}
use Rattle.command_words.specs.declared.job.Count.TheVariants.{Exhaustive, Heuristic, Both}
use Rattle.report_text.specs.Report.{condition_line}
use Rattle.report_text.specs.Words.{number_line, test_line}
use Rattle.program_edge.specs.Quantified.{is_negated}
use Rattle.perple_core.specs.Texts.{frame_count_of}

-- the lines that say what was run
abbrev pub head_text : LitmusTest → ℕ → List ℕ
head_text test iterations =
    test_line test.name
    ++ number_line (codes "Threads") (length test.bodies)
    ++ number_line (codes "Iterations") iterations
    ++ condition_line (is_negated test.quantifier) (length test.atoms)

-- the lines of the counts that were asked for, where each is 0; no hit is listed
abbrev pub zero_lines : Count → ℕ → List ℕ
zero_lines Exhaustive frames = number_line (codes "Frames") frames ++ codes "Exhaustive 0\n"
zero_lines Heuristic frames = codes "Heuristic 0\n"
zero_lines Both frames = number_line (codes "Frames") frames ++ codes "Exhaustive 0\n" ++ codes "Heuristic 0\n"

-- the report that nothing was seen
abbrev pub zero_text : LitmusTest → Job → List ℕ
zero_text test job =
    head_text test job.options.iterations
    ++ zero_lines job.count (frame_count_of test job.options)
    ++ codes "Seen no\n"
