-- The text of a report: its lines, each by itself, and their order. The format is this project's own.
use Rattle.std.specs.Prelude.{ℕ, Bool, false, nat_lt, if◌then◌else◌, List, [], ◌++◌, length, codes, decimal, option_map, None, Some}
use Rattle.std.specs.List.{flat_map}
use Rattle.std.specs.declared.option.Option.{Option}
use Rattle.report_text.specs.Words.{newline, number_line, test_line}
use Rattle.report_text.specs.declared.rows.CountReport.{CountReport}
use Rattle.report_text.specs.declared.rows.Report.{Report}

-- what a report says, with the list of the hits in the place of its vector
pub record ReportRows : Type 0 where
  pub name : List ℕ
  pub threads : ℕ
  pub iterations : ℕ
  pub negated : Bool
  pub atoms : ℕ
  pub frames : Option ℕ
  pub exhaustive : Option ℕ
  pub hits : Option (List (List ℕ))
  pub show_hits : Bool

-- the rows of a `Report`
abbrev pub rows_of : Report → ReportRows
rows_of r = record {
  name = r.name;
  threads = r.threads;
  iterations = r.iterations;
  negated = r.negated;
  atoms = r.atoms;
  frames = r.frames;
  exhaustive = r.exhaustive;
  hits = option_map (λ v. v.items) r.hits;
  show_hits = r.show_hits;
}

-- the quantifier and the number of atoms
unfoldable pub condition_line : Bool → ℕ → List ℕ
condition_line negated atoms =
    codes "Condition " ++ (if negated then codes "~exists" else codes "exists") ++ codes " " ++ decimal atoms ++ newline

-- the lines of a test: its name, its threads, how often it was run, and its condition
unfoldable pub head_lines : List ℕ → ℕ → ℕ → Bool → ℕ → List ℕ
head_lines name threads iterations negated atoms =
    test_line name ++ number_line (codes "Threads") threads ++ number_line (codes "Iterations") iterations
    ++ condition_line negated atoms

-- the line of a number that was asked for, else none
unfoldable pub asked_line : List ℕ → Option ℕ → List ℕ
asked_line word None = []
asked_line word (Some n) = number_line word n

-- the iterations of a frame, by thread, each after a space
unfoldable pub entries_text : List ℕ → List ℕ
entries_text frame = flat_map (λ n. codes " " ++ decimal n) frame

-- the line of a hit
unfoldable pub hit_line : List ℕ → List ℕ
hit_line frame = codes "Hit" ++ entries_text frame ++ newline

-- the lines of the hits, where they are to be shown
unfoldable pub hit_lines : Bool → List (List ℕ) → List ℕ
hit_lines show hits = if show then flat_map hit_line hits else []

-- the number of the hits and their lines, where they were asked for
unfoldable pub heuristic_lines : Bool → Option (List (List ℕ)) → List ℕ
heuristic_lines show None = []
heuristic_lines show (Some hits) = number_line (codes "Heuristic") (length hits) ++ hit_lines show hits

-- the lines of the counts
unfoldable pub count_lines : ReportRows → List ℕ
count_lines r =
    asked_line (codes "Frames") r.frames ++ asked_line (codes "Exhaustive") r.exhaustive
    ++ heuristic_lines r.show_hits r.hits

-- the condition was seen: the exhaustive count decides, and where it was not asked for the number of hits
abbrev pub is_seen : Option ℕ → Option (List (List ℕ)) → Bool
is_seen (Some count) hits = nat_lt 0 count
is_seen None (Some hits) = nat_lt 0 (length hits)
is_seen None None = false

-- whether the condition was seen
unfoldable pub seen_line : Bool → List ℕ
seen_line seen = (if seen then codes "Seen yes" else codes "Seen no") ++ newline

-- the whole report
unfoldable pub report_of : ReportRows → List ℕ
report_of r =
    head_lines r.name r.threads r.iterations r.negated r.atoms ++ count_lines r ++ seen_line (is_seen r.exhaustive r.hits)

-- the whole report of a count
unfoldable pub count_report_of : CountReport → List ℕ
count_report_of r =
    head_lines r.name r.threads r.iterations r.negated r.atoms
    ++ number_line (codes "Frames") r.frames ++ number_line (codes "Within") r.within ++ seen_line (nat_lt 0 r.within)
