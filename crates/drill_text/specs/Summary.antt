-- The six lines that a drill writes.
use Rattle.std.specs.Prelude.{ℕ, ◌/◌, ◌%◌, List, [], ◌∷◌, ◌++◌, codes, Option, Some, None}
use Rattle.line_text.specs.Fields.{Field, number, digits, name, rest_of_line}
use Rattle.drill_text.specs.Tally.{TallyState}

-- a sum in four digits
abbrev pub sum_field : ℕ → Field
sum_field sum = digits (sum / 256 ∷ sum % 256 ∷ [])

-- the sum of a disk, where it is known
abbrev pub disk_field : Option ℕ → Field
disk_field None = name (codes "-")
disk_field (Some sum) = sum_field sum

-- a word and a number
abbrev pub count_line : List ℕ → ℕ → List ℕ
count_line word count = word ++ rest_of_line (number count ∷ [])

-- `drill SEED N`, `disk XXXX` or `disk -`, `trace T XXXX`
abbrev pub drill_line : ℕ → ℕ → List ℕ
drill_line seed count = codes "drill" ++ rest_of_line (number seed ∷ number count ∷ [])

abbrev pub disk_line : Option ℕ → List ℕ
disk_line disk = codes "disk" ++ rest_of_line (disk_field disk ∷ [])

abbrev pub trace_line : TallyState → List ℕ
trace_line tally = codes "trace" ++ rest_of_line (number tally.notes ∷ sum_field tally.sum ∷ [])

-- the counts of a journal
abbrev pub count_lines : TallyState → List ℕ
count_lines tally = count_line (codes "appended") tally.appended ++ (count_line (codes "taken") tally.taken ++ count_line (codes "good") tally.good)

-- what a drill comes to: its seed and its number of commands, the counts and the sum of its journal, and the sum of unit 0's disk,
-- where it is known
pub record Summary : Type 0 where
  pub seed : ℕ
  pub count : ℕ
  pub tally : TallyState
  pub disk : Option ℕ

unfoldable pub summary_text : Summary → List ℕ
summary_text s = drill_line s.seed s.count ++ (count_lines s.tally ++ (disk_line s.disk ++ trace_line s.tally))
