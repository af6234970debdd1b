-- What is put of an answer and of the entries that stand at the start of a buffer.
use Rattle.std.specs.Prelude.{cond, ℕ, zero, suc, ◌+◌}
use mathlib.Core.List.{List, [], ◌∷◌, ◌++◌, map, flatten}
use Rattle.base_answers.specs.Numbers.{refusing}
use Rattle.base_answers.specs.declared.Answer.{Answer}
use Rattle.chart_rules.specs.Report.{entry_in}
use Rattle.chart_rules.specs.declared.Entry.{Entry}
use Rattle.chart_surface.specs.Workings.Charting.{Alone}
use Rattle.program_lines.specs.Lines.{line, answer_line, entries=}
use Rattle.program_chart.specs.Charting.{entry_line}

-- n entries out of a buffer, from entry i on
unfoldable pub entries_from : List ℕ → ℕ → ℕ → List Entry
entries_from report i zero = []
entries_from report i (suc n) = entry_in report i ∷ entries_from report (i + 1) n

-- their lines
unfoldable pub lines_from : List ℕ → ℕ → ℕ → List ℕ
lines_from report i n = flatten (map entry_line (entries_from report i n))

-- the answer's line, and where nothing is refused the count of the entries and a line for each
unfoldable pub put_text : List ℕ → Answer → ℕ → List ℕ
put_text report a n = cond (refusing a) (answer_line a) (answer_line a ++ (line entries= (n ∷ []) ++ lines_from report 0 n))

-- what is put of the report alone
abbrev pub put_alone : Alone → List ℕ
put_alone o = put_text o.report o.answer o.entries
