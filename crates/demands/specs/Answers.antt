-- Demand 1: "Every input gets an answer. Each entry point checks for itself; each refusal has a number and a place, is given exactly when"
-- the table "says, and changes nothing in lent storage."
use Rattle.std.specs.Prelude.{◌≡◌, Bool, true, false, not, cond, ◌⊎◌, List, [], ◌∷◌, ◌++◌, ℕ, ◌+◌, ◌*◌, ◌/◌, ◌<◌, eqb, leb, length}
use Rattle.base_answers.specs.Numbers.{refusing}
use Rattle.base_answers.specs.declared.Answer.{Answer}
use Rattle.base_answers.specs.Answers.{Words, Corners, Buffer, Unnamed, Twice, Repeated, NotFinite, TooFar, States, Line, Misfit, NoPitch}
use Rattle.base_types.specs.Counts as counts
use Rattle.base_types.specs.Pitches.{is_pitch}
use Rattle.base_limits.specs.Limits as limits
use Rattle.surface_rules.specs.Edges.{twice, repeats}
use Rattle.surface_rules.specs.Refusals.{short, unnamed, not_finite, too_far}
use Rattle.surface_rules.specs.Threes.{Three, threes, flat}
use Rattle.loop_rules.specs.Loops.{loops}
use Rattle.survey_grid.specs.Grid.{grid_of}
use Rattle.survey_rules.specs.Outcome as survey
use Rattle.patch_surface.specs.Outcome as patcher
use Rattle.chart_rules.specs.Report.{report_of}
use Rattle.chart_surface.specs.Outcome as chart
use Rattle.judge_surface.specs.Outcome.{Judges}
use Rattle.text_rules.specs.Text.{Format, TextOf, both}
use Rattle.text_rules.specs.Fault.{Fault}
use Rattle.text_sheet.specs.Sheet.{Sheet, sheet, sheet_of, pitch_said, words_said, corners_said, text}
use Rattle.text_read.specs.Outcome as intake
use Rattle.text_read_set.specs.Set.{set}
use Rattle.text_read_set.specs.Outcome as sets
use Rattle.text_write.specs.Outcome.{writes}
use Rattle.stl_facets.specs.Facets.{facets}
use Rattle.stl_rules.specs.File.{fits}
use Rattle.stl_rules.specs.Reading.{points_in, corners_in, size_refusal, reads_file}
use Rattle.program_lines.specs.Lines.{answer_line}
use Rattle.program_lines.specs.Printout.{PrintOutcome, PrintsOver}
use Rattle.program_rewrite.specs.Rewriting.{Rewrites}
use Rattle.program_import.specs.Importing.{Imports}
use Rattle.program_judge.specs.Hears.{Hears, HearsLine}
use Rattle.program_list.specs.Lists.{Lists, Prints}
use Rattle.program_chart.specs.Charting as charted

-- ---- the table

-- a check: how many places it looks at, what it looks for, and what it answers where it finds that
pub record Check : Type 0 where
  pub places : ℕ
  pub finds : ℕ → Bool
  pub gives : ℕ → Answer

-- it finds nothing
abbrev pub Clear : Check → Type 0
Clear c = (j : ℕ) → j < c.places → c.finds j ≡ false

-- it finds something, and a is its answer for the smallest place
pub record Finds (c : Check) (a : Answer) : Type 0 where
  pub at : ℕ
  pub there : at < c.places
  pub finds_it : c.finds at ≡ true
  pub smallest : (j : ℕ) → j < at → c.finds j ≡ false
  pub gives_it : a ≡ c.gives at

-- "each over the whole input before the next, the smallest index reported": what is answered
abbrev pub Due : List Check → Answer → Type 0
Due [] a = ⊥
Due (c ∷ after) a = Finds c a ⊎ (Clear c × Due after a)

-- a check without a place
abbrev pub once : Bool → Answer → Check
once t a = record { places = 1; finds = λ i. t; gives = λ i. a }

-- 17: "a pitch other than 1, 2, 5 or 10"
abbrev pub other_pitch : ℕ → Check
other_pitch pitch = once (not (is_pitch pitch)) NoPitch

-- 1 and 2: a count "isn't a multiple of 3, or" is too high
abbrev pub word_count : List ℕ → Check
word_count words = once (not (counts.threes limits.words (length words))) Words

abbrev pub corner_count : List ℕ → Check
corner_count corners = once (not (counts.threes limits.corners (length corners))) Corners

-- 3: "a lent buffer is too short", "its number, lowest first"
abbrev pub short_buffer : List ℕ → List ℕ → Check
short_buffer lent needs = record { places = length needs; finds = short lent needs; gives = λ i. Buffer (i + 1) }

-- the same where one buffer is lent, with room for so many bytes at least
abbrev pub short_room : ℕ → List ℕ → Check
short_room most buffer = once (not (leb most (length buffer))) (Buffer 1)

-- 4: "a corner of the surface names no point"
abbrev pub unnamed_corner : List ℕ → List ℕ → Check
unnamed_corner words corners = record { places = length corners; finds = unnamed corners (length words / 3); gives = Unnamed }

-- 5: "a triangle names a point twice"
abbrev pub point_twice : List ℕ → Check
point_twice corners = record { places = length corners / 3; finds = twice corners; gives = Twice }

-- 6: "a half-edge has the same two ends in the same order as an earlier one"
abbrev pub edge_repeated : List ℕ → Check
edge_repeated corners = record { places = length corners; finds = repeats corners; gives = Repeated }

-- 7 and 8: "a coordinate isn't finite", "a coordinate is too far"
abbrev pub no_number : List ℕ → Check
no_number words = record { places = length words; finds = not_finite words; gives = NotFinite }

abbrev pub far_away : ℕ → List ℕ → Check
far_away pitch words = record { places = length words; finds = too_far pitch words; gives = TooFar }

-- 9: "state count differs from loop count", and its place is the "loop count"
abbrev pub state_count : List ℕ → List ℕ → Check
state_count corners states = once (not (eqb (length (loops corners)) (length states))) (States (length (loops corners)))

-- 10: "sheet text line is wrong", asked where one is
abbrev pub wrong_line : ℕ → Check
wrong_line line = once true (Line line)

-- 16: "fewer than 84 bytes or a length that isn't 84 plus 50 times the count"
abbrev pub wrong_size : ℕ → ℕ → Check
wrong_size long count = once (not (fits long count)) Misfit

-- 2 and 1 of a file: "more than 1,024 facets", "more than 1,024 distinct points"
abbrev pub many_facets : ℕ → Check
many_facets count = once (not (leb count limits.triangles)) Corners

abbrev pub many_points : List ℕ → Check
many_points file = once (not (leb (length (points_in file)) limits.points)) Words

-- what is asked of a file of facets by its length and its count, and of all of it: 16 "comes first of all; then 2 ... then 1"
abbrev pub size_checks : ℕ → ℕ → List Check
size_checks long count = wrong_size long count ∷ many_facets count ∷ []

abbrev pub file_checks : List ℕ → List Check
file_checks file = size_checks (length file) (facets file) ++ (many_points file ∷ [])

-- 4 to 8: what is asked of a sheet whose counts are right
abbrev pub sheet_checks : ℕ → List ℕ → List ℕ → List Check
sheet_checks pitch words corners = unnamed_corner words corners ∷ point_twice corners ∷ edge_repeated corners ∷ no_number words ∷ far_away pitch words ∷ []

-- 10 and 4 to 8: a wrong line "comes before 4"
abbrev pub line_and_sheet : ℕ → ℕ → List ℕ → List ℕ → List Check
line_and_sheet line pitch words corners = wrong_line line ∷ sheet_checks pitch words corners

-- 17 "between 10 and 1", and 1 to 8, for buffers of these lengths where these are needed
abbrev pub table : ℕ → List ℕ → List ℕ → List ℕ → List ℕ → List Check
table pitch words corners lent needs = other_pitch pitch ∷ word_count words ∷ corner_count corners ∷ short_buffer lent needs ∷ sheet_checks pitch words corners

-- 17 first; then "writing gives 1, 2, 3 (text buffer too short for this text ...; number 1) and 4"
abbrev pub write_checks : ℕ → List ℕ → List ℕ → List ℕ → List Check
write_checks pitch words corners buffer =
    other_pitch pitch ∷ word_count words ∷ corner_count corners ∷ short_buffer (length buffer ∷ []) (length (text pitch words corners) ∷ [])
    ∷ unnamed_corner words corners ∷ []

-- ---- what is demanded

-- how many lines the text of a sheet has: "With a pitch line every later line number goes up by one"
abbrev pub lines_before : Sheet → ℕ
lines_before s = cond (eqb (pitch_said s) 1) 0 1 + (length s.body.firsts + length s.body.seconds + 2)

-- "Every input gets an answer": any bytes are a text that says something, or have a fault at a line; never both, and no two faults.
pub record Decided {S : Type 0} (F : Format S) : Type 0 where
  pub text_or_fault : (bytes : List ℕ) → ((s : S) × TextOf F bytes s) ⊎ ((line : ℕ) × Fault F bytes line)
  pub not_both : (bytes : List ℕ) (s : S) (line : ℕ) → TextOf F bytes s → Fault F bytes line → ⊥
  pub one_fault : (bytes : List ℕ) (line other : ℕ) → Fault F bytes line → Fault F bytes other → line ≡ other

-- What is due is given, and leaves everything as it was; and nothing else is refused.
pub record Answered {O : Type 0} (checks : List Check) (refused : Answer → O) (answer : O → Answer) (o : O) : Type 0 where
  pub given : (a : Answer) → Due checks a → o ≡ refused a
  pub only : refusing (answer o) ≡ true → Due checks (answer o)

-- Where what is due is printed into a buffer, 3 is given if that is too short, and nothing else is refused.
abbrev pub PrintsAnswered : (List ℕ → Type 0) → Type 0
PrintsAnswered IsDue =
    (most : ℕ) (buffer : List ℕ) (o : PrintOutcome) → PrintsOver most IsDue buffer o
    → Answered (short_room most buffer ∷ []) (λ a. record { answer = a; count = 0; bytes = buffer }) (λ p. p.answer) o

pub record AnswersDemand : Type 0 where
  pub surveying : (pitch : ℕ) (words corners : List ℕ) (b : survey.Buffers)
      → Answered (table pitch words corners (survey.lent b) (survey.needs words corners)) (λ a. survey.refused a b) (λ o. o.answer) (survey.survey_of pitch words corners b)
  pub patching : (pitch : ℕ) (words corners : List ℕ) (b : patcher.Buffers) (o : patcher.Outcome) → patcher.Patches pitch words corners b o
      → Answered (table pitch words corners (patcher.lent b) (patcher.needs words corners)) (λ a. patcher.refused a b) (λ p. p.answer) o
  pub charting : (pitch : ℕ) (words corners : List ℕ) (b : chart.Buffers) (o : chart.Outcome) → chart.Charts pitch words corners b o
      → Answered (table pitch words corners (chart.lent b) (chart.needs words corners)) (λ a. chart.refused a b) (λ p. p.answer) o
  pub judging : (pitch : ℕ) (words corners states patches : List ℕ) (b : survey.Buffers) (o : survey.Outcome) → Judges pitch words corners states patches b o
      → Answered (table pitch words corners (survey.lent b) (survey.needs words corners) ++ (state_count corners states ∷ [])) (λ a. survey.refused a b) (λ p. p.answer) o
  -- any bytes are a text or have a fault, so that what follows speaks of all of them
  pub sheet_texts : Decided sheet
  pub set_texts : Decided set
  -- "Reading may give, in this order, 10, 3 (words 1, corners 2) and 4"
  pub reading_wrong : (bytes words corners : List ℕ) (o : intake.ReadOutcome) → intake.Reads bytes words corners o
      → (line : ℕ) → Fault sheet bytes line → o ≡ intake.not_read (Line line) words corners
  pub reading : (bytes words corners : List ℕ) (o : intake.ReadOutcome) → intake.Reads bytes words corners o
      → (s : Sheet) → TextOf sheet bytes s
      → Answered (short_buffer (length words ∷ length corners ∷ []) (length (words_said s) ∷ length (corners_said s) ∷ []) ∷ unnamed_corner (words_said s) (corners_said s) ∷ [])
      (λ a. intake.not_read a words corners) (λ p. p.answer) o
  pub writing : (pitch : ℕ) (words corners buffer : List ℕ)
      → Answered (write_checks pitch words corners buffer) (λ a. record { answer = a; count = 0; bytes = buffer }) (λ p. p.answer) (writes pitch words corners buffer)
  -- a patch set's text: 10, counted on after the lines before it, and 3 (states 1, corners 2)
  pub reading_set_wrong : (bytes : List ℕ) (before : ℕ) (states corners : List ℕ) (o : sets.SetOutcome) → sets.ReadsSet bytes before states corners o
      → (line : ℕ) → Fault set bytes line → o ≡ sets.not_read (Line (before + line)) states corners
  pub reading_set : (bytes : List ℕ) (before : ℕ) (states corners : List ℕ) (o : sets.SetOutcome) → sets.ReadsSet bytes before states corners o
      → (ss : List ℕ) (ts : List Three) → TextOf set bytes (both ss ts)
      → Answered (short_buffer (length states ∷ length corners ∷ []) (length ss ∷ length (flat ts) ∷ []) ∷ []) (λ a. sets.not_read a states corners) (λ p. p.answer) o
  -- a file of facets by its size alone: 16 and 2
  pub sizing : (long count : ℕ) → Answered (size_checks long count) (λ a. a) (λ a. a) (size_refusal long count)
  -- a file of facets: 16, 2 and 1, "then 3 for short buffers (words 1, corners 2). No other refusal is the reader's."
  pub reading_file : (file words corners : List ℕ)
      → Answered (file_checks file ++ (short_buffer (length words ∷ length corners ∷ []) (3 * length (points_in file) ∷ 3 * facets file ∷ []) ∷ []))
      (λ a. intake.not_read a words corners) (λ p. p.answer) (reads_file file words corners)
  -- a sheet's text that is patched: "Checks run in the order 10, 1 to 9"
  pub listing_wrong : (bytes : List ℕ) (b : patcher.Buffers) (o : patcher.Outcome) → Lists bytes b o
      → (line : ℕ) → Fault sheet bytes line → o ≡ patcher.refused (Line line) b
  pub listing : (bytes : List ℕ) (b : patcher.Buffers) (o : patcher.Outcome) → Lists bytes b o
      → (s : Sheet) → TextOf sheet bytes s
      → Answered (table (pitch_said s) (words_said s) (corners_said s) (patcher.lent b) (patcher.needs (words_said s) (corners_said s))) (λ a. patcher.refused a b) (λ p. p.answer) o
  -- a sheet's text and a set's text that are judged: a wrong line of the sheet; a wrong line of the set, which "is counted on after the
  -- sheet's last", two counts standing there besides the points and triangles, and a pitch where it is not 1, "and comes before 4"; then 4 to
  -- 9, as no buffer is lent
  pub hearing_wrong : (bytes patches : List ℕ) (a : Answer) → Hears bytes patches a → (line : ℕ) → Fault sheet bytes line → a ≡ Line line
  pub hearing_set_wrong : (bytes patches : List ℕ) (a : Answer) → Hears bytes patches a
      → (s : Sheet) → TextOf sheet bytes s → (line : ℕ) → Fault set patches line
      → Answered (line_and_sheet (lines_before s + line) (pitch_said s) (words_said s) (corners_said s)) (λ r. r) (λ r. r) a
  pub hearing : (bytes patches : List ℕ) (a : Answer) → Hears bytes patches a → (s : Sheet) → TextOf sheet bytes s
      → (ss : List ℕ) (us : List Three) → TextOf set patches (both ss us)
      → Answered (sheet_checks (pitch_said s) (words_said s) (corners_said s) ++ (state_count (corners_said s) ss ∷ [])) (λ r. r) (λ r. r) a
  -- a text that is written again: 10 and 4 are printed as "an answer line", and any other text as it is
  pub rewriting_wrong : (bytes out : List ℕ) → Rewrites bytes out → (line : ℕ) → Fault sheet bytes line → out ≡ answer_line (Line line)
  pub rewriting_refused : (bytes out : List ℕ) → Rewrites bytes out → (s : Sheet) → TextOf sheet bytes s
      → (a : Answer) → Due (unnamed_corner (words_said s) (corners_said s) ∷ []) a → out ≡ answer_line a
  pub rewriting : (bytes out : List ℕ) → Rewrites bytes out → (s : Sheet) → TextOf sheet bytes s
      → Clear (unnamed_corner (words_said s) (corners_said s)) → out ≡ bytes
  -- a sheet's text that is charted: 10, and then 4 to 8 are printed as an answer line, and where nothing is due the report
  pub charting_wrong : (bytes out : List ℕ) → charted.Prints bytes out → (line : ℕ) → Fault sheet bytes line → out ≡ answer_line (Line line)
  pub charting_refused : (bytes out : List ℕ) → charted.Prints bytes out → (s : Sheet) → TextOf sheet bytes s
      → (a : Answer) → Due (sheet_checks (pitch_said s) (words_said s) (corners_said s)) a → out ≡ answer_line a
  pub charting_told : (bytes out : List ℕ) → charted.Prints bytes out → (s : Sheet) → TextOf sheet bytes s
      → ((a : Answer) → Due (sheet_checks (pitch_said s) (words_said s) (corners_said s)) a → ⊥)
      → out ≡ charted.report_text (report_of (grid_of (pitch_said s) (words_said s)) (corners_said s))
  -- a file that is imported: 16, 2 and 1 are printed as an answer line, and for any other file the text of its sheet
  pub importing_refused : (file out : List ℕ) → Imports file out → (a : Answer) → Due (file_checks file) a → out ≡ answer_line a
  pub importing : (file out : List ℕ) → Imports file out → Clear (wrong_size (length file) (facets file)) → Clear (many_facets (facets file)) → Clear (many_points file)
      → TextOf sheet out (sheet_of 1 (points_in file) (threes (corners_in file)))
  -- the same printed into a lent buffer
  pub listing_printed : (bytes : List ℕ) → PrintsAnswered (Prints bytes)
  pub charting_printed : (bytes : List ℕ) → PrintsAnswered (charted.Prints bytes)
  pub hearing_printed : (bytes patches : List ℕ) → PrintsAnswered (HearsLine bytes patches)
  pub rewriting_printed : (bytes : List ℕ) → PrintsAnswered (Rewrites bytes)
  pub importing_printed : (file : List ℕ) → PrintsAnswered (Imports file)
