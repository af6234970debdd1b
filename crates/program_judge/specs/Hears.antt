-- The answer on two texts, a sheet's and a patch set's: "The judging program reads a sheet text there and the set from the file `patches`
-- ...; a wrong line is counted on after the sheet's last and comes before 4."
use Rattle.std.specs.Prelude.{◌≡◌, Bool, true, false, List, [], ℕ, ◌+◌, eqb, length}
use Rattle.base_answers.specs.Numbers.{refusing}
use Rattle.base_answers.specs.declared.Answer.{Answer}
use Rattle.base_answers.specs.Answers.{States, Line}
use Rattle.surface_rules.specs.Refusals.{sheet_refusal}
use Rattle.surface_rules.specs.Threes.{Three, flat}
use Rattle.loop_rules.specs.Loops.{loops}
use Rattle.survey_grid.specs.Grid.{grid_of}
use Rattle.rim_rules.specs.Rims.{rim_list}
use Rattle.fill_fates.specs.Course.{ring_list}
use Rattle.judge_rules.specs.Verdicts.{Verdict}
use Rattle.text_rules.specs.Text.{TextOf, both}
use Rattle.text_rules.specs.Fault.{Fault}
use Rattle.text_sheet.specs.Sheet.{Sheet, sheet, pitch_said, words_said, corners_said}
use Rattle.text_read_set.specs.Set.{set}
use Rattle.program_lines.specs.Lines.{answer_line}

-- The checker's answer, where no buffer is too short: a refusal of the surface; 9; or the verdict.
abbrev pub AnswersCounted : Bool → ℕ → List ℕ → List ℕ → List ℕ → List ℕ → Answer → Type 0
AnswersCounted false pitch words corners states patches a = a ≡ States (length (loops corners))
AnswersCounted true pitch words corners states patches a =
    Verdict (grid_of pitch words) corners [] 0 0 (rim_list (grid_of pitch words) corners) (ring_list corners) states patches a

abbrev pub AnswersIf : Bool → Answer → ℕ → List ℕ → List ℕ → List ℕ → List ℕ → Answer → Type 0
AnswersIf true r pitch words corners states patches a = a ≡ r
AnswersIf false r pitch words corners states patches a =
    AnswersCounted (eqb (length (loops corners)) (length states)) pitch words corners states patches a

unfoldable pub Answers : ℕ → List ℕ → List ℕ → List ℕ → List ℕ → Answer → Type 0
Answers pitch words corners states patches a =
    let r = sheet_refusal pitch words corners in
    AnswersIf (refusing r) r pitch words corners states patches a

-- a wrong line of the sheet; a wrong line of the set, counted on after the sheet's last; or the checker's answer
pub record Hears (bytes patches : List ℕ) (a : Answer) : Type 0 where
  pub of_fault : (line : ℕ) → Fault sheet bytes line → a ≡ Line line
  pub of_set_fault : (s : Sheet) → TextOf sheet bytes s → (line : ℕ) → Fault set patches line → a ≡ Line (length (sheet.lines s) + line)
  pub of_set : (s : Sheet) → TextOf sheet bytes s → (ss : List ℕ) (us : List Three) → TextOf set patches (both ss us)
      → Answers (pitch_said s) (words_said s) (corners_said s) ss (flat us) a

-- and its line, which is printed
pub record HearsLine (bytes patches line : List ℕ) : Type 0 where
  pub answer : Answer
  pub heard : Hears bytes patches answer
  pub its_line : line ≡ answer_line answer
