-- What is left and answered for a sheet's text, by reading it and patching what it says; and what is printed of it: "The listing program
-- reads a text from standard input and prints `answer=number,place`; if the number is 0, then `loops=`, and for each loop ..."
use Rattle.std.specs.Prelude.{◌≡◌, Bool, true, false, List, [], map, ℕ, ℤ, length}
use Rattle.base_answers.specs.Numbers.{refusing}
use Rattle.base_answers.specs.declared.Answer.{Answer}
use Rattle.base_answers.specs.Answers.{Line}
use Rattle.surface_rules.specs.Refusals.{sheet_refusal}
use Rattle.survey_grid.specs.Grid.{grid_of}
use Rattle.loop_rules.specs.Loops.{loops, ring}
use Rattle.rim_pieces.specs.Computed.{numbers_below}
use Rattle.rim_rules.specs.Rims.{loop_at, rim_list}
use Rattle.fill_fates.specs.Fates.{Fate, lays}
use Rattle.fill_fates.specs.Course.{Course, ring_list}
use Rattle.patch_records.specs.Records.{fate_at, record_of}
use Rattle.patch_surface.specs.Outcome.{Buffers, Outcome, refused, Patches}
use Rattle.text_rules.specs.Text.{TextOf}
use Rattle.text_rules.specs.Fault.{Fault}
use Rattle.text_sheet.specs.Sheet.{Sheet, sheet, pitch_said, words_said, corners_said}
use Rattle.program_lines.specs.Lines.{answer_line}
use Rattle.program_lines.specs.Listing.{Shown, listing}

-- a text with a fault is refused at the fault's line, and what any other says is patched
pub record Lists (bytes : List ℕ) (b : Buffers) (o : Outcome) : Type 0 where
  pub of_fault : (line : ℕ) → Fault sheet bytes line → o ≡ refused (Line line) b
  pub of_text : (s : Sheet) → TextOf sheet bytes s → Patches (pitch_said s) (words_said s) (corners_said s) b o

-- what is told of loop l, and of all in listed order
abbrev pub show_of : List ℤ → List ℕ → List Fate → ℕ → Shown
show_of grid corners fates l = record {
  ring = ring corners (loop_at corners l);
  kept = record_of grid corners fates l;
  patch = lays (ring corners (loop_at corners l)) (fate_at fates l);
}

abbrev pub loops_of : List ℤ → List ℕ → List Fate → List Shown
loops_of grid corners fates = map (show_of grid corners fates) (numbers_below (length (loops corners)))

-- what is printed of a sheet with this pitch and these words and corners, no buffer being too short
abbrev pub PrintsIf : Bool → Answer → ℕ → List ℕ → List ℕ → List ℕ → Type 0
PrintsIf true a pitch words corners out = out ≡ answer_line a
PrintsIf false a pitch words corners out =
    (fates : List Fate) × Course (grid_of pitch words) corners [] (rim_list (grid_of pitch words) corners) (ring_list corners) fates
    × (out ≡ listing (loops_of (grid_of pitch words) corners fates))

abbrev pub PrintsSheet : ℕ → List ℕ → List ℕ → List ℕ → Type 0
PrintsSheet pitch words corners out = let a = sheet_refusal pitch words corners in PrintsIf (refusing a) a pitch words corners out

-- what is printed of a text
pub record Prints (bytes out : List ℕ) : Type 0 where
  pub of_fault : (line : ℕ) → Fault sheet bytes line → out ≡ answer_line (Line line)
  pub of_text : (s : Sheet) → TextOf sheet bytes s → PrintsSheet (pitch_said s) (words_said s) (corners_said s) out
