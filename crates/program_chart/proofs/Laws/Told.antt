-- What is put of the report of a text's sheet is what is to be printed of the text.
use mathlib.Core.Path.{◌≡◌, refl, sym, ap, ◌∙◌}
use mathlib.Core.Bool.{Bool, true, false, true≢false}
use mathlib.Core.Logic.{inl, inr}
use mathlib.Core.List.{List, [], ◌∷◌, ◌++◌, map, flatten}
use Prim.Native.Nat.{ℕ, suc, ◌+◌, ◌*◌, ◌<◌, ◌≤◌}
use native.Mathlib.Omega.{arith}
use lib.ListN.{length, get_or}
use Rattle.base_answers.specs.Numbers.{refusing}
use Rattle.base_answers.specs.declared.Answer.{Answer}
use Rattle.base_answers.specs.Answers.{Line}
use Rattle.base_answers.specs.declared.Answer.TheVariants.{Done}
use Rattle.base_limits.specs.Limits as limits
use Rattle.surface_rules.specs.Buffers.{over}
use Rattle.surface_rules.specs.Edges.{Sound}
use Rattle.surface_rules.specs.Refusals.{sheet_refusal}
use Rattle.surface_rules.proofs.Laws.Sound.{passed, passed_sound}
use Rattle.surface_rules.proofs.Laws.Thens.{counts_fit}
use Rattle.survey_grid.specs.Grid.{grid_of}
use Rattle.chart_rules.specs.Report.{nothing, entry_in, entry_numbers, report_of}
use Rattle.chart_rules.specs.declared.Entry.{Entry}
use Rattle.chart_rules.proofs.Laws.Reading.{entry_found}
use Rattle.chart_surface.specs.Workings.Charting.{Alone, alone_if, alone_of}
use Rattle.text_rules.proofs.Theorems.{Known}
use Rattle.text_sheet.specs.Sheet.{sheet, pitch_said, words_said, corners_said}
use Rattle.text_sheet.proofs.Laws.Texts.{text_or_fault}
use Rattle.program_lines.specs.Lines.{line, answer_line, entries=}
use Rattle.program_chart.specs.Charting.{entry_line, report_text, text_if, text_of, Prints}
use Rattle.program_chart.specs.Workings.Put.{entries_from, lines_from, put_text, put_alone}
use Rattle.program_chart.specs.Workings.TextCharted.{ChartsText}
use Rattle.program_chart.proofs.Laws.Widths.{report_most, entries_within, report_short}

-- the entries that are read out of a buffer are those that were laid into it
read_from_lem : (es : List Entry) (buffer : List ℕ) (i : ℕ) → ((k : ℕ) → k < length es → entry_in buffer (i + k) ≡ get_or es k nothing) → entries_from buffer i (length es) ≡ es
unfolding entries_from
read_from_lem [] buffer i h = refl
read_from_lem (e ∷ es) buffer i h =
    let z : i + 0 ≡ i = omega arith in
    let first : entry_in buffer i ≡ e = ap (entry_in buffer) (sym z) ∙ h 0 (omega arith) in
    let rest = read_from_lem es buffer (i + 1) (λ k l. let s : i + 1 + k ≡ i + suc k = omega arith in ap (entry_in buffer) s ∙ h (suc k) (omega arith)) in
    rw (first, rest)

report_told : (es : List Entry) (buffer : List ℕ) → 2 * length es ≤ length buffer → put_text (over (entry_numbers es) buffer) Done (length es) ≡ report_text es
unfolding put_text report_text lines_from
report_told es buffer h =
    ap (λ (l : List Entry). answer_line Done ++ (line entries= (length es ∷ []) ++ flatten (map entry_line l)))
    (read_from_lem es (over (entry_numbers es) buffer) 0 (λ k l. let z : 0 + k ≡ k = omega arith in ap (entry_in (over (entry_numbers es) buffer)) z ∙ entry_found es buffer k l h))

refusal_told : (report : List ℕ) (a : Answer) (n : ℕ) → refusing a ≡ true → put_text report a n ≡ answer_line a
unfolding put_text
refusal_told report a n e = rw e

module _ (pitch : ℕ) (words corners report : List ℕ) (full : 4 * limits.triangles ≤ length report) where
  abbrev answers : Answer
  answers = sheet_refusal pitch words corners

  abbrev entries : List Entry
  entries = report_of (grid_of pitch words) corners

  -- where nothing is refused, the surface is sound, and has no more corners than it may
  sound : refusing answers ≡ false → Sound corners
  sound e = passed_sound pitch words corners [] [] (passed pitch words corners [] [] e)

  few : refusing answers ≡ false → length corners ≤ limits.corners
  few e = (counts_fit (length words) (length corners) (passed pitch words corners [] [] e).counts).few_corners

  put_if : (t : Bool) → refusing answers ≡ t → put_alone (alone_if t answers pitch words corners report) ≡ text_if t answers pitch words corners
  put_if true e = refusal_told report answers 0 e
  put_if false e = report_told entries report (omega (arith, entries_within (grid_of pitch words) corners (sound e) (few e), full))

  pub sheet_told : {o : Alone} → o ≡ alone_of pitch words corners report → put_alone o ≡ text_of pitch words corners
  sheet_told q = ap put_alone q ∙ put_if (refusing answers) refl

  pub sheet_short : {o : Alone} → o ≡ alone_of pitch words corners report → refusing o.answer ≡ false → length (put_alone o) ≤ report_most
  sheet_short {o} q r = go (refusing answers) refl (ap (λ (p : Alone). refusing p.answer) (sym q) ∙ r)
    where
      go : (t : Bool) → refusing answers ≡ t → refusing (alone_if t answers pitch words corners report).answer ≡ false → length (put_alone o) ≤ report_most
      go true e f = absurd (true≢false (sym e ∙ f))
      go false e f =
          let z : put_alone o ≡ report_text entries = sheet_told q ∙ ap (λ (t : Bool). text_if t answers pitch words corners) e in
          omega (arith, ap length z, report_short (grid_of pitch words) corners (sound e) (few e))

-- so of every text
module _ {bytes report : List ℕ} {o : Alone} (k : ChartsText bytes report o) (full : 4 * limits.triangles ≤ length report) where
  pub charts_told : Prints bytes (put_text o.report o.answer o.entries)
  charts_told = record {
    of_fault = λ line f. ap put_alone (k.of_fault line f) ∙ refusal_told report (Line line) 0 refl;
    of_text = λ s t. sheet_told (pitch_said s) (words_said s) (corners_said s) report full (k.of_text s t);
  }

  pub charts_short : refusing o.answer ≡ false → length (put_text o.report o.answer o.entries) ≤ report_most
  charts_short r = go (text_or_fault bytes)
    where
      go : Known sheet bytes → length (put_alone o) ≤ report_most
      go (inl t) = let s = t.0 in sheet_short (pitch_said s) (words_said s) (corners_said s) report full (k.of_text s t.1) r
      go (inr f) = absurd (true≢false (ap (λ (p : Alone). refusing p.answer) (sym (k.of_fault f.0 f.1)) ∙ r))
