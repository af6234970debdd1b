-- Demand 1 is kept by every outcome that an entry point may have.
use mathlib.Core.Path.{◌≡◌, refl, ap, ◌∙◌, subst}
use mathlib.Core.Bool.{Bool, true, false}
use mathlib.Core.List.{List, [], ◌∷◌, ◌++◌}
use Prim.Native.Nat.{ℕ, ◌+◌, ◌/◌}
use lib.Dec.{eqb}
use lib.ListN.{length}
use Rattle.base_answers.specs.Numbers.{refusing}
use Rattle.base_answers.specs.declared.Answer.{Answer}
use Rattle.base_answers.specs.Answers.{Buffer, Unnamed, States}
use Rattle.base_answers.specs.declared.Answer.TheVariants.{Done}
use Rattle.surface_rules.specs.Smallest.{least}
use Rattle.surface_rules.specs.Refusals.{then_check, count_refusal, buffer_refusal, unnamed_refusal, refusal}
use Rattle.surface_rules.specs.Buffers.{over}
use Rattle.surface_rules.specs.Threes.{Three, flat}
use Rattle.loop_rules.specs.Loops.{loops}
use Rattle.survey_grid.specs.Grid.{grid_of}
use Rattle.survey_rules.specs.Outcome as survey
use Rattle.rim_rules.specs.Rims.{rim_list}
use Rattle.fill_fates.specs.Course.{ring_list}
use Rattle.judge_rules.proofs.Theorems.{verdict_told}
use Rattle.patch_surface.specs.Outcome as patcher
use Rattle.chart_surface.specs.Outcome as chart
use Rattle.judge_surface.specs.Outcome.{JudgesCounted, JudgesIf, Judges}
use Rattle.text_rules.specs.Text.{TextOf, both}
use Rattle.text_sheet.specs.Sheet.{Sheet, sheet, pitch_said, words_said, corners_said, text}
use Rattle.text_read.specs.Outcome as intake
use Rattle.text_read_set.specs.Set.{set}
use Rattle.text_read_set.specs.Outcome as sets
use Rattle.text_write.specs.Outcome.{write_refusal, writes}
use Rattle.program_rewrite.specs.Rewriting.{Rewrites}
use Rattle.program_import.specs.Importing.{Imports}
use Rattle.program_judge.specs.Hears.{HearsLine}
use Rattle.program_list.specs.Lists.{Prints}
use Rattle.program_chart.specs.Charting as charted
use Rattle.demands.specs.Answers.{other_pitch, word_count, corner_count, short_buffer, unnamed_corner, state_count, table, write_checks, Answered, AnswersDemand}
use Rattle.demands.proofs.Checks.{answer_of, answer_by, answered, last_of, pitch_is, counts_are, table_is, table_refuses, chosen, then_once}
use Rattle.demands.proofs.Files.{sizing, reading_file, importing_refused, importing}
use Rattle.demands.proofs.Programs.{sheet_texts, set_texts, hearing_set_wrong, hearing, rewriting_refused, rewriting, charting_refused, charting_told, printing}

-- ---- the entry points

surveying : (pitch : ℕ) (words corners : List ℕ) (b : survey.Buffers)
    → Answered (table pitch words corners (survey.lent b) (survey.needs words corners)) (λ a. survey.refused a b) (λ o. o.answer) (survey.survey_of pitch words corners b)
unfolding survey.survey_of
surveying pitch words corners b =
    chosen (table pitch words corners (survey.lent b) (survey.needs words corners)) (table_refuses pitch words corners (survey.lent b) (survey.needs words corners))
    (refusal pitch words corners (survey.lent b) (survey.needs words corners)) (table_is pitch words corners (survey.lent b) (survey.needs words corners))
    (λ a. survey.refused a b) (λ o. o.answer) (survey.done pitch words corners b) _ (λ a. refl) refl refl

-- an outcome by the table alone
module _ (pitch : ℕ) (words corners lent needs : List ℕ) where
  abbrev table_refusal : Answer
  table_refusal = refusal pitch words corners lent needs

  by_table : {O : Type 0} (refused : Answer → O) (answer : O → Answer) (o : O) → ((a : Answer) → answer (refused a) ≡ a) → (refusing table_refusal ≡ true → o ≡ refused table_refusal)
      → (refusing table_refusal ≡ false → refusing (answer o) ≡ false) → Answered (table pitch words corners lent needs) refused answer o
  by_table refused answer o same if_refused if_not =
      let is = table_is pitch words corners lent needs in
      answered (table pitch words corners lent needs) (table_refuses pitch words corners lent needs) refused answer o same (λ h. if_refused (ap refusing is ∙ h) ∙ ap refused is)
      (λ h. if_not (ap refusing is ∙ h))

module _ (pitch : ℕ) (words corners : List ℕ) (b : patcher.Buffers) (o : patcher.Outcome) (p : patcher.Patches pitch words corners b o) where
  abbrev patch_refusal : Answer
  patch_refusal = refusal pitch words corners (patcher.lent b) (patcher.needs words corners)

  patch_if : {t : Bool} → refusing patch_refusal ≡ t → patcher.PatchesIf t patch_refusal pitch words corners b o
  patch_if e = subst (λ (t : Bool). patcher.PatchesIf t patch_refusal pitch words corners b o) e p

  patching : Answered (table pitch words corners (patcher.lent b) (patcher.needs words corners)) (λ a. patcher.refused a b) (λ x. x.answer) o
  patching =
      by_table pitch words corners (patcher.lent b) (patcher.needs words corners) (λ a. patcher.refused a b) (λ x. x.answer) o (λ a. refl) patch_if
      (λ h. let (fates, course, e) = patch_if h in ap (λ (x : patcher.Outcome). refusing x.answer) e)

module _ (pitch : ℕ) (words corners : List ℕ) (b : chart.Buffers) (o : chart.Outcome) (p : chart.Charts pitch words corners b o) where
  abbrev chart_refusal : Answer
  chart_refusal = refusal pitch words corners (chart.lent b) (chart.needs words corners)

  chart_if : {t : Bool} → refusing chart_refusal ≡ t → chart.ChartsIf t chart_refusal pitch words corners b o
  chart_if e = subst (λ (t : Bool). chart.ChartsIf t chart_refusal pitch words corners b o) e p

  charting : Answered (table pitch words corners (chart.lent b) (chart.needs words corners)) (λ a. chart.refused a b) (λ x. x.answer) o
  charting =
      by_table pitch words corners (chart.lent b) (chart.needs words corners) (λ a. chart.refused a b) (λ x. x.answer) o (λ a. refl) chart_if
      (λ h. let (fates, course, e) = chart_if h in ap (λ (x : chart.Outcome). refusing x.answer) e)

module _ (pitch : ℕ) (words corners states set : List ℕ) (b : survey.Buffers) (o : survey.Outcome) (j : Judges pitch words corners states set b o) where
  abbrev judge_refusal : Answer
  judge_refusal = refusal pitch words corners (survey.lent b) (survey.needs words corners)

  abbrev same_many : Bool
  same_many = eqb (length (loops corners)) (length states)

  -- the outcome, where 1 to 8 refuse or not, and then where 9 does or not
  judge_if : {t : Bool} → refusing judge_refusal ≡ t → JudgesIf t judge_refusal pitch words corners states set b o
  judge_if e = subst (λ (t : Bool). JudgesIf t judge_refusal pitch words corners states set b o) e j

  judge_counted : {s : Bool} → refusing judge_refusal ≡ false → same_many ≡ s → JudgesCounted s pitch words corners states set b o
  judge_counted e n = subst (λ (s : Bool). JudgesCounted s pitch words corners states set b o) n (judge_if e)

  judge_told : JudgesCounted true pitch words corners states set b o → refusing o.answer ≡ false
  judge_told (a, v, e) = ap (λ (x : survey.Outcome). refusing x.answer) e ∙ verdict_told (grid_of pitch words) corners [] 0 0 (rim_list (grid_of pitch words) corners) (ring_list corners) states set a v

  judging : Answered (table pitch words corners (survey.lent b) (survey.needs words corners) ++ (state_count corners states ∷ [])) (λ a. survey.refused a b) (λ x. x.answer) o
  judging =
      then_once (table pitch words corners (survey.lent b) (survey.needs words corners)) (table_refuses pitch words corners (survey.lent b) (survey.needs words corners))
      judge_refusal (table_is pitch words corners (survey.lent b) (survey.needs words corners)) same_many (States (length (loops corners))) refl
      (λ a. survey.refused a b) (λ x. x.answer) o (λ a. refl) judge_if (λ e n. judge_counted e n) (λ e n. judge_told (judge_counted e n))

-- ---- texts

-- 3 and 4 for a sheet's text
read_is : (lent needs words corners : List ℕ) → then_check (buffer_refusal lent needs) (unnamed_refusal corners (length words / 3)) ≡ answer_of (short_buffer lent needs ∷ unnamed_corner words corners ∷ [])
unfolding buffer_refusal
read_is lent needs words corners = ap (then_check (answer_by (short_buffer lent needs))) (last_of Unnamed (λ i. refl) (least (unnamed_corner words corners).finds (length corners)))

reading : (bytes words corners : List ℕ) (o : intake.ReadOutcome) → intake.Reads bytes words corners o → (s : Sheet) → TextOf sheet bytes s
    → Answered (short_buffer (length words ∷ length corners ∷ []) (length (words_said s) ∷ length (corners_said s) ∷ []) ∷ unnamed_corner (words_said s) (corners_said s) ∷ []) (λ a. intake.not_read a words corners) (λ p. p.answer) o
unfolding intake.deliver
reading bytes words corners o r s t =
    let lent : List ℕ = length words ∷ length corners ∷ [] in
    let needs : List ℕ = length (words_said s) ∷ length (corners_said s) ∷ [] in
    chosen (short_buffer lent needs ∷ unnamed_corner (words_said s) (corners_said s) ∷ []) (λ i. refl, (λ i. refl, tt)) (then_check (buffer_refusal lent needs) (unnamed_refusal (corners_said s) (length (words_said s) / 3)))
    (read_is lent needs (words_said s) (corners_said s)) (λ a. intake.not_read a words corners) (λ p. p.answer)
    (record { answer = Done; pitch = pitch_said s; word_count = length (words_said s); corner_count = length (corners_said s); words = over (words_said s) words; corners = over (corners_said s) corners }) o (λ a. refl) refl (r.of_text s t)

writing : (pitch : ℕ) (words corners buffer : List ℕ)
    → Answered (write_checks pitch words corners buffer) (λ a. record { answer = a; count = 0; bytes = buffer }) (λ p. p.answer) (writes pitch words corners buffer)
unfolding writes write_refusal
writing pitch words corners buffer =
    let lent : List ℕ = length buffer ∷ [] in
    let needs : List ℕ = length (text pitch words corners) ∷ [] in
    chosen (write_checks pitch words corners buffer) (λ i. refl, (λ i. refl, (λ i. refl, (λ i. refl, (λ i. refl, tt))))) (write_refusal pitch words corners buffer)
    (pitch_is pitch (then_check (count_refusal (length words) (length corners)) (then_check (buffer_refusal lent needs) (unnamed_refusal corners (length words / 3))))
    ∙ ap (then_check (answer_by (other_pitch pitch)))
    (counts_are words corners (then_check (buffer_refusal lent needs) (unnamed_refusal corners (length words / 3))) ∙ ap (λ (x : Answer). then_check (answer_by (word_count words)) (then_check (answer_by (corner_count corners)) x)) (read_is lent needs words corners)))
    (λ a. record { answer = a; count = 0; bytes = buffer }) (λ p. p.answer) (record { answer = Done; count = length (text pitch words corners); bytes = over (text pitch words corners) buffer }) (writes pitch words corners buffer) (λ a. refl) refl refl

reading_set : (bytes : List ℕ) (before : ℕ) (states corners : List ℕ) (o : sets.SetOutcome) → sets.ReadsSet bytes before states corners o → (ss : List ℕ) (ts : List Three) → TextOf set bytes (both ss ts)
    → Answered (short_buffer (length states ∷ length corners ∷ []) (length ss ∷ length (flat ts) ∷ []) ∷ []) (λ a. sets.not_read a states corners) (λ p. p.answer) o
unfolding sets.deliver buffer_refusal
reading_set bytes before states corners o r ss ts t =
    let lent : List ℕ = length states ∷ length corners ∷ [] in
    let needs : List ℕ = length ss ∷ length (flat ts) ∷ [] in
    chosen (short_buffer lent needs ∷ []) (λ i. refl, tt) (buffer_refusal lent needs) (last_of (λ i. Buffer (i + 1)) (λ i. refl) (least (short_buffer lent needs).finds (length needs))) (λ a. sets.not_read a states corners) (λ p. p.answer)
    (record { answer = Done; state_count = length ss; corner_count = length (flat ts); states = over ss states; corners = over (flat ts) corners }) o (λ a. refl) refl (r.of_text ss ts t)

pub answers_demand : AnswersDemand
answers_demand = record {
  surveying = surveying;
  patching = patching;
  charting = charting;
  judging = judging;
  sheet_texts = sheet_texts;
  set_texts = set_texts;
  reading_wrong = λ bytes words corners o r. r.of_fault;
  reading = reading;
  writing = writing;
  reading_set_wrong = λ bytes before states corners o r. r.of_fault;
  reading_set = reading_set;
  sizing = sizing;
  reading_file = reading_file;
  listing_wrong = λ bytes b o l. l.of_fault;
  listing = λ bytes b o l s t. patching (pitch_said s) (words_said s) (corners_said s) b o (l.of_text s t);
  hearing_wrong = λ bytes patches a h. h.of_fault;
  hearing_set_wrong = hearing_set_wrong;
  hearing = hearing;
  rewriting_wrong = λ bytes out w. w.of_fault;
  rewriting_refused = rewriting_refused;
  rewriting = rewriting;
  charting_wrong = λ bytes out w. w.of_fault;
  charting_refused = charting_refused;
  charting_told = charting_told;
  importing_refused = importing_refused;
  importing = importing;
  listing_printed = λ bytes. printing (Prints bytes);
  charting_printed = λ bytes. printing (charted.Prints bytes);
  hearing_printed = λ bytes patches. printing (HearsLine bytes patches);
  rewriting_printed = λ bytes. printing (Rewrites bytes);
  importing_printed = λ file. printing (Imports file);
}
