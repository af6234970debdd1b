-- Demand 1 of the texts that the programs take: any bytes are a text or have a fault; two texts judged; a text written again; and what is printed
-- into a buffer.
use mathlib.Core.Path.{◌≡◌, refl, sym, ap, ap₂, ◌∙◌, subst}
use mathlib.Core.Bool.{Bool, true, false, not, cond, true≢false}
use mathlib.Core.Logic.{inl, inr}
use mathlib.Core.List.{List, [], ◌∷◌, ◌++◌}
use Prim.Native.Nat.{ℕ, ◌+◌, ◌/◌}
use native.Mathlib.Omega.{arith}
use lib.Dec.{eqb, leb}
use lib.ListN.{length, length-append}
use borrow.Author.Tests.{leb-true, leb-false}
use Rattle.base_answers.specs.Numbers.{refusing}
use Rattle.base_answers.specs.declared.Answer.{Answer}
use Rattle.base_answers.specs.Answers.{Words, Corners, Buffer, Unnamed, States, Line, NoPitch}
use Rattle.base_answers.specs.declared.Answer.TheVariants.{Done}
use Rattle.base_types.specs.Counts.{threes}
use Rattle.base_types.specs.Pitches.{is_pitch}
use Rattle.base_limits.specs.Limits as limits
use Rattle.surface_rules.specs.Smallest.{least}
use Rattle.surface_rules.specs.Refusals.{refuse_at, then_check, count_refusal, unnamed_refusal, sheet_refusal}
use Rattle.surface_rules.specs.Threes.{Three, flat}
use Rattle.surface_rules.proofs.Laws.Smallest.{never_least}
use Rattle.surface_rules.proofs.Laws.Thens.{whole_count}
use Rattle.surface_rules.proofs.Laws.Threes.{flat_length}
use Rattle.loop_rules.specs.Loops.{loops}
use Rattle.survey_grid.specs.Grid.{grid_of}
use Rattle.rim_rules.specs.Rims.{rim_list}
use Rattle.fill_fates.specs.Course.{ring_list}
use Rattle.chart_rules.specs.Report.{report_of}
use Rattle.judge_rules.proofs.Theorems.{verdict_told}
use Rattle.text_rules.specs.Text.{TextOf, count, both, both_lines}
use Rattle.text_rules.specs.Fault.{Fault}
use Rattle.text_rules.proofs.Theorems.{fault_once}
use Rattle.text_rules.proofs.Laws.Lines.{lines_length}
use Rattle.text_sheet.specs.Sheet.{pitch=, points, triangles, head, Sheet, sheet, pitch_said, words_said, corners_said}
use Rattle.text_sheet.proofs.Laws.Texts as sheet_laws
use Rattle.text_read_set.specs.Set.{set}
use Rattle.text_read_set.proofs.Laws.Texts as set_laws
use Rattle.program_lines.specs.Lines.{answer_line}
use Rattle.program_lines.specs.Printout.{PrintOutcome}
use Rattle.program_rewrite.specs.Rewriting.{Rewrites}
use Rattle.program_judge.specs.Hears.{AnswersCounted, AnswersIf, Answers, Hears}
use Rattle.program_chart.specs.Charting as charted
use Rattle.demands.specs.Answers.{Check, Clear, Due, word_count, corner_count, unnamed_corner, state_count, sheet_checks, line_and_sheet, lines_before, Decided, Answered, PrintsAnswered}
use Rattle.demands.proofs.Checks.{answer_of, Refuses, due_is, due_refuses, is_due, last_of, counts_are, table_is, table_refuses, chosen, then_once}

-- the counts of what a text says are right
text_counts : {bytes : List ℕ} {s : Sheet} → TextOf sheet bytes s → count_refusal (length (words_said s)) (length (corners_said s)) ≡ Done
unfolding count_refusal
text_counts {bytes} {s} t =
    ap₂ (λ (x y : Bool). then_check (cond x Done Words) (cond y Done Corners))
    (ap (threes limits.words) (flat_length s.body.firsts) ∙ whole_count limits.words (length s.body.firsts) (omega (arith, t.says.body_says.first_few)))
    (ap (threes limits.corners) (flat_length s.body.seconds) ∙ whole_count limits.corners (length s.body.seconds) (omega (arith, t.says.body_says.second_few)))

-- so 4 to 8 are left where no buffer is lent
sheet_is : (pitch : ℕ) (words corners : List ℕ) → is_pitch pitch ≡ true → count_refusal (length words) (length corners) ≡ Done
    → sheet_refusal pitch words corners ≡ answer_of (sheet_checks pitch words corners)
unfolding least
sheet_is pitch words corners p c =
    let rest : Answer = answer_of (sheet_checks pitch words corners) in
    table_is pitch words corners [] []
    ∙ ap (λ (t : Bool). then_check (refuse_at (λ i. NoPitch) (least (λ i. not t) 1)) (answer_of (word_count words ∷ corner_count corners ∷ sheet_checks pitch words corners))) p
    ∙ sym (counts_are words corners rest)
    ∙ ap (λ (x : Answer). then_check x rest) c

sheet_refuses : (pitch : ℕ) (words corners : List ℕ) → Refuses (sheet_checks pitch words corners)
sheet_refuses pitch words corners = (table_refuses pitch words corners [] []).1.1.1.1

-- how many lines the text of a sheet has
lines_are : (s : Sheet) → length (sheet.lines s) ≡ lines_before s
unfolding head
lines_are s =
    length-append (head s.head) (both_lines points triangles s.body)
    ∙ ap₂ (λ (x y : ℕ). x + y) (go (eqb s.head 1)) (lines_length points triangles s.body ∙ omega arith)
  where
    go : (t : Bool) → length (cond t [] (count pitch= s.head ∷ [])) ≡ cond t 0 1
    go true = refl
    go false = refl

module _ (bytes patches : List ℕ) (a : Answer) (h : Hears bytes patches a) (s : Sheet) (t : TextOf sheet bytes s) where
  -- the set's wrong line is the first of the checks
  pub hearing_set_wrong : (line : ℕ) → Fault set patches line
      → Answered (line_and_sheet (lines_before s + line) (pitch_said s) (words_said s) (corners_said s)) (λ r. r) (λ r. r) a
  unfolding least
  hearing_set_wrong line f =
      chosen (line_and_sheet (lines_before s + line) (pitch_said s) (words_said s) (corners_said s)) (λ i. refl, sheet_refuses (pitch_said s) (words_said s) (corners_said s)) (Line (lines_before s + line)) refl (λ r. r) (λ r. r) Done a (λ r. refl) refl
      (h.of_set_fault s t line f ∙ ap (λ (n : ℕ). Line (n + line)) (lines_are s))

  module _ (ss : List ℕ) (us : List Three) (u : TextOf set patches (both ss us)) where
    abbrev hear_refusal : Answer
    hear_refusal = sheet_refusal (pitch_said s) (words_said s) (corners_said s)

    abbrev as_many : Bool
    as_many = eqb (length (loops (corners_said s))) (length ss)

    -- the answer, where 4 to 8 refuse or not, and then where 9 does or not
    hear_if : {t : Bool} → refusing hear_refusal ≡ t → AnswersIf t hear_refusal (pitch_said s) (words_said s) (corners_said s) ss (flat us) a
    unfolding Answers
    hear_if e = subst (λ (t : Bool). AnswersIf t hear_refusal (pitch_said s) (words_said s) (corners_said s) ss (flat us) a) e (h.of_set s t ss us u)

    hear_counted : {u : Bool} → refusing hear_refusal ≡ false → as_many ≡ u → AnswersCounted u (pitch_said s) (words_said s) (corners_said s) ss (flat us) a
    hear_counted e n = subst (λ (u : Bool). AnswersCounted u (pitch_said s) (words_said s) (corners_said s) ss (flat us) a) n (hear_if e)

    pub hearing : Answered (sheet_checks (pitch_said s) (words_said s) (corners_said s) ++ (state_count (corners_said s) ss ∷ [])) (λ r. r) (λ r. r) a
    hearing =
        then_once (sheet_checks (pitch_said s) (words_said s) (corners_said s)) (sheet_refuses (pitch_said s) (words_said s) (corners_said s))
        hear_refusal (sheet_is (pitch_said s) (words_said s) (corners_said s) t.says.head_valid (text_counts t)) as_many (States (length (loops (corners_said s)))) refl
        (λ r. r) (λ r. r) a (λ r. refl) hear_if (λ e n. hear_counted e n)
        (λ e n. verdict_told (grid_of (pitch_said s) (words_said s)) (corners_said s) [] 0 0 (rim_list (grid_of (pitch_said s) (words_said s)) (corners_said s)) (ring_list (corners_said s)) ss (flat us) a (hear_counted e n))

module _ (bytes out : List ℕ) (w : Rewrites bytes out) (s : Sheet) (t : TextOf sheet bytes s) where
  abbrev four_alone : List Check
  four_alone = unnamed_corner (words_said s) (corners_said s) ∷ []

  four_is : unnamed_refusal (corners_said s) (length (words_said s) / 3) ≡ answer_of four_alone
  four_is = last_of Unnamed (λ i. refl) (least (unnamed_corner (words_said s) (corners_said s)).finds (length (corners_said s)))

  pub rewriting_refused : (a : Answer) → Due four_alone a → out ≡ answer_line a
  rewriting_refused a (inl f) = w.of_unnamed s f.at t (four_is ∙ due_is four_alone (λ i. refl, tt) a (inl f) ∙ f.gives_it) ∙ ap answer_line (sym f.gives_it)
  rewriting_refused a (inr d) = absurd d.1

  pub rewriting : Clear (unnamed_corner (words_said s) (corners_said s)) → out ≡ bytes
  rewriting c = w.of_sheet s t (ap (refuse_at Unnamed) (never_least (unnamed_corner (words_said s) (corners_said s)).finds (length (corners_said s)) c))

module _ (bytes out : List ℕ) (w : charted.Prints bytes out) (s : Sheet) (t : TextOf sheet bytes s) where
  abbrev four_to_eight : List Check
  four_to_eight = sheet_checks (pitch_said s) (words_said s) (corners_said s)

  chart_is : sheet_refusal (pitch_said s) (words_said s) (corners_said s) ≡ answer_of four_to_eight
  chart_is = sheet_is (pitch_said s) (words_said s) (corners_said s) t.says.head_valid (text_counts t)

  pub charting_refused : (a : Answer) → Due four_to_eight a → out ≡ answer_line a
  charting_refused a d =
      let all = sheet_refuses (pitch_said s) (words_said s) (corners_said s) in
      w.of_text s t ∙ rw (chart_is ∙ due_is four_to_eight all a d, due_refuses four_to_eight all a d)

  pub charting_told : ((a : Answer) → Due four_to_eight a → ⊥) → out ≡ charted.report_text (report_of (grid_of (pitch_said s) (words_said s)) (corners_said s))
  charting_told none = go (refusing (answer_of four_to_eight)) refl
    where
      go : (b : Bool) → refusing (answer_of four_to_eight) ≡ b → out ≡ charted.report_text (report_of (grid_of (pitch_said s) (words_said s)) (corners_said s))
      go true e = absurd (none (answer_of four_to_eight) (is_due four_to_eight (sheet_refuses (pitch_said s) (words_said s) (corners_said s)) e))
      go false e = w.of_text s t ∙ rw (ap refusing chart_is ∙ e)

-- the buffer is the one check
pub printing : (IsDue : List ℕ → Type 0) → PrintsAnswered IsDue
printing IsDue most buffer o p =
    then_once [] tt Done refl (leb most (length buffer)) (Buffer 1) refl (λ a. record { answer = a; count = 0; bytes = buffer }) (λ q. q.answer) o (λ a. refl)
    (λ h. absurd (true≢false (sym h)))
    (λ h e. p.too_short (leb-false most (length buffer) e))
    (λ h e. ap (λ (q : PrintOutcome). refusing q.answer) (p.long_enough (leb-true most (length buffer) e)).2)

pub sheet_texts : Decided sheet
sheet_texts = record { text_or_fault = sheet_laws.text_or_fault; not_both = λ bytes s line t f. f.none s t; one_fault = λ bytes line other f g. fault_once sheet f g }

pub set_texts : Decided set
set_texts = record { text_or_fault = set_laws.text_or_fault; not_both = λ bytes s line t f. f.none s t; one_fault = λ bytes line other f g. fault_once set f g }
