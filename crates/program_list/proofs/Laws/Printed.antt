-- What is printed of a text, by what was left of it in buffers that are long enough for every surface.
use mathlib.Core.Path.{◌≡◌, refl, sym, ap, subst, ◌∙◌}
use mathlib.Core.Bool.{Bool, true, false, true≢false}
use mathlib.Core.List.{List, []}
use Prim.Native.Nat.{ℕ, zero, suc, ◌<◌, ◌≤◌}
use native.Mathlib.Omega.{arith}
use lib.ListN.{length, get_or}
use Rattle.base_answers.specs.Numbers.{refusing}
use Rattle.base_answers.specs.declared.Answer.{Answer}
use Rattle.base_answers.specs.Answers.{Line}
use Rattle.base_limits.specs.Limits as limits
use Rattle.surface_rules.specs.Refusals.{refusal, sheet_refusal}
use Rattle.surface_rules.proofs.Laws.Thens.{buffers_enough}
use Rattle.surface_rules.proofs.Laws.Deciding.{buffers_pass}
use Rattle.surface_rules.proofs.Laws.Threes.{flat_length}
use Rattle.survey_grid.specs.Grid.{grid_of}
use Rattle.rim_rules.specs.Rims.{rim_list}
use Rattle.fill_fates.specs.Fates.{Fate}
use Rattle.fill_fates.specs.Course.{Course, ring_list}
use Rattle.patch_surface.specs.Outcome.{Buffers, Outcome, lent, needs, PatchesIf, Patches}
use Rattle.text_rules.specs.Text.{TextOf}
use Rattle.text_rules.specs.Fault.{Fault}
use Rattle.text_rules.proofs.Theorems.{not_both, fault_once}
use Rattle.text_sheet.specs.Sheet.{Sheet, sheet, pitch_said, words_said, corners_said}
use Rattle.text_sheet.proofs.Laws.Texts.{text_once}
use Rattle.program_lines.specs.Lines.{answer_line}
use Rattle.program_lines.specs.Listing.{listing}
use Rattle.program_list.specs.Lists.{PrintsIf, PrintsSheet, Prints}
use Rattle.program_list.specs.Workings.Printed.{Full, Printed}
use Rattle.program_list.proofs.Laws.Left.{course_listed, course_loops}

module _ {bytes : List ℕ} {s : Sheet} (t : TextOf sheet bytes s) (b : Buffers) (full : Full b) where
  abbrev pitch : ℕ
  pitch = pitch_said s

  abbrev words : List ℕ
  words = words_said s

  abbrev corners : List ℕ
  corners = corners_said s

  abbrev answers : Answer
  answers = refusal pitch words corners (lent b) (needs words corners)

  -- no buffer is too short
  all_long : answers ≡ sheet_refusal pitch words corners
  all_long = buffers_pass pitch words corners (lent b) (needs words corners) (buffers_enough (lent b) (needs words corners) at_each)
    where
      few_words : length words ≤ limits.words
      few_words = omega (arith, flat_length s.body.firsts, t.says.body_says.first_few)

      few_corners : length corners ≤ limits.corners
      few_corners = omega (arith, flat_length s.body.seconds, t.says.body_says.second_few)

      at_each : (i : ℕ) → i < 4 → get_or (needs words corners) i 0 ≤ get_or (lent b) i 0
      at_each zero l = omega (arith, few_words, full.grid_full)
      at_each (suc zero) l = omega (arith, few_corners, full.rings_full)
      at_each (suc (suc zero)) l = omega (arith, few_corners, full.records_full)
      at_each (suc (suc (suc zero))) l = omega (arith, few_corners, full.patches_full)
      at_each (suc (suc (suc (suc i)))) l = absurd (omega (arith, l))

  -- what is printed of what it says
  text_prints : (out : List ℕ) → PrintsIf (refusing answers) answers pitch words corners out → Prints bytes out
  text_prints out h =
      record {
        of_fault = λ line f. absurd (not_both sheet t f);
        of_text = λ r u. subst (λ (s : Sheet). PrintsSheet (pitch_said s) (words_said s) (corners_said s) out) (text_once t u) sheet_prints;
      }
    where
      sheet_prints : PrintsSheet pitch words corners out
      sheet_prints = subst (λ (a : Answer). PrintsIf (refusing a) a pitch words corners out) all_long h

  module _ (o : Outcome) (h : Patches pitch words corners b o) where
    pub text_refused : refusing o.answer ≡ true → Printed true bytes o
    text_refused r = text_prints (answer_line o.answer) (go (refusing answers) refl h)
      where
        go : (x : Bool) → refusing answers ≡ x → PatchesIf x answers pitch words corners b o → PrintsIf x answers pitch words corners (answer_line o.answer)
        go true e p = ap answer_line (ap (λ (q : Outcome). q.answer) p)
        go false e (fates, course, p) = absurd (true≢false (sym r ∙ ap (λ (q : Outcome). refusing q.answer) p))

    told : (fates : List Fate) (e : refusing answers ≡ false) (course : Course (grid_of pitch words) corners [] (rim_list (grid_of pitch words) corners) (ring_list corners) fates)
        → PrintsIf (refusing answers) answers pitch words corners (listing (course_listed pitch words corners b fates e course).listed.loops)
    told fates e course =
        subst (λ (x : Bool). PrintsIf x answers pitch words corners (listing (course_listed pitch words corners b fates e course).listed.loops)) (sym e)
        (fates, course, ap listing (course_loops pitch words corners b fates e course))

    pub text_done : refusing o.answer ≡ false → Printed false bytes o
    text_done r = go (refusing answers) refl h
      where
        go : (x : Bool) → refusing answers ≡ x → PatchesIf x answers pitch words corners b o → Printed false bytes o
        go true e p = absurd (true≢false (sym e ∙ ap (λ (q : Outcome). refusing q.answer) (sym p) ∙ r))
        go false e (fates, course, p) =
            subst (Printed false bytes) (sym p)
            ((course_listed pitch words corners b fates e course).listed, text_prints (listing (course_listed pitch words corners b fates e course).listed.loops) (told fates e course))

pub fault_prints : {bytes : List ℕ} {line : ℕ} → Fault sheet bytes line → Prints bytes (answer_line (Line line))
fault_prints f =
    record {
      of_fault = λ l g. ap (λ (x : ℕ). answer_line (Line x)) (fault_once sheet f g);
      of_text = λ s t. absurd (not_both sheet t f);
    }
