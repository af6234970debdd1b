-- What is promised of a text leaves nothing open; what was left in buffers of the full size tells what is to be printed; and what the
-- program has no room for changes nothing.
use Rattle.std.specs.Prelude.{Result}
use mathlib.Core.Path.{◌≡◌, refl, sym, ap, subst, ◌∙◌}
use mathlib.Core.Bool.{Bool, true, false, true≢false}
use mathlib.Core.Logic.{inl, inr}
use mathlib.Core.List.{List, [], flatten}
use Prim.Native.Nat.{ℕ, ◌<◌, ◌≤◌}
use lib.IntN.{ℤ}
use lib.ListN.{length, take}
use Rattle.base_answers.specs.Numbers.{refusing}
use Rattle.base_answers.specs.declared.Answer.{Answer}
use Rattle.base_answers.specs.declared.Refusal.{Refusal}
use Rattle.base_limits.specs.Limits as limits
use Rattle.surface_rules.specs.Refusals.{sheet_refusal}
use Rattle.survey_grid.specs.Grid.{grid_of}
use Rattle.rim_rules.specs.Rims.{rim_list}
use Rattle.fill_fates.specs.Fates.{Fate}
use Rattle.fill_fates.specs.Course.{ring_list}
use Rattle.fill_fates.proofs.Theorems.{course_once}
use Rattle.patch_surface.specs.Outcome.{Buffers, Outcome}
use Rattle.patch_surface.proofs.Theorems.{patches_once}
use Rattle.text_rules.specs.Text.{TextOf}
use Rattle.text_rules.specs.Room.{ReadInto}
use Rattle.text_rules.proofs.Theorems.{Known}
use Rattle.text_rules.proofs.Laws.Cut.{room_text, room_fault}
use Rattle.text_sheet.specs.Sheet.{Sheet, sheet, pitch_said, words_said, corners_said}
use Rattle.text_sheet.proofs.Laws.Texts.{text_or_fault}
use Rattle.text_sheet.proofs.Theorems.{longest}
use Rattle.program_lines.specs.Listing.{Shown, listing}
use Rattle.program_lines.specs.Printout.{PrintOutcome, PrintsOver}
use Rattle.program_lines.proofs.Theorems.{print_once}
use Rattle.program_roll.specs.Sections.{Sections}
use Rattle.program_roll.proofs.Theorems.{sections_joined}
use Rattle.program_list.specs.Lists.{Lists, loops_of, PrintsIf, Prints}
use Rattle.program_list.specs.Workings.Printed.{Full, Printed}
use Rattle.program_list.specs.Workings.TakingUp.{TakesUp}
use Rattle.program_list.specs.declared.Taken.{Taken}
use Rattle.program_list.proofs.Laws.Printed.{text_refused, text_done, fault_prints}

-- two outcomes that are allowed are equal
pub lists_once : (bytes : List ℕ) (b : Buffers) (o p : Outcome) → Lists bytes b o → Lists bytes b p → o ≡ p
lists_once bytes b o p x y = go (text_or_fault bytes)
  where
    go : Known sheet bytes → o ≡ p
    go (inl t) = patches_once (pitch_said t.0) (words_said t.0) (corners_said t.0) b o p (x.of_text t.0 t.1) (y.of_text t.0 t.1)
    go (inr f) = x.of_fault f.0 f.1 ∙ sym (y.of_fault f.0 f.1)

-- two outputs that are allowed are equal
pub prints_once : (bytes out out' : List ℕ) → Prints bytes out → Prints bytes out' → out ≡ out'
prints_once bytes out out' x y = go (text_or_fault bytes)
  where
    of_text : (pitch : ℕ) (words corners : List ℕ) (t : Bool) (a : Answer) → PrintsIf t a pitch words corners out → PrintsIf t a pitch words corners out' → out ≡ out'
    of_text pitch words corners true a p q = p ∙ sym q
    of_text pitch words corners false a p q =
        p.2
        ∙ ap (λ (fs : List Fate). listing (loops_of (grid_of pitch words) corners fs)) (course_once (grid_of pitch words) corners [] (rim_list (grid_of pitch words) corners) (ring_list corners) p.0 q.0 p.1 q.1)
        ∙ sym q.2

    go : Known sheet bytes → out ≡ out'
    go (inl t) =
        let s = t.0 in
        let a = sheet_refusal (pitch_said s) (words_said s) (corners_said s) in
        of_text (pitch_said s) (words_said s) (corners_said s) (refusing a) a (x.of_text s t.1) (y.of_text s t.1)
    go (inr f) = x.of_fault f.0 f.1 ∙ sym (y.of_fault f.0 f.1)

-- so two outcomes of printing into a buffer that are allowed are equal
pub prints_over_once : {most : ℕ} {bytes buffer : List ℕ} {o p : PrintOutcome} → PrintsOver most (Prints bytes) buffer o → PrintsOver most (Prints bytes) buffer p → o ≡ p
prints_over_once {bytes = bytes} x y = print_once (prints_once bytes) x y

-- what was left in buffers of the full size tells what is to be printed
pub lists_printed : (bytes : List ℕ) (b : Buffers) (o : Outcome) → Full b → Lists bytes b o → Printed (refusing o.answer) bytes o
lists_printed bytes b o full x = go (refusing o.answer) refl (text_or_fault bytes)
  where
    go : (r : Bool) → refusing o.answer ≡ r → Known sheet bytes → Printed r bytes o
    go true r (inl t) = text_refused t.1 b full o (x.of_text t.0 t.1) r
    go true r (inr f) = subst (Printed true bytes) (sym (x.of_fault f.0 f.1)) (fault_prints f.1)
    go false r (inl t) = text_done t.1 b full o (x.of_text t.0 t.1) r
    go false r (inr f) = absurd (true≢false (ap (λ (q : Outcome). refusing q.answer) (sym (x.of_fault f.0 f.1)) ∙ r))

-- so of a listing's sections, joined
pub sections_printed : (bytes : List ℕ) (loops : List Shown) (sections : List (List ℕ)) → Prints bytes (listing loops) → Sections loops (length loops) sections → Prints bytes (flatten sections)
sections_printed bytes loops sections p q = subst (Prints bytes) (sym (sections_joined loops sections q)) p

-- what is right for the bytes in a room that is longer than the longest text is right for the input that was read into it
no_longer : (bytes : List ℕ) (s : Sheet) → TextOf sheet bytes s → length bytes ≤ limits.sheet_text
no_longer bytes s t = longest t

pub takes_front : {room input : List ℕ} {n : ℕ} {b : Buffers} {r : Result Taken Refusal} {corners turns : List ℕ} {grid : List ℤ} → limits.sheet_text < length room → ReadInto room n input
    → TakesUp (take n room) b r corners turns grid → TakesUp input b r corners turns grid
takes_front roomy held p =
    record {
      of_fault = λ line f. p.of_fault line (room_fault no_longer roomy held f);
      of_text = λ s t. p.of_text s (room_text no_longer roomy held t);
    }

pub prints_front : {room input out : List ℕ} {n : ℕ} → limits.sheet_text < length room → ReadInto room n input → Prints (take n room) out → Prints input out
prints_front roomy held p =
    record {
      of_fault = λ line f. p.of_fault line (room_fault no_longer roomy held f);
      of_text = λ s t. p.of_text s (room_text no_longer roomy held t);
    }
