-- What reading counts is no more than its buffers have.
use mathlib.Core.Path.{◌≡◌, refl, sym, subst}
use mathlib.Core.Bool.{Bool, true, false}
use mathlib.Core.Logic.{inl, inr}
use mathlib.Core.List.{List, [], ◌∷◌}
use Prim.Native.Nat.{ℕ, ◌/◌, ◌≤◌}
use native.Mathlib.Omega.{arith}
use lib.ListN.{length}
use Rattle.base_answers.specs.Numbers.{refusing}
use Rattle.surface_rules.specs.Buffers.{over}
use Rattle.surface_rules.specs.Refusals.{then_check, buffer_refusal, unnamed_refusal}
use Rattle.surface_rules.proofs.Laws.Over.{front_in}
use Rattle.text_rules.proofs.Theorems.{Known}
use Rattle.text_sheet.specs.Sheet.{sheet, pitch_said, words_said, corners_said}
use Rattle.text_sheet.proofs.Laws.Texts.{text_or_fault}
use Rattle.text_read.specs.Outcome.{ReadOutcome, deliver, Reads}

pub record Within (o : ReadOutcome) : Type 0 where
  pub words_in : o.word_count ≤ length o.words
  pub corners_inside : o.corner_count ≤ length o.corners

deliver_within : (pitch : ℕ) (ws cs words corners : List ℕ) → Within (deliver pitch ws cs words corners)
unfolding deliver
deliver_within pitch ws cs words corners = go (refusing (then_check (buffer_refusal (length words ∷ length corners ∷ []) (length ws ∷ length cs ∷ [])) (unnamed_refusal cs (length ws / 3)))) refl
  where
    go : (t : Bool) → refusing (then_check (buffer_refusal (length words ∷ length corners ∷ []) (length ws ∷ length cs ∷ [])) (unnamed_refusal cs (length ws / 3))) ≡ t → Within (deliver pitch ws cs words corners)
    go true e = rw e (record { words_in = omega arith; corners_inside = omega arith })
    go false e = rw e (record { words_in = front_in ws words (over ws words) (length ws) refl refl; corners_inside = front_in cs corners (over cs corners) (length cs) refl refl })

pub read_within : (bytes words corners : List ℕ) (o : ReadOutcome) → Reads bytes words corners o → Within o
read_within bytes words corners o r = go (text_or_fault bytes)
  where
    go : Known sheet bytes → Within o
    go (inl t) = subst Within (sym (r.of_text t.0 t.1)) (deliver_within (pitch_said t.0) (words_said t.0) (corners_said t.0) words corners)
    go (inr f) = subst Within (sym (r.of_fault f.0 f.1)) (record { words_in = omega arith; corners_inside = omega arith })
