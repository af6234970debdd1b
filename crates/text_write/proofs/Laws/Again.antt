-- A sheet's text that was read is written again as the same text, into a buffer that has room for it.
use mathlib.Core.Path.{◌≡◌, refl, sym, ap, ap₂, ◌∙◌}
use mathlib.Core.List.{List, [], ◌∷◌}
use Prim.Native.Nat.{ℕ, ◌*◌, ◌/◌, ◌≤◌}
use native.Mathlib.Omega.{arith}
use lib.ListN.{length}
use Rattle.base_answers.specs.declared.Answer.TheVariants.{Done}
use Rattle.base_limits.specs.Limits as limits
use Rattle.surface_rules.specs.Buffers.{over}
use Rattle.surface_rules.specs.Refusals.{pitch_refusal, count_refusal, buffer_refusal, unnamed_refusal}
use Rattle.surface_rules.specs.Threes.{Three}
use Rattle.surface_rules.proofs.Laws.Thens.{whole_count, one_long}
use Rattle.surface_rules.proofs.Laws.Threes.{flat_length, threes_flat}
use Rattle.check_shape.proofs.Laws.Refusing.{counts_done}
use Rattle.text_rules.specs.Text.{TextOf}
use Rattle.text_rules.specs.Text as texts
use Rattle.text_sheet.specs.Sheet.{Sheet, sheet_of, sheet, pitch_said, words_said, corners_said, text}
use Rattle.text_write.specs.Outcome.{write_refusal, writes}

module _ {bytes : List ℕ} {s : Sheet} (t : TextOf sheet bytes s) (buffer : List ℕ) (h : length bytes ≤ length buffer) (n : unnamed_refusal (corners_said s) (length (words_said s) / 3) ≡ Done) where
  abbrev again : List ℕ
  again = text (pitch_said s) (words_said s) (corners_said s)

  same_text : again ≡ bytes
  same_text = ap₂ (λ (ps ts : List Three). texts.text sheet (sheet_of (pitch_said s) ps ts)) (threes_flat s.body.firsts) (threes_flat s.body.seconds) ∙ sym t.is

  pitched : pitch_refusal (pitch_said s) ≡ Done
  unfolding pitch_refusal
  pitched = rw t.says.head_valid

  counted : count_refusal (length (words_said s)) (length (corners_said s)) ≡ Done
  counted =
      let ps = s.body.firsts in
      let ts = s.body.seconds in
      ap₂ count_refusal (flat_length ps) (flat_length ts)
      ∙ sym (
      counts_done (3 * length ps) (3 * length ts) (sym (whole_count limits.words (length ps) (omega (arith, t.says.body_says.first_few)))) refl
      (sym (whole_count limits.corners (length ts) (omega (arith, t.says.body_says.second_few)))) refl
      )

  unrefused : write_refusal (pitch_said s) (words_said s) (corners_said s) buffer ≡ Done
  unfolding write_refusal
  unrefused =
      let b : buffer_refusal (length buffer ∷ []) (length again ∷ []) ≡ Done = one_long (length buffer) (length again) (omega (arith, ap length same_text)) in
      rw (pitched, counted, b, n)

  pub written_whole : writes (pitch_said s) (words_said s) (corners_said s) buffer ≡ record { answer = Done; count = length bytes; bytes = over bytes buffer }
  unfolding writes
  written_whole = rw unrefused (ap (λ (b : List ℕ). record { answer = Done; count = length b; bytes = over b buffer }) same_text)
