-- What writing promises beyond its one equation: it has one outcome, what it writes is the text of its pitch, words and corners, and a
-- number that is no pitch is refused before all else.
use Rattle.std.specs.Prelude.{Option, Some, None}
use mathlib.Core.Path.{◌≡◌, refl, sym, ap, ◌∙◌}
use mathlib.Core.Bool.{Bool, true, false, true≢false}
use mathlib.Core.List.{List, [], ◌∷◌}
use Prim.Native.Nat.{ℕ, ◌/◌, ◌^◌, ◌<◌}
use native.Mathlib.Omega.{arith}
use lib.ListN.{length, get_or, take, drop}
use lib.Seq.{take-append_seam}
use borrow.Author.Tests.{leb-false}
use Rattle.base_answers.specs.Numbers.{refusing}
use Rattle.base_answers.specs.Answers.{Unnamed, NoPitch}
use Rattle.base_answers.specs.declared.Answer.TheVariants.{Done}
use Rattle.base_types.specs.Pitches.{is_pitch}
use Rattle.base_limits.specs.Limits as limits
use Rattle.surface_rules.specs.Smallest.{least}
use Rattle.surface_rules.specs.Buffers.{over}
use Rattle.surface_rules.specs.Refusals.{unnamed, then_check, refuse_at, pitch_refusal, count_refusal, buffer_refusal, unnamed_refusal}
use Rattle.surface_rules.specs.Threes.{threes}
use Rattle.surface_rules.proofs.Laws.Smallest.{least_never}
use Rattle.surface_rules.proofs.Laws.Deciding.{pitch_refused}
use Rattle.surface_rules.proofs.Laws.Sound.{next_of}
use Rattle.surface_rules.proofs.Laws.Thens.{counts_fit, count_passing, done_of}
use Rattle.text_rules.specs.Text.{TextOf}
use Rattle.text_sheet.specs.Sheet.{sheet_of, sheet, text}
use Rattle.text_sheet.proofs.Theorems.{text_of}
use Rattle.text_write.specs.Outcome.{WriteOutcome, write_refusal, writes}
use Rattle.text_write.proofs.Laws.Whole.{pitch_named}

-- the equation leaves one outcome
pub writes_once : (pitch : ℕ) (words corners buffer : List ℕ) (o p : WriteOutcome) → o ≡ writes pitch words corners buffer → p ≡ writes pitch words corners buffer → o ≡ p
writes_once pitch words corners buffer o p e f = e ∙ sym f

-- "a pitch other than 1, 2, 5 or 10" is answered with 17 whatever else is wrong, and nothing is written
pub no_pitch_first : (pitch : ℕ) (words corners buffer : List ℕ) → is_pitch pitch ≡ false → writes pitch words corners buffer ≡ record { answer = NoPitch; count = 0; bytes = buffer }
unfolding writes write_refusal
no_pitch_first pitch words corners buffer e = rw (pitch_refused pitch e)

-- ---- where the answer is `Done`, each check was passed

all_named : (found : Option ℕ) → refusing (refuse_at Unnamed found) ≡ false → found ≡ None
all_named None h = refl
all_named (Some i) h = absurd (true≢false h)

module _ (pitch : ℕ) (words corners buffer : List ℕ) where
  passes : (writes pitch words corners buffer).answer ≡ Done → refusing (write_refusal pitch words corners buffer) ≡ false
  unfolding writes
  passes d = go (refusing (write_refusal pitch words corners buffer)) refl
    where
      go : (t : Bool) → refusing (write_refusal pitch words corners buffer) ≡ t → refusing (write_refusal pitch words corners buffer) ≡ false
      go true e = ap refusing (rw e at d)
      go false e = e

  done_bytes : (writes pitch words corners buffer).answer ≡ Done → take (writes pitch words corners buffer).count (writes pitch words corners buffer).bytes ≡ text pitch words corners
  unfolding writes over
  done_bytes d = rw (passes d) (take-append_seam (text pitch words corners) (drop (length (text pitch words corners)) buffer))

  pub checks : (writes pitch words corners buffer).answer ≡ Done
      → (is_pitch pitch ≡ true) × (count_refusal (length words) (length corners) ≡ Done) × (least (unnamed corners (length words / 3)) (length corners) ≡ None)
  unfolding write_refusal
  checks d =
      let room = buffer_refusal (length buffer ∷ []) (length (text pitch words corners) ∷ []) in
      let rest = then_check room (unnamed_refusal corners (length words / 3)) in
      let p = next_of (pitch_refusal pitch) (then_check (count_refusal (length words) (length corners)) rest) (passes d) in
      let a = next_of (count_refusal (length words) (length corners)) rest p.second in
      let b = next_of room (unnamed_refusal corners (length words / 3)) a.second in (
        pitch_named pitch p.first,
        done_of (count_refusal (length words) (length corners)) (count_passing (length words) (length corners)) a.first,
        all_named (least (unnamed corners (length words / 3)) (length corners)) b.second,
      )

  corners_small : (writes pitch words corners buffer).answer ≡ Done → (i : ℕ) → i < length corners → get_or corners i 0 < limits.points
  unfolding unnamed
  corners_small d i h =
      let c = checks d in
      let l : get_or corners i 0 < length words / 3 = leb-false (length words / 3) (get_or corners i 0) (least_never (unnamed corners (length words / 3)) (length corners) c.2 i h) in
      omega (arith, (counts_fit (length words) (length corners) c.1).few_words)

  -- what is written is the text, and where the words have 32 bits it is a text of them
  pub written_text : (o : WriteOutcome) → o ≡ writes pitch words corners buffer → o.answer ≡ Done
      → (take o.count o.bytes ≡ text pitch words corners)
      × (((i : ℕ) → i < length words → get_or words i 0 < 2 ^ 32) → TextOf sheet (take o.count o.bytes) (sheet_of pitch (threes words) (threes corners)))
  written_text o e d =
      let f : (writes pitch words corners buffer).answer ≡ Done = ap (λ (p : WriteOutcome). p.answer) (sym e) ∙ d in
      let t : take o.count o.bytes ≡ text pitch words corners = ap (λ (p : WriteOutcome). take p.count p.bytes) e ∙ done_bytes f in
      (t, λ w. rw t (text_of pitch words corners (checks f).0 (checks f).1 w (corners_small f)).0)
