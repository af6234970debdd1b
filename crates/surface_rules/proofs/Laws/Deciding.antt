-- Which part of the table decides: the pitch and the counts where they are refused, and what comes after them where they are not.
use mathlib.Core.Path.{◌≡◌, sym, ap, ◌∙◌}
use mathlib.Core.Bool.{true, false}
use mathlib.Core.List.{List, []}
use Prim.Native.Nat.{ℕ}
use native.Mathlib.Omega.{arith}
use lib.ListN.{length}
use Rattle.base_answers.specs.Numbers.{refusing}
use Rattle.base_answers.specs.declared.Answer.{Answer}
use Rattle.base_answers.specs.Answers.{NoPitch}
use Rattle.base_answers.specs.declared.Answer.TheVariants.{Done}
use Rattle.base_types.specs.Pitches.{pitch_of, is_pitch}
use Rattle.base_types.specs.declared.Pitch.{Pitch}
use Rattle.base_types.proofs.Laws.Pitches.{pitch_is}
use Rattle.surface_rules.specs.Refusals.{then_check, pitch_refusal, count_refusal, buffer_refusal, content_refusal, refusal, sheet_refusal}
use Rattle.surface_rules.proofs.Laws.Thens.{then_refused, then_next, count_passing, content_passing, done_of, buffers_enough}

-- counts that are not refused pass
pub counts_pass : (words corners : ℕ) (a : Answer) → a ≡ count_refusal words corners → refusing a ≡ false → count_refusal words corners ≡ Done
counts_pass words corners a e f = done_of (count_refusal words corners) (count_passing words corners) (ap refusing (sym e) ∙ f)

-- a pitch is not refused, and any other number is
pub pitch_done : (p : Pitch) → pitch_refusal (pitch_of p) ≡ Done
unfolding pitch_refusal
pitch_done p = rw (pitch_is p)

pub pitch_refused : (n : ℕ) → is_pitch n ≡ false → pitch_refusal n ≡ NoPitch
unfolding pitch_refusal
pitch_refused n e = rw e

-- at one of the four pitches the counts decide, and then what comes after them
module _ (p : Pitch) (words corners lent needs : List ℕ) where
  after_pitch : (b : Answer) → then_check (pitch_refusal (pitch_of p)) b ≡ b
  after_pitch b = then_next (pitch_refusal (pitch_of p)) b (ap refusing (pitch_done p))

  pub count_decides : (a : Answer) → a ≡ count_refusal (length words) (length corners) → refusing a ≡ true → refusal (pitch_of p) words corners lent needs ≡ a
  unfolding refusal
  count_decides a e t = after_pitch _ ∙ then_refused (count_refusal (length words) (length corners)) _ (ap refusing (sym e) ∙ t) ∙ sym e

  pub content_decides : count_refusal (length words) (length corners) ≡ Done → (a : Answer) → a ≡ content_refusal (pitch_of p) words corners lent needs
      → refusal (pitch_of p) words corners lent needs ≡ a
  unfolding refusal
  content_decides c a e = after_pitch _ ∙ then_next (count_refusal (length words) (length corners)) _ (ap refusing c) ∙ sym e

module _ (pitch : ℕ) (words corners lent needs : List ℕ) where
  pub pitch_decides : is_pitch pitch ≡ false → refusal pitch words corners lent needs ≡ NoPitch
  unfolding refusal
  pitch_decides e = rw (pitch_refused pitch e)

  -- what is not refused after the counts passes
  pub content_pass : (a : Answer) → a ≡ content_refusal pitch words corners lent needs → refusing a ≡ false → a ≡ Done
  content_pass a e f = e ∙ done_of (content_refusal pitch words corners lent needs) (content_passing pitch words corners lent needs) (ap refusing (sym e) ∙ f)

  -- buffers that are long enough are as none at all
  pub buffers_pass : buffer_refusal lent needs ≡ Done → refusal pitch words corners lent needs ≡ sheet_refusal pitch words corners
  unfolding refusal content_refusal
  buffers_pass e =
      let n : buffer_refusal [] [] ≡ Done = buffers_enough [] [] (λ i l. absurd (omega arith)) in
      rw (e, n)
