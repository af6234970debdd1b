-- Putting the text of a sheet, without a line of a pitch, into a room for any text: nothing refuses it.
use Rattle.std.specs.Prelude.{Option, Some, None, Result, Ok, Err}
use Rattle.std.specs.Result.{result_unwrap_or}
use mathlib.Core.Path.{◌≡◌, refl, sym, ap, ap₂, ◌∙◌}
use mathlib.Core.Bool.{true≢false}
use mathlib.Core.List.{List}
use Prim.Native.Nat.{ℕ, ◌/◌, ◌^◌, ◌<◌}
use native.Mathlib.Omega.{arith}
use lib.ListN.{length, get_or}
use borrow.Author.Tests.{leb-false}
use Rattle.base_answers.specs.Numbers.{refusing}
use Rattle.base_answers.specs.declared.Refusal.{Refusal}
use Rattle.base_answers.specs.Answers.{Unnamed}
use Rattle.base_answers.specs.declared.Answer.TheVariants.{Done}
use Rattle.base_types.specs.declared.Pitch.TheVariants.{One}
use Rattle.base_types.proofs.Laws.Pitches.{pitch_is}
use Rattle.base_limits.specs.Limits as limits
use Rattle.surface_rules.specs.Refusals.{unnamed, refuse_at, count_refusal, unnamed_refusal}
use Rattle.surface_rules.proofs.Laws.Smallest.{least_never}
use Rattle.surface_rules.proofs.Laws.Thens.{counts_fit}
use Rattle.text_sheet.specs.Sheet.{text}
use Rattle.text_sheet.proofs.Theorems.{text_of, longest}
use Rattle.text_write.specs.Outcome.{WriteOutcome, write_outcome, writes}
use Rattle.text_write.proofs.Laws.Again.{written_whole}
use Rattle.program_import.specs.Workings.Putting.{PutRoom, Puts}

none_found : (f : Option ℕ) → refuse_at Unnamed f ≡ Done → f ≡ None
none_found None e = refl
none_found (Some i) e = absurd (true≢false (ap refusing e))

-- corners that all name a point are low enough for a text
named_few : (words corners : List ℕ) → count_refusal (length words) (length corners) ≡ Done → unnamed_refusal corners (length words / 3) ≡ Done → (i : ℕ) → i < length corners → get_or corners i 0 < limits.points
unfolding unnamed
named_few words corners d u i h =
    let l = leb-false (length words / 3) (get_or corners i 0) (least_never (unnamed corners (length words / 3)) (length corners) (none_found _ u) i h) in
    omega (arith, l, (counts_fit (length words) (length corners) d).few_words)

pub text_put : {words corners room : List ℕ} (w : Result ℕ Refusal) {r : ℕ} {after : List ℕ} → PutRoom words corners room → ((i : ℕ) → get_or words i 0 < 2 ^ 32)
    → write_outcome w after ≡ writes 1 words corners room → r ≡ result_unwrap_or w 0 → Puts words corners room r after
text_put {words} {corners} {room} w {r} {after} p small o k =
    let t = text_of 1 words corners (pitch_is One) p.counted (λ i _. small i) (named_few words corners p.counted p.named) in
    let n = ap₂ (λ (ws cs : List ℕ). unnamed_refusal cs (length ws / 3)) t.1 t.2 ∙ p.named in
    let z = o ∙ ap₂ (λ (ws cs : List ℕ). writes 1 ws cs room) (sym t.1) (sym t.2) ∙ written_whole t.0 room (omega (arith, longest t.0, p.roomy)) n in
    record {
      out = text 1 words corners;
      of_sheet = t.0;
      many = k ∙ counted w ∙ ap (λ (x : WriteOutcome). x.count) z;
      lies = laid_here w ∙ ap (λ (x : WriteOutcome). x.bytes) z;
    }
  where
    counted : (v : Result ℕ Refusal) → result_unwrap_or v 0 ≡ (write_outcome v after).count
    counted (Ok n) = refl
    counted (Err f) = refl

    laid_here : (v : Result ℕ Refusal) → after ≡ (write_outcome v after).bytes
    laid_here (Ok n) = refl
    laid_here (Err f) = refl
