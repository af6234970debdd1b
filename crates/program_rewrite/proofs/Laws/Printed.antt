-- What is printed is what is promised, whether reading refused or not.
use mathlib.Core.Path.{◌≡◌, refl, sym, ap, ap₂, ◌∙◌}
use mathlib.Core.Bool.{Bool, true, false, true≢false}
use mathlib.Core.List.{List}
use Prim.Native.Nat.{ℕ, ◌≤◌}
use lib.ListN.{length, take}
use Rattle.std.specs.Prelude.{Result, Ok, Err}
use Rattle.base_answers.specs.Numbers.{refusing}
use Rattle.base_answers.specs.declared.Answer.TheVariants.{Refused}
use Rattle.base_answers.specs.declared.Refusal.{Refusal}
use Rattle.base_limits.specs.Limits as limits
use Rattle.surface_rules.specs.Buffers.{over}
use Rattle.surface_rules.proofs.Laws.Over.{start_of}
use Rattle.text_rules.specs.Text.{TextOf}
use Rattle.text_sheet.specs.Sheet.{Sheet, sheet, pitch_said, words_said, corners_said, text}
use Rattle.text_read.specs.declared.ReadSheet.{ReadSheet}
use Rattle.text_read.specs.Outcome.{ReadOutcome, read_outcome, Reads}
use Rattle.text_write.specs.Outcome.{WriteOutcome, write_outcome, write_refusal, writes}
use Rattle.text_write.proofs.Laws.Again.{written_whole}
use Rattle.program_lines.specs.Lines.{answer_line}
use Rattle.program_rewrite.specs.Rewriting.{Rewrites, printed}
use Rattle.program_rewrite.proofs.Laws.Delivered.{read_whole, read_unnamed}

-- what writing leaves: the buffer as it was, or what is printed laid over it
module _ (pitch : ℕ) (words corners before : List ℕ) where
  kept : refusing (writes pitch words corners before).answer ≡ true → (writes pitch words corners before).bytes ≡ before
  unfolding writes
  kept h = go (refusing (write_refusal pitch words corners before)) refl
    where
      go : (x : Bool) → refusing (write_refusal pitch words corners before) ≡ x → (writes pitch words corners before).bytes ≡ before
      go true k = rw k refl
      go false k = absurd (true≢false (sym (rw k at h)))

  lies : refusing (writes pitch words corners before).answer ≡ false
      → ((writes pitch words corners before).bytes ≡ over (printed (writes pitch words corners before)) before) × ((writes pitch words corners before).count ≡ length (printed (writes pitch words corners before)))
  unfolding writes printed
  lies h = go (refusing (write_refusal pitch words corners before)) refl
    where
      whole : take (length (text pitch words corners)) (over (text pitch words corners) before) ≡ text pitch words corners
      whole = start_of (text pitch words corners) before (length (text pitch words corners)) refl

      go : (x : Bool) → refusing (write_refusal pitch words corners before) ≡ x
          → ((writes pitch words corners before).bytes ≡ over (printed (writes pitch words corners before)) before) × ((writes pitch words corners before).count ≡ length (printed (writes pitch words corners before)))
      go true k = absurd (true≢false (sym k ∙ (rw k at h)))
      go false k = rw (k, whole) (refl, refl)

-- after writing
module _ (pitch : ℕ) (words corners before : List ℕ) {w : Result ℕ Refusal} (middle : List ℕ) (e : write_outcome w middle ≡ writes pitch words corners before) where
  module _ {f : Refusal} (h : w ≡ Err f) where
    met : refusing (writes pitch words corners before).answer ≡ true
    met = rw (← e, h) refl

    refusal_printed : printed (writes pitch words corners before) ≡ answer_line (Refused f)
    unfolding printed
    refusal_printed = rw (← e, h) refl

    pub refused_lies : {r : ℕ} {after : List ℕ} → after ≡ over (answer_line (Refused f)) middle → r ≡ length (answer_line (Refused f))
        → (after ≡ over (printed (writes pitch words corners before)) before) × (r ≡ length (printed (writes pitch words corners before)))
    refused_lies p q =
        let k : write_outcome (Err f) middle ≡ writes pitch words corners before = rw h at e in
        let m : middle ≡ before = ap (λ (o : WriteOutcome). o.bytes) k ∙ kept pitch words corners before met in
        (p ∙ ap₂ over (sym refusal_printed) m, q ∙ ap length (sym refusal_printed))

  pub written_lies : {n : ℕ} → w ≡ Ok n → (middle ≡ over (printed (writes pitch words corners before)) before) × (n ≡ length (printed (writes pitch words corners before)))
  written_lies h =
      let k : write_outcome (Ok _) middle ≡ writes pitch words corners before = rw h at e in
      let l = lies pitch words corners before (rw (← k) refl) in
      (ap (λ (o : WriteOutcome). o.bytes) k ∙ l.0, ap (λ (o : WriteOutcome). o.count) k ∙ l.1)

-- after reading into buffers of a surface's full size
module _ {bytes words corners : List ℕ} {w : Result ReadSheet Refusal} (words' corners' : List ℕ) (r : Reads bytes words corners (read_outcome w words' corners'))
    (hw : limits.words ≤ length words) (hc : limits.corners ≤ length corners) where
  module _ {f : Refusal} (h : w ≡ Err f) where
    answer_is : {p : ReadOutcome} → read_outcome w words' corners' ≡ p → Refused f ≡ p.answer
    answer_is {p} e =
        let k : read_outcome (Err f) words' corners' ≡ p = rw h at e in
        ap (λ (q : ReadOutcome). q.answer) k

    pub refused_rewrites : {out : List ℕ} → out ≡ answer_line (Refused f) → Rewrites bytes out
    refused_rewrites p =
        record {
          of_sheet = λ s t n. absurd (true≢false (ap refusing (answer_is (r.of_text s t ∙ read_whole t words corners hw hc n))));
          of_unnamed = λ s i t n. p ∙ ap answer_line (answer_is (r.of_text s t ∙ read_unnamed t words corners hw hc i n));
          of_fault = λ line g. p ∙ ap answer_line (answer_is (r.of_fault line g));
        }

  module _ {sheet' : ReadSheet} (h : w ≡ Ok sheet') where
    outcome_is : {p : ReadOutcome} → read_outcome w words' corners' ≡ p → read_outcome (Ok sheet') words' corners' ≡ p
    outcome_is e = rw h at e

    never : {A : Type 0} {p : ReadOutcome} → read_outcome w words' corners' ≡ p → refusing p.answer ≡ true → A
    never e k = absurd (true≢false (sym (ap (λ (q : ReadOutcome). refusing q.answer) (outcome_is e) ∙ k)))

    pub written_rewrites : (buffer : List ℕ) {out : List ℕ} → ((s : Sheet) → TextOf sheet bytes s → length bytes ≤ length buffer)
        → out ≡ printed (writes sheet'.pitch (take sheet'.words words') (take sheet'.corners corners') buffer) → Rewrites bytes out
    unfolding printed
    written_rewrites buffer k p =
        record {
          of_sheet = λ s t n.
              let e = outcome_is (r.of_text s t ∙ read_whole t words corners hw hc n) in
              p
              ∙ ap (λ (q : ReadOutcome). printed (writes q.pitch (take q.word_count q.words) (take q.corner_count q.corners) buffer)) e
              ∙ ap₂ (λ (x y : List ℕ). printed (writes (pitch_said s) x y buffer)) (start_of (words_said s) words (length (words_said s)) refl) (start_of (corners_said s) corners (length (corners_said s)) refl)
              ∙ ap printed (written_whole t buffer (k s t) n)
              ∙ start_of bytes buffer (length bytes) refl;
          of_unnamed = λ s i t n. never (r.of_text s t ∙ read_unnamed t words corners hw hc i n) refl;
          of_fault = λ line g. never (r.of_fault line g) refl;
        }
