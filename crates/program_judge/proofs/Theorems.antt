-- What is promised of the answer leaves nothing open, and what the program has no room for changes nothing.
use mathlib.Core.Path.{◌≡◌, sym, ap, ◌∙◌}
use mathlib.Core.Logic.{inl, inr}
use mathlib.Core.List.{List}
use Prim.Native.Nat.{ℕ, ◌<◌, ◌≤◌}
use lib.ListN.{length, take}
use Rattle.base_answers.specs.declared.Answer.{Answer}
use Rattle.base_limits.specs.Limits as limits
use Rattle.surface_rules.specs.Threes.{Three, flat}
use Rattle.text_rules.specs.Text.{TextOf, Both}
use Rattle.text_rules.specs.Room.{ReadInto}
use Rattle.text_rules.proofs.Theorems.{Known}
use Rattle.text_rules.proofs.Laws.Cut.{room_text, room_fault}
use Rattle.text_sheet.specs.Sheet.{Sheet, sheet, pitch_said, words_said, corners_said}
use Rattle.text_sheet.proofs.Laws.Texts as sheets
use Rattle.text_sheet.proofs.Theorems.{longest}
use Rattle.text_read_set.specs.Set.{set}
use Rattle.text_read_set.proofs.Laws.Texts as sets
use Rattle.text_read_set.proofs.Theorems.{set_longest}
use Rattle.program_lines.specs.Lines.{answer_line}
use Rattle.program_judge.specs.Hears.{Hears, HearsLine}
use Rattle.program_judge.proofs.Laws.Answered.{answers_once}

-- two answers that are allowed are equal
pub hears_once : (bytes patches : List ℕ) (a b : Answer) → Hears bytes patches a → Hears bytes patches b → a ≡ b
hears_once bytes patches a b p q = go (sheets.text_or_fault bytes)
  where
    of_sheet : (s : Sheet) → TextOf sheet bytes s → Known set patches → a ≡ b
    of_sheet s t (inl (u, v)) =
        answers_once (pitch_said s) (words_said s) (corners_said s) u.firsts (flat u.seconds) a b (p.of_set s t u.firsts u.seconds v) (q.of_set s t u.firsts u.seconds v)
    of_sheet s t (inr f) = p.of_set_fault s t f.0 f.1 ∙ sym (q.of_set_fault s t f.0 f.1)

    go : Known sheet bytes → a ≡ b
    go (inl t) = of_sheet t.0 t.1 (sets.text_or_fault patches)
    go (inr f) = p.of_fault f.0 f.1 ∙ sym (q.of_fault f.0 f.1)

-- so is its line
pub hears_line_once : (bytes patches x y : List ℕ) → HearsLine bytes patches x → HearsLine bytes patches y → x ≡ y
hears_line_once bytes patches x y p q =
    p.its_line ∙ ap answer_line (hears_once bytes patches p.answer q.answer p.heard q.heard) ∙ sym q.its_line

-- what is right for the bytes in rooms that are longer than the longest texts is right for what was read into them
pub hears_front : {room held bytes patches : List ℕ} {n m : ℕ} {a : Answer} → limits.sheet_text < length room → limits.set_text < length held
    → ReadInto room n bytes → ReadInto held m patches → Hears (take n room) (take m held) a → Hears bytes patches a
hears_front roomy more_roomy in_room in_held p =
    record {
      of_fault = λ line f. p.of_fault line (room_fault no_sheet_longer roomy in_room f);
      of_set_fault = λ s t line f. p.of_set_fault s (room_text no_sheet_longer roomy in_room t) line (room_fault no_set_longer more_roomy in_held f);
      of_set = λ s t ss us u. p.of_set s (room_text no_sheet_longer roomy in_room t) ss us (room_text no_set_longer more_roomy in_held u);
    }
  where
    no_sheet_longer : (bytes : List ℕ) (s : Sheet) → TextOf sheet bytes s → length bytes ≤ limits.sheet_text
    no_sheet_longer bytes s t = longest t

    no_set_longer : (bytes : List ℕ) (u : Both ℕ Three) → TextOf set bytes u → length bytes ≤ limits.set_text
    no_set_longer bytes u t = set_longest t
