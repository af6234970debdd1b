-- What is promised of the printed bytes leaves nothing open, and what the program has no room for changes nothing.
use mathlib.Core.Path.{◌≡◌, refl, sym, ap, ◌∙◌}
use mathlib.Core.Logic.{inl, inr}
use mathlib.Core.List.{List}
use Prim.Native.Nat.{ℕ, ◌<◌, ◌≤◌}
use lib.ListN.{length, take}
use Rattle.base_limits.specs.Limits as limits
use Rattle.surface_rules.specs.Buffers.{over}
use Rattle.text_rules.specs.Text.{TextOf}
use Rattle.text_rules.specs.Room.{ReadInto}
use Rattle.text_rules.proofs.Theorems.{Known}
use Rattle.text_rules.proofs.Laws.Cut.{read_itself, room_text, room_fault}
use Rattle.text_sheet.specs.Sheet.{Sheet, sheet}
use Rattle.text_sheet.proofs.Laws.Texts.{text_or_fault}
use Rattle.text_sheet.proofs.Theorems.{longest}
use Rattle.program_lines.specs.Printout.{PrintOutcome, PrintsOver}
use Rattle.program_lines.proofs.Theorems.{print_once}
use Rattle.program_chart.specs.Charting.{Prints, PrintsIn}
use Rattle.program_chart.proofs.Laws.Widths.{report_most}

-- the room that a report is lent, so that a buffer is too short exactly if it is shorter
pub report_room : report_most ≡ 26720
report_room = refl

-- two outputs that are allowed are equal
pub prints_once : (bytes out out' : List ℕ) → Prints bytes out → Prints bytes out' → out ≡ out'
prints_once bytes out out' p q = go (text_or_fault bytes)
  where
    go : Known sheet bytes → out ≡ out'
    go (inl t) = p.of_text t.0 t.1 ∙ sym (q.of_text t.0 t.1)
    go (inr f) = p.of_fault f.0 f.1 ∙ sym (q.of_fault f.0 f.1)

-- so two outcomes of printing into a buffer that are allowed are equal
pub prints_over_once : {most : ℕ} {bytes buffer : List ℕ} {o p : PrintOutcome} → PrintsOver most (Prints bytes) buffer o → PrintsOver most (Prints bytes) buffer p → o ≡ p
prints_over_once {bytes = bytes} x y = print_once (prints_once bytes) x y

-- what is right for the bytes in a room that is longer than the longest text is right for the input that was read into it
pub room_enough : {room input out : List ℕ} {n : ℕ} → limits.sheet_text < length room → ReadInto room n input → Prints (take n room) out → Prints input out
room_enough roomy held p =
    record {
      of_fault = λ line f. p.of_fault line (room_fault no_longer roomy held f);
      of_text = λ s t. p.of_text s (room_text no_longer roomy held t);
    }
  where
    no_longer : (bytes : List ℕ) (s : Sheet) → TextOf sheet bytes s → length bytes ≤ limits.sheet_text
    no_longer bytes s t = longest t

-- so what is answered and left in the room is determined by what was read into it
pub prints_in_once : {room room' room'' : List ℕ} {n r s : ℕ} → n ≤ length room → PrintsIn room n r room' → PrintsIn room n s room'' → (r ≡ s) × (room' ≡ room'')
prints_in_once {room} {room'} {room''} {n} h p q =
    let e = prints_once (take n room) p.out q.out (p.due (take n room) (read_itself h)) (q.due (take n room) (read_itself h)) in
    (p.many ∙ ap length e ∙ sym q.many, p.lies ∙ ap (λ (o : List ℕ). over o room) e ∙ sym q.lies)
