-- What is promised of the printed bytes leaves nothing open, and what the program has no room for changes nothing.
use Rattle.std.specs.Prelude.{Option, Some, None}
use mathlib.Core.Path.{◌≡◌, refl, sym, ap, ◌∙◌}
use mathlib.Core.Logic.{inl, inr}
use mathlib.Core.List.{List}
use Prim.Native.Nat.{ℕ, ◌/◌, ◌<◌, ◌≤◌}
use lib.ListN.{length, take}
use Rattle.base_answers.specs.Answers.{Unnamed}
use Rattle.base_limits.specs.Limits as limits
use Rattle.surface_rules.specs.Buffers.{over}
use Rattle.surface_rules.specs.Smallest.{least}
use Rattle.surface_rules.specs.Refusals.{unnamed, refuse_at, unnamed_refusal}
use Rattle.text_rules.specs.Text.{TextOf}
use Rattle.text_rules.specs.Room.{ReadInto}
use Rattle.text_rules.proofs.Theorems.{Known}
use Rattle.text_rules.proofs.Laws.Cut.{read_itself, room_text, room_whole, room_fault}
use Rattle.text_sheet.specs.Sheet.{Sheet, sheet, words_said, corners_said}
use Rattle.text_sheet.proofs.Laws.Texts.{text_or_fault}
use Rattle.text_sheet.proofs.Theorems.{longest}
use Rattle.program_rewrite.specs.Rewriting.{Rewrites, RewritesIn}

-- two outputs that are allowed are equal
pub rewrites_once : (bytes out out' : List ℕ) → Rewrites bytes out → Rewrites bytes out' → out ≡ out'
rewrites_once bytes out out' p q = go (text_or_fault bytes)
  where
    of_text : (s : Sheet) → TextOf sheet bytes s → (f : Option ℕ) → unnamed_refusal (corners_said s) (length (words_said s) / 3) ≡ refuse_at Unnamed f → out ≡ out'
    of_text s t None e = p.of_sheet s t e ∙ sym (q.of_sheet s t e)
    of_text s t (Some i) e = p.of_unnamed s i t e ∙ sym (q.of_unnamed s i t e)

    go : Known sheet bytes → out ≡ out'
    go (inl t) = let s = t.0 in of_text s t.1 (least (unnamed (corners_said s) (length (words_said s) / 3)) (length (corners_said s))) refl
    go (inr f) = p.of_fault f.0 f.1 ∙ sym (q.of_fault f.0 f.1)

-- what is right for the bytes in a room that is longer than the longest text is right for the input that was read into it
pub room_enough : {room input out : List ℕ} {n : ℕ} → limits.sheet_text < length room → ReadInto room n input → Rewrites (take n room) out → Rewrites input out
room_enough roomy held p =
    record {
      of_sheet = λ s t u. p.of_sheet s (room_text no_longer roomy held t) u ∙ room_whole no_longer roomy held t;
      of_unnamed = λ s i t u. p.of_unnamed s i (room_text no_longer roomy held t) u;
      of_fault = λ line f. p.of_fault line (room_fault no_longer roomy held f);
    }
  where
    no_longer : (bytes : List ℕ) (s : Sheet) → TextOf sheet bytes s → length bytes ≤ limits.sheet_text
    no_longer bytes s t = longest t

-- so what is answered and left in the room is determined by what was read into it
pub rewrites_in_once : {room room' room'' : List ℕ} {n r s : ℕ} → n ≤ length room → RewritesIn room n r room' → RewritesIn room n s room'' → (r ≡ s) × (room' ≡ room'')
rewrites_in_once {room} {room'} {room''} {n} h p q =
    let e = rewrites_once (take n room) p.out q.out (p.due (take n room) (read_itself h)) (q.due (take n room) (read_itself h)) in
    (p.many ∙ ap length e ∙ sym q.many, p.lies ∙ ap (λ (o : List ℕ). over o room) e ∙ sym q.lies)
