-- What reading a sheet text promises leaves nothing open.
use mathlib.Core.Path.{◌≡◌, sym, ◌∙◌}
use mathlib.Core.Logic.{inl, inr}
use mathlib.Core.List.{List}
use Prim.Native.Nat.{ℕ}
use Rattle.text_rules.proofs.Theorems.{Known}
use Rattle.text_sheet.specs.Sheet.{sheet}
use Rattle.text_sheet.proofs.Laws.Texts.{text_or_fault}
use Rattle.text_read.specs.Outcome.{ReadOutcome, Reads}

-- two outcomes that are allowed are equal
pub reads_once : (bytes words corners : List ℕ) (o o' : ReadOutcome) → Reads bytes words corners o → Reads bytes words corners o' → o ≡ o'
reads_once bytes words corners o o' p q = go (text_or_fault bytes)
  where
    go : Known sheet bytes → o ≡ o'
    go (inl t) = p.of_text t.0 t.1 ∙ sym (q.of_text t.0 t.1)
    go (inr f) = p.of_fault f.0 f.1 ∙ sym (q.of_fault f.0 f.1)
