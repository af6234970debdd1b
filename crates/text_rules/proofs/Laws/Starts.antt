-- Bytes that start like a text of any format: fewer lines of them are right too, so they have one fault at most.
use mathlib.Core.Path.{◌≡◌, sym, ap, ◌∙◌}
use mathlib.Core.Logic.{◌⊎◌, inl, inr}
use mathlib.Core.List.{List, ◌++◌, flatten, append_assoc}
use Prim.Native.Nat.{ℕ, ◌<◌, ◌≤◌}
use native.Mathlib.Omega.{arith}
use lib.ListN.{take, drop, take-append-drop}
use lib.Seq.{take-take}
use Rattle.surface_rules.proofs.Laws.Lists.{flatten_append}
use Rattle.text_digits.proofs.Laws.Digit.{lt_or_ge}
use Rattle.text_rules.specs.Text.{Format}
use Rattle.text_rules.specs.Fault.{Starts, Fault}

module _ {S : Type 0} (F : Format S) where
  starts_less : (bytes : List ℕ) (j k : ℕ) → j ≤ k → Starts F bytes k → Starts F bytes j
  starts_less bytes j k h s =
      let m : List (List ℕ) = F.lines s.said in
      record {
        said = s.said;
        rest = flatten (drop j (take k m)) ++ s.rest;
        says = s.says;
        has = omega (arith, s.has);
        are = s.are
            ∙ ap (λ (r : List (List ℕ)). flatten r ++ s.rest) (sym (take-append-drop j (take k m)))
            ∙ ap (λ (r : List ℕ). r ++ s.rest) (flatten_append (take j (take k m)) (drop j (take k m)))
            ∙ append_assoc (flatten (take j (take k m))) (flatten (drop j (take k m))) s.rest
            ∙ ap (λ (r : List (List ℕ)). flatten r ++ (flatten (drop j (take k m)) ++ s.rest)) (take-take j k m h);
      }

  pub fault_once : {bytes : List ℕ} {l m : ℕ} → Fault F bytes l → Fault F bytes m → l ≡ m
  fault_once {bytes} {l} {m} f g = go (lt_or_ge l m) (lt_or_ge m l)
    where
      go : (l < m) ⊎ (m ≤ l) → (m < l) ⊎ (l ≤ m) → l ≡ m
      go (inl h) o = absurd (f.wrong (starts_less bytes l g.before (omega (arith, g.next)) g.right))
      go (inr h) (inl o) = absurd (g.wrong (starts_less bytes m f.before (omega (arith, f.next)) f.right))
      go (inr h) (inr o) = omega arith
