-- The head of a pitch: how many bytes it takes, and that it lies where it was put.
use mathlib.Core.Path.{◌≡◌, sym, ap}
use mathlib.Core.Bool.{true}
use mathlib.Core.List.{List, flatten}
use Prim.Native.Nat.{ℕ, ◌+◌, ◌<◌, ◌≤◌}
use native.Mathlib.Omega.{arith}
use lib.ListN.{length}
use Rattle.base_types.specs.Pitches.{is_pitch}
use Rattle.base_types.proofs.Laws.Pitches.{number_most}
use Rattle.surface_rules.specs.Buffers.{laid}
use Rattle.surface_rules.proofs.Laws.Laid.{laid_none}
use Rattle.text_digits.proofs.Laws.Digit.{size_one}
use Rattle.text_digits.proofs.Laws.Sizes.{size_two}
use Rattle.text_rules.specs.Text.{count}
use Rattle.text_sheet.specs.Sheet.{pitch=, head}
use Rattle.text_sheet.proofs.Laws.Heads.{head_none, head_flat, head_long}

module _ {n : ℕ} where
  -- how long it is: pitch 1 has none, and of the others 10 alone has two digits
  pub head_one_long : n ≡ 1 → 0 ≡ length (flatten (head n))
  unfolding flatten
  head_one_long e = rw (e, head_none)

  pub head_ten_long : n ≡ 10 → 9 ≡ length (flatten (head n))
  head_ten_long e = omega (arith, head_long {n = n} (λ d. omega arith), size_two n (omega arith) (omega arith))

  pub head_other_long : is_pitch n ≡ true → (n ≡ 1 → ⊥) → (n ≡ 10 → ⊥) → 8 ≡ length (flatten (head n))
  head_other_long h d e = omega (arith, head_long d, size_one n (omega (arith, number_most h, e)))

  -- what a line of a count asks for
  pub head_room : {long : ℕ} → is_pitch n ≡ true → length (flatten (head n)) ≤ long → (n ≡ 1 → ⊥) → (n < 10000) × (0 + length (count pitch= n) ≤ long)
  head_room h l d = (omega (arith, number_most h), omega (arith, ap length (head_flat d)))

  -- and it lies at the start
  pub head_none_laid : (buffer : List ℕ) → n ≡ 1 → (buffer ≡ laid 0 (flatten (head n)) buffer) × (0 ≡ length (flatten (head n)))
  unfolding flatten
  head_none_laid buffer e = (rw (e, head_none) (sym (laid_none 0 buffer)), head_one_long e)

  pub head_line_laid : {r : ℕ} {after : List ℕ} (buffer : List ℕ) → (n ≡ 1 → ⊥) → (after ≡ laid 0 (count pitch= n) buffer) × (r ≡ 0 + length (count pitch= n))
      → (after ≡ laid 0 (flatten (head n)) buffer) × (r ≡ length (flatten (head n)))
  head_line_laid buffer d e = rw (head_flat d) (e.0, omega (arith, e.1))
