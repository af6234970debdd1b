-- The head of a text, as the code finds it.
use Rattle.std.specs.Prelude.{◌≡◌, true, ℕ, ◌≤◌, length, take, Option, Some, None}
use mathlib.Core.List.{List, ◌∷◌, ◌++◌, flatten}
use Rattle.base_types.specs.Pitches.{is_pitch}
use Rattle.text_sheet.specs.Sheet.{head}

-- The bytes begin with the head of this pitch, which ends at this place; and where it has no line, no head's line begins them.
pub record HeadAt (bytes : List ℕ) (pitch at : ℕ) : Type 0 where
  pub valid : is_pitch pitch ≡ true
  pub within : at ≤ length bytes
  pub is : take at bytes ≡ flatten (head pitch)
  pub none : pitch ≡ 1 → (n : ℕ) (x : List ℕ) (xs : List (List ℕ)) (rest : List ℕ) → is_pitch n ≡ true → head n ≡ x ∷ xs → bytes ≡ x ++ rest → ⊥

-- what the answer, a pitch and the place after its line, says of the bytes: pitch 1 has no line
abbrev pub HeadBy : List ℕ → Option (ℕ × ℕ) → Type 0
HeadBy bytes (Some (pitch, at)) = HeadAt bytes pitch at × (pitch ≡ 1 → ⊥)
HeadBy bytes None = HeadAt bytes 1 0
