-- Numbers by threes: the words of points, the corners of triangles.
use Rattle.std.specs.Prelude.{List, [], ◌∷◌, ℕ}

-- three words of a point, or three corners of a triangle in the order that it is wound
pub record Three : Type 0 where
  pub first : ℕ
  pub second : ℕ
  pub third : ℕ

abbrev pub three : ℕ → ℕ → ℕ → Three
three a b c = record { first = a; second = b; third = c }

-- a list by threes, and back
abbrev pub threes : List ℕ → List Three
threes [] = []
threes (a ∷ []) = []
threes (a ∷ b ∷ []) = []
threes (a ∷ b ∷ c ∷ l) = three a b c ∷ threes l

abbrev pub flat : List Three → List ℕ
flat [] = []
flat (t ∷ l) = t.first ∷ t.second ∷ t.third ∷ flat l
