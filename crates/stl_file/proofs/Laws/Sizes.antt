-- How many bytes a word, a point, a facet and a file take.
use mathlib.Core.Path.{◌≡◌, refl, ap, ◌∙◌}
use mathlib.Core.List.{List, [], ◌∷◌, map, flatten}
use Prim.Native.Nat.{ℕ, suc, ◌+◌, ◌*◌, ◌/◌}
use native.Mathlib.Omega.{arith}
use lib.ListN.{length, length-append}
use Rattle.surface_rules.specs.Threes.{Three, threes}
use Rattle.stl_facets.specs.Facets.{front, facet_bytes}
use Rattle.stl_file.specs.Bytes.{four_bytes, point_bytes, facet_of, facets_of, file_of}

pub four_length : (w : ℕ) → length (four_bytes w) ≡ 4
unfolding four_bytes
four_length w = refl

pub point_length : (p : Three) → length (point_bytes p) ≡ 12
unfolding point_bytes four_bytes
point_length p = refl

pub facet_length : (words : List ℕ) (t : Three) → length (facet_of words t) ≡ facet_bytes
unfolding facet_of point_bytes four_bytes
facet_length words t = refl

pub row_length : (words : List ℕ) (l : List Three) → length (flatten (map (facet_of words) l)) ≡ facet_bytes * length l
unfolding flatten
row_length words [] = refl
row_length words (t ∷ l) = length-append (facet_of words t) (flatten (map (facet_of words) l)) ∙ omega (arith, facet_length words t, row_length words l)

-- one or two corners behind the last whole triangle are no facet
pub threes_count : (l : List ℕ) → length (threes l) ≡ length l / 3
threes_count [] = refl
threes_count (x ∷ []) = refl
threes_count (x ∷ y ∷ []) = refl
threes_count (x ∷ y ∷ z ∷ l) = let e = threes_count l in omega arith

module _ (words corners : List ℕ) where
  pub facets_length : length (facets_of words corners) ≡ facet_bytes * (length corners / 3)
  facets_length = row_length words (threes corners) ∙ ap (λ (k : ℕ). facet_bytes * k) (threes_count corners)

  pub file_length : length (file_of words corners) ≡ front + facet_bytes * (length corners / 3)
  unfolding file_of four_bytes
  file_length = omega (arith, facets_length)
