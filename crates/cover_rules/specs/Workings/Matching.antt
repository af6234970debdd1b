-- Predicates for reading a cover out of a patch set.
use Rattle.std.specs.Prelude.{ℕ, suc, ◌<◌, ◌≡◌, ◌⊎◌, List, [], ◌∷◌}
use Rattle.cover_rules.specs.Covers.{Triangle, on}
use Rattle.cover_rules.specs.Sets.{Alike, named}

-- t stands in the list
abbrev pub In : Triangle → List Triangle → Type 0
In t [] = ⊥
In t (x ∷ l) = (t ≡ x) ⊎ In t l

-- t stands in the set s, begun at any corner
abbrev pub Stands : List Triangle → Triangle → Type 0
Stands s t = (u : Triangle) × In u s × Alike u t

-- t lies on a stretch of a loop of n, with its third corner between the stretch's ends
pub record Seated (n : ℕ) (t : Triangle) : Type 0 where
  pub low : t.first < t.third
  pub high : t.third < t.second
  pub to : t.second < n

-- the stretch a..b of a loop of n is a side, or has a triangle in the set s of triangles by their vertices
pub data Laid (n : ℕ) (vertex : ℕ → ℕ) (s : List Triangle) (a b : ℕ) : Type 0 where
  side : b ≡ suc a → b < n → Laid n vertex s a b
  laid : (m : ℕ) → Seated n (on a b m) → Stands s (named vertex (on a b m)) → Laid n vertex s a b

-- the triangle t of the set has a seat u, and both parts of u's stretch are sides or have triangles
pub record Parted (n : ℕ) (vertex : ℕ → ℕ) (s : List Triangle) (t : Triangle) : Type 0 where
  pub seat : Triangle
  pub seated : Seated n seat
  pub alike : Alike t (named vertex seat)
  pub before : Laid n vertex s seat.first seat.third
  pub after : Laid n vertex s seat.third seat.second
