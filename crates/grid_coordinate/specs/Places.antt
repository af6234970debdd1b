-- Grid. Where a coordinate goes and how far it moved. The rules are stated over the pitch, 1 being the rule of whole numbers.
use Rattle.std.specs.Prelude.{ℕ, suc, ◌*◌, ◌≤◌, ◌<◌, ◌≡◌, Bool, not, ◌||◌, T, ltb, ℤ, pos, negsuc, neg_ℤ, nat_abs, ◌-ℤ◌, ◌*ℤ◌, Float}
use Rattle.std.specs.Float.{binary32}
use Rattle.std.specs.Float.Ieee.{fits}
use Rattle.std.specs.Float.Ieee.Scale.{finite}
use Rattle.std.specs.Float.Ieee.Nearest.{closest}
use Rattle.base_answers.specs.declared.Answer.{Answer}
use Rattle.base_answers.specs.Answers as answer
use Rattle.base_limits.specs.Limits.{greatest}
use Rattle.grid_coordinate.specs.Units.{one, units}
use Rattle.grid_coordinate.specs.declared.Coordinate.{Coordinate}
use Rattle.grid_coordinate.specs.declared.Coordinate.TheVariants.{Exact, Shifted, NotFinite, TooFar}

-- "Each coordinate becomes the nearest whole number, a tie going to the even one": of z units, the nearest multiple of the
-- pitch, a tie going to the even multiple. The library's `closest n d` is the whole number nearest to n / d, a tie to the even one.
unfoldable pub whole : ℕ → ℤ → ℤ
whole pitch (pos n) = pos (closest n (pitch * one) * pitch)
whole pitch (negsuc n) = neg_ℤ (pos (closest (suc n) (pitch * one) * pitch))

-- "The rest is the value less the whole number", in units.
abbrev pub rest : ℕ → ℤ → ℤ
rest pitch z = z -ℤ whole pitch z *ℤ pos one

-- x is a finite number that goes to k, and k is on the grid
pub record Lands (pitch : ℕ) (x : Float) (k : ℤ) : Type 0 where
  pub number : T (finite x)
  pub nearest : k ≡ whole pitch (units x)
  pub within : nat_abs k ≤ greatest

-- x has a rest, and the binary32 number d is that rest exactly
pub record Leaves (pitch : ℕ) (x d : Float) : Type 0 where
  pub some : rest pitch (units x) ≡ pos 0 → ⊥
  pub fitting : T (fits binary32 d)
  pub number : T (finite d)
  pub exact : units d ≡ rest pitch (units x)

-- "The answer for one coordinate is one of four: exact; shifted, with the rest as a float; not finite; too far, with the float itself."
abbrev pub Places : ℕ → Float → Coordinate → Type 0
Places pitch x (Exact k) = Lands pitch x k × (rest pitch (units x) ≡ pos 0)
Places pitch x (Shifted k d) = Lands pitch x k × Leaves pitch x d
Places pitch x NotFinite = T (not (finite x))
Places pitch x (TooFar y) = T (finite x) × (greatest < nat_abs (whole pitch (units x))) × (y ≡ x)

-- x is none that the grid takes: not finite, or too far
unfoldable pub is_off : ℕ → Float → Bool
is_off pitch x = not (finite x) || ltb greatest (nat_abs (whole pitch (units x)))

-- what the answer for the word of index i means for its sheet: refusal 7 or 8 there, or none
abbrev pub answer_of : ℕ → Coordinate → Answer
answer_of i (Exact k) = answer.Done
answer_of i (Shifted k d) = answer.Done
answer_of i NotFinite = answer.NotFinite i
answer_of i (TooFar x) = answer.TooFar i
