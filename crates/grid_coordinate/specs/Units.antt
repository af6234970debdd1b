-- "A finite binary32 value is a whole number of 2^-149": its units.
use Rattle.std.specs.Prelude.{ℕ, ◌*◌, ◌/◌, ◌^◌, Bool, true, false, ℤ, pos, neg_ℤ, Float}
use Rattle.std.specs.Float.{nan, inf, fin}
use Rattle.std.specs.Float.Ieee.{up, down}

-- how many units a whole number has
abbrev pub one : ℕ
one = 2 ^ 149

-- a size with a sign, true being minus
abbrev pub signed : Bool → ℕ → ℤ
signed true n = neg_ℤ (pos n)
signed false n = pos n

-- The library's `fin s m e` is m * 2 ^ e with the sign s, and 2 ^ e is `up e / down e`. What is not finite has no units.
unfoldable pub units : Float → ℤ
units nan = pos 0
units (inf s) = pos 0
units (fin s m e) = signed s (m * up e * one / down e)
