-- How far reading a number reaches.
use Prim.Native.Nat.{ℕ, suc, ◌+◌}
use native.Mathlib.Omega.{arith}
use Rattle.std.specs.Prelude.{Option, Some, None}
use Rattle.text_digits.specs.Workings.Reading.{UpTo}

-- one byte further on
pub up_on : (i b : ℕ) (r : Option (ℕ × ℕ)) → UpTo (i + 1 + b) r → UpTo (i + suc b) r
up_on i b (Some (v, next)) u = omega (arith, u)
up_on i b None u = tt
