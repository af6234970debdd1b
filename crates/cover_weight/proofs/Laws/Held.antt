-- A whole number comes back from the machine's bits where its absolute value is below half of what those bits count.
use mathlib.Core.Path.{◌≡◌, sym, subst}
use Prim.Native.Nat.{◌^◌, ◌<◌}
use native.Mathlib.Omega.{arith}
use lib.IntN.{ℤ, pos, negsuc, nat_abs}
use mir.Syntax.{Width}
use mir.Val.{SFits, to_z, of_z, hbits}
use mir.ValLaws.{to_z-of_z}

-- z as the machine gives it back
abbrev pub held : Width → ℤ → ℤ
held w z = to_z w (of_z w z)

pub fits : (w : Width) (z : ℤ) → nat_abs z < 2 ^ hbits w → SFits w z
fits w (pos n) h = record { sfits = h }
fits w (negsuc n) h = record { sfits = omega arith }

pub same : (w : Width) (z : ℤ) → nat_abs z < 2 ^ hbits w → held w z ≡ z
same w z h = to_z-of_z w z (fits w z h)

-- so does what the machine made of it
pub fits_like : {w : Width} {y z : ℤ} → y ≡ z → nat_abs z < 2 ^ hbits w → SFits w y
fits_like {w} {y} {z} e h = subst (SFits w) (sym e) (fits w z h)
