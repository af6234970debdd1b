-- Every word has an answer at every pitch, and so its rest, wherever it has one, is a binary32 number.
use mathlib.Core.Path.{◌≡◌, refl}
use mathlib.Core.Bool.{Bool, true, false}
use Prim.Native.Nat.{ℕ, ◌≤◌, ◌<◌}
use native.Mathlib.Omega.{arith}
use native.Mathlib.Decide.{dec_lt}
use lib.Dec.{eqb, leb}
use lib.IntN.{ℤ, nat_abs}
use lib.Ieee.{Float, binary32, of_bits, sub, of_int, eq}
use borrow.Author.Tests.{leb-true, leb-false, eqb-true, eqb-false}
use Rattle.base_limits.specs.Limits.{greatest}
use Rattle.grid_coordinate.specs.Units.{units}
use Rattle.grid_coordinate.specs.Places.{whole, Places}
use Rattle.grid_coordinate.specs.declared.Coordinate.{Coordinate}
use Rattle.grid_coordinate.specs.declared.Coordinate.TheVariants.{Exact, Shifted, NotFinite, TooFar}
use Rattle.grid_coordinate.proofs.Laws.Floats.{field, no_number}
use Rattle.grid_place.proofs.Laws.Placing.{beyond, too_far, exactly, shifted}

module _ (w p : ℕ) (some : 0 < p) (most : p ≤ 10) where
  abbrev x : Float
  x = of_bits binary32 w

  abbrev k : ℤ
  k = whole p (units x)

  below : field w < 149 → (c : Coordinate) × Places p x c
  below h = go (leb (nat_abs k) greatest) refl (eq x (of_int binary32 k)) refl
    where
      go : (g : Bool) → leb (nat_abs k) greatest ≡ g → (t : Bool) → eq x (of_int binary32 k) ≡ t → (c : Coordinate) × Places p x c
      go true g true t = (Exact k, exactly w h p some k refl (leb-true (nat_abs k) greatest g) t)
      go true g false t = (Shifted k (sub binary32 x (of_int binary32 k)), shifted w h p some k refl (leb-true (nat_abs k) greatest g) t)
      go false g t e = (TooFar x, too_far w h p some k refl (leb-false (nat_abs k) greatest g))

  above : 149 ≤ field w → (c : Coordinate) × Places p x c
  above h = go (eqb (field w) 255) refl
    where
      go : (t : Bool) → eqb (field w) 255 ≡ t → (c : Coordinate) × Places p x c
      go true e = (NotFinite, no_number w (eqb-true (field w) 255 e))
      go false e = (TooFar x, beyond w p some most h (eqb-false (field w) 255 e))

  pub answered : (c : Coordinate) × Places p x c
  answered = go (dec_lt (field w) 149)
    where
      go : Dec (field w < 149) → (c : Coordinate) × Places p x c
      go (yes h) = below h
      go (no h) = above (omega arith)
