-- The machine's component is that of the whole numbers, and three of them add up without wrapping.
use mathlib.Core.Path.{◌≡◌, ap, ◌∙◌}
use Prim.Native.Nat.{ℕ, ◌+◌, ◌^◌, ◌<◌}
use native.Mathlib.Nat.{lt_of_le_of_lt}
use native.Mathlib.Omega.{arith}
use lib.Dec.{lit<}
use lib.IntN.{ℤ, nat_abs, ◌-ℤ◌, ◌*ℤ◌}
use mir.Syntax.{w64}
use mir.Val.{Fits, SFits}
use Rattle.cover_weight.specs.declared.Vector.{Vector}
use Rattle.cover_weight.specs.Weight.{size, cross, Difference, Short}
use Rattle.cover_weight.proofs.Laws.Held.{held, same, fits_like}
use Rattle.cover_weight.proofs.Laws.Near.{product_most, component_most, x_most, y_most, z_most}

whole : (z : ℤ) → Difference z → held w64 z ≡ z
whole z h = same w64 z (lt_of_le_of_lt h (lit< tt))

module _ (p q : ℤ) (hp : Difference p) (hq : Difference q) where
  product_same : held w64 p *ℤ held w64 q ≡ p *ℤ q
  product_same = rw (whole p hp, whole q hq)

  product_small : nat_abs (p *ℤ q) < 2 ^ 63
  product_small = lt_of_le_of_lt (product_most p q hp hq) (lit< tt)

  pub product_fits : SFits w64 (held w64 p *ℤ held w64 q)
  product_fits = fits_like product_same product_small

  product_is : held w64 (held w64 p *ℤ held w64 q) ≡ p *ℤ q
  product_is = ap (held w64) product_same ∙ same w64 (p *ℤ q) product_small

module _ (p q r s : ℤ) (h : Difference p × Difference q × Difference r × Difference s) where
  component_same : held w64 (held w64 p *ℤ held w64 q) -ℤ held w64 (held w64 r *ℤ held w64 s) ≡ p *ℤ q -ℤ r *ℤ s
  component_same = rw (product_is p q h.0 h.1, product_is r s h.2 h.3)

  component_small : nat_abs (p *ℤ q -ℤ r *ℤ s) < 2 ^ 63
  component_small = lt_of_le_of_lt (component_most p q r s h.0 h.1 h.2 h.3) (lit< tt)

  pub component_fits : SFits w64 (held w64 (held w64 p *ℤ held w64 q) -ℤ held w64 (held w64 r *ℤ held w64 s))
  component_fits = fits_like component_same component_small

  component_is : held w64 (held w64 (held w64 p *ℤ held w64 q) -ℤ held w64 (held w64 r *ℤ held w64 s)) ≡ p *ℤ q -ℤ r *ℤ s
  component_is = ap (held w64) component_same ∙ same w64 (p *ℤ q -ℤ r *ℤ s) component_small

  pub component_size : nat_abs (held w64 (held w64 (held w64 p *ℤ held w64 q) -ℤ held w64 (held w64 r *ℤ held w64 s))) ≡ nat_abs (p *ℤ q -ℤ r *ℤ s)
  component_size = ap nat_abs component_is

-- a component as `sizes` is given it, from the parts of two vectors
abbrev given : ℤ → ℤ → ℤ → ℤ → ℕ
given p q r s = nat_abs (held w64 p *ℤ held w64 q -ℤ held w64 r *ℤ held w64 s)

module _ (u v : Vector) (h : Short u × Short v) where
  x_is : given u.y v.z u.z v.y ≡ nat_abs (cross u v).x
  x_is = rw (whole u.y h.0.short_y, whole v.z h.1.short_z, whole u.z h.0.short_z, whole v.y h.1.short_y)

  y_is : given u.z v.x u.x v.z ≡ nat_abs (cross u v).y
  y_is = rw (whole u.z h.0.short_z, whole v.x h.1.short_x, whole u.x h.0.short_x, whole v.z h.1.short_z)

  z_is : given u.x v.y u.y v.x ≡ nat_abs (cross u v).z
  z_is = rw (whole u.x h.0.short_x, whole v.y h.1.short_y, whole u.y h.0.short_y, whole v.x h.1.short_x)

  pub two_fit : {l m : ℕ} → l ≡ given u.y v.z u.z v.y → m ≡ given u.z v.x u.x v.z → Fits w64 (l + m)
  two_fit e f = record { fits = omega (arith, e ∙ x_is, f ∙ y_is, x_most u v h, y_most u v h) }

  module _ {l m n : ℕ} (e : l ≡ given u.y v.z u.z v.y) (f : m ≡ given u.z v.x u.x v.z) (g : n ≡ given u.x v.y u.y v.x) where
    pub three_fit : Fits w64 (l + m + n)
    three_fit = record { fits = omega (arith, e ∙ x_is, f ∙ y_is, g ∙ z_is, x_most u v h, y_most u v h, z_most u v h) }

    pub sizes_are : l + m + n ≡ size (cross u v)
    sizes_are = omega (arith, e ∙ x_is, f ∙ y_is, g ∙ z_is)
