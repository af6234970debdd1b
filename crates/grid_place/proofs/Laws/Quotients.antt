-- A quotient depends on the values alone, and is a whole number of parts.
use mathlib.Core.Path.{◌≡◌, refl, sym, ap, ◌∙◌, subst}
use mathlib.Core.Bool.{Bool, true, false, cond}
use Prim.Native.Nat.{ℕ, zero, suc, ◌*◌, ◌<◌}
use native.Mathlib.Nat.{mul-one, mul_assoc, mul_comm, mul_left_comm, mul-pos, zero-mul}
use native.Mathlib.Omega.{arith}
use lib.Dec.{eqb, eqb-suc-zero}
use lib.Ieee.{Float, nan, inf, fin, binary64, up, down, unlike, round, div}
use lib.Ieee.Fits.{down_pos}
use lib.Ieee.Exact.{HasValue}
use lib.Ieee.Scale.{round_same}
use Rattle.grid_coordinate.specs.Units.{one}
use lib.Pow.{pow_pos}

unlike_false : (s : Bool) → unlike s false ≡ s
unlike_false true = refl
unlike_false false = refl

chosen : {X : Type 0} (n : ℕ) (x y : X) → 0 < n → cond (eqb n 0) x y ≡ y
chosen zero x y h = absurd (omega arith)
chosen (suc n) x y h = ap (λ (b : Bool). cond b x y) (eqb-suc-zero n)

some : (n u p d : ℕ) → n * u * 1 ≡ p * d → 0 < p → 0 < d → 0 < n
some zero u p d e h g = absurd (omega (arith, mul-pos h g, zero-mul u, mul-one (0 * u)))
some (suc n) u p d e h g = omega arith

pub div_is : (x y : Float) (s : Bool) (A p : ℕ) → HasValue x s A one → HasValue y false p 1 → 0 < p → div binary64 x y ≡ round binary64 s A (p * one)
unfolding div
div_is nan y s A p v w h = absurd v
div_is (inf b) y s A p v w h = absurd v
div_is (fin b m e) nan s A p v w h = absurd w
div_is (fin b m e) (inf d) s A p v w h = absurd w
div_is (fin b m e) (fin d n g) s A p v w h =
    chosen n _ _ N
    ∙ round_same binary64 (unlike b d) (m * up e * down g) (n * up g * down e) A (p * one) B (mul-pos h (pow_pos 149)) across
    ∙ ap (λ (r : Bool). round binary64 (unlike r d) A (p * one)) v.0
    ∙ ap (λ (r : Bool). round binary64 (unlike s r) A (p * one)) w.0
    ∙ ap (λ (r : Bool). round binary64 r A (p * one)) (unlike_false s)
  where
    N : 0 < n
    N = some n (up g) p (down g) w.1 h (down_pos g)

    over : n * up g ≡ p * down g
    over = sym (mul-one (n * up g)) ∙ w.1

    B : 0 < n * up g * down e
    B = mul-pos (subst (λ (k : ℕ). 0 < k) (sym over) (mul-pos h (down_pos g))) (down_pos e)

    exchange : (a b c d : ℕ) → a * b * (c * d) ≡ a * d * (c * b)
    exchange a b c d = simp (mul_assoc, mul_comm, mul_left_comm)

    across : m * up e * down g * (p * one) ≡ A * (n * up g * down e)
    across =
        exchange (m * up e) (down g) p one
        ∙ ap (λ (k : ℕ). k * (p * down g)) v.1
        ∙ ap (λ (k : ℕ). A * down e * k) (sym over)
        ∙ mul_assoc A (down e) (n * up g)
        ∙ ap (λ (k : ℕ). A * k) (mul_comm (down e) (n * up g))
