-- A component of a triangle's cross product is, up to its sign, made of the products of its corners by twos: the product of pairs is
-- bilinear, and turns its sign with its order.
use mathlib.Core.Path.{◌≡◌, sym, ap, ap₂, ◌∙◌}
use Prim.Native.Nat.{ℕ, ◌+◌, ◌*◌, ◌≤◌}
use native.Mathlib.Omega.{arith}
use lib.IntN.{ℤ, pos, nat_abs, neg_ℤ, ◌+ℤ◌, ◌-ℤ◌, ◌*ℤ◌, +ℤ_assoc, +ℤ_comm, +ℤ_idr, +ℤ_invr, neg_ℤ-+ℤ, neg_ℤ-neg_ℤ, *ℤ_comm}
use Rattle.cover_weight.specs.declared.Point.{Point}
use Rattle.cover_weight.specs.Weight.{weight_of, Coordinate}
use Rattle.cover_weight.proofs.Laws.Sizes.{abs_negative, abs_sum, abs_difference}
use Rattle.cover_weight.proofs.Laws.Ring.{sum_product, negative_product, negative_difference}
use Rattle.cover_weight.proofs.Laws.Near.{most, component_most, product_most}
use Rattle.cover_table.specs.Workings.Products.{pair, pair_x, pair_y, pair_z}

-- a difference of differences, taken the other way
regrouped : (a b c d : ℤ) → a -ℤ b -ℤ (c -ℤ d) ≡ a -ℤ c -ℤ (b -ℤ d)
regrouped a b c d =
    ap (λ (x : ℤ). a -ℤ b +ℤ x) (negative_difference d c)
    ∙ +ℤ_assoc a (neg_ℤ b) (d -ℤ c)
    ∙ ap (λ (x : ℤ). a +ℤ x) (turn (neg_ℤ b) d (neg_ℤ c))
    ∙ sym (+ℤ_assoc a (neg_ℤ c) (d -ℤ b))
    ∙ ap (λ (x : ℤ). a -ℤ c +ℤ x) (sym (negative_difference d b))
  where
    turn : (p q r : ℤ) → p +ℤ (q +ℤ r) ≡ r +ℤ (q +ℤ p)
    turn p q r = sym (+ℤ_assoc p q r) ∙ +ℤ_comm (p +ℤ q) r ∙ ap (λ (x : ℤ). r +ℤ x) (+ℤ_comm p q)

difference_product : (m n k : ℤ) → (m -ℤ n) *ℤ k ≡ m *ℤ k -ℤ n *ℤ k
difference_product m n k = sum_product m (neg_ℤ n) k ∙ ap (λ (x : ℤ). m *ℤ k +ℤ x) (negative_product n k)

-- the product of a difference
pair_less : (y z p q s t : ℤ) → pair (y -ℤ p) (z -ℤ q) s t ≡ pair y z s t -ℤ pair p q s t
unfolding pair
pair_less y z p q s t = ap₂ (λ (a b : ℤ). a -ℤ b) (difference_product y p t) (difference_product z q s) ∙ regrouped (y *ℤ t) (p *ℤ t) (z *ℤ s) (q *ℤ s)

-- the two points change places
pair_turned : (y z s t : ℤ) → pair s t y z ≡ neg_ℤ (pair y z s t)
unfolding pair
pair_turned y z s t = ap₂ (λ (a b : ℤ). a -ℤ b) (*ℤ_comm s z) (*ℤ_comm t y) ∙ sym (negative_difference (z *ℤ s) (y *ℤ t))

pair_same : (y z : ℤ) → pair y z y z ≡ pos 0
unfolding pair
pair_same y z = ap (λ (a : ℤ). y *ℤ z -ℤ a) (*ℤ_comm z y) ∙ +ℤ_invr (y *ℤ z)

-- the product with a difference
pair_from : (y z p q s t : ℤ) → pair s t (y -ℤ p) (z -ℤ q) ≡ pair s t y z -ℤ pair s t p q
pair_from y z p q s t =
    pair_turned (y -ℤ p) (z -ℤ q) s t
    ∙ ap neg_ℤ (pair_less y z p q s t)
    ∙ negative_difference (pair p q s t) (pair y z s t)
    ∙ ap₂ (λ (a b : ℤ). a -ℤ b) (pair_turned s t p q) (pair_turned s t y z)
    ∙ +ℤ_comm (neg_ℤ (pair s t p q)) (neg_ℤ (neg_ℤ (pair s t y z)))
    ∙ ap (λ (a : ℤ). a -ℤ pair s t p q) (neg_ℤ-neg_ℤ (pair s t y z))

-- The corners i, k and m have the coordinates (a, b), (c, d) and (e, f).
module _ (a b c d e f : ℤ) where
  component : pair (c -ℤ a) (d -ℤ b) (e -ℤ a) (f -ℤ b) ≡ neg_ℤ (pair a b e f -ℤ pair a b c d +ℤ pair e f c d)
  component =
      pair_from e f a b (c -ℤ a) (d -ℤ b)
      ∙ ap₂ (λ (x y : ℤ). x -ℤ y) (pair_less c d a b e f) (pair_less c d a b a b ∙ ap (λ (x : ℤ). pair c d a b -ℤ x) (pair_same a b) ∙ +ℤ_idr (pair c d a b))
      ∙ ap₂ (λ (x y : ℤ). x -ℤ pair a b e f -ℤ y) (pair_turned e f c d) (pair_turned a b c d)
      ∙ ap (λ (x : ℤ). neg_ℤ (pair e f c d) -ℤ pair a b e f +ℤ x) (neg_ℤ-neg_ℤ (pair a b c d))
      ∙ sorted (pair e f c d) (pair a b e f) (pair a b c d)
    where
      sorted : (r p q : ℤ) → neg_ℤ r -ℤ p +ℤ q ≡ neg_ℤ (p -ℤ q +ℤ r)
      sorted r p q =
          +ℤ_assoc (neg_ℤ r) (neg_ℤ p) q
          ∙ +ℤ_comm (neg_ℤ r) (neg_ℤ p +ℤ q)
          ∙ ap (λ (x : ℤ). x -ℤ r) (ap (λ (x : ℤ). neg_ℤ p +ℤ x) (sym (neg_ℤ-neg_ℤ q)) ∙ sym (neg_ℤ-+ℤ p (neg_ℤ q)))
          ∙ sym (neg_ℤ-+ℤ (p -ℤ q) r)

  pub component_size : nat_abs (pair (c -ℤ a) (d -ℤ b) (e -ℤ a) (f -ℤ b)) ≡ nat_abs (pair a b e f -ℤ pair a b c d +ℤ pair e f c d)
  component_size = ap nat_abs component ∙ abs_negative (pair a b e f -ℤ pair a b c d +ℤ pair e f c d)

-- the weight of the triangle i, k, m by its corners' products
pub weight_by_products : (i k m : Point) → weight_of i k m
    ≡ nat_abs (pair_x i m -ℤ pair_x i k +ℤ pair_x m k) + (nat_abs (pair_y i m -ℤ pair_y i k +ℤ pair_y m k) + nat_abs (pair_z i m -ℤ pair_z i k +ℤ pair_z m k))
unfolding weight_of pair
weight_by_products i k m =
    ap₂ (λ (p q : ℕ). p + q) (component_size i.y i.z k.y k.z m.y m.z)
    (ap₂ (λ (p q : ℕ). p + q) (component_size i.z i.x k.z k.x m.z m.x) (component_size i.x i.y k.x k.y m.x m.y))

-- ---- how great they are

pub pair_most : (y z s t : ℤ) → Coordinate y → Coordinate z → Coordinate s → Coordinate t → nat_abs (pair y z s t) ≤ most
unfolding pair
pair_most y z s t hy hz hs ht = component_most y t z s (omega arith) (omega arith) (omega arith) (omega arith)

pub product_small : (y t : ℤ) → Coordinate y → Coordinate t → nat_abs (y *ℤ t) ≤ most
product_small y t hy ht = product_most y t (omega arith) (omega arith)

pub sum_most : (p q r : ℤ) → nat_abs p ≤ most → nat_abs q ≤ most → nat_abs r ≤ most → (nat_abs (p -ℤ q) ≤ 2 * most) × (nat_abs (p -ℤ q +ℤ r) ≤ 3 * most)
sum_most p q r hp hq hr =
    let a : nat_abs (p -ℤ q) ≤ 2 * most = omega (arith, abs_difference p q) in
    (a, omega (arith, abs_sum (p -ℤ q) r))
