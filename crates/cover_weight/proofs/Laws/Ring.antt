-- Laws of sums, negatives and products of whole numbers that `lib.IntN` leaves out, up to a component of a turned triangle.
use mathlib.Core.Path.{◌≡◌, refl, sym, ap, ◌∙◌}
use Prim.Native.Nat.{ℕ, zero, suc, ◌*◌}
use lib.IntN.{ℤ, pos, negsuc, neg_ℤ, pred_ℤ, ◌+ℤ◌, ◌-ℤ◌, ◌*ℤ◌, +ℤ_idl, +ℤ_assoc, +ℤ_comm, +ℤ_invl, neg_ℤ-+ℤ, neg_ℤ-neg_ℤ, zero-*ℤ, *ℤ_comm, suc_ℤ-+ℤ, pred_ℤ-+ℤ, suc_ℤ-*ℤ, pred_ℤ-*ℤ}

-- the last two summands change places
swapped : (a b c : ℤ) → a +ℤ b +ℤ c ≡ a +ℤ c +ℤ b
swapped a b c = +ℤ_assoc a b c ∙ ap (λ (x : ℤ). a +ℤ x) (+ℤ_comm b c) ∙ sym (+ℤ_assoc a c b)

-- a product takes a sum apart
pos_sum : (j : ℕ) (n k : ℤ) → (pos j +ℤ n) *ℤ k ≡ pos j *ℤ k +ℤ n *ℤ k
pos_sum zero n k = ap (λ (x : ℤ). x *ℤ k) (+ℤ_idl n) ∙ sym (ap (λ (x : ℤ). x +ℤ n *ℤ k) (zero-*ℤ k) ∙ +ℤ_idl (n *ℤ k))
pos_sum (suc j) n k =
    ap (λ (x : ℤ). x *ℤ k) (suc_ℤ-+ℤ (pos j) n)
    ∙ suc_ℤ-*ℤ (pos j +ℤ n) k
    ∙ ap (λ (x : ℤ). x +ℤ k) (pos_sum j n k)
    ∙ swapped (pos j *ℤ k) (n *ℤ k) k
    ∙ sym (ap (λ (x : ℤ). x +ℤ n *ℤ k) (suc_ℤ-*ℤ (pos j) k))

down : (m n k : ℤ) → (m +ℤ n) *ℤ k ≡ m *ℤ k +ℤ n *ℤ k → (pred_ℤ m +ℤ n) *ℤ k ≡ pred_ℤ m *ℤ k +ℤ n *ℤ k
down m n k e =
    ap (λ (x : ℤ). x *ℤ k) (pred_ℤ-+ℤ m n)
    ∙ pred_ℤ-*ℤ (m +ℤ n) k
    ∙ ap (λ (x : ℤ). x -ℤ k) e
    ∙ swapped (m *ℤ k) (n *ℤ k) (neg_ℤ k)
    ∙ sym (ap (λ (x : ℤ). x +ℤ n *ℤ k) (pred_ℤ-*ℤ m k))

negsuc_sum : (j : ℕ) (n k : ℤ) → (negsuc j +ℤ n) *ℤ k ≡ negsuc j *ℤ k +ℤ n *ℤ k
negsuc_sum zero n k = down (pos zero) n k (pos_sum zero n k)
negsuc_sum (suc j) n k = down (negsuc j) n k (negsuc_sum j n k)

pub sum_product : (m n k : ℤ) → (m +ℤ n) *ℤ k ≡ m *ℤ k +ℤ n *ℤ k
sum_product (pos j) n k = pos_sum j n k
sum_product (negsuc j) n k = negsuc_sum j n k

-- a sign moves out of a product
pub negative_product : (m k : ℤ) → neg_ℤ m *ℤ k ≡ neg_ℤ (m *ℤ k)
negative_product (pos zero) k = zero-*ℤ k ∙ sym (ap neg_ℤ (zero-*ℤ k))
negative_product (pos (suc a)) (pos b) = refl
negative_product (pos (suc a)) (negsuc b) = sym (neg_ℤ-neg_ℤ (pos (suc a * suc b)))
negative_product (negsuc a) (pos b) = sym (neg_ℤ-neg_ℤ (pos (suc a * b)))
negative_product (negsuc a) (negsuc b) = refl

pub product_negative : (m k : ℤ) → m *ℤ neg_ℤ k ≡ neg_ℤ (m *ℤ k)
product_negative m k = *ℤ_comm m (neg_ℤ k) ∙ negative_product k m ∙ ap neg_ℤ (*ℤ_comm k m)

-- a difference taken the other way round
pub negative_difference : (a b : ℤ) → neg_ℤ (b -ℤ a) ≡ a -ℤ b
negative_difference a b = neg_ℤ-+ℤ b (neg_ℤ a) ∙ ap (λ (x : ℤ). neg_ℤ b +ℤ x) (neg_ℤ-neg_ℤ a) ∙ +ℤ_comm (neg_ℤ b) a

-- the same difference from another start
pub restarted : (a b c : ℤ) → c -ℤ a -ℤ (b -ℤ a) ≡ c -ℤ b
restarted a b c =
    ap (λ (x : ℤ). c -ℤ a +ℤ x) (negative_difference a b)
    ∙ +ℤ_assoc c (neg_ℤ a) (a -ℤ b)
    ∙ ap (λ (x : ℤ). c +ℤ x) (sym (+ℤ_assoc (neg_ℤ a) a (neg_ℤ b)) ∙ ap (λ (x : ℤ). x -ℤ b) (+ℤ_invl a) ∙ +ℤ_idl (neg_ℤ b))

-- one product of a turned triangle's component
one : (s y z : ℤ) → (s -ℤ y) *ℤ neg_ℤ z ≡ y *ℤ z -ℤ s *ℤ z
one s y z =
    product_negative (s -ℤ y) z
    ∙ ap neg_ℤ (sum_product s (neg_ℤ y) z ∙ ap (λ (x : ℤ). s *ℤ z +ℤ x) (negative_product y z))
    ∙ negative_difference (y *ℤ z) (s *ℤ z)

-- the component of a turned triangle, with u = (y, z) and v = (s, t) in the plane of two axes
pub turned_component : (y z s t : ℤ) → (s -ℤ y) *ℤ neg_ℤ z -ℤ (t -ℤ z) *ℤ neg_ℤ y ≡ y *ℤ t -ℤ z *ℤ s
turned_component y z s t = rw (one s y z, one t z y, *ℤ_comm z y, *ℤ_comm t y, *ℤ_comm s z) (shared (y *ℤ z) (z *ℤ s) (y *ℤ t))
  where
    shared : (p q r : ℤ) → p -ℤ q -ℤ (p -ℤ r) ≡ r -ℤ q
    shared p q r =
        ap (λ (x : ℤ). p -ℤ q +ℤ x) (negative_difference r p)
        ∙ +ℤ_comm (p -ℤ q) (r -ℤ p)
        ∙ +ℤ_assoc r (neg_ℤ p) (p -ℤ q)
        ∙ ap (λ (x : ℤ). r +ℤ x) (sym (+ℤ_assoc (neg_ℤ p) p (neg_ℤ q)) ∙ ap (λ (x : ℤ). x -ℤ q) (+ℤ_invl p) ∙ +ℤ_idl (neg_ℤ q))

-- the component of a triangle wound the other way
pub wound_component : (y z s t : ℤ) → s *ℤ z -ℤ t *ℤ y ≡ neg_ℤ (y *ℤ t -ℤ z *ℤ s)
wound_component y z s t = rw (*ℤ_comm s z, *ℤ_comm t y) (sym (negative_difference (z *ℤ s) (y *ℤ t)))
