-- What is known of a weight: how great it is at most, that two equal corners make it 0, and that only the three corners count.
use mathlib.Core.Path.{◌≡◌, ap, ◌∙◌}
use Prim.Native.Nat.{ℕ, ◌+◌, ◌*◌, ◌≤◌}
use native.Mathlib.Omega.{arith}
use lib.IntN.{ℤ, pos, nat_abs, ◌-ℤ◌, ◌*ℤ◌, +ℤ_invr, *ℤ_comm, *ℤ-zero, zero-*ℤ}
use Rattle.base_limits.specs.Limits.{greatest}
use Rattle.base_limits.proofs.Figures.{greatest_weight}
use Rattle.cover_weight.specs.declared.Point.{Point}
use Rattle.cover_weight.specs.declared.Vector.{Vector}
use Rattle.cover_weight.specs.Weight.{less, weight_of, OnGrid}
use Rattle.cover_weight.proofs.Laws.Near.{less_short, sizes_most}
use Rattle.cover_weight.proofs.Laws.Sizes.{abs_negative}
use Rattle.cover_weight.proofs.Laws.Ring.{negative_difference, restarted, turned_component, wound_component}

-- what a triangle on the grid weighs at most
abbrev pub heaviest : ℕ
heaviest = 3 * (2 * (2 * greatest * (2 * greatest)))

-- the scope's figure
pub heaviest_is : heaviest ≡ 25768230936
heaviest_is = greatest_weight

pub weight_most : (a b c : Point) → OnGrid a × OnGrid b × OnGrid c → weight_of a b c ≤ heaviest
unfolding weight_of
weight_most a b c h = sizes_most (less b a) (less c a) (less_short b a h.1 h.0, less_short c a h.2 h.0)

-- two equal corners
no_first : (p q r s : ℤ) → p ≡ pos 0 → r ≡ pos 0 → nat_abs (p *ℤ q -ℤ r *ℤ s) ≡ 0
no_first p q r s e f = rw (e, f, zero-*ℤ q, zero-*ℤ s)

no_second : (p q r s : ℤ) → q ≡ pos 0 → s ≡ pos 0 → nat_abs (p *ℤ q -ℤ r *ℤ s) ≡ 0
no_second p q r s e f = rw (e, f, *ℤ-zero p, *ℤ-zero r)

no_third : (p q : ℤ) → nat_abs (p *ℤ q -ℤ q *ℤ p) ≡ 0
no_third p q = ap (λ (x : ℤ). nat_abs (p *ℤ q -ℤ x)) (*ℤ_comm q p) ∙ ap nat_abs (+ℤ_invr (p *ℤ q))

sum_zero : {k l m : ℕ} → k ≡ 0 → l ≡ 0 → m ≡ 0 → k + (l + m) ≡ 0
sum_zero e f g = omega arith

pub equal_first : (a c : Point) → weight_of a a c ≡ 0
unfolding weight_of
equal_first a c =
    let v : Vector = less c a in
    sum_zero
    (no_first _ v.z _ v.y (+ℤ_invr a.y) (+ℤ_invr a.z))
    (no_first _ v.x _ v.z (+ℤ_invr a.z) (+ℤ_invr a.x))
    (no_first _ v.y _ v.x (+ℤ_invr a.x) (+ℤ_invr a.y))

pub equal_ends : (a b : Point) → weight_of a b a ≡ 0
unfolding weight_of
equal_ends a b =
    let u : Vector = less b a in
    sum_zero
    (no_second u.y _ u.z _ (+ℤ_invr a.z) (+ℤ_invr a.y))
    (no_second u.z _ u.x _ (+ℤ_invr a.x) (+ℤ_invr a.z))
    (no_second u.x _ u.y _ (+ℤ_invr a.y) (+ℤ_invr a.x))

pub equal_last : (a b : Point) → weight_of a b b ≡ 0
unfolding weight_of
equal_last a b =
    let u : Vector = less b a in
    sum_zero (no_third u.y u.z) (no_third u.z u.x) (no_third u.x u.y)

-- the corners in another order
turned_size : (a b c d e f : ℤ) → nat_abs ((c -ℤ b) *ℤ (d -ℤ e) -ℤ (f -ℤ e) *ℤ (a -ℤ b)) ≡ nat_abs ((b -ℤ a) *ℤ (f -ℤ d) -ℤ (e -ℤ d) *ℤ (c -ℤ a))
turned_size a b c d e f =
    rw
    (← restarted a b c, ← restarted d e f, ← negative_difference a b, ← negative_difference d e)
    (ap nat_abs (turned_component (b -ℤ a) (e -ℤ d) (c -ℤ a) (f -ℤ d)))

wound_size : (p q r s : ℤ) → nat_abs (r *ℤ q -ℤ s *ℤ p) ≡ nat_abs (p *ℤ s -ℤ q *ℤ r)
wound_size p q r s = ap nat_abs (wound_component p q r s) ∙ abs_negative (p *ℤ s -ℤ q *ℤ r)

sum_same : {k l m k' l' m' : ℕ} → k ≡ k' → l ≡ l' → m ≡ m' → k + (l + m) ≡ k' + (l' + m')
sum_same e f g = omega arith

pub weight_turned : (a b c : Point) → weight_of b c a ≡ weight_of a b c
unfolding weight_of
weight_turned a b c =
    sum_same
    (turned_size a.y b.y c.y a.z b.z c.z)
    (turned_size a.z b.z c.z a.x b.x c.x)
    (turned_size a.x b.x c.x a.y b.y c.y)

pub weight_wound : (a b c : Point) → weight_of a c b ≡ weight_of a b c
unfolding weight_of
weight_wound a b c =
    let u : Vector = less b a in
    let v : Vector = less c a in
    sum_same
    (wound_size u.y u.z v.y v.z)
    (wound_size u.z u.x v.z v.x)
    (wound_size u.x u.y v.x v.y)
