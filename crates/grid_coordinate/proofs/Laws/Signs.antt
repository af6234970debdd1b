-- Sizes with a sign: `signed s n` is n, or -n where s is true. Every whole number is one, and differences of two with one sign go by their sizes.
use mathlib.Core.Path.{◌≡◌, refl, sym, ap, ◌∙◌}
use Prim.Native.Nat.{ℕ, zero, suc, ◌-◌, ◌*◌, ◌^◌, ◌≤◌, ◌<◌}
use native.Mathlib.Nat.{zero-mul, le_of_eq}
use native.Mathlib.Omega.{arith}
use native.Mathlib.Decide.{dec_lt}
use mathlib.Core.Bool.{Bool, true, false, not, cond}
use lib.Dec.{T, ltb, ltb→lt, nltb→le}
use lib.IntN.{ℤ, pos, negsuc, neg_ℤ, nat_abs, ◌-ℤ◌, ◌*ℤ◌, neg_ℤ-+ℤ, neg_ℤ-neg_ℤ}
use mir.Syntax.{w32}
use mir.Val.{SFits}
use Rattle.grid_coordinate.specs.Units.{signed}
use Rattle.grid_coordinate.proofs.Laws.Nearest.{apart}

pub split : (z : ℤ) → (s : Bool) × (n : ℕ) × (z ≡ signed s n)
split (pos n) = (false, n, refl)
split (negsuc n) = (true, suc n, refl)

pub abs_signed : (s : Bool) (n : ℕ) → nat_abs (signed s n) ≡ n
abs_signed false n = refl
abs_signed true zero = refl
abs_signed true (suc n) = refl

pub sfits_signed : (s : Bool) (n : ℕ) → n < 2 ^ 31 → SFits w32 (signed s n)
sfits_signed false n h = record { sfits = h }
sfits_signed true zero h = record { sfits = h }
sfits_signed true (suc n) h = record { sfits = omega arith }

pub mul_signed : (s : Bool) (n u : ℕ) → signed s n *ℤ pos u ≡ signed s (n * u)
mul_signed false n u = refl
mul_signed true zero u = ap pos (zero-mul u) ∙ sym (ap (λ (x : ℕ). neg_ℤ (pos x)) (zero-mul u))
mul_signed true (suc n) u = refl

under : (a b : ℕ) → a < b → pos a -ℤ pos b ≡ neg_ℤ (pos (b - a))
under a zero h = absurd (omega arith)
under a (suc b) h = go (ltb a (suc b)) (nltb→le a (suc b))
  where
    low : suc b - a ≡ suc (suc b - suc a)
    low = omega arith

    go : (t : Bool) → (T (not t) → suc b ≤ a) → cond t (negsuc (suc b - suc a)) (pos (a - suc b)) ≡ neg_ℤ (pos (suc b - a))
    go true k = ap (λ (x : ℕ). neg_ℤ (pos x)) (sym low)
    go false k = absurd (omega (arith, k tt))

over : (a b : ℕ) → b ≤ a → pos a -ℤ pos b ≡ pos (a - b)
over a zero h = ap pos (omega arith)
over a (suc b) h = go (ltb a (suc b)) (ltb→lt a (suc b))
  where
    go : (t : Bool) → (T t → a < suc b) → cond t (negsuc (suc b - suc a)) (pos (a - suc b)) ≡ pos (a - suc b)
    go true k = absurd (omega (arith, k tt))
    go false k = refl

turned : (a b : ℕ) → signed true a -ℤ signed true b ≡ neg_ℤ (pos a -ℤ pos b)
turned a b = sym (neg_ℤ-+ℤ (pos a) (neg_ℤ (pos b)))

pub signed_under : (s : Bool) (a b : ℕ) → a < b → signed s a -ℤ signed s b ≡ signed (not s) (b - a)
signed_under false a b h = under a b h
signed_under true a b h = turned a b ∙ ap neg_ℤ (under a b h) ∙ neg_ℤ-neg_ℤ (pos (b - a))

pub signed_over : (s : Bool) (a b : ℕ) → b ≤ a → signed s a -ℤ signed s b ≡ signed s (a - b)
signed_over false a b h = over a b h
signed_over true a b h = turned a b ∙ ap neg_ℤ (over a b h)

pub abs_difference : (s : Bool) (a b : ℕ) → nat_abs (signed s a -ℤ signed s b) ≡ apart a b
abs_difference s a b = go (dec_lt a b)
  where
    go : Dec (a < b) → nat_abs (signed s a -ℤ signed s b) ≡ apart a b
    go (yes h) = ap nat_abs (signed_under s a b h) ∙ abs_signed (not s) (b - a) ∙ omega arith
    go (no h) = let l : b ≤ a = omega arith in ap nat_abs (signed_over s a b l) ∙ abs_signed s (a - b) ∙ omega arith

-- a difference is 0 exactly where the sizes are equal
pub difference_zero : (s : Bool) (a b : ℕ) → a ≡ b → signed s a -ℤ signed s b ≡ pos 0
difference_zero s a b e = signed_over s a b (le_of_eq (sym e)) ∙ ap (signed s) gone ∙ nought s
  where
    gone : a - b ≡ 0
    gone = omega arith

    nought : (s : Bool) → signed s 0 ≡ pos 0
    nought true = refl
    nought false = refl

pub zero_difference : (s : Bool) (a b : ℕ) → signed s a -ℤ signed s b ≡ pos 0 → a ≡ b
zero_difference s a b e = let z : apart a b ≡ 0 = sym (abs_difference s a b) ∙ ap nat_abs e in omega arith
