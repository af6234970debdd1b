-- A float holds one whole number, two floats that hold one number are the same, and comparisons of floats are those of their numbers.
use mathlib.Core.Path.{◌≡◌, sym, ap, ◌∙◌}
use mathlib.Core.Bool.{Bool, true, false, ◌&&◌, ◌||◌, true≢false}
use mathlib.Core.Logic.{inl, inr}
use Prim.Native.Nat.{ℕ, ◌*◌, ◌≤◌}
use native.Mathlib.Nat.{zero-lt-suc, mul-pos, eq_of_mul-eq-mul_right, eq-or-lt_of_le, le_of_lt, le_of_eq}
use lib.Dec.{T, ltb, leb, eqb, ltb→lt, lt→ltb, leb→le, le→leb, eqb→eq}
use lib.IntN.{ℤ, nat_abs}
use lib.Ieee.{Float, nan, inf, fin, binary64, up, down, lt, le, eq}
use lib.Ieee.Fits.{down_pos, eq→eqb, and_i, and_l}
use lib.Ieee.Exact.{HasValue}
use lib.Ieee.Back.{whole_unique}
use Rattle.grid_coordinate.specs.Units.{signed}
use Rattle.grid_coordinate.proofs.Laws.Floats.{same_test, same_less, cross_left, cross_right, eq_is}
use Rattle.grid_floats.specs.Workings.Whole.{Whole, Natural}

-- ---- one number

one_size : (x : Float) (s t : Bool) (m n : ℕ) → HasValue x s m 1 → HasValue x t n 1 → (s ≡ t) × (m ≡ n)
one_size nan s t m n v w = absurd v
one_size (inf b) s t m n v w = absurd v
one_size (fin b k e) s t m n v w = (sym v.0 ∙ w.0, eq_of_mul-eq-mul_right (down e) (down_pos e) m n (sym v.1 ∙ w.1))

pub whole_one : (x : Float) (a b : ℤ) → Whole x a → Whole x b → a ≡ b
whole_one x a b p q =
    let same = one_size x p.minus q.minus (nat_abs a) (nat_abs b) p.value q.value in
    sym p.sign ∙ ap (λ (s : Bool). signed s (nat_abs a)) same.0 ∙ ap (signed q.minus) same.1 ∙ q.sign

pub natural_same : (x y : Float) (n : ℕ) → Natural x n → Natural y n → x ≡ y
natural_same x y n p q = whole_unique binary64 x y false n p.held q.held p.value q.value

-- ---- comparisons

less_is : (x y : Float) (m n : ℕ) → HasValue x false m 1 → HasValue y false n 1 → lt x y ≡ ltb m n
unfolding lt
less_is nan y m n v w = absurd v
less_is (inf b) y m n v w = absurd v
less_is (fin true k e) y m n v w = absurd (true≢false v.0)
less_is (fin false k e) nan m n v w = absurd w
less_is (fin false k e) (inf d) m n v w = absurd w
less_is (fin false k e) (fin true l g) m n v w = absurd (true≢false w.0)
less_is (fin false k e) (fin false l g) m n v w =
    same_less (k * up e * down g) (l * up g * down e) (down e * down g) m n 1 (mul-pos (down_pos e) (down_pos g)) (zero-lt-suc 0)
    (cross_left false false k l e g false false m n 1 v w) (cross_right false false k l e g false false m n 1 v w)

pub natural_less : (x y : Float) (m n : ℕ) → Natural x m → Natural y n → lt x y ≡ ltb m n
natural_less x y m n p q = less_is x y m n p.value q.value

-- below or equal, as one test
either : (m n : ℕ) → (ltb m n || (eqb m n && true)) ≡ leb m n
either m n = same_test (ltb m n || (eqb m n && true)) (leb m n) (λ t. le→leb m n (under (ltb m n) (eqb m n && true) (λ a. le_of_lt (ltb→lt m n a)) (λ b. le_of_eq (eqb→eq m n (and_l (eqb m n) true b))) t)) (λ t. over (leb→le m n t))
  where
    under : (a b : Bool) → (T a → m ≤ n) → (T b → m ≤ n) → T (a || b) → m ≤ n
    under true b f g t = f tt
    under false b f g t = g t

    left : (a b : Bool) → T a → T (a || b)
    left true b t = tt
    left false b t = absurd t

    right : (a b : Bool) → T b → T (a || b)
    right true b t = tt
    right false b t = t

    over : m ≤ n → T (ltb m n || (eqb m n && true))
    over h = elim (eq-or-lt_of_le h) [ inl e ↦ right (ltb m n) (eqb m n && true) (and_i (eqb m n) true (eq→eqb e) tt) | inr l ↦ left (ltb m n) (eqb m n && true) (lt→ltb m n l) ]

pub natural_at_most : (x y : Float) (m n : ℕ) → Natural x m → Natural y n → le x y ≡ leb m n
unfolding le
natural_at_most x y m n p q =
    ap (λ (b : Bool). b || eq x y) (natural_less x y m n p q)
    ∙ ap (λ (b : Bool). ltb m n || b) (eq_is x y false false m n 1 (zero-lt-suc 0) p.value q.value)
    ∙ either m n
