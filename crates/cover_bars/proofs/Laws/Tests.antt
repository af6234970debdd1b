-- What two tests in one say, and tests in another order.
use mathlib.Core.Path.{◌≡◌, refl, sym, ap, ◌∙◌}
use mathlib.Core.Bool.{Bool, true, false, ◌||◌, or_assoc, true≢false}
use mathlib.Core.Logic.{◌⊎◌, inl, inr, ⊎_elim}
use Prim.Native.Nat.{ℕ, ◌+◌, ◌<◌, ◌≤◌}
use native.Mathlib.Omega.{arith}
use lib.Dec.{eqb, ltb}
use borrow.Author.Tests.{eq-eqb, ne_eqb, lt-ltb, le-ltb}
use Rattle.surface_rules.proofs.Laws.Tests.{not_so, eq_or_not, lt_or_le}

pub either_true : (s t : Bool) → (s || t) ≡ true → (s ≡ true) ⊎ (t ≡ true)
either_true true t e = inl refl
either_true false t e = inr e

pub or_left : (s t : Bool) → s ≡ true → (s || t) ≡ true
or_left s t e = ap (λ (x : Bool). x || t) e

pub or_right : (s t : Bool) → t ≡ true → (s || t) ≡ true
or_right true t e = refl
or_right false t e = e

pub surely : (t : Bool) → (t ≡ false → ⊥) → t ≡ true
surely true n = refl
surely false n = absurd (n refl)

-- two tests that each pass where the other does are one
pub same_truth : (s t : Bool) → (s ≡ true → t ≡ true) → (t ≡ true → s ≡ true) → s ≡ t
same_truth true t f g = sym (f refl)
same_truth false t f g = sym (not_so t (λ e. true≢false (sym (g e))))

-- four tests, the inner two exchanged
pub exchanged : (a b c d : Bool) → ((a || b) || (c || d)) ≡ ((a || c) || (b || d))
exchanged true b c d = refl
exchanged false true true d = refl
exchanged false true false d = refl
exchanged false false c d = refl

pub paired : (a b c d : Bool) → (((a || b) || c) || d) ≡ ((a || c) || (b || d))
paired a b c d = or_assoc (a || b) c d ∙ exchanged a b c d

-- below j + 1 is what is below j, and j
pub ltb_more : (a j : ℕ) → ltb a (j + 1) ≡ (ltb a j || eqb a j)
ltb_more a j =
    ⊎_elim
    (λ (l : a < j). lt-ltb a (j + 1) (omega arith) ∙ sym (ap (λ (t : Bool). t || eqb a j) (lt-ltb a j l)))
    (λ (l : j ≤ a).
    sym
    (ap (λ (t : Bool). t || eqb a j) (le-ltb a j l)
    ∙ ⊎_elim
    (λ (e : a ≡ j). eq-eqb a j e ∙ sym (lt-ltb a (j + 1) (omega arith)))
    (λ (e : a ≡ j → ⊥). ne_eqb a j e ∙ sym (le-ltb a (j + 1) (omega arith)))
    (eq_or_not a j)))
    (lt_or_le a j)
