-- Lists in which nothing stands twice: of numbers below n they hold at most n, by the pigeonhole.
use mathlib.Core.Path.{◌≡◌, sym, ap, ◌∙◌}
use mathlib.Core.List.{List, [], ◌++◌}
use mathlib.Core.Logic.{◌⊎◌, inl, inr, ⊎_elim}
use Prim.Native.Nat.{ℕ, ◌+◌, ◌-◌, ◌<◌, ◌≤◌}
use native.Mathlib.Omega.{arith}
use native.Mathlib.Nat.{not-suc-le-zero}
use lib.ListN.{length, get_or, length-append, get_or-append}
use lib.Seq.{get_or-append-add}
use Rattle.surface_rules.proofs.Laws.Tests.{lt_or_le}
use Rattle.loop_rules.proofs.Laws.Pigeon.{pigeon}

-- nothing stands in l twice
unfoldable pub Distinct : List ℕ → Type 0
Distinct l = (i j : ℕ) → i < length l → j < length l → get_or l i 0 ≡ get_or l j 0 → i ≡ j

-- everything in l is below n
unfoldable pub Bounded : ℕ → List ℕ → Type 0
Bounded n l = (i : ℕ) → i < length l → get_or l i 0 < n

pub distinct_bound : (n : ℕ) (l : List ℕ) → Distinct l → Bounded n l → length l ≤ n
unfolding Distinct Bounded
distinct_bound n l d b =
    ⊎_elim (λ m. absurd (pigeon n (λ i. get_or l i 0) (λ i h. b i (omega arith)) (λ i j h k e. d i j (omega arith) (omega arith) e))) (λ m. m) (lt_or_le n (length l))

pub distinct_none : Distinct []
unfolding Distinct
distinct_none i j h l e = absurd (not-suc-le-zero h)

-- what stands at i of two lists in a row
pub append_at : (a b : List ℕ) (i : ℕ) → i < length (a ++ b) → ((i < length a) × (get_or (a ++ b) i 0 ≡ get_or a i 0)) ⊎ ((length a ≤ i) × (i - length a < length b) × (get_or (a ++ b) i 0 ≡ get_or b (i - length a) 0))
append_at a b i h =
    ⊎_elim (λ l. inl (l, get_or-append a b 0 i l))
    (λ m.
    let e : i ≡ length a + (i - length a) = omega arith in
    let s : length (a ++ b) ≡ length a + length b = length-append a b in
    inr (m, omega arith, ap (λ (k : ℕ). get_or (a ++ b) k 0) e ∙ get_or-append-add a b (i - length a) 0))
    (lt_or_le i (length a))

-- two such lists in a row are one, if they have nothing in common
pub distinct_append : (a b : List ℕ) → Distinct a → Distinct b → ((i j : ℕ) → i < length a → j < length b → get_or a i 0 ≡ get_or b j 0 → ⊥) → Distinct (a ++ b)
unfolding Distinct
distinct_append a b da db apart i j hi hj e =
    ⊎_elim
    (λ x.
    ⊎_elim (λ y. da i j x.0 y.0 (sym x.1 ∙ e ∙ y.1)) (λ y. absurd (apart i (j - length a) x.0 y.1 (sym x.1 ∙ e ∙ y.2)))
    (append_at a b j hj))
    (λ x.
    ⊎_elim (λ y. absurd (apart j (i - length a) y.0 x.1 (sym y.1 ∙ sym e ∙ x.2)))
    (λ y. let q : i - length a ≡ j - length a = db _ _ x.1 y.1 (sym x.2 ∙ e ∙ y.2) in omega arith)
    (append_at a b j hj))
    (append_at a b i hi)
