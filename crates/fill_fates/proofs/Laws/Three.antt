-- The loop of three is its own patch: it has one cover, and no diagonal that could be barred.
use mathlib.Core.Path.{◌≡◌, refl, sym, ap, ap₂, ◌∙◌, subst}
use mathlib.Core.Bool.{Bool, true, false, not, ◌&&◌, ◌||◌}
use mathlib.Core.List.{List}
use mathlib.Core.Logic.{inl, inr, ⊎_elim}
use Prim.Native.Nat.{ℕ, suc, ◌+◌, ◌-◌, ◌%◌, ◌<◌, ◌≤◌}
use native.Mathlib.Nat.{mod-eq_of_lt}
use native.Mathlib.Omega.{arith}
use lib.IntN.{ℤ}
use lib.Dec.{eqb, ltb}
use lib.ListN.{length, get_or}
use borrow.Author.Tests.{le-ltb, eq-eqb}
use Rattle.base_limits.specs.Limits as limits
use Rattle.surface_rules.proofs.Laws.Tests.{lt_or_le}
use Rattle.cover_rules.specs.Covers.{Cover, empty, apex, Covers, Uses, Sooner, Patch, weight}
use Rattle.cover_weight.specs.Edition.{naturals, tri_of, along}
use Rattle.cover_bars.specs.Bars.{follows, diagonal, between, barred}
use Rattle.fill_fates.specs.Fates.{patched, Meets}

-- ---- its cover

side_empty : (i k : ℕ) (c : Cover) → Covers i k c → k ≡ suc i → c ≡ empty
side_empty i k empty h e = refl
side_empty i k (apex m c d) h e = let a : i < m = h.0 in let b : m < k = h.1 in absurd (omega arith)

three_only : (c : Cover) → Covers 0 2 c → apex 1 empty empty ≡ c
three_only empty h = let e : ◌≡◌ {A = ℕ} 2 1 = h in absurd (omega arith)
three_only (apex m c d) h =
    let a : 0 < m = h.0 in
    let b : m < 2 = h.1 in
    let e : 1 ≡ m = omega arith in
    ap (λ (z : ℕ). apex z empty empty) e
    ∙ ap₂ (λ (x y : Cover). apex m x y) (sym (side_empty 0 m c h.2 (omega arith))) (sym (side_empty m 2 d h.3 (omega arith)))

three_uses : (barred : ℕ → ℕ → Bool) → barred 0 2 ≡ false → (a b : ℕ) → Uses 0 2 (apex 1 empty empty) a b → barred a b ≡ false
three_uses barred e a b (inl u) = ap₂ barred u.0 u.1 ∙ e
three_uses barred e a b (inr (inl u)) = absurd u
three_uses barred e a b (inr (inr u)) = absurd u

pub three_patch : (tri : ℕ → ℕ → ℕ → ℕ) (barred : ℕ → ℕ → Bool) → barred 0 2 ≡ false → Patch naturals tri barred 0 2 (apex 1 empty empty)
three_patch tri barred e =
    record {
      among = record { covers = (omega arith, omega arith, refl, refl); free = three_uses barred e };
      least = λ d p l. three_least d p.covers l;
      soonest = λ d p _. subst (Sooner (apex 1 empty empty)) (three_only d p.covers) (inr (refl, tt, tt));
    }
  where
    three_least : (d : Cover) → Covers 0 2 d → weight naturals tri 0 2 d < weight naturals tri 0 2 (apex 1 empty empty) → ⊥
    three_least d h l = let e : weight naturals tri 0 2 (apex 1 empty empty) ≡ weight naturals tri 0 2 d = ap (weight naturals tri 0 2) (three_only d h) in omega arith

-- ---- its bars

pub three_free : (input laid ring : List ℕ) → length ring ≡ 3 → barred input laid ring 0 2 ≡ false
unfolding barred diagonal follows
three_free input laid ring e =
    ap
    (λ (n : ℕ). ((ltb 0 n && ltb 2 n) && not ((eqb 0 2 || eqb ((0 + 1) % n) 2) || eqb ((2 + 1) % n) 0)) && (between input (get_or ring 0 0) (get_or ring 2 0) || between laid (get_or ring 0 0) (get_or ring 2 0)))
    e

-- a neighbour is on no diagonal
side_no_diagonal : (n j : ℕ) → diagonal n j (suc j) ≡ false
unfolding diagonal follows
side_no_diagonal n j =
    ⊎_elim
    (λ (l : suc j < n).
    let m : j + 1 < n = omega arith in
    let r : j + 1 ≡ suc j = omega arith in
    let q : (j + 1) % n ≡ suc j = mod-eq_of_lt m ∙ r in
    ap (λ (t : Bool). (ltb j n && ltb (suc j) n) && not ((eqb j (suc j) || t) || eqb ((suc j + 1) % n) j)) (eq-eqb ((j + 1) % n) (suc j) q)
    ∙ by_tests (ltb j n && ltb (suc j) n) (eqb j (suc j)) (eqb ((suc j + 1) % n) j))
    (λ (l : n ≤ suc j).
    ap (λ (t : Bool). (ltb j n && t) && not ((eqb j (suc j) || eqb ((j + 1) % n) (suc j)) || eqb ((suc j + 1) % n) j)) (le-ltb (suc j) n l)
    ∙ outside (ltb j n) (not ((eqb j (suc j) || eqb ((j + 1) % n) (suc j)) || eqb ((suc j + 1) % n) j)))
    (lt_or_le (suc j) n)
  where
    by_tests : (s a b : Bool) → (s && not ((a || true) || b)) ≡ false
    by_tests true true b = refl
    by_tests true false b = refl
    by_tests false a b = refl

    outside : (s a : Bool) → ((s && false) && a) ≡ false
    outside true a = refl
    outside false a = refl

pub sides_free : (input laid ring : List ℕ) (j : ℕ) → barred input laid ring j (suc j) ≡ false
unfolding barred
sides_free input laid ring j =
    ap
    (λ (t : Bool). t && (between input (get_or ring j 0) (get_or ring (suc j) 0) || between laid (get_or ring j 0) (get_or ring (suc j) 0)))
    (side_no_diagonal (length ring) j)

-- ---- its fate

pub three_meets : (grid : List ℤ) (input laid ring : List ℕ) → length ring ≡ 3 → Meets grid input laid ring (patched (apex 1 empty empty))
three_meets grid input laid ring e =
    let k : 2 ≡ length ring - 1 = omega arith in (
      omega arith,
      subst (λ (z : ℕ). Patch naturals (tri_of (along grid ring)) (barred input laid ring) 0 z (apex 1 empty empty)) k
          (three_patch (tri_of (along grid ring)) (barred input laid ring) (three_free input laid ring e)),
    )
