-- A loop of three has one cover and a loop of four has two. So which cover is taken is found by asking these, and all that is asked computes.
use Prim.Native.Nat.{ℕ, zero, suc, ◌<◌, ◌+◌}
use mathlib.Core.Path.{◌≡◌, refl, sym, ap, ◌∙◌, subst}
use mathlib.Core.Bool.{Bool, true, false, not, ◌&&◌, ◌||◌, true≢false}
use mathlib.Core.Logic.{◌⊎◌, inl, inr, ⊎_elim}
use native.Mathlib.Omega.{arith}
use lib.Dec.{eqb, ltb}
use borrow.Author.Tests.{eqb-true, ltb-true, not-true, eq-eqb, lt-ltb}
use Rattle.surface_rules.proofs.Laws.Tests.{both_true}
use Rattle.cover_rules.specs.Covers.{Cover, empty, apex, Covers, Uses, Sooner, Allowed, NoCover, weight, Patch}
use Rattle.cover_weight.specs.Edition.{naturals}
use Rattle.cover_bars.proofs.Laws.Tests.{either_true}
use Rattle.bench_proved.specs.Table.{over_one, over_two}

-- ---- the covers of the shortest stretches

of_side : (i k : ℕ) (c : Cover) → k ≡ i + 1 → Covers i k c → c ≡ empty
of_side i k empty e h = refl
of_side i k (apex m c d) e h = let l : i < m = h.0 in let r : m < k = h.1 in absurd (omega arith)

of_two : (i k : ℕ) (c : Cover) → k ≡ i + 2 → Covers i k c → c ≡ apex (suc i) empty empty
of_two i k empty e h = let s : k ≡ suc i = h in absurd (omega arith)
of_two i k (apex m c d) e h =
    let l : i < m = h.0 in
    let r : m < k = h.1 in
    let n : m ≡ suc i = omega arith in
    let p : c ≡ empty = of_side i m c (omega arith) h.2 in
    let q : d ≡ empty = of_side m k d (omega arith) h.3 in
    cc

of_three : (c : Cover) → Covers 0 3 c → (c ≡ over_one) ⊎ (c ≡ over_two)
of_three empty h = absurd (omega (arith, h))
of_three (apex zero c d) h = absurd (omega (arith, h.0))
of_three (apex (suc zero) c d) h =
    let p : c ≡ empty = of_side 0 1 c refl h.2 in
    let q : d ≡ apex 2 empty empty = of_two 1 3 d refl h.3 in
    inl cc
of_three (apex (suc (suc zero)) c d) h =
    let p : c ≡ apex 1 empty empty = of_two 0 2 c refl h.2 in
    let q : d ≡ empty = of_side 2 3 d refl h.3 in
    inr cc
of_three (apex (suc (suc (suc m))) c d) h = absurd (omega (arith, h.1))

-- ---- the tie rule

abbrev sooner : Cover → Cover → Bool
sooner empty d = true
sooner (apex m c₁ c₂) empty = false
sooner (apex m c₁ c₂) (apex n d₁ d₂) = ltb m n || eqb m n && (sooner c₁ d₁ && sooner c₂ d₂)

comes : (c d : Cover) → sooner c d ≡ true → Sooner c d
comes empty d e = tt
comes (apex m c₁ c₂) empty e = absurd (true≢false (sym e))
comes (apex m c₁ c₂) (apex n d₁ d₂) e =
    ⊎_elim (λ l. inl (ltb-true m n l))
    (λ r. let s = both_true (eqb m n) (sooner c₁ d₁ && sooner c₂ d₂) r in
    let t = both_true (sooner c₁ d₁) (sooner c₂ d₂) s.1 in
    inr (eqb-true m n s.0, comes c₁ d₁ t.0, comes c₂ d₂ t.1))
    (either_true (ltb m n) (eqb m n && (sooner c₁ d₁ && sooner c₂ d₂)) e)

same_comes : (c : Cover) → Sooner c c
same_comes empty = tt
same_comes (apex m c d) = inr (refl, same_comes c, same_comes d)

module _ (barred : ℕ → ℕ → Bool) where
  -- ---- which covers are allowed

  abbrev lies : ℕ → ℕ → ℕ → Bool
  lies i k m = ltb i m && (ltb m k && not (barred i k))

  abbrev pub allows : ℕ → ℕ → Cover → Bool
  allows i k empty = eqb k (suc i)
  allows i k (apex m c d) = lies i k m && (allows i m c && allows m k d)

  pub allowed : (i k : ℕ) (c : Cover) → allows i k c ≡ true → Allowed barred i k c
  allowed i k empty e = record { covers = eqb-true k (suc i) e; free = λ a b u. absurd u }
  allowed i k (apex m c d) e =
      let s = both_true (lies i k m) (allows i m c && allows m k d) e in
      let t = both_true (ltb i m) (ltb m k && not (barred i k)) s.0 in
      let v = both_true (ltb m k) (not (barred i k)) t.1 in
      let w = both_true (allows i m c) (allows m k d) s.1 in
      let p = allowed i m c w.0 in
      let q = allowed m k d w.1 in
      record {
        covers = (ltb-true i m t.0, ltb-true m k v.0, p.covers, q.covers);
        free = λ a b u. ⊎_elim
            (λ g. rw (g.0, g.1) (not-true (barred i k) v.1))
            (⊎_elim (p.free a b) (q.free a b))
            u;
      }

  all_true : (p q r s t : Bool) → p ≡ true → q ≡ true → r ≡ false → s ≡ true → t ≡ true → (p && (q && not r) && (s && t)) ≡ true
  all_true p q r s t e f g h i = rw (e, f, g, h, i) refl

  allows_it : (i k : ℕ) (c : Cover) → Covers i k c → ((a b : ℕ) → Uses i k c a b → barred a b ≡ false) → allows i k c ≡ true
  allows_it i k empty h n = eq-eqb k (suc i) h
  allows_it i k (apex m c d) h n =
      all_true (ltb i m) (ltb m k) (barred i k) (allows i m c) (allows m k d)
      (lt-ltb i m h.0)
      (lt-ltb m k h.1)
      (n i k (inl (refl, refl)))
      (allows_it i m c h.2 (λ a b u. n a b (inr (inl u))))
      (allows_it m k d h.3 (λ a b u. n a b (inr (inr u))))

  pub not_allowed : (i k : ℕ) (c : Cover) → allows i k c ≡ false → Allowed barred i k c → ⊥
  not_allowed i k c e p = true≢false (sym (allows_it i k c p.covers p.free) ∙ e)

  pub none_of_four : allows 0 3 over_one ≡ false → allows 0 3 over_two ≡ false → NoCover barred 0 3
  none_of_four e f c p =
      ⊎_elim
      (λ q. not_allowed 0 3 over_one e (subst (Allowed barred 0 3) q p))
      (λ q. not_allowed 0 3 over_two f (subst (Allowed barred 0 3) q p))
      (of_three c p.covers)

  -- ---- which of them is taken

  module _ (tri : ℕ → ℕ → ℕ → ℕ) where
    abbrev heft : ℕ → Cover → ℕ
    heft k = weight naturals tri 0 k

    pub three : (c : Cover) → allows 0 2 c ≡ true → Patch naturals tri barred 0 2 c
    three c e = record {
      among = allowed 0 2 c e;
      least = λ d p h. omega (arith, h, ap (heft 2) (one d p));
      soonest = λ d p h. subst (Sooner c) (sym (one d p)) (same_comes c);
    }
      where
        one : (d : Cover) → Allowed barred 0 2 d → d ≡ c
        one d p = of_two 0 2 d refl p.covers ∙ sym (of_two 0 2 c refl (allowed 0 2 c e).covers)

    -- d is not allowed, or it is heavier than c, or it weighs the same and comes no sooner
    abbrev pub yields : Cover → Cover → Bool
    yields c d = not (allows 0 3 d) || (ltb (heft 3 c) (heft 3 d) || eqb (heft 3 c) (heft 3 d) && sooner c d)

    abbrev Behind : Cover → Cover → Type 0
    Behind c d = (heft 3 c < heft 3 d) ⊎ ((heft 3 c ≡ heft 3 d) × Sooner c d)

    behind : (c d : Cover) → yields c d ≡ true → Allowed barred 0 3 d → Behind c d
    behind c d e p =
        ⊎_elim
        (λ n. absurd (not_allowed 0 3 d (not-true (allows 0 3 d) n) p))
        (λ r. ⊎_elim
        (λ l. inl (ltb-true (heft 3 c) (heft 3 d) l))
        (λ s. let t = both_true (eqb (heft 3 c) (heft 3 d)) (sooner c d) s in
        inr (eqb-true (heft 3 c) (heft 3 d) t.0, comes c d t.1))
        (either_true (ltb (heft 3 c) (heft 3 d)) (eqb (heft 3 c) (heft 3 d) && sooner c d) r))
        (either_true (not (allows 0 3 d)) (ltb (heft 3 c) (heft 3 d) || eqb (heft 3 c) (heft 3 d) && sooner c d) e)

    pub four : (c : Cover) → allows 0 3 c ≡ true → yields c over_one ≡ true → yields c over_two ≡ true → Patch naturals tri barred 0 3 c
    four c e f g = record {
      among = allowed 0 3 c e;
      least = λ d p h. ⊎_elim (λ l. omega (arith, l, h)) (λ s. omega (arith, s.0, h)) (others d p);
      soonest = λ d p h. ⊎_elim (λ l. absurd (omega (arith, l, h))) (λ s. s.1) (others d p);
    }
      where
        others : (d : Cover) → Allowed barred 0 3 d → Behind c d
        others d p =
            ⊎_elim
            (λ q. subst (Behind c) (sym q) (behind c over_one f (subst (Allowed barred 0 3) q p)))
            (λ q. subst (Behind c) (sym q) (behind c over_two g (subst (Allowed barred 0 3) q p)))
            (of_three d p.covers)
