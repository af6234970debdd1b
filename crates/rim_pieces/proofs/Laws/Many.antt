-- How many indices have a property: more of them below a greater number, and each count below is that of one of them.
use mathlib.Core.Path.{◌≡◌, refl, sym, ap}
use mathlib.Core.Bool.{Bool, true, false, cond}
use mathlib.Core.Logic.{⊎_elim}
use Prim.Native.Nat.{ℕ, zero, suc, ◌<◌, ◌≤◌}
use native.Mathlib.Nat.{not-suc-le-zero, le_of_suc-le-suc, eq-or-lt_of_le}
use native.Mathlib.Omega.{arith}
use Rattle.surface_rules.proofs.Laws.Tests.{lt_or_le}
use Rattle.rim_pieces.specs.Computed.{many}

module _ (p : ℕ → Bool) where
  many_more : (n : ℕ) → many p n ≤ many p (suc n)
  unfolding many
  many_more n = go (p n)
    where
      go : (t : Bool) → many p n ≤ cond t (suc (many p n)) (many p n)
      go true = omega arith
      go false = omega arith

  many_hit : (n : ℕ) → p n ≡ true → many p (suc n) ≡ suc (many p n)
  unfolding many
  many_hit n e = rw e

  many_mono : (m n : ℕ) → m ≤ n → many p m ≤ many p n
  many_mono m zero l = let e : m ≡ 0 = omega arith in let f : many p m ≡ many p 0 = ap (many p) e in omega arith
  many_mono m (suc n) l =
      ⊎_elim (λ (q : n < m). let e : m ≡ suc n = omega arith in let f : many p m ≡ many p (suc n) = ap (many p) e in omega arith)
      (λ (q : m ≤ n). let a = many_mono m n q in let b = many_more n in omega arith)
      (lt_or_le n m)

  -- below a greater number there are more, if the smaller one has the property
  pub many_apart : (m n : ℕ) → p m ≡ true → m < n → many p m < many p n
  many_apart m n e l = let a = many_hit m e in let b = many_mono (suc m) n l in omega arith

  -- each smaller count is that of an index with the property
  pub many_find : (n k : ℕ) → k < many p n → (s : ℕ) × (s < n) × (p s ≡ true) × (many p s ≡ k)
  unfolding many
  many_find zero k l = absurd (not-suc-le-zero l)
  many_find (suc n) k l = go (p n) refl l (λ (h : k < many p n). many_find n k h)
    where
      later : ((s : ℕ) × (s < n) × (p s ≡ true) × (many p s ≡ k)) → (s : ℕ) × (s < suc n) × (p s ≡ true) × (many p s ≡ k)
      later w = (w.0, (let a = w.1 in omega arith), w.2, w.3)

      go : (t : Bool) → p n ≡ t → k < cond t (suc (many p n)) (many p n) → (k < many p n → (s : ℕ) × (s < n) × (p s ≡ true) × (many p s ≡ k)) → (s : ℕ) × (s < suc n) × (p s ≡ true) × (many p s ≡ k)
      go true e h r = ⊎_elim (λ (q : k ≡ many p n). (n, omega arith, e, sym q)) (λ (q : k < many p n). later (r q)) (eq-or-lt_of_le (le_of_suc-le-suc h))
      go false e h r = later (r h)
