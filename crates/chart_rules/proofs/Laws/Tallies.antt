-- What is tallied of entries: what is tallied has a place and what has a place is tallied, and of entries for numbers that were picked those for one number
-- are all or none.
use mathlib.Core.Path.{◌≡◌, refl, sym, ap, ◌∙◌}
use mathlib.Core.Bool.{Bool, true, false, cond}
use mathlib.Core.Logic.{◌⊎◌, inl, inr}
use mathlib.Core.List.{List, [], ◌∷◌, ◌++◌, map}
use Prim.Native.Nat.{ℕ, zero, suc, ◌+◌, ◌<◌, ◌≤◌}
use native.Mathlib.Nat.{zero-add, not-suc-le-zero}
use native.Mathlib.Omega.{arith}
use lib.Dec.{eqb}
use lib.ListN.{length, get_or}
use borrow.Author.Tests.{eq-eqb, ne_eqb}
use Rattle.surface_rules.proofs.Laws.Tests.{eq_or_not}
use Rattle.loop_rules.proofs.Laws.Counts.{count}
use Rattle.chart_rules.specs.declared.Entry.{Entry}
use Rattle.chart_rules.specs.Report.{entry, nothing, pick}
use Rattle.chart_rules.specs.Tallies.{tally}

module _ (t : Entry → Bool) where
  pub tally_none : tally t [] ≡ 0
  unfolding tally
  tally_none = refl

  pub tally_append : (a b : List Entry) → tally t (a ++ b) ≡ tally t a + tally t b
  unfolding tally
  tally_append [] b = omega arith
  tally_append (e ∷ a) b = go (t e) (tally_append a b)
    where
      go : (u : Bool) → tally t (a ++ b) ≡ tally t a + tally t b → cond u (suc (tally t (a ++ b))) (tally t (a ++ b)) ≡ cond u (suc (tally t a)) (tally t a) + tally t b
      go true e = omega arith
      go false e = e

  -- what is counted has a place,
  pub tally_place : (es : List Entry) → 0 < tally t es → (i : ℕ) × (i < length es) × (t (get_or es i nothing) ≡ true)
  unfolding tally
  tally_place [] h = absurd (not-suc-le-zero h)
  tally_place (e ∷ es) h = go (t e) refl h (tally_place es)
    where
      go : (u : Bool) → t e ≡ u → 0 < cond u (suc (tally t es)) (tally t es) → (0 < tally t es → (i : ℕ) × (i < length es) × (t (get_or es i nothing) ≡ true))
          → (i : ℕ) × (i < length (e ∷ es)) × (t (get_or (e ∷ es) i nothing) ≡ true)
      go true q h r = (0, omega arith, q)
      go false q h r = let w = r h in (suc w.0, (let a = w.1 in omega arith), w.2)

  -- and what has a place is counted
  place_tally : (es : List Entry) (i : ℕ) → i < length es → t (get_or es i nothing) ≡ true → 0 < tally t es
  unfolding tally
  place_tally [] i h e = absurd (not-suc-le-zero h)
  place_tally (x ∷ es) zero h e = rw e (omega arith)
  place_tally (x ∷ es) (suc i) h e = go (t x) (place_tally es i (omega arith) e)
    where
      go : (u : Bool) → 0 < tally t es → 0 < cond u (suc (tally t es)) (tally t es)
      go true r = omega arith
      go false r = r

  -- where one is counted there is one place
  pub tally_single : (es : List Entry) → tally t es ≤ 1 → (i j : ℕ) → i < length es → j < length es → t (get_or es i nothing) ≡ true → t (get_or es j nothing) ≡ true → i ≡ j
  unfolding tally
  tally_single [] h i j a b d e = absurd (not-suc-le-zero a)
  tally_single (x ∷ es) h zero zero a b d e = refl
  tally_single (x ∷ es) h zero (suc j) a b d e = let k : suc (tally t es) ≤ 1 = rw d at h in let r = place_tally es j (omega arith) e in absurd (omega arith)
  tally_single (x ∷ es) h (suc i) zero a b d e = let k : suc (tally t es) ≤ 1 = rw e at h in let r = place_tally es i (omega arith) d in absurd (omega arith)
  tally_single (x ∷ es) h (suc i) (suc j) a b d e = ap suc (tally_single es (go (t x) h) i j (omega arith) (omega arith) d e)
    where
      go : (u : Bool) → cond u (suc (tally t es)) (tally t es) ≤ 1 → tally t es ≤ 1
      go true k = omega arith
      go false k = k

  -- of the entries for numbers picked, those of none
  pub picked_none : (k : ℕ) → ((x : ℕ) → t (entry k x) ≡ false) → (xs : List ℕ) → tally t (map (entry k) xs) ≡ 0
  unfolding tally
  picked_none k h [] = refl
  picked_none k h (x ∷ xs) = rw (h x) (picked_none k h xs)

  -- and those of one number, all or none
  pub picked : (k l : ℕ) → t (entry k l) ≡ true → ((x : ℕ) → (x ≡ l → ⊥) → t (entry k x) ≡ false) → (p : ℕ → Bool) (xs : List ℕ) → tally t (map (entry k) (pick p xs)) ≡ cond (p l) (count l xs) 0
  unfolding tally pick count
  picked k l is other p [] = go (p l)
    where
      go : (u : Bool) → ◌≡◌ {A = ℕ} 0 (cond u 0 0)
      go true = refl
      go false = refl
  picked k l is other p (x ∷ xs) = go (p x) refl (eq_or_not x l) (picked k l is other p xs)
    where
      go : (u : Bool) → p x ≡ u → (x ≡ l) ⊎ (x ≡ l → ⊥) → tally t (map (entry k) (pick p xs)) ≡ cond (p l) (count l xs) 0
          → tally t (map (entry k) (cond u (x ∷ pick p xs) (pick p xs))) ≡ cond (p l) (cond (eqb l x) 1 0 + count l xs) 0
      go true e (inl q) h =
          let d : p l ≡ true = ap p (sym q) ∙ e in
          let w : tally t (map (entry k) (pick p xs)) ≡ count l xs = h ∙ (rw d) in
          let z : t (entry k x) ≡ true = ap (λ (n : ℕ). t (entry k n)) q ∙ is in
          rw (z, d, eq-eqb l x (sym q)) (omega arith)
      go true e (inr q) h = rw (other x q, ne_eqb l x (λ r. q (sym r)), zero-add (count l xs)) h
      go false e (inl q) h = let d : p l ≡ false = ap p (sym q) ∙ e in rw d (h ∙ (rw d))
      go false e (inr q) h = rw (ne_eqb l x (λ r. q (sym r)), zero-add (count l xs)) h
