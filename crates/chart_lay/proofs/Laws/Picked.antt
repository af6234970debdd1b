-- Numbers picked below k: they are no more than k, no fewer below a greater number, and what lies before the foremost of a wider property adds none.
use mathlib.Core.Path.{◌≡◌, refl, sym, ap, ◌∙◌}
use mathlib.Core.Bool.{Bool, true, false}
use mathlib.Core.Logic.{⊎_elim}
use mathlib.Core.List.{List, [], ◌∷◌, ◌++◌}
use Prim.Native.Nat.{ℕ, zero, suc, ◌+◌, ◌<◌, ◌≤◌}
use native.Mathlib.Nat.{eq-or-lt_of_le}
use native.Mathlib.Numerals.{add-one}
use native.Mathlib.Omega.{arith}
use lib.ListN.{length, length-append}
use Rattle.rim_pieces.specs.Computed.{numbers_below}
use Rattle.chart_rules.specs.Report.{pick}
use Rattle.chart_rules.proofs.Laws.Picking.{pick_next, pick_skip, pick_stretch, pick_many, many_few}
use Rattle.chart_lay.specs.Workings.Chaining.{Foremost}

-- those below k that q holds of
abbrev pub up_to : (ℕ → Bool) → ℕ → List ℕ
up_to q k = pick q (numbers_below k)

module _ (q : ℕ → Bool) where
  -- they are at most k
  pub few_picked : (k : ℕ) → length (up_to q k) ≤ k
  few_picked k = omega (arith, pick_many q k, many_few q k)

  -- and no fewer below a greater number
  pub more_picked : (k n : ℕ) → k ≤ n → length (up_to q k) ≤ length (up_to q n)
  more_picked k zero h = let e : length (up_to q k) ≡ length (up_to q 0) = ap (λ (x : ℕ). length (up_to q x)) (let z : k ≡ 0 = omega arith in z) in omega arith
  more_picked k (suc n) h =
      ⊎_elim (λ (e : k ≡ suc n). let f : length (up_to q k) ≡ length (up_to q (suc n)) = ap (λ (x : ℕ). length (up_to q x)) e in omega arith)
      (λ (e : k < suc n). let a = more_picked k n (omega arith) in let b = one n in omega arith)
      (eq-or-lt_of_le h)
    where
      one : (m : ℕ) → length (up_to q m) ≤ length (up_to q (suc m))
      one m = go (q m) refl
        where
          go : (t : Bool) → q m ≡ t → length (up_to q m) ≤ length (up_to q (suc m))
          go true e = let a : length (up_to q (suc m)) ≡ length (up_to q m) + 1 = ap (λ (x : ℕ). length (up_to q x)) (sym (add-one m)) ∙ ap length (pick_next q m e) ∙ length-append (up_to q m) (m ∷ []) in omega arith
          go false e = let a : length (up_to q (suc m)) ≡ length (up_to q m) = ap (λ (x : ℕ). length (up_to q x)) (sym (add-one m)) ∙ ap length (pick_skip q m e) in omega arith

  -- what lies between k and the foremost of a wider property adds none
  module _ {p : ℕ → Bool} {k n l : ℕ} (f : Foremost p k n l) (narrower : (j : ℕ) → p j ≡ false → q j ≡ false) where
    before_it : up_to q l ≡ up_to q k
    before_it = pick_stretch q k l f.from (λ j a b. narrower j (f.first j a b))

    pub picked_it : q l ≡ true → up_to q (l + 1) ≡ up_to q k ++ (l ∷ [])
    picked_it e = pick_next q l e ∙ ap (λ (x : List ℕ). x ++ (l ∷ [])) before_it

    pub passed_it : q l ≡ false → up_to q (l + 1) ≡ up_to q k
    passed_it e = pick_skip q l e ∙ before_it
