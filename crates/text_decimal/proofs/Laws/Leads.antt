-- Where a decimal number cannot go on: after a zero that leads, and after four digits under a limit of four.
use mathlib.Core.Path.{◌≡◌, refl, sym}
use mathlib.Core.Bool.{Bool, true, false, cond}
use mathlib.Core.List.{List, [], ◌∷◌}
use Prim.Native.Nat.{ℕ, suc, ◌+◌, ◌*◌, ◌<◌, ◌≤◌, ◌^◌}
use native.Mathlib.Nat.{pow-succ'}
use native.Mathlib.Numerals.{add-one}
use native.Mathlib.Omega.{arith}
use lib.Dec.{ltb, leb, eqb}
use lib.ListN.{length, drop, get_or}
use lib.Seq.{drop-cons}
use borrow.Author.Tests.{lt-leb, ne_eqb, ltb-true}
use Rattle.text_digits.specs.Numeral.{size}
use Rattle.text_digits.specs.Workings.Reading.{Read, wrong, value_of, until}
use Rattle.text_digits.proofs.Laws.Sizes.{size_below}

both : {A : Type 0} (t : Bool) → ◌≡◌ {A = Read A} (cond t wrong wrong) wrong
both true = refl
both false = refl

module _ (e limit : ℕ) where
  -- more digits than the value needs
  pub zeros : (bytes : List ℕ) (j v : ℕ) → v < 10 ^ suc j → until e limit v (suc (suc j)) bytes ≡ wrong
  unfolding until
  zeros [] j v h = refl
  zeros (x ∷ bytes) j v h =
      let n : eqb (suc (suc j)) (size v) ≡ false = ne_eqb (suc (suc j)) (size v) (λ z. omega (arith, size_below j v h)) in
      rw (n, add-one (suc (suc j))) (go (ltb (value_of x) 10) refl (λ (l : v * 10 + value_of x < 10 ^ suc (suc j)). zeros bytes (suc j) (v * 10 + value_of x) l))
    where
      go : (t : Bool) → ltb (value_of x) 10 ≡ t
          → (v * 10 + value_of x < 10 ^ suc (suc j) → until e limit (v * 10 + value_of x) (suc (suc (suc j))) bytes ≡ wrong)
          → cond (eqb x e) wrong (cond t (cond (leb (v * 10 + value_of x) limit) (until e limit (v * 10 + value_of x) (suc (suc (suc j))) bytes) wrong) wrong) ≡ wrong
      go true d r = rw (r (omega (arith, pow-succ' 10 (suc j), ltb-true (value_of x) 10 d)), both {A = ℕ} (leb (v * 10 + value_of x) limit)) (both (eqb x e))
      go false d r = both (eqb x e)

  module _ (text : List ℕ) (i : ℕ) (l : i < length text) (n : get_or text i 0 ≡ e → ⊥) where
    pub dec_lead : (v : ℕ) → v ≡ 0 → wrong ≡ until e limit v 1 (drop i text)
    unfolding until
    dec_lead v z = sym (rw (z, drop-cons text i 0 l, ne_eqb _ _ n) (go (ltb (value_of (get_or text i 0)) 10) refl))
      where
        go : (t : Bool) → ltb (value_of (get_or text i 0)) 10 ≡ t
            → cond t (cond (leb (0 * 10 + value_of (get_or text i 0)) limit) (until e limit (0 * 10 + value_of (get_or text i 0)) (1 + 1) (drop (suc i) text)) wrong) wrong ≡ wrong
        go true d = rw (zeros (drop (suc i) text) 0 (0 * 10 + value_of (get_or text i 0)) (omega (arith, ltb-true (value_of (get_or text i 0)) 10 d))) (both (leb (0 * 10 + value_of (get_or text i 0)) limit))
        go false d = refl

    pub dec_full : (v : ℕ) → 1000 ≤ v → limit < 10000 → wrong ≡ until e limit v 4 (drop i text)
    unfolding until
    dec_full v h m = sym (rw (drop-cons text i 0 l, ne_eqb _ _ n, lt-leb (v * 10 + value_of (get_or text i 0)) limit (omega arith)) (both (ltb (value_of (get_or text i 0)) 10)))
