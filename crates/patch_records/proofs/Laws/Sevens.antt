-- Lists of seven numbers, one after the other: one more goes behind the last, and each number is found at its place.
use mathlib.Core.Path.{◌≡◌, refl, sym, ap, ap₂, ◌∙◌}
use mathlib.Core.Logic.{⊎_elim}
use mathlib.Core.List.{List, [], ◌∷◌, ◌++◌, map, flatten, map-append}
use Prim.Native.Nat.{ℕ, zero, suc, ◌+◌, ◌*◌, ◌<◌}
use native.Mathlib.Nat.{le_of_suc-le-suc, eq-or-lt_of_le}
use native.Mathlib.Numerals.{add-one}
use native.Mathlib.Omega.{arith}
use lib.ListN.{length, get_or, length-append, get_or-append}
use lib.Seq.{get_or-append-add}
use Rattle.loop_rules.proofs.Laws.Kept.{flatten_snoc}
use Rattle.rim_pieces.specs.Computed.{numbers_below}

-- what f lists below n
abbrev pub listed : (ℕ → List ℕ) → ℕ → List ℕ
listed f n = flatten (map f (numbers_below n))

pub listed_next : (f : ℕ → List ℕ) (n : ℕ) → listed f (n + 1) ≡ listed f n ++ f n
unfolding numbers_below
listed_next f n = ap (listed f) (add-one n) ∙ ap flatten (map-append f (numbers_below n) (n ∷ [])) ∙ flatten_snoc (map f (numbers_below n)) (f n)

pub listed_none : (f : ℕ → List ℕ) → listed f 0 ≡ []
unfolding numbers_below flatten
listed_none f = refl

pub listed_same : (f g : ℕ → List ℕ) (n : ℕ) → ((l : ℕ) → l < n → f l ≡ g l) → listed f n ≡ listed g n
listed_same f g zero h = listed_none f ∙ sym (listed_none g)
listed_same f g (suc n) h =
    ap (listed f) (sym (add-one n))
    ∙ listed_next f n
    ∙ ap₂ (λ (x y : List ℕ). x ++ y) (listed_same f g n (λ l k. h l (omega arith))) (h n (omega arith))
    ∙ sym (listed_next g n)
    ∙ ap (listed g) (add-one n)

module _ (f : ℕ → List ℕ) (seven : (l : ℕ) → length (f l) ≡ 7) where
  pub sevens_length : (n : ℕ) → length (listed f n) ≡ 7 * n
  sevens_length zero = ap length (listed_none f)
  sevens_length (suc n) =
      let a : length (listed f (n + 1)) ≡ length (listed f n) + length (f n) = ap length (listed_next f n) ∙ length-append (listed f n) (f n) in
      let b = sevens_length n in
      let c = seven n in
      ap (λ (k : ℕ). length (listed f k)) (sym (add-one n)) ∙ omega arith

  pub sevens_at : (n l i : ℕ) → l < n → i < 7 → get_or (listed f n) (7 * l + i) 0 ≡ get_or (f l) i 0
  sevens_at zero l i h k = absurd (omega arith)
  sevens_at (suc n) l i h k =
      let a = sevens_length n in
      ap (λ (m : ℕ). get_or (listed f m) (7 * l + i) 0) (sym (add-one n))
      ∙ ap (λ (x : List ℕ). get_or x (7 * l + i) 0) (listed_next f n)
      ∙ ⊎_elim
      (λ (q : l ≡ n).
      let e : 7 * l + i ≡ length (listed f n) + i = omega arith in
      ap (λ (m : ℕ). get_or (listed f n ++ f n) m 0) e ∙ get_or-append-add (listed f n) (f n) i 0 ∙ ap (λ (m : ℕ). get_or (f m) i 0) (sym q))
      (λ (q : l < n). get_or-append (listed f n) (f n) 0 (7 * l + i) (omega arith) ∙ sevens_at n l i q k)
      (eq-or-lt_of_le (le_of_suc-le-suc h))
