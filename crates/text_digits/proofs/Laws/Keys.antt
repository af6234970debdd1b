-- One turn of the reading of a key, over plain lists and numbers; and that too few bytes hold none.
use mathlib.Core.Path.{◌≡◌, refl, sym, ◌∙◌}
use mathlib.Core.Bool.{Bool, true, false, cond}
use mathlib.Core.List.{List, [], ◌∷◌}
use Prim.Native.Nat.{ℕ, ◌+◌, ◌-◌, ◌<◌, ◌≤◌}
use native.Mathlib.Nat.{add-suc}
use native.Mathlib.Numerals.{add-one}
use native.Mathlib.Omega.{arith}
use lib.ListN.{length, drop, get_or, length-drop, drop_of_length-le}
use lib.Seq.{drop-cons}
use lib.Dec.{eqb}
use borrow.Author.Tests.{eq-eqb, ne_eqb}
use Rattle.text_digits.specs.Workings.Reading.{Read, wrong, got, read_key}

few_bytes : (key bytes : List ℕ) → length bytes < length key → read_key key bytes ≡ wrong
unfolding read_key
few_bytes [] bytes h = absurd (omega arith)
few_bytes (k ∷ key) [] h = refl
few_bytes (k ∷ key) (x ∷ bytes) h = go (eqb x k) (few_bytes key bytes (omega arith))
  where
    go : (b : Bool) → read_key key bytes ≡ wrong → cond b (read_key key bytes) wrong ≡ wrong
    go true e = e
    go false e = refl

module _ (text : List ℕ) (at : ℕ) (key : List ℕ) where
  pub key_over : length text < length key → wrong ≡ read_key key (drop at text)
  key_over h = sym (few_bytes key (drop at text) (omega (arith, length-drop at text)))

  pub key_past : 0 < length key → length key ≤ length text → length text - length key < at → wrong ≡ read_key key (drop at text)
  key_past some l h = sym (few_bytes key (drop at text) (omega (arith, length-drop at text)))

  module _ (k : ℕ) (r : Read (Unit {0})) (q : r ≡ read_key (drop k key) (drop (at + k) text)) where
    pub key_end : k ≤ length key → length key ≤ k → got tt (drop (at + length key) text) ≡ r
    unfolding read_key
    key_end l m = sym (q ∙ (let e : k ≡ length key = omega arith in rw (drop_of_length-le key m, e)))

    module _ (h : k < length key) (l : at + length key ≤ length text) where
      within : at + k < length text
      within = omega arith

      pub key_bad : (get_or text (at + k) 0 ≡ get_or key k 0 → ⊥) → wrong ≡ r
      unfolding read_key
      key_bad d = sym (q ∙ rw (drop-cons key k 0 h, drop-cons text (at + k) 0 within, ne_eqb _ _ d))

      pub key_more : get_or text (at + k) 0 ≡ get_or key k 0 → r ≡ read_key (drop (k + 1) key) (drop (at + (k + 1)) text)
      unfolding read_key
      key_more d = q ∙ rw (drop-cons key k 0 h, drop-cons text (at + k) 0 within, eq-eqb _ _ d, add-one k, add-suc)
