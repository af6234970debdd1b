-- The parts of a list in which nothing stands twice are such lists too, since a part's places are places of the whole.
use mathlib.Core.Path.{◌≡◌, sym, ap, ◌∙◌, subst}
use mathlib.Core.List.{List, [], ◌∷◌, ◌++◌, map, map-append}
use Prim.Native.Nat.{ℕ, ◌+◌}
use native.Mathlib.Omega.{arith}
use lib.ListN.{length, take, drop, length-append, get_or-append, take-append-drop}
use lib.Seq.{get_or-append-add}
use Rattle.loop_rules.proofs.Laws.Distinct.{Distinct}

pub distinct_one : (x : ℕ) → Distinct (x ∷ [])
unfolding Distinct
distinct_one x i j h l e = omega arith

pub distinct_front : (a b : List ℕ) → Distinct (a ++ b) → Distinct a
unfolding Distinct
distinct_front a b d i j hi hj e =
    let n : length (a ++ b) ≡ length a + length b = length-append a b in
    d i j (omega arith) (omega arith) (get_or-append a b 0 i hi ∙ e ∙ sym (get_or-append a b 0 j hj))

pub distinct_back : (a b : List ℕ) → Distinct (a ++ b) → Distinct b
unfolding Distinct
distinct_back a b d i j hi hj e =
    let n : length (a ++ b) ≡ length a + length b = length-append a b in
    let q : length a + i ≡ length a + j = d (length a + i) (length a + j) (omega arith) (omega arith) (get_or-append-add a b i 0 ∙ e ∙ sym (get_or-append-add a b j 0)) in
    omega arith

pub distinct_tail : (x : ℕ) (l : List ℕ) → Distinct (x ∷ l) → Distinct l
distinct_tail x l d = distinct_back (x ∷ []) l d

module _ (f : ℕ → ℕ) where
  map_halves : (j : ℕ) (l : List ℕ) → map f l ≡ map f (take j l) ++ map f (drop j l)
  map_halves j l = ap (map f) (sym (take-append-drop j l)) ∙ map-append f (take j l) (drop j l)

  pub distinct_map_take : (j : ℕ) (l : List ℕ) → Distinct (map f l) → Distinct (map f (take j l))
  distinct_map_take j l d = distinct_front _ (map f (drop j l)) (subst Distinct (map_halves j l) d)

  pub distinct_map_drop : (j : ℕ) (l : List ℕ) → Distinct (map f l) → Distinct (map f (drop j l))
  distinct_map_drop j l d = distinct_back (map f (take j l)) _ (subst Distinct (map_halves j l) d)
